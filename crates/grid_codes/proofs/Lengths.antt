-- How long codes are: a number up to the top one has no more digits than that. Assumes nothing.
use mathlib.Core.Path.{◌≡◌, refl, subst}
use mathlib.Core.Bool.{true}
use Prim.Native.Nat.{ℕ, suc, ◌+◌, ◌*◌, ◌^◌, ◌≤◌, ◌<◌}
use native.Mathlib.Nat.{le_trans}
use native.Mathlib.Omega.{arith}
use lib.Dec.{lit≤, lit<}
use lib.IntN.{ℤ, pos, nat_abs}
use lib.ListN.{length, length-append}
use Rattle.units.specs.Spans.{within, same}
use Rattle.cells.specs.Cells.{accepted_side, top, numbered, numbers_refusal}
use Rattle.cells.proofs.Sides.{of_each_side}
use Rattle.text.specs.Ascii.{ascii}
use Rattle.text.specs.Numbers.{decimal, number_text, labelled, pair_text}
use Rattle.text.proofs.Digits.{decimal_length, text_natural}
use Rattle.grid_codes.specs.Codes.{side_text, code_text, code_refusal}
use Rattle.grid_codes.specs.Theorems.{LongestCode, LongestLengths}
use Rattle.grid_codes.proofs.CellLaws.{HasCode, has_code, coded}

-- numbers of at most m + 1 digits
code_size :
    (m : ℕ) (side : ℤ) (e n : ℕ) →
    e < 10 ^ suc m →
    n < 10 ^ suc m →
    length (code_text side (pos e) (pos n)) ≤ length (side_text side) + (2 + 2 * suc m)
unfolding code_text
code_size m side e n few-e few-n =
    let joined = length-append (side_text side) (pair_text (ascii "N") (pos n) (ascii "E") (pos e)) in
    let numbers = length-append (labelled (ascii "N") (pos n)) (labelled (ascii "E") (pos e)) in
    let of-e : length (number_text (pos e)) ≤ suc m = rw (text_natural e) (decimal_length m e few-e) in
    let of-n : length (number_text (pos n)) ≤ suc m = rw (text_natural n) (decimal_length m n few-n) in
    omega (arith, joined, numbers)

abbrev Longest : ℤ → Type 0
Longest side =
    (e n : ℕ) →
    e ≤ top (nat_abs side) →
    n ≤ top (nat_abs side) →
    length (code_text side (pos e) (pos n)) ≤ length (code_text side (pos (top (nat_abs side))) (pos (top (nat_abs side))))

-- a side whose numbers have at most m + 1 digits, and its longest code as many bytes as that allows
longest_side :
    (m : ℕ) (side : ℤ) →
    top (nat_abs side) < 10 ^ suc m →
    length (side_text side) + (2 + 2 * suc m) ≤ length (code_text side (pos (top (nat_abs side))) (pos (top (nat_abs side)))) →
    Longest side
longest_side m side few most e n le-e le-n = le_trans (code_size m side e n (omega (arith, few)) (omega (arith, few))) most

longest : (side : ℤ) → accepted_side side ≡ true → Longest side
unfolding code_text side_text same within number_text decimal
longest =
    of_each_side Longest
    (longest_side 5 (pos 10_000) (lit< tt) (lit≤ tt))
    (longest_side 4 (pos 100_000) (lit< tt) (lit≤ tt))
    (longest_side 3 (pos 1_000_000) (lit< tt) (lit≤ tt))

pub longest_code : LongestCode
longest_code side east north none =
    let has = has_code side east north none in
    let most = top (nat_abs side) in
    let of-naturals = longest side has.side_accepted (nat_abs east) (nat_abs north) has.of_east.most has.of_north.most in
    subst (λ (y : ℤ). length (code_text side east y) ≤ length (code_text side (pos most) (pos most))) has.of_north.natural
    (subst (λ (x : ℤ). length (code_text side x (pos (nat_abs north))) ≤ length (code_text side (pos most) (pos most))) has.of_east.natural
    of-naturals)

pub longest_lengths : LongestLengths
unfolding code_text side_text same within number_text decimal code_refusal numbers_refusal accepted_side numbered
longest_lengths = ((refl, refl), (refl, refl), (refl, refl))

-- so no code has more than 18 bytes
top_code : (side : ℤ) → accepted_side side ≡ true → length (code_text side (pos (top (nat_abs side))) (pos (top (nat_abs side)))) ≤ 18
unfolding code_text side_text same within number_text decimal
top_code =
    of_each_side (λ side. length (code_text side (pos (top (nat_abs side))) (pos (top (nat_abs side)))) ≤ 18) (lit≤ tt) (lit≤ tt) (lit≤ tt)

pub code_most : (side east north : ℤ) → HasCode side east north → length (code_text side east north) ≤ 18
code_most side east north has =
    le_trans (longest_code side east north (coded side east north has))
    (top_code side has.side_accepted)
