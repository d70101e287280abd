-- Codes written and read. A side's text has no N and digits have no E, so a code is cut into its three parts, each of which is read as what was
-- written; and what is read in three parts is, joined again, what would be written. Assumes nothing.
use mathlib.Core.Path.{◌≡◌, refl, sym, ap, ap₂, ◌∙◌}
use mathlib.Core.Bool.{Bool, true, false, cond}
use mathlib.Core.List.{List, ◌∷◌, ◌++◌}
use Prim.Native.Nat.{ℕ, ◌≤◌}
use native.Mathlib.Omega.{arith}
use lib.Dec.{lit≤}
use lib.IntN.{ℤ, pos, nat_abs}
use lib.ListN.{length, length-append}
use Rattle.units.specs.Spans.{within, same}
use Rattle.cells.specs.Cells.{accepted_side, top}
use Rattle.cells.proofs.Sides.{of_each_side}
use Rattle.text.specs.Numbers.{Numeral, Number, Other, number_text}
use Rattle.text.specs.Ascii.{same_text}
use Rattle.text.specs.Cutting.{up_to, after}
use Rattle.text.proofs.Sameness.{same_is}
use Rattle.text.proofs.Cutting.{Without, cut_before, cut_after, joined}
use Rattle.grid_codes.specs.Codes.{side_text, code_text, code_refusal}
use Rattle.code_reading.specs.Reading.{Cell, byte_N, byte_E, side_named, cell_numeral, of_numbers, numbers_of, of_side, code_of}
use Rattle.code_reading.specs.Theorems.{ReadExactly, OneText}
use Rattle.grid_codes.proofs.CellLaws.{HasCode, has_code, coded}
use Rattle.code_reading.proofs.NumeralLaws.{numeral_of, text_without, ReadAs, numeral_is}

-- ---- the side

side_read : (side : ℤ) → accepted_side side ≡ true → side_named (side_text side) ≡ Number side
unfolding side_named side_text same_text same within
side_read = of_each_side (λ side. side_named (side_text side) ≡ Number side) refl refl refl

side_without : (side : ℤ) → accepted_side side ≡ true → Without byte_N (side_text side)
unfolding side_text same within Rattle.text.specs.Cutting.index_of Rattle.text.specs.Cutting.index_after
side_without = of_each_side (λ side. Without byte_N (side_text side)) refl refl refl

-- a side that is named, by the results of the three tests
pub side_is : (text : List ℕ) (side : ℤ) → side_named text ≡ Number side → (accepted_side side ≡ true) × (text ≡ side_text side)
unfolding side_named accepted_side same within
side_is text side e = at (tested (pos 10_000)) (tested (pos 100_000)) (tested (pos 1_000_000)) refl refl refl e
  where
    tested : ℤ → Bool
    tested side = same_text text (side_text side)

    this : (known : ℤ) → accepted_side known ≡ true → tested known ≡ true → Number known ≡ Number side → (accepted_side side ≡ true) × (text ≡ side_text side)
    this known ok test e =
        let is : known ≡ side = cc in
        (ap accepted_side (sym is) ∙ ok, same_is text (side_text known) test ∙ ap side_text is)

    at :
        (a b c : Bool) →
        tested (pos 10_000) ≡ a →
        tested (pos 100_000) ≡ b →
        tested (pos 1_000_000) ≡ c →
        cond a (Number (pos 10_000)) (cond b (Number (pos 100_000)) (cond c (Number (pos 1_000_000)) Other)) ≡ Number side →
        (accepted_side side ≡ true) × (text ≡ side_text side)
    at true b c p q r e = this (pos 10_000) refl p e
    at false true c p q r e = this (pos 100_000) refl q e
    at false false true p q r e = this (pos 1_000_000) refl r e
    at false false false p q r e = let n : ◌≡◌ {A = ℕ} 0 1 = cc in absurd (omega arith)

-- ---- a code is read

top_most : (side : ℤ) → accepted_side side ≡ true → top (nat_abs side) ≤ 500_000
top_most = of_each_side (λ side. top (nat_abs side) ≤ 500_000) (lit≤ tt) (lit≤ tt) (lit≤ tt)

-- the text after the N
abbrev numbers_text : ℤ → ℤ → List ℕ
numbers_text east north = number_text north ++ byte_E ∷ number_text east

code_parts : (side east north : ℤ) → code_text side east north ≡ side_text side ++ byte_N ∷ numbers_text east north
unfolding code_text
code_parts side east north = refl

module _ (side east north : ℤ) (has : HasCode side east north) where
  numbers_read : numbers_of side (numbers_text east north) ≡ Cell side east north
  unfolding numbers_of
  numbers_read =
      let without = text_without north has.of_north.natural in
      let small = top_most side has.side_accepted in
      ap₂ (λ (e n : List ℕ). of_numbers side (cell_numeral side e) (cell_numeral side n))
      (cut_after byte_E (number_text north) (number_text east) without)
      (cut_before byte_E (number_text north) (number_text east) without)
      ∙ ap₂ (of_numbers side) (numeral_of side east has.of_east small) (numeral_of side north has.of_north small)

  pub has_code_read : code_of (code_text side east north) ≡ Cell side east north
  unfolding code_of
  has_code_read =
      let without = side_without side has.side_accepted in
      let rest = numbers_text east north in
      ap (λ (l : List ℕ). of_side (side_named (up_to byte_N l)) (after byte_N l)) (code_parts side east north)
      ∙ ap₂ (λ (s n : List ℕ). of_side (side_named s) n) (cut_before byte_N (side_text side) rest without) (cut_after byte_N (side_text side) rest without)
      ∙ ap (λ (s : Numeral). of_side s rest) (side_read side has.side_accepted)
      ∙ numbers_read

-- ---- what is read is a code

of_numbers_lem : (s : ℤ) (x y : Numeral) {side east north : ℤ} → of_numbers s x y ≡ Cell side east north → (s ≡ side) × (x ≡ Number east) × (y ≡ Number north)
of_numbers_lem s (Number x) (Number y) e = ((cc), (cc), (cc))
of_numbers_lem s (Number x) Other e = let n : ◌≡◌ {A = ℕ} 0 1 = cc in absurd (omega arith)
of_numbers_lem s Other y e = let n : ◌≡◌ {A = ℕ} 0 1 = cc in absurd (omega arith)

of_side_lem : (m : Numeral) (text : List ℕ) {side east north : ℤ} → of_side m text ≡ Cell side east north →
    (m ≡ Number side) × (cell_numeral side (after byte_E text) ≡ Number east) × (cell_numeral side (up_to byte_E text) ≡ Number north)
unfolding numbers_of
of_side_lem (Number s) text {side} e =
    let parts = of_numbers_lem s (cell_numeral s (after byte_E text)) (cell_numeral s (up_to byte_E text)) e in
    (ap Number parts.0, rw (sym parts.0) parts.1, rw (sym parts.0) parts.2)
of_side_lem Other text e = let n : ◌≡◌ {A = ℕ} 0 1 = cc in absurd (omega arith)

-- the two numbers with the E between them are the text that they were read from
numbers_joined :
    (side east north : ℤ) (text : List ℕ) →
    ReadAs side (after byte_E text) east →
    ReadAs side (up_to byte_E text) north →
    numbers_text east north ≡ text
numbers_joined side east north text of_east of_north =
    ap₂ (λ (n e : List ℕ). n ++ byte_E ∷ e) of_north.printed of_east.printed ∙ joined byte_E text of_east.some

-- a text that is read, in its parts
pub record IsCode (text : List ℕ) (side east north : ℤ) : Type 0 where
  pub cell : HasCode side east north
  pub is_text : code_text side east north ≡ text

pub is_code : (text : List ℕ) (side east north : ℤ) → code_of text ≡ Cell side east north → IsCode text side east north
unfolding code_of
is_code text side east north e =
    let rest = after byte_N text in
    let parts = of_side_lem (side_named (up_to byte_N text)) rest e in
    let of-text = side_is (up_to byte_N text) side parts.0 in
    let of_east = numeral_is side (after byte_E rest) east parts.1 in
    let of_north = numeral_is side (up_to byte_E rest) north parts.2 in
    let numbers = numbers_joined side east north rest of_east of_north in
    let long : 1 ≤ length rest = omega (arith, sym (ap length numbers), length-append (number_text north) (byte_E ∷ number_text east)) in
    record {
      cell = record { side_accepted = of-text.0; of_east = of_east.range; of_north = of_north.range };
      is_text =
          code_parts side east north
          ∙ ap₂ (λ (s n : List ℕ). s ++ byte_N ∷ n) (sym of-text.1) numbers
          ∙ joined byte_N text long;
    }

pub read_exactly : ReadExactly
read_exactly text side east north = (there, λ h. ap code_of h.1 ∙ has_code_read side east north (has_code side east north h.0))
  where
    there : code_of text ≡ Cell side east north → (code_refusal side east north ≡ 0) × (text ≡ code_text side east north)
    there e = let is = is_code text side east north e in (coded side east north is.cell, sym is.is_text)

pub one_text : OneText
one_text text other side east north e f = sym (is_code text side east north e).is_text ∙ (is_code other side east north f).is_text
