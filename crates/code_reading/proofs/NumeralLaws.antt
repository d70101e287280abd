-- Cell numbers as they are read: the digits of a number up to the top one are read as it, and what is read as a number is printed as it stood.
-- Assumes nothing.
use mathlib.Core.Path.{◌≡◌, refl, sym, ap, subst, ◌∙◌}
use mathlib.Core.Bool.{Bool, true, false, cond, false≢true}
use mathlib.Core.List.{List, [], ◌∷◌}
use Prim.Native.Nat.{ℕ, ◌≤◌}
use native.Mathlib.Omega.{arith}
use lib.IntN.{ℤ, pos, nat_abs}
use lib.ListN.{length}
use lib.Signed.{le_z}
use Rattle.proof_kit.proofs.Order.{order, le_le_z, le_z_true, pos-≤ℤ}
use Rattle.integers.proofs.Greatest.{both}
use Rattle.units.proofs.Spans.{Between}
use Rattle.cells.specs.Cells.{top}
use Rattle.text.specs.Numbers.{Numeral, Number, Other, is_digit, are_digits, leading_zero, unsigned_of, number_text}
use Rattle.text.proofs.Cutting.{Without, without_more}
use Rattle.text.proofs.Digits.{decimal_plain, decimal_digits, text_natural}
use Rattle.text.proofs.Numerals.{decimal_read, number_read, read_printed}
use Rattle.code_reading.specs.Reading.{byte_E, capped, cell_numeral}

-- ---- a number that is printed

module _ (side z : ℤ) (range : Between z 0 (top (nat_abs side))) (small : top (nat_abs side) ≤ 500_000) where
  pub number_text_lem : number_text z ≡ number_text (pos (nat_abs z))
  number_text_lem = ap number_text (sym range.natural)

  pub numeral_of : cell_numeral side (number_text z) ≡ Number z
  unfolding cell_numeral
  numeral_of =
      let n = nat_abs z in
      let few : n ≤ 500_000 = omega (arith, range.most) in
      rw (
        number_text_lem,
        text_natural n,
        decimal_plain n (omega arith),
        decimal_read false n (omega arith),
        le_le_z (pos-≤ℤ range.most),
      )
      (ap Number range.natural)

-- no E stands among digits
digits_without : (bs : List ℕ) → are_digits bs ≡ true → Without byte_E bs
unfolding Rattle.text.specs.Cutting.index_of
digits_without [] h = refl
digits_without (b ∷ bs) h =
    let parts = both (is_digit b) (are_digits bs) h in
    without_more byte_E b bs (λ e. false≢true (ap is_digit (sym e) ∙ parts.0)) (digits_without bs parts.1)

pub text_without : (z : ℤ) → pos (nat_abs z) ≡ z → Without byte_E (number_text z)
text_without z natural = rw (sym natural, text_natural (nat_abs z)) (digits_without _ (decimal_digits (nat_abs z)))

-- ---- a number that is read

pub record ReadAs (side : ℤ) (digits : List ℕ) (z : ℤ) : Type 0 where
  pub printed : number_text z ≡ digits
  pub range : Between z 0 (top (nat_abs side))
  pub some : 1 ≤ length digits

-- the tests that a number has passed
passed : (t : Bool) (most : ℕ) (m : Numeral) (z : ℤ) → cond t Other (capped most m) ≡ Number z → (t ≡ false) × (m ≡ Number z) × (le_z z (pos most) ≡ true)
passed true most m z e = let n : ◌≡◌ {A = ℕ} 0 1 = cc in absurd (omega arith)
passed false most Other z e = let n : ◌≡◌ {A = ℕ} 0 1 = cc in absurd (omega arith)
passed false most (Number x) z e = let p = at_most (le_z x (pos most)) e in (refl, ap Number p.0, rw (sym p.0) p.1)
  where
    at_most : (t : Bool) → cond t (Number x) Other ≡ Number z → (x ≡ z) × (t ≡ true)
    at_most true e = ((cc), refl)
    at_most false e = let n : ◌≡◌ {A = ℕ} 0 1 = cc in absurd (omega arith)

pub numeral_is : (side : ℤ) (digits : List ℕ) (z : ℤ) → cell_numeral side digits ≡ Number z → ReadAs side digits z
unfolding cell_numeral
numeral_is side digits z e =
    let tests = passed (leading_zero digits) (top (nat_abs side)) (unsigned_of false digits) z e in
    let read = number_read false digits z tests.1 in
    record {
      printed = read_printed digits z tests.0 tests.1;
      range = subst AtMost (sym read.3) natural tests.2;
      some = read.1;
    }
  where
    AtMost : ℤ → Type 0
    AtMost z = le_z z (pos (top (nat_abs side))) ≡ true → Between z 0 (top (nat_abs side))

    natural : {v : ℕ} → le_z (pos v) (pos (top (nat_abs side))) ≡ true → Between (pos v) 0 (top (nat_abs side))
    natural {v} h = record {
      natural = refl;
      least = omega arith;
      most = omega (order, le_z_true (pos v) (pos (top (nat_abs side))) h);
    }
