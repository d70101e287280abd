-- Which cells have a code: the chain of tests gives 0 exactly where the side is accepted and both numbers are from 0 to the top number. Assumes
-- nothing.
use mathlib.Core.Path.{◌≡◌, refl, sym, ◌∙◌}
use mathlib.Core.Bool.{true, ◌&&◌, false≢true}
use Prim.Native.Nat.{ℕ}
use native.Mathlib.Omega.{arith}
use lib.IntN.{ℤ, pos, negsuc, nat_abs}
use lib.Signed.{le_z}
use Rattle.proof_kit.proofs.Order.{le_le_z, pos-≤ℤ}
use Rattle.integers.proofs.Greatest.{both}
use Rattle.units.specs.Spans.{inside}
use Rattle.units.specs.declared.refusals.Refusal.{Refusal}
use Rattle.units.specs.Refusals.{negative_cell, number, unless}
use Rattle.units.proofs.AnswerLaws.{number_some}
use Rattle.units.proofs.Spans.{Between, within_size, size_inside}
use Rattle.units.proofs.Chains.{link_passed, both_passed, first_given}
use Rattle.cells.specs.Cells.{accepted_side, top, numbered, numbers_refusal}
use Rattle.grid_codes.specs.Codes.{code_refusal}

pub record HasCode (side east north : ℤ) : Type 0 where
  pub side_accepted : accepted_side side ≡ true
  pub of_east : Between east 0 (top (nat_abs side))
  pub of_north : Between north 0 (top (nat_abs side))

natural_inside : (n : ℕ) (z : ℤ) → inside n z ≡ true → le_z (pos 0) z ≡ true → Between z 0 n
natural_inside n (pos k) within natural = record { natural = refl; least = omega arith; most = within_size n (pos k) within }
natural_inside n (negsuc k) within natural = absurd (false≢true natural)

pub has_code : (side east north : ℤ) → code_refusal side east north ≡ 0 → HasCode side east north
unfolding code_refusal numbers_refusal numbered
has_code side east north none =
    let most = top (nat_abs side) in
    let parts = both_passed (numbers_refusal side east north) (unless (le_z (pos 0) east && le_z (pos 0) north) negative_cell 0) none in
    let of_side_lem = link_passed (accepted_side side) 2 parts.0 in
    let of_numbers_lem = link_passed (numbered (nat_abs side) east north) 2 of_side_lem.1 in
    let of-signs = link_passed (le_z (pos 0) east && le_z (pos 0) north) 31 parts.1 in
    let near = both (inside most east) (inside most north) of_numbers_lem.0 in
    let natural = both (le_z (pos 0) east) (le_z (pos 0) north) of-signs.0 in
    record {
      side_accepted = of_side_lem.0;
      of_east = natural_inside most east near.0 natural.0;
      of_north = natural_inside most north near.1 natural.1;
    }

pub coded : (side east north : ℤ) → HasCode side east north → code_refusal side east north ≡ 0
unfolding code_refusal numbers_refusal numbered
coded side east north has =
    let most = top (nat_abs side) in
    rw (
      has.side_accepted,
      size_inside most east has.of_east.most,
      size_inside most north has.of_north.most,
      not_negative east has.of_east.natural,
      not_negative north has.of_north.natural,
    )
  where
    not_negative : (z : ℤ) → pos (nat_abs z) ≡ z → le_z (pos 0) z ≡ true
    not_negative z e = rw (sym e) (le_le_z (pos-≤ℤ {m = 0} {n = nat_abs z} (omega arith)))

-- ---- the tests of a side and of numbers that were made

module _ (side east north : ℤ) where
  -- what numbers are refused by comes before the signs
  pub refused_first : (r : Refusal) → number r ≡ numbers_refusal side east north → number r ≡ code_refusal side east north
  unfolding code_refusal
  refused_first r e =
      e ∙ sym (first_given (numbers_refusal side east north) _ (λ (none : numbers_refusal side east north ≡ 0). number_some r (e ∙ none)))

  pub signs_tested : numbers_refusal side east north ≡ 0 → unless (le_z (pos 0) east && le_z (pos 0) north) negative_cell 0 ≡ code_refusal side east north
  unfolding code_refusal
  signs_tested none = rw none refl
