-- The answer by the two tests that decide it, what it tells, and what it says of cells. The chain of tests gives 3 or 0, so a refusal is 3 and
-- numbers are answered only where both tests pass; the numbers are the cell numbers, and those are the only cell. Assumes nothing.
use mathlib.Core.Path.{◌≡◌, refl, ap₂, ◌∙◌, subst}
use mathlib.Core.Bool.{Bool, true, false}
use Prim.Native.Nat.{ℕ}
use native.Mathlib.Omega.{arith}
use lib.IntN.{ℤ, nat_abs}
use Rattle.units.specs.Spans.{on_plane}
use Rattle.units.specs.Refusals.{out_of_limits, unless}
use Rattle.units.specs.Answers.{answered}
use Rattle.units.proofs.AnswerLaws.{answer_tells}
use Rattle.cells.specs.Cells.{CellAnswer, Cell, Refused, accepted_side, cell_number, cell_refusal, cell_told, cell_of, told_of_cell}
use Rattle.cells.specs.Theorems.{InCell, AnswerHolds, CellAnswered, CellNumbers}
use Rattle.cells.proofs.Sides.{side_some}
use Rattle.cells.proofs.NumberLaws.{number_cell, number_is}

module _ (side E N : ℤ) where
  pub cell_tells : cell_told (cell_of side E N) ≡ told_of_cell side E N
  unfolding cell_of told_of_cell
  cell_tells = answer_tells cell_told Refused (cell_refusal side E N) (Cell (cell_number (nat_abs side) E) (cell_number (nat_abs side) N))

  -- ---- by the tests

  pub side_refused : accepted_side side ≡ false → cell_of side E N ≡ Refused out_of_limits
  unfolding cell_of cell_refusal
  side_refused s = rw s

  pub position_refused : accepted_side side ≡ true → on_plane E N ≡ false → cell_of side E N ≡ Refused out_of_limits
  unfolding cell_of cell_refusal
  position_refused s p = rw (s, p)

  pub cell_accepted :
      accepted_side side ≡ true →
      on_plane E N ≡ true →
      cell_of side E N ≡ Cell (cell_number (nat_abs side) E) (cell_number (nat_abs side) N)
  unfolding cell_of cell_refusal
  cell_accepted s p = rw (s, p)

-- ---- back from the answer to the tests

module _ (x y : ℤ) where
  -- the answer with the numbers x and y, by the results of the two tests
  abbrev by_tests : Bool → Bool → CellAnswer
  by_tests s p = answered Refused (unless s out_of_limits (unless p out_of_limits 0)) (Cell x y)

  numbers_answered : (s p : Bool) {east north : ℤ} → by_tests s p ≡ Cell east north → (s ≡ true) × (x ≡ east) × (y ≡ north)
  numbers_answered true true a = (refl, (cc), (cc))
  numbers_answered true false a = let z : ◌≡◌ {A = ℕ} 0 1 = cc in absurd (omega arith)
  numbers_answered false p a = let z : ◌≡◌ {A = ℕ} 0 1 = cc in absurd (omega arith)

  number_refused : (s p : Bool) {n : ℕ} → by_tests s p ≡ Refused n → n ≡ out_of_limits
  number_refused true true a = let z : ◌≡◌ {A = ℕ} 0 1 = cc in absurd (omega arith)
  number_refused true false a = cc
  number_refused false p a = cc

pub cell_numbers : CellNumbers
unfolding cell_of cell_refusal
cell_numbers side E N n a =
    number_refused (cell_number (nat_abs side) E) (cell_number (nat_abs side) N) (accepted_side side) (on_plane E N) a

-- ---- the cell

pub answer_holds : AnswerHolds
unfolding cell_of cell_refusal
answer_holds side E N east north a =
    let given = numbers_answered (cell_number (nat_abs side) E) (cell_number (nat_abs side) N) (accepted_side side) (on_plane E N) a in
    let some = side_some side given.0 in (
      subst (λ (k : ℤ). InCell (nat_abs side) k E) given.1 (number_cell (nat_abs side) some E),
      subst (λ (k : ℤ). InCell (nat_abs side) k N) given.2 (number_cell (nat_abs side) some N),
    )

pub cell_answered : CellAnswered
cell_answered side E N east north s p i j =
    let some = side_some side s in
    cell_accepted side E N s p ∙ ap₂ Cell (number_is (nat_abs side) some east E i) (number_is (nat_abs side) some north N j)
