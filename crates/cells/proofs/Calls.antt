-- What the calls of `?` and of `div_euclid` come to, as the contracts say it. Assumes nothing.
use mathlib.Core.Path.{◌≡◌, refl, sym, ap, ◌∙◌}
use mathlib.Core.Bool.{Bool, true, false}
use Prim.Native.Nat.{ℕ}
use lib.IntN.{ℤ, pos, nat_abs}
use mir.Facts.{to_z-of_z}
use Rattle.std.specs.Int.{int_div_euclid}
use Rattle.units.specs.declared.refusals.Refusal.{Refusal}
use Rattle.units.specs.Refusals.{number, unless, out_of_limits}
use Rattle.units.specs.Answers.{accepted, refused}
use Rattle.units.specs.Spans.{on_plane}
use Rattle.units.proofs.AnswerLaws.{number_some}
use Rattle.units.proofs.Chains.{link_passed}
use Rattle.cells.specs.declared.Side.{Side}
use Rattle.cells.specs.Cells.{CellAnswer, Cell, Refused, side_length, accepted_side, cell_number, numbered, numbers_refusal, cell_of, cell_told, told_of_cell}
use Rattle.cells.proofs.Sides.{some_long}
use Rattle.cells.proofs.NumberLaws.{number_by_division}
use Rattle.cells.proofs.AnswerLaws.{cell_tells, side_refused, position_refused, cell_accepted}

pub number_divided : (side : Side) (z : ℤ) → cell_number (side_length side) z ≡ int_div_euclid z (pos (side_length side))
number_divided side z = sym (number_by_division (side_length side) (some_long side) z)

pub ruleset by_division = (number_divided, to_z-of_z)

-- the test behind a refusal failed, and the refusal has its number
pub failed : (passed : Bool) (n : ℕ) (r : Refusal) → number r ≡ unless passed n 0 → (passed ≡ false) × (number r ≡ n)
failed true n r e = absurd (number_some r e)
failed false n r e = (refl, e)

pub passed : (t : Bool) → 0 ≡ unless t out_of_limits 0 → t ≡ true
passed t e = (link_passed t 2 (sym e)).0

-- a length that is taken
pub record Taken (length : ℤ) (side : Side) : Type 0 where
  pub accepts : accepted_side length ≡ true
  pub size : nat_abs length ≡ side_length side

pub taken : (length : ℤ) (side : Side) → (0 ≡ unless (accepted_side length) out_of_limits 0) × (pos (side_length side) ≡ length) → Taken length side
taken length side h = record { accepts = passed (accepted_side length) h.0; size = ap nat_abs (sym h.1) }

-- ---- `check_numbers`

module _ (length east north : ℤ) where
  pub numbers_side : (r : Refusal) → number r ≡ unless (accepted_side length) out_of_limits 0 → number r ≡ numbers_refusal length east north
  unfolding numbers_refusal
  numbers_side r e =
      let f = failed (accepted_side length) out_of_limits r e in
      rw (f.0) f.1

  pub numbers_checked : (side : Side) → Taken length side →
      unless (numbered (side_length side) east north) out_of_limits 0 ≡ numbers_refusal length east north
  unfolding numbers_refusal
  numbers_checked side t = rw (t.accepts, t.size)

-- ---- `cell`

module _ (side E N : ℤ) where
  -- an answer that is the definition's tells what it has to
  promised : {r : CellAnswer} → cell_of side E N ≡ r → (r ≡ cell_of side E N) × (cell_told r ≡ told_of_cell side E N)
  promised e = (sym e, ap cell_told (sym e) ∙ cell_tells side E N)

  pub cell_side : (r : Refusal) → number r ≡ unless (accepted_side side) out_of_limits 0 →
      (Refused (number r) ≡ cell_of side E N) × (refused (number r) ≡ told_of_cell side E N)
  cell_side r e =
      let f = failed (accepted_side side) out_of_limits r e in
      promised (side_refused side E N f.0 ∙ ap Refused (sym f.1))

  pub cell_position : (s : Side) → Taken side s → (r : Refusal) → number r ≡ unless (on_plane E N) out_of_limits 0 →
      (Refused (number r) ≡ cell_of side E N) × (refused (number r) ≡ told_of_cell side E N)
  cell_position s t r e =
      let f = failed (on_plane E N) out_of_limits r e in
      promised (position_refused side E N t.accepts f.0 ∙ ap Refused (sym f.1))

  pub cell_given : (s : Side) → Taken side s → on_plane E N ≡ true →
      (Cell (cell_number (side_length s) E) (cell_number (side_length s) N) ≡ cell_of side E N)
      × (accepted (cell_number (side_length s) E) (cell_number (side_length s) N) ≡ told_of_cell side E N)
  cell_given s t p = rw (sym t.size) (promised (cell_accepted side E N t.accepts p))
