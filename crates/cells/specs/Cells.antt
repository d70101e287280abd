-- Document 01, "Cells", with the cell number of document 02, b): the numbers of the cell that a position lies in, or the refusal. Sides and
-- coordinates are in cm.
use Rattle.std.specs.Prelude.{ℕ, ◌≡◌, ◌*◌, ◌/◌, Bool, ◌&&◌, ◌||◌, ℤ, pos, nat_abs, ◌-ℤ◌, ◌*ℤ◌, Result, Ok, Err, IfOk}
use Rattle.std.specs.Int.Signed.{le_z}
use Rattle.integers.specs.Greatest.{greatest}
use Rattle.units.specs.Units.{plane_limit}
use Rattle.units.specs.Spans.{same, inside, on_plane}
use Rattle.units.specs.declared.refusals.Refusal.{Refusal}
use Rattle.units.specs.Refusals.{out_of_limits, number, refusal_number, unless}
use Rattle.units.specs.Answers.{Told, accepted, refused, answered}
use Rattle.cells.specs.declared.Side.{Side}
use Rattle.cells.specs.declared.Side.TheVariants.{Metres100, Kilometre, Kilometres10}
use Rattle.cells.specs.declared.CellNumbers.{CellNumbers}

-- ---- the number along an axis

-- The greatest whole number from −n to n that passes a test, where −n passes.
unfoldable pub greatest_whole : (ℤ → Bool) → ℕ → ℤ
greatest_whole test n = pos (greatest (λ k. test (pos k -ℤ pos n)) (2 * n)) -ℤ pos n

-- a number "whose product with the side is not above the coordinate"
unfoldable pub not_above : ℕ → ℤ → ℤ → Bool
not_above side coordinate number = le_z (number *ℤ pos side) coordinate

-- "The cell number is the greatest whole number whose product with the side is not above the coordinate". For a side above 0, −|coordinate| has
-- such a product and no number above |coordinate| has, so the search goes no farther: of all whole numbers it is the greatest (`NumberGreatest`).
unfoldable pub cell_number : ℕ → ℤ → ℤ
cell_number side coordinate = greatest_whole (not_above side coordinate) (nat_abs coordinate)

-- ---- the sides and the numbers that cells have

-- "a side of 10,000, 100,000 or 1,000,000 cm"
unfoldable pub accepted_side : ℤ → Bool
accepted_side side = same side (pos 10_000) || same side (pos 100_000) || same side (pos 1_000_000)

abbrev pub side_length : Side → ℕ
side_length Metres100 = 10_000
side_length Kilometre = 100_000
side_length Kilometres10 = 1_000_000

-- the side of this length is given, and another length is refused 3
abbrev pub IsSideOf : ℤ → Result Side Refusal → Type 0
IsSideOf length given = (refusal_number given ≡ unless (accepted_side length) out_of_limits 0) × IfOk given (λ side. pos (side_length side) ≡ length)

-- the number of the top cell along an axis: so many sides reach to the limit
abbrev pub top : ℕ → ℕ
top side = plane_limit / side

-- cells have no number beyond −top and top (`NumbersGiven`)
unfoldable pub numbered : ℕ → ℤ → ℤ → Bool
numbered side east north = inside (top side) east && inside (top side) north

-- "another side, or a number too far from 0 on either side": refused 3
unfoldable pub numbers_refusal : ℤ → ℤ → ℤ → ℕ
numbers_refusal side east north =
    unless (accepted_side side) out_of_limits (unless (numbered (nat_abs side) east north) out_of_limits 0)

-- ---- the answer

-- the cell's numbers along the two axes, or the refusal number alone
pub data CellAnswer : Type 0 where
  Cell : ℤ → ℤ → CellAnswer
  Refused : ℕ → CellAnswer

abbrev pub cell_answer : Result CellNumbers Refusal → CellAnswer
cell_answer (Ok numbers) = Cell numbers.east numbers.north
cell_answer (Err refusal) = Refused (number refusal)

-- "Another side, or a position beyond ±5,000,000,000 cm: refused 3."
unfoldable pub cell_refusal : ℤ → ℤ → ℤ → ℕ
cell_refusal side E N = unless (accepted_side side) out_of_limits (unless (on_plane E N) out_of_limits 0)

-- the number and the values of each case
abbrev pub cell_told : CellAnswer → Told
cell_told (Cell east north) = accepted east north
cell_told (Refused number) = refused number

-- what `cell` answers, and what its answer tells
unfoldable pub cell_of : ℤ → ℤ → ℤ → CellAnswer
cell_of side E N = answered Refused (cell_refusal side E N) (Cell (cell_number (nat_abs side) E) (cell_number (nat_abs side) N))

unfoldable pub told_of_cell : ℤ → ℤ → ℤ → Told
told_of_cell side E N = answered refused (cell_refusal side E N) (accepted (cell_number (nat_abs side) E) (cell_number (nat_abs side) N))
