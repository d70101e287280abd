-- What holds of cells, over the definitions that the contracts cite. What `OneCell` states is proved as `one_cell` in proofs/, and so
-- the others. What is said along an axis holds along both: one rule gives both numbers.
use Rattle.std.specs.Prelude.{ℕ, zero, suc, ◌+◌, ◌*◌, ◌<◌, ◌≡◌, Bool, true, cond, ℤ, pos, neg_ℤ, nat_abs, ◌+ℤ◌, ◌-ℤ◌, ◌*ℤ◌, ◌≤ℤ◌, ◌<ℤ◌}
use Rattle.units.specs.Units.{plane_limit}
use Rattle.units.specs.Spans.{within, same, inside, on_plane}
use Rattle.units.specs.Refusals.{out_of_limits}
use Rattle.cells.specs.Cells.{accepted_side, cell_number, top, Cell, Refused, cell_of}

-- ---- along an axis: the cell number

-- "the greatest whole number whose product with the side is not above the coordinate", of all whole numbers
pub record IsGreatest (side : ℕ) (coordinate number : ℤ) : Type 0 where
  pub product_not_above : (number *ℤ pos side) ≤ℤ coordinate
  pub none_greater : (other : ℤ) → (other *ℤ pos side) ≤ℤ coordinate → other ≤ℤ number

abbrev pub NumberGreatest : Type 0
NumberGreatest = (side : ℕ) → 0 < side → (coordinate : ℤ) → IsGreatest side coordinate (cell_number side coordinate)

-- No other number is that.
abbrev pub NumberUnique : Type 0
NumberUnique = (side : ℕ) → 0 < side → (coordinate number : ℤ) → IsGreatest side coordinate number → number ≡ cell_number side coordinate

-- ---- along an axis: the cell

-- A cell reaches from its number times the side to before the next number times the side.
pub record InCell (side : ℕ) (number coordinate : ℤ) : Type 0 where
  pub from_first : (number *ℤ pos side) ≤ℤ coordinate
  pub before_next : coordinate <ℤ ((number +ℤ pos 1) *ℤ pos side)

-- "each coordinate lies in exactly one cell": there is one, and any two that hold it are the same.
abbrev pub OneCell : Type 0
OneCell =
    (side : ℕ) →
    0 < side →
    (coordinate : ℤ) →
    ((number : ℤ) × InCell side number coordinate)
    × ((number other : ℤ) → InCell side number coordinate → InCell side other coordinate → number ≡ other)

-- It is the cell with the coordinate's number.
abbrev pub NumberCell : Type 0
NumberCell = (side : ℕ) → 0 < side → (coordinate : ℤ) → InCell side (cell_number side coordinate) coordinate

-- Neighbouring cells touch: the first coordinate of a cell is its number times the side, and the one before it lies in the cell before.
abbrev pub CellsTouch : Type 0
CellsTouch =
    (side : ℕ) →
    0 < side →
    (number : ℤ) →
    (cell_number side (number *ℤ pos side) ≡ number)
    × ((coordinate : ℤ) → cell_number side coordinate ≡ number → (number *ℤ pos side) ≤ℤ coordinate)
    × (cell_number side (number *ℤ pos side -ℤ pos 1) ≡ number -ℤ pos 1)

-- ---- along an axis: how many centimetres a cell holds

-- how many of the n whole numbers from `first` on pass a test
unfoldable pub count : (ℤ → Bool) → ℤ → ℕ → ℕ
count test first zero = 0
count test first (suc n) = cond (test first) 1 0 + count test (first +ℤ pos 1) n

-- how many of the whole coordinates from −5,000,000,000 to 5,000,000,000 have a cell number
abbrev pub centimetres : ℕ → ℤ → ℕ
centimetres side number = count (λ coordinate. same (cell_number side coordinate) number) (neg_ℤ (pos plane_limit)) (2 * plane_limit + 1)

-- "a cell wholly inside the position limits"
abbrev pub WhollyInside : ℕ → ℤ → Type 0
WhollyInside side number = (coordinate : ℤ) → InCell side number coordinate → inside plane_limit coordinate ≡ true

-- It "holds as many centimetres as its side".
abbrev pub CellHolds : Type 0
CellHolds = (side : ℕ) → 0 < side → (number : ℤ) → WhollyInside side number → centimetres side number ≡ side

-- ---- along an axis: which cells there are, for the accepted sides

-- The numbers of coordinates within the limits run from −top to top.
abbrev pub NumbersGiven : Type 0
NumbersGiven =
    (side : ℕ) →
    accepted_side (pos side) ≡ true →
    (coordinate : ℤ) →
    inside plane_limit coordinate ≡ true →
    inside (top side) (cell_number side coordinate) ≡ true

-- All these cells but the top one are wholly inside.
abbrev pub CellsInside : Type 0
CellsInside =
    (side : ℕ) →
    accepted_side (pos side) ≡ true →
    (number : ℤ) →
    within (neg_ℤ (pos (top side))) (pos (top side) -ℤ pos 1) number ≡ true →
    WhollyInside side number

-- The top cell has one centimetre inside the limits, and is not wholly inside.
abbrev pub TopCell : Type 0
TopCell =
    (side : ℕ) →
    accepted_side (pos side) ≡ true →
    (centimetres side (pos (top side)) ≡ 1) × (WhollyInside side (pos (top side)) → ⊥)

-- ---- the answer

-- Numbers that are answered are those of the cell that the position lies in.
abbrev pub AnswerHolds : Type 0
AnswerHolds =
    (side E N east north : ℤ) →
    cell_of side E N ≡ Cell east north →
    InCell (nat_abs side) east E × InCell (nat_abs side) north N

-- With an accepted side and a position within the limits, the cell that it lies in is the answer.
abbrev pub CellAnswered : Type 0
CellAnswered =
    (side E N east north : ℤ) →
    accepted_side side ≡ true →
    on_plane E N ≡ true →
    InCell (nat_abs side) east E →
    InCell (nat_abs side) north N →
    cell_of side E N ≡ Cell east north

-- ---- refusals: their exact conditions are promised by the call itself

-- There is one number, so 0 is told of accepted answers alone.
abbrev pub CellNumbers : Type 0
CellNumbers = (side E N : ℤ) (n : ℕ) → cell_of side E N ≡ Refused n → n ≡ out_of_limits

-- ---- witnesses: an accepted answer and each ground of refusal, so that no condition is empty

-- document 001's example, E 3,962,799.45 m and N 2,999,718.85 m; 1 cm to the west of 0, and 1 cm more than a side to the south; the limits
-- themselves
abbrev pub CellWitnesses : Type 0
CellWitnesses =
    (cell_of (pos 100_000) (pos 396_279_945) (pos 299_971_885) ≡ Cell (pos 3_962) (pos 2_999))
    × (cell_of (pos 10_000) (neg_ℤ (pos 1)) (neg_ℤ (pos 10_001)) ≡ Cell (neg_ℤ (pos 1)) (neg_ℤ (pos 2)))
    × (cell_of (pos 1_000_000) (pos 5_000_000_000) (neg_ℤ (pos 5_000_000_000)) ≡ Cell (pos 5_000) (neg_ℤ (pos 5_000)))

-- by the side: 10 m, and 100 m backwards
abbrev pub SideWitnesses : Type 0
SideWitnesses =
    (cell_of (pos 1_000) (pos 0) (pos 0) ≡ Refused 3) × (cell_of (neg_ℤ (pos 10_000)) (pos 0) (pos 0) ≡ Refused 3)

-- by the position: 1 cm past the limit, to the east and to the south
abbrev pub PositionWitnesses : Type 0
PositionWitnesses =
    (cell_of (pos 10_000) (pos 5_000_000_001) (pos 0) ≡ Refused 3)
    × (cell_of (pos 10_000) (pos 0) (neg_ℤ (pos 5_000_000_001)) ≡ Refused 3)
