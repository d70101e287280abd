-- How many centimetres of a cell are within the position limits, and which cells there are. The coordinates with a cell's number are a run of
-- as many as its side, from its number times the side on; where the run is within the limits, all of it is counted. So many of an accepted
-- side as `top` reach exactly to the limit: cells −top to top − 1 fill the limits up to their last centimetre, which is the first of cell top.
-- Assumes nothing.
use mathlib.Core.Path.{◌≡◌, refl, sym, ap, ◌∙◌, subst}
use mathlib.Core.Bool.{Bool, true, false}
use Prim.Native.Nat.{ℕ, suc, ◌*◌, ◌<◌}
use lib.IntN.{ℤ, pos, neg_ℤ, nat_abs, ◌+ℤ◌, ◌-ℤ◌, ◌*ℤ◌}
use lib.Signed.{◌≤ℤ◌, ◌<ℤ◌, ≤ℤ_refl}
use Rattle.proof_kit.proofs.Laws.{parts-+, parts--, P-neg, N-neg, negℤ-*ˡ}
use Rattle.proof_kit.proofs.Order.{order, ≤ℤ-trans, <ℤ-≤ℤ, le_le_z, lt_parts, eq_parts}
use Rattle.integers.proofs.Greatest.{not_true}
use Rattle.units.specs.Units.{plane_limit}
use Rattle.units.specs.Spans.{within, same, inside}
use Rattle.units.proofs.Spans.{within_bounds, same_equal}
use Rattle.cells.specs.Cells.{accepted_side, cell_number, top}
use Rattle.cells.specs.Theorems.{InCell, centimetres, WhollyInside, CellHolds, NumbersGiven, CellsInside, TopCell}
use Rattle.cells.proofs.Sides.{of_each_side, side_some, side_above_1}
use Rattle.cells.proofs.Counting.{run_inside}
use Rattle.cells.proofs.NumberLaws.{edges_rise, no_later, next_edge, held, number_is, first_in, last_in, number_cell, number_greatest}

-- ---- the limits, as bounds and back

between : (low high z : ℤ) → low ≤ℤ z → z ≤ℤ high → within low high z ≡ true
unfolding within
between low high z a b = rw (le_le_z a, le_le_z b) refl

bounds : (z : ℤ) → inside plane_limit z ≡ true → (neg_ℤ (pos plane_limit) ≤ℤ z) × (z ≤ℤ pos plane_limit)
bounds = within_bounds (neg_ℤ (pos plane_limit)) (pos plane_limit)

-- ---- which coordinates have a number

same_self : (x : ℤ) → same x x ≡ true
unfolding same
same_self x = between x x x (≤ℤ_refl x) (≤ℤ_refl x)

abbrev has : ℕ → ℤ → ℤ → Bool
has side number z = same (cell_number side z) number

module _ (side : ℕ) (some : 0 < side) (number : ℤ) where
  -- those from its first coordinate to before the next cell's
  has_inside : (z : ℤ) → InCell side number z → has side number z ≡ true
  has_inside z i = ap (λ (k : ℤ). same k number) (number_is side some number z i) ∙ same_self number

  holds : (z : ℤ) → has side number z ≡ true → InCell side number z
  holds z e = subst (λ (k : ℤ). InCell side k z) (same_equal (cell_number side z) number e) (number_cell side some z)

  has_below : (z : ℤ) → z <ℤ (number *ℤ pos side) → has side number z ≡ false
  has_below z h = not_true (has side number z) (λ e. let i = (holds z e).from_first in let never : ⊥ = omega order in never)

  has_above : (z : ℤ) → (number *ℤ pos side +ℤ pos side) ≤ℤ z → has side number z ≡ false
  has_above z h =
      not_true (has side number z) (λ e. let i = rw (next_edge side some number) at (holds z e).before_next in let never : ⊥ = omega order in never)

-- ---- how many

pub cell_holds : CellHolds
cell_holds side some number whole =
    let edge : ℤ = number *ℤ pos side in
    let next : ℤ = edge +ℤ pos side in
    let first = bounds edge (whole edge (first_in side some number)) in
    let last = bounds (next -ℤ pos 1) (whole (next -ℤ pos 1) (last_in side some number)) in
    run_inside (has side number) plane_limit side edge first.0 (omega (order, last.1, parts-- next (pos 1)))
    (has_below side some number)
    (λ z a b. has_inside side some number z (held side some number z a b))
    (λ z a b. has_above side some number z a)

-- ---- the accepted sides

module _ (side : ℕ) (ok : accepted_side (pos side) ≡ true) where
  -- so many sides reach to the limit
  top_edge : top side * side ≡ plane_limit
  top_edge = of_each_side (λ s. top (nat_abs s) * nat_abs s ≡ plane_limit) refl refl refl (pos side) ok

  some : 0 < side
  some = side_some (pos side) ok

  abbrev top_number : ℤ
  top_number = pos (top side)

  abbrev edge : ℤ
  edge = top_number *ℤ pos side

  edge_is : edge ≡ pos plane_limit
  edge_is = ap pos top_edge

  bottom_is : neg_ℤ top_number *ℤ pos side ≡ neg_ℤ (pos plane_limit)
  bottom_is = negℤ-*ˡ top_number (pos side) ∙ ap neg_ℤ edge_is

  -- ---- the top cell

  one_centimetre : centimetres side top_number ≡ 1
  one_centimetre =
      run_inside (has side top_number) plane_limit 1 edge
      (omega (order, eq_parts edge_is, P-neg (pos plane_limit), N-neg (pos plane_limit)))
      (omega (order, eq_parts edge_is, parts-+ edge (pos 1)))
      (has_below side some top_number)
      (λ z a b. has_inside side some top_number z (held side some top_number z a (omega (order, some, parts-+ edge (pos 1), parts-+ edge (pos side)))))
      (λ z a b. let never : ⊥ = omega (order, eq_parts edge_is, parts-+ edge (pos 1)) in absurd never)

  -- 1 cm past the limit is its second centimetre
  past_in : InCell side top_number (pos (suc plane_limit))
  past_in =
      held side some top_number (pos (suc plane_limit))
      (omega (order, eq_parts edge_is))
      (omega (order, eq_parts edge_is, parts-+ edge (pos side), side_above_1 (pos side) ok))

  not_inside : WhollyInside side top_number → ⊥
  not_inside whole = omega (order, (bounds (pos (suc plane_limit)) (whole (pos (suc plane_limit)) past_in)).1)

  -- ---- the other cells

  le_up : (k : ℤ) → k ≤ℤ (top_number -ℤ pos 1) → (k +ℤ pos 1) ≤ℤ top_number
  le_up k h = omega (order, parts-- top_number (pos 1), parts-+ k (pos 1))

  -- a coordinate within the limits lies before the cell after the top one
  under_next : (z : ℤ) → z ≤ℤ pos plane_limit → z <ℤ ((top_number +ℤ pos 1) *ℤ pos side)
  under_next z h = omega (order, eq_parts edge_is, lt_parts (first_in side some top_number).before_next)

pub top_cell : TopCell
top_cell side ok = (one_centimetre side ok, not_inside side ok)

pub numbers_given : NumbersGiven
numbers_given side ok z e =
    let h = some side ok in
    let from-bottom = subst (λ (x : ℤ). x ≤ℤ z) (sym (bottom_is side ok)) (bounds z e).0 in
    let low = (number_greatest side h z).none_greater (neg_ℤ (pos (top side))) from-bottom in
    let high = no_later side h (cell_number side z) (pos (top side)) (number_cell side h z).from_first (under_next side ok z (bounds z e).1) in
    between (neg_ℤ (pos (top side))) (pos (top side)) (cell_number side z) low high

pub cells_inside : CellsInside
cells_inside side ok number e z i =
    let h = some side ok in
    let numbers = within_bounds (neg_ℤ (pos (top side))) (pos (top side) -ℤ pos 1) number e in
    let low = subst (λ (x : ℤ). x ≤ℤ (number *ℤ pos side)) (bottom_is side ok) (edges_rise side h numbers.0) in
    let next = le_up side ok number numbers.1 in
    let high = subst (λ (x : ℤ). ((number +ℤ pos 1) *ℤ pos side) ≤ℤ x) (edge_is side ok) (edges_rise side h next) in
    between (neg_ℤ (pos plane_limit)) (pos plane_limit) z (≤ℤ-trans low i.from_first) (≤ℤ-trans (<ℤ-≤ℤ i.before_next) high)
