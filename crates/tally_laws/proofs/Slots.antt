-- One slot in another's place. A slot that is free or the cell's own is no other cell's. So where such a slot stands in the place of such a slot,
-- every other cell and the other loop keep their slots, and of the cell's own and the free ones together there are as many as before. Where the cell
-- had no slot but the old one, the new one is all that it has. Assumes nothing.
use mathlib.Core.Path.{◌≡◌, refl, sym, ap, ◌∙◌}
use mathlib.Core.Bool.{true, false, not}
use mathlib.Core.List.{List}
use mathlib.Core.Logic.{◌⊎◌, inl, inr, ⊎_elim}
use Prim.Native.Nat.{ℕ, ◌+◌, ◌≤◌, ◌<◌}
use native.Mathlib.Omega.{arith}
use lib.Dec.{eqb}
use lib.ListN.{length, get_or, set, length-set}
use lib.Seq.{get_or-set_same}
use borrow.Author.Tests.{not-true, eq-eqb, ne_eqb, eqb-true}
use Rattle.integers.proofs.Greatest.{both}
use Rattle.slots.specs.declared.LoopCell.{LoopCell}
use Rattle.slots.specs.declared.Slot.{Slot}
use Rattle.slots.specs.Slots.{empty_slot, free, same_cell, holds, index_of, slot_of}
use Rattle.slots.proofs.Places.{no_slot}
use Rattle.shares.specs.Shares.{passing, of_loop, held_in}
use Rattle.shares.proofs.Counting.{bit}
use Rattle.tally_laws.proofs.Lists.{passing_set, Found, found, only, passing_kept, first_kept}
use Rattle.tally_laws.proofs.Lists.Found.{nowhere, somewhere}
use Rattle.tally_laws.proofs.Cells.{cell_equal}

-- ---- a slot

module _ (cell : LoopCell) (slot : Slot) where
  pub free_not_held : free slot ≡ true → holds cell slot ≡ false
  unfolding holds
  free_not_held e = rw e

  held : holds cell slot ≡ true → (free slot ≡ false) × (slot.cell ≡ cell)
  unfolding holds
  held e =
      let each = both (not (free slot)) (same_cell slot.cell cell) e in
      (not-true (free slot) each.0, cell_equal slot.cell cell each.1)

  -- an add of the cell's may write the slot
  pub data Ready : Type 0 where
    is_free : free slot ≡ true → Ready
    is_own : holds cell slot ≡ true → Ready

  own_or_free : Ready → bit (holds cell slot) + bit (free slot) ≡ 1
  own_or_free (is_free e) = rw (free_not_held e, e)
  own_or_free (is_own e) = rw (e, (held e).0)

pub empty_free : {slot : Slot} → slot ≡ empty_slot → free slot ≡ true
unfolding free
empty_free e = rw e

pub empty_not_held : (cell : LoopCell) → holds cell empty_slot ≡ false
empty_not_held cell = free_not_held cell empty_slot (empty_free refl)

not_others : {cell : LoopCell} {slot : Slot} → Ready cell slot → (other : LoopCell) → same_cell cell other ≡ false → holds other slot ≡ false
unfolding holds
not_others {cell} {slot} (is_free e) other differs = free_not_held other slot e
not_others {cell} {slot} (is_own e) other differs = rw ((held cell slot e).0, (held cell slot e).1, differs)

-- ---- the loop that has a slot

-- a slot that is free or the cell's own is its loop's exactly where it is its own
own_loop : {cell : LoopCell} {slot : Slot} → Ready cell slot → (cell.loop_number ≡ 0 → ⊥) → of_loop cell.loop_number slot ≡ holds cell slot
unfolding of_loop free
own_loop {cell} {slot} (is_free e) some =
    rw (free_not_held cell slot e, eqb-true slot.cell.loop_number 0 e) (ne_eqb 0 cell.loop_number (λ z. some (sym z)))
own_loop {cell} {slot} (is_own e) some = rw (e, (held cell slot e).1) (eq-eqb cell.loop_number _ refl)

-- and no other loop's
not_other_loops :
    {cell : LoopCell} {slot : Slot} →
    Ready cell slot →
    (loop : ℕ) →
    (loop ≡ 0 → ⊥) →
    eqb cell.loop_number loop ≡ false →
    of_loop loop slot ≡ false
unfolding of_loop free
not_other_loops {cell} {slot} (is_free e) loop some differs = rw (eqb-true slot.cell.loop_number 0 e) (ne_eqb 0 loop (λ z. some (sym z)))
not_other_loops {cell} {slot} (is_own e) loop some differs = rw (held cell slot e).1 differs

-- ---- slots

-- what a call for the cell leaves: of slots of its own this one, or none where this is free; every other cell's as they were
pub record Placed (cell : LoopCell) (old new : List Slot) (slot : Slot) : Type 0 where
  pub own : passing (holds cell) new ≡ bit (holds cell slot)
  pub frees : passing free new + bit (holds cell slot) ≡ passing free old + passing (holds cell) old
  pub own_held :
      (cell.loop_number ≡ 0 → ⊥) →
      held_in new cell.loop_number + passing (holds cell) old ≡ held_in old cell.loop_number + bit (holds cell slot)
  pub own_slot : slot_of cell new ≡ slot
  pub others : (other : LoopCell) → same_cell cell other ≡ false → passing (holds other) new ≡ passing (holds other) old
  pub others_held : (loop : ℕ) → (loop ≡ 0 → ⊥) → eqb cell.loop_number loop ≡ false → held_in new loop ≡ held_in old loop
  pub other_slots : (other : LoopCell) → same_cell cell other ≡ false → slot_of other new ≡ slot_of other old

module _ (cell : LoopCell) (slots : List Slot) where
  -- a cell that has no slot has the empty one
  pub empty_slot_lem : passing (holds cell) slots ≡ 0 → slot_of cell slots ≡ empty_slot
  empty_slot_lem none = at (found (holds cell) slots empty_slot)
    where
      at : Found (holds cell) slots empty_slot → slot_of cell slots ≡ empty_slot
      at (nowhere _ end) = no_slot cell slots (index_of (holds cell) slots) refl end
      at (somewhere some _ _) = let n : ⊥ = omega arith in absurd n

module _
    (cell : LoopCell)
    (slots : List Slot)
    (i : ℕ)
    (slot : Slot)
    (h : i < length slots)
    (old-ready : Ready cell (get_or slots i empty_slot))
    (alone : passing (holds cell) slots ≡ bit (holds cell (get_or slots i empty_slot)))
  where
    new_count : passing (holds cell) (set slots i slot) ≡ bit (holds cell slot)
    new_count = omega (arith, passing_set (holds cell) slots i slot empty_slot h)

    -- the cell's own, or the empty one
    new_slot_lem : (holds cell slot ≡ true) ⊎ (slot ≡ empty_slot) → slot_of cell (set slots i slot) ≡ slot
    unfolding slot_of
    new_slot_lem (inl e) =
        let here = get_or-set_same slots i slot empty_slot h in
        let few : passing (holds cell) (set slots i slot) ≤ 1 = omega (arith, rw e at new_count) in
        rw (only (holds cell) (set slots i slot) i empty_slot few (rw length-set h) (ap (holds cell) here ∙ e)) here
    new_slot_lem (inr e) = empty_slot_lem cell (set slots i slot) (new_count ∙ ap bit (free_not_held cell slot (empty_free e))) ∙ sym e

    pub placed : (holds cell slot ≡ true) ⊎ (slot ≡ empty_slot) → Placed cell slots (set slots i slot) slot
    unfolding slot_of
    placed which =
        let old : Slot = get_or slots i empty_slot in
        let new-ready : Ready cell slot = ⊎_elim (λ e. is_own e) (λ e. is_free (empty_free e)) which in
        let old-one = own_or_free cell old old-ready in
        let new-one = own_or_free cell slot new-ready in
        record {
          own = new_count;
          frees = omega (arith, passing_set free slots i slot empty_slot h);
          own_held = λ some.
              let exchanged = passing_set (of_loop cell.loop_number) slots i slot empty_slot h in
              omega (arith, rw (own_loop old-ready some, own_loop new-ready some) at exchanged, alone);
          own_slot = new_slot_lem which;
          others = λ other differs.
              passing_kept (holds other) slot empty_slot (not_others new-ready other differs) slots i (not_others old-ready other differs);
          others_held = λ loop some differs.
              passing_kept (of_loop loop) slot empty_slot (not_other_loops new-ready loop some differs) slots i
              (not_other_loops old-ready loop some differs);
          other_slots = λ other differs.
              first_kept (holds other) slot empty_slot (not_others new-ready other differs) slots i (not_others old-ready other differs);
        }
