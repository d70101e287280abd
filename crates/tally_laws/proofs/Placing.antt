-- Which slot an accepted add and a clear write. A cell with a slot has but that one, so adding and clearing write it; where the cell has none, its loop
-- is granted one and adding writes a free one, and clearing sets past the end and so nothing. Assumes nothing.
use mathlib.Core.Path.{◌≡◌, refl, sym, ap, ◌∙◌}
use mathlib.Core.Bool.{Bool, true, false}
use mathlib.Core.List.{List}
use mathlib.Core.Logic.{◌⊎◌, inl, inr}
use Prim.Native.Nat.{ℕ, ◌≤◌, ◌<◌}
use native.Mathlib.Omega.{arith}
use lib.ListN.{length, get_or, set}
use lib.Seq.{set_out}
use borrow.Author.Tests.{ne_eqb}
use Rattle.readings.specs.declared.Reading.{Reading}
use Rattle.readings.specs.declared.Reading.TheVariants.{Power, Overloaded}
use Rattle.slots.specs.declared.LoopCell.{LoopCell}
use Rattle.slots.specs.declared.Slot.{Slot}
use Rattle.slots.specs.Slots.{empty_slot, free, holds, index_of, with_reading}
use Rattle.shares.specs.Shares.{passing, held_in, granted, new_slot, place_of}
use Rattle.shares.proofs.Counting.{bit}
use Rattle.shares.proofs.Places.{own_place, new_place}
use Rattle.tally_laws.proofs.Lists.{Found, found}
use Rattle.tally_laws.proofs.Lists.Found.{nowhere, somewhere}
use Rattle.tally_laws.proofs.Cells.{cell_self}
use Rattle.tally_laws.proofs.Slots.{Placed, placed, empty_slot_lem, free_not_held, empty_not_held}
use Rattle.tally_laws.proofs.Slots.Ready.{is_free, is_own}

-- the slot that an add writes is the cell's
pub reading_held : (r : Reading) (cell : LoopCell) (slot : Slot) → (cell.loop_number ≡ 0 → ⊥) → holds cell (with_reading r cell slot) ≡ true
unfolding holds free
reading_held (Power milliwatts) cell slot some = rw (ne_eqb cell.loop_number 0 some) (cell_self cell)
reading_held (Overloaded milliwatts) cell slot some = rw (ne_eqb cell.loop_number 0 some) (cell_self cell)

-- ---- a new slot

module _ (loop : ℕ) (slots : List Slot) where
  pub new_granted : granted (held_in slots) loop ≡ true → new_slot loop slots ≡ index_of free slots
  unfolding new_slot
  new_granted e = rw e

  pub new_refused : granted (held_in slots) loop ≡ false → new_slot loop slots ≡ length slots
  unfolding new_slot
  new_refused e = rw e

  new_only : new_slot loop slots < length slots → granted (held_in slots) loop ≡ true
  new_only h = at (granted (held_in slots) loop) refl
    where
      at : (t : Bool) → granted (held_in slots) loop ≡ t → granted (held_in slots) loop ≡ true
      at true e = e
      at false e = let n : ⊥ = omega (arith, new_refused e) in absurd n

-- ---- the slot that is written

-- a slot that an add may write is the cell's own, or its loop is granted one
pub place_granted : (cell : LoopCell) (slots : List Slot) → place_of cell slots < length slots →
    (1 ≤ passing (holds cell) slots) ⊎ (granted (held_in slots) cell.loop_number ≡ true)
place_granted cell slots h = at (found (holds cell) slots empty_slot)
  where
    at : Found (holds cell) slots empty_slot → (1 ≤ passing (holds cell) slots) ⊎ (granted (held_in slots) cell.loop_number ≡ true)
    at (somewhere some _ _) = inl some
    at (nowhere none end) = inr (new_only cell.loop_number slots (rw (new_place cell slots _ refl end) at h))

module _ (cell : LoopCell) (slots : List Slot) (few : passing (holds cell) slots ≤ 1) where
  own_placed :
      (slot : Slot) →
      1 ≤ passing (holds cell) slots →
      index_of (holds cell) slots < length slots →
      holds cell (get_or slots (index_of (holds cell) slots) empty_slot) ≡ true →
      (holds cell slot ≡ true) ⊎ (slot ≡ empty_slot) →
      Placed cell slots (set slots (index_of (holds cell) slots) slot) slot
  own_placed slot some in_List passes =
      let alone : passing (holds cell) slots ≡ 1 = omega arith in
      placed cell slots (index_of (holds cell) slots) slot in_List (is_own passes) (rw passes alone)

  pub add_placed :
      (slot : Slot) →
      place_of cell slots < length slots →
      holds cell slot ≡ true →
      Placed cell slots (set slots (place_of cell slots) slot) slot
  add_placed slot h own = at (found (holds cell) slots empty_slot) (found free slots empty_slot)
    where
      at : Found (holds cell) slots empty_slot → Found free slots empty_slot → Placed cell slots (set slots (place_of cell slots) slot) slot
      at (somewhere some in_List passes) _ = rw (own_place cell slots _ refl in_List) (own_placed slot some in_List passes (inl own))
      at (nowhere none end) (somewhere _ in_List passes) =
          let new = new_place cell slots _ refl end in
          let place = new ∙ new_granted cell.loop_number slots (new_only cell.loop_number slots (rw new at h)) in
          let empty = free_not_held cell (get_or slots (index_of free slots) empty_slot) passes in
          rw place (placed cell slots (index_of free slots) slot in_List (is_free passes) (none ∙ ap bit (sym empty)) (inl own))
      at (nowhere none end) (nowhere _ last) =
          let new = rw (new_place cell slots _ refl end) at h in
          let none_left : ⊥ = omega (arith, new, new_granted cell.loop_number slots (new_only cell.loop_number slots new)) in
          absurd none_left

  pub clear_placed : Placed cell slots (set slots (index_of (holds cell) slots) empty_slot) empty_slot
  clear_placed = at (found (holds cell) slots empty_slot)
    where
      at : Found (holds cell) slots empty_slot → Placed cell slots (set slots (index_of (holds cell) slots) empty_slot) empty_slot
      at (somewhere some in_List passes) = own_placed empty_slot some in_List passes (inr refl)
      at (nowhere none end) =
          let empty = ap bit (empty_not_held cell) in
          rw (set_out slots (index_of (holds cell) slots) empty_slot end)
          (record {
            own = none ∙ sym empty;
            frees = omega (arith, empty);
            own_held = λ some. omega (arith, empty);
            own_slot = empty_slot_lem cell slots none;
            others = λ other differs. refl;
            others_held = λ loop some differs. refl;
            other_slots = λ other differs. refl;
          })
