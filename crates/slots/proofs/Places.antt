-- A cell's slot by the index that a search gives: the cell's own, or, where it has none, an empty one. Assumes nothing.
use mathlib.Core.Path.{◌≡◌}
use mathlib.Core.List.{List}
use Prim.Native.Nat.{ℕ, ◌≤◌}
use lib.ListN.{length, get_or, get_or-eq_default}
use Rattle.slots.specs.declared.LoopCell.{LoopCell}
use Rattle.slots.specs.declared.Slot.{Slot}
use Rattle.slots.specs.Slots.{empty_slot, holds, index_of, slot_of}

module _ (cell : LoopCell) (slots : List Slot) (at : ℕ) (at-is : at ≡ index_of (holds cell) slots) where
  pub own_slot : slot_of cell slots ≡ get_or slots at empty_slot
  unfolding slot_of
  own_slot = rw at-is

  pub no_slot : length slots ≤ at → slot_of cell slots ≡ empty_slot
  unfolding slot_of
  no_slot h = rw (← at-is) (get_or-eq_default slots empty_slot h)
