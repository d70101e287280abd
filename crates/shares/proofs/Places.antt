-- Which slot an add uses, by the index that a search gives: the cell's own, or, where it has none, the one that a new cell of its loop gets. Assumes
-- nothing.
use mathlib.Core.Path.{◌≡◌}
use mathlib.Core.List.{List}
use Prim.Native.Nat.{ℕ, ◌≤◌, ◌<◌}
use lib.ListN.{length}
use borrow.Author.Tests.{lt-ltb, le-ltb}
use Rattle.slots.specs.declared.LoopCell.{LoopCell}
use Rattle.slots.specs.declared.Slot.{Slot}
use Rattle.slots.specs.Slots.{holds, index_of}
use Rattle.shares.specs.Shares.{new_slot, place_of}

module _ (cell : LoopCell) (slots : List Slot) (at : ℕ) (at-is : at ≡ index_of (holds cell) slots) where
  pub own_place : at < length slots → place_of cell slots ≡ at
  unfolding place_of
  own_place h = rw (← at-is, lt-ltb at (length slots) h)

  pub new_place : length slots ≤ at → place_of cell slots ≡ new_slot cell.loop_number slots
  unfolding place_of
  new_place h = rw (← at-is, le-ltb at (length slots) h)
