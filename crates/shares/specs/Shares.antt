-- Document 02, f), "Two amplifiers, one tally": how many slots each loop holds, when a loop gets a new one, and which slot an add uses.
use Rattle.std.specs.Prelude.{ℕ, ◌+◌, ◌-◌, Bool, ◌||◌, cond, List, [], ◌∷◌, ltb, eqb, length}
use Rattle.slots.specs.declared.LoopCell.{LoopCell}
use Rattle.slots.specs.declared.Slot.{Slot}
use Rattle.slots.specs.Slots.{free, holds, index_of}

-- ---- how many slots a loop holds

-- how many elements pass a test
unfoldable pub passing : {A : Type 0} → (A → Bool) → List A → ℕ
passing test [] = 0
passing test (x ∷ xs) = cond (test x) 1 0 + passing test xs

-- a cell of the loop has the slot
unfoldable pub of_loop : ℕ → Slot → Bool
of_loop loop slot = eqb slot.cell.loop_number loop

-- for each loop, how many slots it holds
abbrev pub held_in : List Slot → ℕ → ℕ
held_in slots loop = passing (of_loop loop) slots

-- ---- a new slot

-- "Each loop is sure of 96 slots."
abbrev pub sure_slots : ℕ
sure_slots = 96

-- "fewer than 64", which is what is left of the 256 beyond 96 for each
abbrev pub shared_slots : ℕ
shared_slots = 64

-- "the slots held beyond 96 by the two together": none by a loop that holds fewer, for `-` is 0 there
unfoldable pub beyond : (ℕ → ℕ) → ℕ
beyond held = (held 1 - sure_slots) + (held 2 - sure_slots)

-- "A loop gets a new slot exactly when it holds fewer than 96, or when the slots held beyond 96 by the two together are fewer than 64."
unfoldable pub granted : (ℕ → ℕ) → ℕ → Bool
granted held loop = ltb (held loop) sure_slots || ltb (beyond held) shared_slots

-- the index of the slot that a new cell of the loop gets, "the first free one"; the number of slots where the loop gets none, or where none is free
unfoldable pub new_slot : ℕ → List Slot → ℕ
new_slot loop slots = cond (granted (held_in slots) loop) (index_of free slots) (length slots)

-- "Adding uses the cell's slot, else the first free one": its index; the number of slots where there is none
unfoldable pub place_of : LoopCell → List Slot → ℕ
place_of cell slots =
    cond (ltb (index_of (holds cell) slots) (length slots)) (index_of (holds cell) slots) (new_slot cell.loop_number slots)
