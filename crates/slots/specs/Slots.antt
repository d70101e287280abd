-- Document 02, e), "Power per cell", and f), "Two amplifiers, one tally": the slots of a tally, which cell of a loop has one, which is free, and a slot
-- with one reading more.
use Rattle.std.specs.Prelude.{ℕ, suc, ◌+◌, ◌-◌, ◌^◌, min, Bool, not, ◌&&◌, cond, List, [], ◌∷◌, length, Option, Some, None, ltb, leb, eqb, pos, get_or}
use Rattle.units.specs.Spans.{same}
use Rattle.readings.specs.declared.Reading.{Reading}
use Rattle.readings.specs.declared.Reading.TheVariants.{Power, Overloaded}
use Rattle.readings.specs.Readings.{nanowatts_of}
use Rattle.slots.specs.declared.LoopCell.{LoopCell}
use Rattle.slots.specs.declared.Slot.{Slot}

-- ---- slots

-- "Two control loops now share the 256 slots."
abbrev pub slot_count : ℕ
slot_count = 256

-- a slot that no cell has, as making and clearing leave it
abbrev pub empty_slot : Slot
empty_slot = record { cell = record { loop_number = 0; east = pos 0; north = pos 0 }; sum = 0; count = 0; overloads = 0 }

-- no cell has the slot
unfoldable pub free : Slot → Bool
free slot = eqb slot.cell.loop_number 0

-- one cell of one loop: "A cell of one loop is not a cell of the other."
unfoldable pub same_cell : LoopCell → LoopCell → Bool
same_cell one other = eqb one.loop_number other.loop_number && (same one.east other.east && same one.north other.north)

-- the cell has the slot
unfoldable pub holds : LoopCell → Slot → Bool
holds cell slot = not (free slot) && same_cell slot.cell cell

-- the index of the first element that passes a test; the length where none does
unfoldable pub index_of : {A : Type 0} → (A → Bool) → List A → ℕ
index_of test [] = 0
index_of test (x ∷ xs) = cond (test x) 0 (suc (index_of test xs))

-- an index into the list, where it is one
abbrev pub index_in : {A : Type 0} → List A → ℕ → Option ℕ
index_in xs i = cond (ltb i (length xs)) (Some i) None

-- the cell's slot; an empty one where it has none
unfoldable pub slot_of : LoopCell → List Slot → Slot
slot_of cell slots = get_or slots (index_of (holds cell) slots) empty_slot

-- ---- readings in a slot

-- "the cell has 1,000,000 readings of both kinds together"
abbrev pub most_readings : ℕ
most_readings = 1_000_000

unfoldable pub full : Slot → Bool
full slot = leb most_readings (slot.count + slot.overloads)

-- the greatest sum that a slot holds. Outside demand 1: no tally that the calls give comes near it (`SumsBounded`); in any other a sum that would
-- pass it stays there.
abbrev pub greatest_sum : ℕ
greatest_sum = 2 ^ 64 - 1

-- the cell's slot with one reading more: "Overload readings go into the overload count only, their power tested but not summed."
abbrev pub with_reading : Reading → LoopCell → Slot → Slot
with_reading (Power milliwatts) cell slot =
    record { cell = cell; sum = min (slot.sum + nanowatts_of milliwatts) greatest_sum; count = slot.count + 1; overloads = slot.overloads }
with_reading (Overloaded milliwatts) cell slot =
    record { cell = cell; sum = slot.sum; count = slot.count; overloads = slot.overloads + 1 }
