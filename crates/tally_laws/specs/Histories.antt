-- Document 02, e): "After any calls from an empty tally, every sum and count equals that of the accepted readings in the history since the cell was
-- last cleared." And f): "Request e)'s history rule is then read per loop." The calls and their answers as a list, and what the paper reads from it.
-- From `with_call` on all is worked out from the calls and their numbers alone: no definition there takes a tally or a slot.
use Rattle.std.specs.Prelude.{ℕ, zero, suc, ◌+◌, not, ◌&&◌, ◌||◌, cond, List, [], ◌∷◌, ltb, leb, eqb, ℤ, length}
use Rattle.units.specs.Refusals.{full_cell, no_new_slot, unless, first_refusal}
use Rattle.readings.specs.declared.Reading.{Reading}
use Rattle.readings.specs.declared.Reading.TheVariants.{Power, Overloaded}
use Rattle.readings.specs.Readings.{reading_refusal, nanowatts_of}
use Rattle.slots.specs.declared.LoopCell.{LoopCell}
use Rattle.tallies.specs.declared.Tally.{Tally}
use Rattle.slots.specs.Slots.{same_cell, most_readings}
use Rattle.shares.specs.Shares.{granted}
use Rattle.tallies.specs.Tallies.{TallyAnswer, SumsAnswer, named_refusal, tally_told, sums_told, added, cleared, read_from}

-- ---- calls

pub data Call : Type 0 where
  adding : LoopCell → Reading → Call
  clearing : LoopCell → Call
  reading : LoopCell → Call

-- the cell that a call names
abbrev pub cell_in : Call → LoopCell
cell_in (adding cell r) = cell
cell_in (clearing cell) = cell
cell_in (reading cell) = cell

-- the number of the loop whose call it is
abbrev pub loop_in : Call → ℕ
loop_in call = (cell_in call).loop_number

-- what a call answers
pub data Answer : Type 0 where
  changing : TallyAnswer → Answer
  telling : SumsAnswer → Answer

abbrev pub answer_of : Tally → Call → Answer
answer_of tally (adding cell r) = changing (added tally cell r).answer
answer_of tally (clearing cell) = changing (cleared tally cell).answer
answer_of tally (reading cell) = telling (read_from tally cell).answer

-- the number of an answer, 0 where the call is accepted
abbrev pub number_in : Answer → ℕ
number_in (changing answer) = tally_told answer
number_in (telling answer) = (sums_told answer).refusal

abbrev pub number_of : Tally → Call → ℕ
number_of tally call = number_in (answer_of tally call)

-- the tally that it gives
abbrev pub after : Tally → Call → Tally
after tally (adding cell r) = (added tally cell r).tally
after tally (clearing cell) = (cleared tally cell).tally
after tally (reading cell) = (read_from tally cell).tally

-- "any calls", each on the tally that the one before gave: the last tally
unfoldable pub after_all : Tally → List Call → Tally
after_all tally [] = tally
after_all tally (call ∷ calls) = after_all (after tally call) calls

-- ---- "the history": the calls and the numbers of their answers, the first call first

pub record Answered : Type 0 where
  pub call : Call
  pub number : ℕ

unfoldable pub history : Tally → List Call → List Answered
history tally [] = []
history tally (call ∷ calls) = record { call = call; number = number_of tally call } ∷ history (after tally call) calls

-- what a step makes of a history, call after call
unfoldable pub folded : {A : Type 0} → (Call → ℕ → A → A) → A → List Answered → A
folded step x [] = x
folded step x (a ∷ later) = folded step (step a.call a.number x) later

-- ---- "the accepted readings in the history since the cell was last cleared"

-- the readings of a cell after one more call, the latest first; a refused call changes nothing
abbrev pub with_call : LoopCell → Call → ℕ → List Reading → List Reading
with_call cell (adding other r) zero rs = cond (same_cell other cell) (r ∷ rs) rs
with_call cell (clearing other) zero rs = cond (same_cell other cell) [] rs
with_call cell (reading other) zero rs = rs
with_call cell call (suc number) rs = rs

abbrev pub readings_of : LoopCell → List Answered → List Reading
readings_of cell = folded (with_call cell) []

-- their sum in nanowatts, their count and their overload count
abbrev pub sum_of : List Reading → ℕ
sum_of [] = 0
sum_of (Power milliwatts ∷ rs) = nanowatts_of milliwatts + sum_of rs
sum_of (Overloaded milliwatts ∷ rs) = sum_of rs

abbrev pub count_of : List Reading → ℕ
count_of [] = 0
count_of (Power milliwatts ∷ rs) = suc (count_of rs)
count_of (Overloaded milliwatts ∷ rs) = count_of rs

abbrev pub overloads_of : List Reading → ℕ
overloads_of [] = 0
overloads_of (Power milliwatts ∷ rs) = overloads_of rs
overloads_of (Overloaded milliwatts ∷ rs) = suc (overloads_of rs)

-- ---- the cells of a loop that have a reading since they were last cleared, each once

-- all cells of a list but this one
unfoldable pub without : LoopCell → List LoopCell → List LoopCell
without cell [] = []
without cell (x ∷ xs) = cond (same_cell x cell) (without cell xs) (x ∷ without cell xs)

abbrev pub cells_with : ℕ → Call → ℕ → List LoopCell → List LoopCell
cells_with loop (adding cell r) zero cells = cond (eqb cell.loop_number loop) (cell ∷ without cell cells) cells
cells_with loop (clearing cell) zero cells = cond (eqb cell.loop_number loop) (without cell cells) cells
cells_with loop (reading cell) zero cells = cells
cells_with loop call (suc number) cells = cells

abbrev pub cells_of : ℕ → List Answered → List LoopCell
cells_of loop = folded (cells_with loop) []

-- for each loop, how many they are
abbrev pub held_by : List Answered → ℕ → ℕ
held_by calls loop = length (cells_of loop calls)

-- ---- the answer to an add, from the history alone

-- "43 the cell has 1,000,000 readings of both kinds together"; "44 now means the rule above": the cell has no reading, and its loop does not get a slot
unfoldable pub add_number : ℤ → List Answered → LoopCell → Reading → ℕ
add_number side calls cell r =
    first_refusal (named_refusal side cell)
    (first_refusal (reading_refusal r)
    (unless (not (leb most_readings (length (readings_of cell calls)))) full_cell
    (unless (ltb 0 (length (readings_of cell calls)) || granted (held_by calls) cell.loop_number) no_new_slot 0)))

-- ---- "its own accepted calls, in their order"

unfoldable pub accepted_of : ℕ → List Answered → List Call
accepted_of loop [] = []
accepted_of loop (a ∷ later) = cond (eqb (loop_in a.call) loop && eqb a.number 0) (a.call ∷ accepted_of loop later) (accepted_of loop later)
