-- Document 02, e), "Power per cell", and f), "Two amplifiers, one tally": what each call on a tally answers and what tally it gives next, for a tally of
-- any contents.
use Rattle.std.specs.Prelude.{ℕ, Bool, not, ◌||◌, List, ltb, eqb, ℤ, length, set, replicate, Result, Ok, Err}
use Rattle.units.specs.declared.refusals.Refusal.{Refusal}
use Rattle.units.specs.Refusals.{out_of_limits, full_cell, no_new_slot, bad_loop, number, unless, first_refusal}
use Rattle.units.specs.Answers.{answered, written}
use Rattle.cells.specs.Cells.{accepted_side, numbers_refusal}
use Rattle.readings.specs.declared.Reading.{Reading}
use Rattle.readings.specs.Readings.{reading_refusal}
use Rattle.slots.specs.declared.LoopCell.{LoopCell}
use Rattle.slots.specs.declared.Slot.{Slot}
use Rattle.slots.specs.Slots.{slot_count, empty_slot, holds, index_of, slot_of, full, with_reading}
use Rattle.shares.specs.Shares.{place_of}
use Rattle.tallies.specs.declared.Tally.{Tally}
use Rattle.tallies.specs.declared.Sums.{Sums as CellSums}
use Rattle.tallies.specs.declared.NextTally.{NextTally as GivenTally}
use Rattle.tallies.specs.declared.ReadTally.{ReadTally as GivenRead}

-- ---- refusals, "in this order and changing nothing"

-- "3, in every call, for a side or cell number that the cell rule cannot give": making names a side alone
unfoldable pub side_refusal : ℤ → ℕ
side_refusal side = unless (accepted_side side) out_of_limits 0

-- "45 for a loop number other than 1 or 2, tested first"
unfoldable pub is_loop : ℕ → Bool
is_loop loop = eqb loop 1 || eqb loop 2

unfoldable pub named_refusal : ℤ → LoopCell → ℕ
named_refusal side cell = unless (is_loop cell.loop_number) bad_loop (numbers_refusal side cell.east cell.north)

-- "43 the cell has 1,000,000 readings of both kinds together"; "44 now means the rule above": the cell has no slot, and its loop gets no new one, or,
-- in a tally that no calls gave, none is free
unfoldable pub slot_refusal : List Slot → LoopCell → ℕ
slot_refusal slots cell =
    unless (not (full (slot_of cell slots))) full_cell (unless (ltb (place_of cell slots) (length slots)) no_new_slot 0)

unfoldable pub add_refusal : Tally → LoopCell → Reading → ℕ
add_refusal tally cell reading = first_refusal (named_refusal tally.side cell) (first_refusal (reading_refusal reading) (slot_refusal tally.slots cell))

-- ---- answers

-- what making a tally, adding to it and clearing a cell answer
pub data TallyAnswer : Type 0 where
  Done : TallyAnswer
  Refused : ℕ → TallyAnswer

-- what reading a cell answers: the sum in nanowatts and how many readings of each kind it has, or the refusal number alone
pub data SumsAnswer : Type 0 where
  Sums : ℕ → ℕ → ℕ → SumsAnswer
  Unread : ℕ → SumsAnswer

-- an answer, and the tally after the call
pub record NextTally : Type 0 where
  pub tally : Tally
  pub answer : TallyAnswer

pub record ReadTally : Type 0 where
  pub tally : Tally
  pub answer : SumsAnswer

-- what the calls return
abbrev pub tally_answer : Result Unit Refusal → TallyAnswer
tally_answer (Ok done) = Done
tally_answer (Err refusal) = Refused (number refusal)

abbrev pub sums_answer : Result CellSums Refusal → SumsAnswer
sums_answer (Ok held) = Sums held.sum held.count held.overloads
sums_answer (Err refusal) = Unread (number refusal)

abbrev pub next_tally : GivenTally → NextTally
next_tally given = record { tally = given.tally; answer = tally_answer given.answer }

abbrev pub read_tally : GivenRead → ReadTally
read_tally given = record { tally = given.tally; answer = sums_answer given.answer }

-- the number of each case
abbrev pub tally_told : TallyAnswer → ℕ
tally_told Done = 0
tally_told (Refused number) = number

-- the number and the values of each case
pub record SumsTold : Type 0 where
  pub refusal : ℕ
  pub sum : ℕ
  pub count : ℕ
  pub overloads : ℕ

abbrev pub sums_told : SumsAnswer → SumsTold
sums_told (Sums sum count overloads) = record { refusal = 0; sum = sum; count = count; overloads = overloads }
sums_told (Unread number) = record { refusal = number; sum = 0; count = 0; overloads = 0 }

-- ---- the calls: "Each call takes the tally as it is and gives the next one."

-- the tally with these slots where the number is 0, else as it is
abbrev pub next : ℕ → List Slot → Tally → NextTally
next refusal slots tally =
    record { tally = record { side = tally.side; slots = written refusal slots tally.slots }; answer = answered Refused refusal Done }

abbrev pub empty_tally : ℤ → Tally
empty_tally side = record { side = side; slots = replicate slot_count empty_slot }

-- "a refused making gives an empty one of the side asked"
unfoldable pub made : ℤ → NextTally
made side = record { tally = empty_tally side; answer = answered Refused (side_refusal side) Done }

unfoldable pub added : Tally → LoopCell → Reading → NextTally
added tally cell reading =
    next (add_refusal tally cell reading)
    (set tally.slots (place_of cell tally.slots) (with_reading reading cell (slot_of cell tally.slots)))
    tally

-- "clearing a cell frees its slot for the next"; clearing an absent cell "changes nothing", for nothing is set past the end
unfoldable pub cleared : Tally → LoopCell → NextTally
cleared tally cell = next (named_refusal tally.side cell) (set tally.slots (index_of (holds cell) tally.slots) empty_slot) tally

-- "an absent cell reads as zeros"
abbrev pub sums_in : Slot → SumsAnswer
sums_in slot = Sums slot.sum slot.count slot.overloads

unfoldable pub read_from : Tally → LoopCell → ReadTally
read_from tally cell = record { tally = tally; answer = answered Unread (named_refusal tally.side cell) (sums_in (slot_of cell tally.slots)) }
