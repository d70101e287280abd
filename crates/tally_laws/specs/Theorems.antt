-- What holds of tallies after any calls from an empty one. What `HistoryRule` states is proved as `history_rule` in proofs/, and so the others.
use Rattle.std.specs.Prelude.{ℕ, ◌+◌, ◌≤◌, ◌<◌, ◌≡◌, true, false, cond, List, [], ◌∷◌, ◌↔◌, eqb, ℤ, nat_abs, length}
use Rattle.units.specs.Refusals.{out_of_limits, power_not_finite, power_out_of_limits, full_cell, no_new_slot, bad_loop, OneOf}
use Rattle.cells.specs.Cells.{accepted_side, numbered, numbers_refusal}
use Rattle.readings.specs.declared.Reading.{Reading}
use Rattle.readings.specs.Readings.{reading_refusal}
use Rattle.slots.specs.declared.LoopCell.{LoopCell}
use Rattle.slots.specs.declared.Slot.{Slot}
use Rattle.tallies.specs.declared.Tally.{Tally}
use Rattle.slots.specs.Slots.{slot_count, free, holds, same_cell, most_readings}
use Rattle.shares.specs.Shares.{passing, held_in, sure_slots, shared_slots, beyond, granted}
use Rattle.tallies.specs.Tallies.{Sums, is_loop, named_refusal, empty_tally, made, tally_told, read_from}
use Rattle.tally_laws.specs.Histories.{Call, adding, clearing, reading, cell_in, loop_in, answer_of, number_of, after, after_all}
use Rattle.tally_laws.specs.Histories.{Answered, history, readings_of, sum_of, count_of, overloads_of, cells_of, held_by, add_number, accepted_of}

-- ---- which loops and cells there are

-- Calls for a loop other than 1 and 2 are refused 45, whatever else is wrong with them and whatever the tally, and change nothing.
abbrev pub OtherLoopsRefused : Type 0
OtherLoopsRefused = (tally : Tally) (call : Call) → is_loop (loop_in call) ≡ false → (number_of tally call ≡ bad_loop) × (after tally call ≡ tally)

-- Of a loop's calls those for a side or a cell that the cell rule does not give are refused 3, whatever the tally, and change nothing. So the rule of
-- histories leaves out no cell that can have a reading.
abbrev pub OtherCellsRefused : Type 0
OtherCellsRefused =
    (tally : Tally) (call : Call) →
    is_loop (loop_in call) ≡ true →
    (numbers_refusal tally.side (cell_in call).east (cell_in call).north ≡ 0 → ⊥) →
    (number_of tally call ≡ out_of_limits) × (after tally call ≡ tally)

-- Whatever the number, a refused call changes nothing.
abbrev pub RefusedUnchanged : Type 0
RefusedUnchanged = (tally : Tally) (call : Call) → (number_of tally call ≡ 0 → ⊥) → after tally call ≡ tally

-- Clearing and reading are answered by the loop number, the side and the cell alone.
abbrev pub CellDecides : Type 0
CellDecides =
    (tally : Tally) (cell : LoopCell) →
    (number_of tally (clearing cell) ≡ named_refusal tally.side cell) × (number_of tally (reading cell) ≡ named_refusal tally.side cell)

-- ---- after any calls from an empty tally

-- "every sum and count equals that of the accepted readings in the history since the cell was last cleared", for every accepted side, each loop and
-- every cell of it
abbrev pub HistoryRule : Type 0
HistoryRule =
    (side : ℤ) →
    accepted_side side ≡ true →
    (calls : List Call) (cell : LoopCell) →
    is_loop cell.loop_number ≡ true →
    numbered (nat_abs side) cell.east cell.north ≡ true →
    let rs : List Reading = readings_of cell (history (empty_tally side) calls) in
    (read_from (after_all (empty_tally side) calls) cell).answer ≡ Sums (sum_of rs) (count_of rs) (overloads_of rs)

-- An add is answered by the history alone.
abbrev pub AddDecided : Type 0
AddDecided =
    (side : ℤ) (calls : List Call) (cell : LoopCell) (r : Reading) →
    number_of (after_all (empty_tally side) calls) (adding cell r) ≡ add_number side (history (empty_tally side) calls) cell r

-- One that 45, 3, 41 and 42 do not refuse is answered 43 exactly where the cell has 1,000,000 readings since it was last cleared, and 44 exactly where it
-- has none, 96 or more cells of its loop have one since they were, and the two loops' cells beyond 96 are 64 or more together.
abbrev pub AddRefusedExactly : Type 0
AddRefusedExactly =
    (side : ℤ) (calls : List Call) (cell : LoopCell) (r : Reading) →
    named_refusal side cell ≡ 0 →
    reading_refusal r ≡ 0 →
    let past : List Answered = history (empty_tally side) calls in
    let number : ℕ = number_of (after_all (empty_tally side) calls) (adding cell r) in
    ((number ≡ full_cell) ↔ (length (readings_of cell past) ≡ most_readings))
    × ((number ≡ no_new_slot)
    ↔ ((readings_of cell past ≡ []) × (sure_slots ≤ held_by past cell.loop_number) × (shared_slots ≤ beyond (held_by past))))

-- 1 where there are readings, else 0
abbrev pub some_of : List Reading → ℕ
some_of [] = 0
some_of (r ∷ rs) = 1

-- A loop's cell has a slot exactly where it has a reading since it was last cleared, and no cell has two; it stands as often in the list of the loop's
-- cells that have a reading.
abbrev pub OneSlot : Type 0
OneSlot =
    (side : ℤ) (calls : List Call) (cell : LoopCell) →
    let past : List Answered = history (empty_tally side) calls in
    (passing (holds cell) (after_all (empty_tally side) calls).slots ≡ some_of (readings_of cell past))
    × (passing (λ (other : LoopCell). same_cell other cell) (cells_of cell.loop_number past) ≡ some_of (readings_of cell past))

-- A loop holds as many slots as it has cells with a reading. The slots of the two loops and the free ones are 256 together, so that they never hold
-- more; and beyond 96 the two hold at most 64, so that neither holds more than 160.
abbrev pub HeldSlots : Type 0
HeldSlots =
    (side : ℤ) (calls : List Call) →
    let slots : List Slot = (after_all (empty_tally side) calls).slots in
    ((loop : ℕ) → is_loop loop ≡ true → held_in slots loop ≡ held_by (history (empty_tally side) calls) loop)
    × ((held_in slots 1 + held_in slots 2) + passing free slots ≡ slot_count)
    × (beyond (held_in slots) ≤ shared_slots)

-- Wherever the rule gives a loop a new slot, one is free.
abbrev pub FreeWhereGranted : Type 0
FreeWhereGranted =
    (side : ℤ) (calls : List Call) (loop : ℕ) →
    is_loop loop ≡ true →
    let slots : List Slot = (after_all (empty_tally side) calls).slots in
    granted (held_in slots) loop ≡ true →
    1 ≤ passing free slots

-- "Each loop is sure of 96 slots.": one that holds fewer is never answered 44.
abbrev pub SureOfSlots : Type 0
SureOfSlots =
    (side : ℤ) (calls : List Call) (cell : LoopCell) (r : Reading) →
    let tally : Tally = after_all (empty_tally side) calls in
    held_in tally.slots cell.loop_number < sure_slots →
    number_of tally (adding cell r) ≡ no_new_slot →
    ⊥

-- A cell has at most 1,000,000 readings, and so a sum of at most 10^15 nW.
abbrev pub SumsBounded : Type 0
SumsBounded =
    (side : ℤ) (calls : List Call) (cell : LoopCell) →
    let rs : List Reading = readings_of cell (history (empty_tally side) calls) in
    (length rs ≤ most_readings) × (sum_of rs ≤ 1_000_000_000_000_000)

-- ---- one loop and the other: "what a loop reads of its own cells depends on its own accepted calls, in their order, alone, its refusal 44 on those and
-- on how many slots the other holds"

abbrev pub other_loop : ℕ → ℕ
other_loop loop = cond (eqb loop 1) 2 1

-- Two tallies that are alike to a loop.
pub record AlikeTo (loop : ℕ) (one two : Tally) : Type 0 where
  -- every cell of the loop reads the same in both
  pub reads : (cell : LoopCell) → cell.loop_number ≡ loop → (read_from one cell).answer ≡ (read_from two cell).answer
  -- every call of the loop is answered the same, unless it is answered 44 in one of them
  pub answers :
      (call : Call) →
      loop_in call ≡ loop →
      (number_of one call ≡ no_new_slot → ⊥) →
      (number_of two call ≡ no_new_slot → ⊥) →
      answer_of one call ≡ answer_of two call
  -- where the one answers 44, the other accepts the call or answers 44 too
  pub refused :
      (call : Call) →
      loop_in call ≡ loop →
      number_of one call ≡ no_new_slot →
      OneOf (0 ∷ no_new_slot ∷ []) (number_of two call)
  -- and the answer is always the same, 44 too, where the other loop holds as many slots in both
  pub answers_all :
      held_in one.slots (other_loop loop) ≡ held_in two.slots (other_loop loop) →
      (call : Call) →
      loop_in call ≡ loop →
      answer_of one call ≡ answer_of two call

-- Two lists of calls on tallies of one side in which the loop's accepted calls are the same, in the same order: whatever the other loop did in either,
-- the tallies are alike to the loop.
abbrev pub TwoHistories : Type 0
TwoHistories =
    (side : ℤ) (loop : ℕ) (one two : List Call) →
    accepted_of loop (history (empty_tally side) one) ≡ accepted_of loop (history (empty_tally side) two) →
    AlikeTo loop (after_all (empty_tally side) one) (after_all (empty_tally side) two)

-- A loop's accepted calls, made on a tally with no other loop on it, are all accepted there, and the two tallies are alike to the loop.
abbrev pub LoopAlone : Type 0
LoopAlone =
    (side : ℤ) (loop : ℕ) (calls : List Call) →
    let own : List Call = accepted_of loop (history (empty_tally side) calls) in
    (accepted_of loop (history (empty_tally side) own) ≡ own) × AlikeTo loop (after_all (empty_tally side) calls) (after_all (empty_tally side) own)

-- ---- which numbers each call can give, whatever the tally

abbrev pub MadeNumbers : Type 0
MadeNumbers = (side : ℤ) → OneOf (0 ∷ out_of_limits ∷ []) (tally_told (made side).answer)

abbrev pub AddNumbers : Type 0
AddNumbers =
    (tally : Tally) (cell : LoopCell) (r : Reading) →
    OneOf (0 ∷ bad_loop ∷ out_of_limits ∷ power_not_finite ∷ power_out_of_limits ∷ full_cell ∷ no_new_slot ∷ []) (number_of tally (adding cell r))

abbrev pub ClearNumbers : Type 0
ClearNumbers = (tally : Tally) (cell : LoopCell) → OneOf (0 ∷ bad_loop ∷ out_of_limits ∷ []) (number_of tally (clearing cell))

abbrev pub ReadNumbers : Type 0
ReadNumbers = (tally : Tally) (cell : LoopCell) → OneOf (0 ∷ bad_loop ∷ out_of_limits ∷ []) (number_of tally (reading cell))
