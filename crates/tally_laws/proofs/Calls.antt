-- A call's number is what its tests give, and the tally after it changes only where that is 0. The tests of the loop number and the cell stand first in
-- every call and give 0, 45 or 3. Assumes nothing.
use mathlib.Core.Path.{◌≡◌, refl, sym, ap, ◌∙◌}
use mathlib.Core.Bool.{true, false, not}
use mathlib.Core.List.{List, [], ◌∷◌}
use mathlib.Core.Logic.{inl, inr}
use Prim.Native.Nat.{ℕ, zero, suc, ◌<◌}
use native.Mathlib.Omega.{arith}
use lib.Dec.{ltb}
use lib.IntN.{ℤ}
use lib.ListN.{length, set}
use borrow.Author.Tests.{not-true, ltb-true}
use Rattle.units.specs.Refusals.{out_of_limits, power_not_finite, power_out_of_limits, full_cell, no_new_slot, bad_loop, OneOf}
use Rattle.units.specs.Answers.{answered}
use Rattle.units.proofs.Chains.{link_passed, both_passed, first_given, Gives, chain}
use Rattle.cells.specs.Cells.{numbers_refusal}
use Rattle.readings.specs.declared.Reading.{Reading}
use Rattle.readings.specs.Readings.{power_refusal, reading_refusal}
use Rattle.slots.specs.declared.LoopCell.{LoopCell}
use Rattle.slots.specs.declared.Slot.{Slot}
use Rattle.tallies.specs.declared.Tally.{Tally}
use Rattle.slots.specs.Slots.{empty_slot, holds, index_of, slot_of, full, with_reading}
use Rattle.shares.specs.Shares.{place_of}
use Rattle.tallies.specs.Tallies.{Done, Refused, SumsAnswer, Unread, side_refusal, is_loop, named_refusal, slot_refusal, add_refusal}
use Rattle.tallies.specs.Tallies.{tally_told, sums_told, next, made, added, cleared, sums_in, read_from}
use Rattle.tally_laws.specs.Histories.{Call, adding, clearing, reading, cell_in, answer_of, changing, number_of, after}
use Rattle.tally_laws.specs.Theorems.{OtherLoopsRefused, OtherCellsRefused, RefusedUnchanged, CellDecides}
use Rattle.tally_laws.specs.Theorems.{MadeNumbers, AddNumbers, ClearNumbers, ReadNumbers}

-- ---- the number

-- what an answer tells is the number by which it is given
told : {A : Type 0} (tell : A → ℕ) (refuse : ℕ → A) (given : A) → tell given ≡ 0 → ((n : ℕ) → tell (refuse n) ≡ n) →
    (n : ℕ) →
    tell (answered refuse n given) ≡ n
told tell refuse given none some zero = none
told tell refuse given none some (suc n) = some (suc n)

done_told : (n : ℕ) → tally_told (answered Refused n Done) ≡ n
done_told = told tally_told Refused Done refl (λ n. refl)

-- the number that a call's tests give
abbrev pub refusal_of : Tally → Call → ℕ
refusal_of tally (adding cell r) = add_refusal tally cell r
refusal_of tally (clearing cell) = named_refusal tally.side cell
refusal_of tally (reading cell) = named_refusal tally.side cell

pub number_is : (tally : Tally) (call : Call) → number_of tally call ≡ refusal_of tally call
unfolding added cleared read_from
number_is tally (adding cell r) = done_told (add_refusal tally cell r)
number_is tally (clearing cell) = done_told (named_refusal tally.side cell)
number_is tally (reading cell) =
    told (λ (a : SumsAnswer). (sums_told a).refusal) Unread (sums_in (slot_of cell tally.slots)) refl (λ n. refl) (named_refusal tally.side cell)

-- the number of an add decides its answer
pub answer_is : (tally : Tally) (cell : LoopCell) (r : Reading) → answer_of tally (adding cell r) ≡ changing (answered Refused (number_of tally (adding cell r)) Done)
unfolding added
answer_is tally cell r = ap (λ (n : ℕ). changing (answered Refused n Done)) (sym (done_told (add_refusal tally cell r)))

pub cell_decides : CellDecides
cell_decides tally cell = (number_is tally (clearing cell), number_is tally (reading cell))

-- ---- which numbers there are

cell_numbers : (side : ℤ) (cell : LoopCell) → OneOf (0 ∷ bad_loop ∷ out_of_limits ∷ []) (named_refusal side cell)
unfolding named_refusal numbers_refusal
cell_numbers side cell = let g : Gives (0 ∷ bad_loop ∷ out_of_limits ∷ []) (named_refusal side cell) = search chain depth 40 in g.one

pub made_numbers : MadeNumbers
unfolding made side_refusal
made_numbers side = let g : Gives (0 ∷ out_of_limits ∷ []) (side_refusal side) = search chain depth 40 in rw (done_told (side_refusal side)) g.one

pub add_numbers : AddNumbers
unfolding add_refusal named_refusal numbers_refusal power_refusal slot_refusal
add_numbers tally cell r = rw (number_is tally (adding cell r)) given.one
  where
    given : Gives (0 ∷ bad_loop ∷ out_of_limits ∷ power_not_finite ∷ power_out_of_limits ∷ full_cell ∷ no_new_slot ∷ []) (add_refusal tally cell r)
    given = search chain depth 40

pub clear_numbers : ClearNumbers
clear_numbers tally cell = rw (number_is tally (clearing cell)) (cell_numbers tally.side cell)

pub read_numbers : ReadNumbers
read_numbers tally cell = rw (number_is tally (reading cell)) (cell_numbers tally.side cell)

-- ---- a call that is refused

unchanged : (n : ℕ) (slots : List Slot) (tally : Tally) → (n ≡ 0 → ⊥) → (next n slots tally).tally ≡ tally
unchanged zero slots tally some = absurd (some refl)
unchanged (suc n) slots tally some = refl

refusal_unchanged : (tally : Tally) (call : Call) → (refusal_of tally call ≡ 0 → ⊥) → after tally call ≡ tally
unfolding added cleared read_from
refusal_unchanged tally (adding cell r) some = unchanged (add_refusal tally cell r) _ tally some
refusal_unchanged tally (clearing cell) some = unchanged (named_refusal tally.side cell) _ tally some
refusal_unchanged tally (reading cell) some = refl

pub refused_unchanged : RefusedUnchanged
refused_unchanged tally call some = refusal_unchanged tally call (λ e. some (number_is tally call ∙ e))

-- the tests of the loop number and the cell stand first
cell_first :
    (tally : Tally) (call : Call) →
    (named_refusal tally.side (cell_in call) ≡ 0 → ⊥) →
    refusal_of tally call ≡ named_refusal tally.side (cell_in call)
unfolding add_refusal
cell_first tally (adding cell r) some = first_given (named_refusal tally.side cell) _ some
cell_first tally (clearing cell) some = refl
cell_first tally (reading cell) some = refl

refused_by_name :
    (tally : Tally) (call : Call) (n : ℕ) →
    (n ≡ 0 → ⊥) →
    named_refusal tally.side (cell_in call) ≡ n →
    (number_of tally call ≡ n) × (after tally call ≡ tally)
refused_by_name tally call n some e =
    let number = number_is tally call ∙ cell_first tally call (λ z. some (sym e ∙ z)) ∙ e in
    (number, refused_unchanged tally call (λ z. some (sym number ∙ z)))

pub other_loops_refused : OtherLoopsRefused
unfolding named_refusal
other_loops_refused tally call bad = refused_by_name tally call bad_loop (λ z. omega arith) (rw bad)

numbers_refused : (side east north : ℤ) → (numbers_refusal side east north ≡ 0 → ⊥) → numbers_refusal side east north ≡ out_of_limits
unfolding numbers_refusal
numbers_refused side east north some = the_other g.one
  where
    g : Gives (0 ∷ out_of_limits ∷ []) (numbers_refusal side east north)
    g = search chain depth 40

    the_other : OneOf (0 ∷ out_of_limits ∷ []) (numbers_refusal side east north) → numbers_refusal side east north ≡ out_of_limits
    the_other (inl e) = absurd (some e)
    the_other (inr (inl e)) = e
    the_other (inr (inr x)) = elim x [ ]

pub other_cells_refused : OtherCellsRefused
unfolding named_refusal
other_cells_refused tally call good some =
    refused_by_name tally call out_of_limits (λ z. omega arith)
    (rw good (numbers_refused tally.side (cell_in call).east (cell_in call).north some))

-- ---- a call that is accepted

module _ (tally : Tally) (cell : LoopCell) where
  pub loop_passed : named_refusal tally.side cell ≡ 0 → is_loop cell.loop_number ≡ true
  unfolding named_refusal
  loop_passed e = (link_passed (is_loop cell.loop_number) 44 e).0

  -- the tests that an add has passed
  pub record Passed (r : Reading) : Type 0 where
    pub good_loop : is_loop cell.loop_number ≡ true
    pub good_reading : reading_refusal r ≡ 0
    pub room : full (slot_of cell tally.slots) ≡ false
    pub place : place_of cell tally.slots < length tally.slots

  pub passed : (r : Reading) → refusal_of tally (adding cell r) ≡ 0 → Passed r
  unfolding add_refusal slot_refusal
  passed r e =
      let first = both_passed (named_refusal tally.side cell) _ e in
      let second = both_passed (reading_refusal r) _ first.1 in
      let third = link_passed (not (full (slot_of cell tally.slots))) 42 second.1 in
      let fourth = link_passed (ltb (place_of cell tally.slots) (length tally.slots)) 43 third.1 in
      record { good_loop = loop_passed first.0; good_reading = second.0; room = not-true _ third.0; place = ltb-true _ _ fourth.0 }

  pub add_slots :
      (r : Reading) →
      refusal_of tally (adding cell r) ≡ 0 →
      (after tally (adding cell r)).slots ≡ set tally.slots (place_of cell tally.slots) (with_reading r cell (slot_of cell tally.slots))
  unfolding added
  add_slots r e = rw e

  pub clear_slots :
      refusal_of tally (clearing cell) ≡ 0 →
      (after tally (clearing cell)).slots ≡ set tally.slots (index_of (holds cell) tally.slots) empty_slot
  unfolding cleared
  clear_slots e = rw e
