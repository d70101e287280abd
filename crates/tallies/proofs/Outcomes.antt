-- Each outcome of a call, by the tests that lead to it. Assumes nothing.
use mathlib.Core.Path.{◌≡◌, refl, sym, ◌∙◌}
use mathlib.Core.Bool.{Bool, true, false, cond, not}
use mathlib.Core.List.{List}
use Prim.Native.Nat.{ℕ, zero, suc, ◌≤◌, ◌<◌}
use native.Mathlib.Omega.{arith}
use lib.IntN.{ℤ}
use lib.Dec.{ltb}
use lib.ListN.{length, set, get_or, replicate}
use lib.Seq.{set_out}
use mir.Facts.{to_z-of_z}
use borrow.Author.Tests.{lt-ltb, le-ltb, ltb-true, ltb-false}
use Rattle.std.specs.Prelude.{Some, None, Result, Ok, Err, position}
use Rattle.units.specs.declared.refusals.Refusal.{Refusal}
use Rattle.units.specs.Refusals.{full_cell, no_new_slot, number, refusal_number, unless}
use Rattle.units.specs.Answers.{answered}
use Rattle.units.proofs.Chains.{first_given, link_passed}
use Rattle.units.proofs.AnswerLaws.{number_some, is_refused_lem}
use Rattle.cells.proofs.Calls.{failed}
use Rattle.readings.specs.declared.Reading.{Reading}
use Rattle.readings.specs.Readings.{reading_refusal}
use Rattle.slots.specs.declared.LoopCell.{LoopCell}
use Rattle.slots.specs.declared.Slot.{Slot}
use Rattle.slots.specs.Slots.{slot_count, empty_slot, holds, index_of, index_in, slot_of, full, with_reading}
use Rattle.slots.proofs.Searching.{position_is}
use Rattle.slots.proofs.Places.{own_slot, no_slot}
use Rattle.shares.specs.Shares.{place_of, new_slot}
use Rattle.shares.proofs.Places.{own_place, new_place}
use Rattle.tallies.specs.declared.Tally.{Tally}
use Rattle.tallies.specs.Tallies.{NextTally, Done, Refused, Unread, tally_answer}
use Rattle.tallies.specs.Tallies.{side_refusal, named_refusal, slot_refusal, add_refusal, next, made, added, cleared, sums_in, read_from}

-- what is handed on by its bits is read back as it was
pub ruleset handed_on = (to_z-of_z)

-- ---- an index that is found, and one that is not

module _ {A : Type 0} (xs : List A) (i : ℕ) where
  pub in_list : (k : ℕ) → index_in xs i ≡ Some k → (i ≡ k) × (k < length xs)
  in_list k e = at (ltb i (length xs)) refl e
    where
      at : (t : Bool) → ltb i (length xs) ≡ t → cond t (Some i) None ≡ Some k → (i ≡ k) × (k < length xs)
      at true h s = let same : i ≡ k = cc in (same, omega (arith, ltb-true i (length xs) h))
      at false h s = let never : ⊥ = cc in absurd never

  pub past_list : index_in xs i ≡ None → length xs ≤ i
  past_list e = at (ltb i (length xs)) refl e
    where
      at : (t : Bool) → ltb i (length xs) ≡ t → cond t (Some i) None ≡ None → length xs ≤ i
      at true h s = let never : ⊥ = cc in absurd never
      at false h s = omega (arith, ltb-false i (length xs) h)

module _ (cell : LoopCell) (slots : List Slot) where
  -- the index of the cell's slot, as the search gives it
  pub own_index : (k : ℕ) → position (holds cell) slots ≡ Some k → (index_of (holds cell) slots ≡ k) × (k < length slots)
  own_index k e = in_list slots (index_of (holds cell) slots) k (sym (position_is (holds cell) slots) ∙ e)

  pub no_index : position (holds cell) slots ≡ None → length slots ≤ index_of (holds cell) slots
  no_index e = past_list slots (index_of (holds cell) slots) (sym (position_is (holds cell) slots) ∙ e)

  pub slot_held : (k : ℕ) → position (holds cell) slots ≡ Some k → slot_of cell slots ≡ get_or slots k empty_slot
  slot_held k e = own_slot cell slots k (sym (own_index k e).0)

  pub none_held : position (holds cell) slots ≡ None → slot_of cell slots ≡ empty_slot
  none_held e = no_slot cell slots (index_of (holds cell) slots) refl (no_index e)

  pub place_held : (k : ℕ) → position (holds cell) slots ≡ Some k → Some k ≡ index_in slots (place_of cell slots)
  place_held k e =
      let own = own_index k e in
      rw (own_place cell slots k (sym own.0) own.1, lt-ltb k (length slots) own.1)

  pub place_new : position (holds cell) slots ≡ None → index_in slots (new_slot cell.loop_number slots) ≡ index_in slots (place_of cell slots)
  place_new e = rw (new_place cell slots (index_of (holds cell) slots) refl (no_index e))

-- ---- the answer by its number

pub answered_by : (r : Result Unit Refusal) (n : ℕ) → refusal_number r ≡ n → tally_answer r ≡ answered Refused n Done
answered_by (Ok done) n e = rw (← e)
answered_by (Err r) n e = rw (← e) (sym (is_refused_lem Refused Done (number r) (number_some r)))

-- ---- a call that is refused, and one that is not

abbrev pub refused_with : ℕ → Tally → NextTally
refused_with number tally = record { tally = tally; answer = Refused number }

abbrev pub done_with : List Slot → Tally → NextTally
done_with slots tally = record { tally = record { side = tally.side; slots = slots }; answer = Done }

next_refused : (n : ℕ) (slots : List Slot) (tally : Tally) → (n ≡ 0 → ⊥) → refused_with n tally ≡ next n slots tally
next_refused zero slots tally some = absurd (some refl)
next_refused (suc n) slots tally some = refl

-- ---- making

pub made_is :
    (side : ℤ) (slot : Slot) (r : Result Unit Refusal) →
    slot ≡ empty_slot →
    refusal_number r ≡ side_refusal side →
    ◌≡◌ {A = NextTally} (record { tally = record { side = side; slots = replicate slot_count slot }; answer = tally_answer r }) (made side)
unfolding made
made_is side slot r slot_is e = rw (slot_is, answered_by r (side_refusal side) e)

-- ---- the tests of the slots

module _ (cell : LoopCell) (slots : List Slot) where
  -- whether the slot that an add uses has room
  abbrev room : ℕ
  room = unless (not (full (slot_of cell slots))) full_cell 0

  pub slot_full : (r : Refusal) → number r ≡ room → number r ≡ slot_refusal slots cell
  unfolding slot_refusal
  slot_full r e =
      let f = failed (not (full (slot_of cell slots))) full_cell r e in
      rw (f.0) f.1

  has_room : 0 ≡ room → not (full (slot_of cell slots)) ≡ true
  has_room e = (link_passed (not (full (slot_of cell slots))) 42 (sym e)).0

  pub slot_none : 0 ≡ room → index_in slots (place_of cell slots) ≡ None → no_new_slot ≡ slot_refusal slots cell
  unfolding slot_refusal
  slot_none e none = rw (has_room e, le-ltb (place_of cell slots) (length slots) (past_list slots (place_of cell slots) none))

  pub slot_some : 0 ≡ room → (at : ℕ) → index_in slots (place_of cell slots) ≡ Some at → 0 ≡ slot_refusal slots cell
  unfolding slot_refusal
  slot_some e at some =
      let place = in_list slots (place_of cell slots) at some in
      rw (has_room e, place.0, lt-ltb at (length slots) place.1)

-- ---- adding

module _ (tally : Tally) (cell : LoopCell) (reading : Reading) where
  add_refused : (n : ℕ) → (n ≡ 0 → ⊥) → n ≡ add_refusal tally cell reading → refused_with n tally ≡ added tally cell reading
  unfolding added
  add_refused n some e = rw (← e) (next_refused n _ tally some)

  pub bad_cell : (r : Refusal) → number r ≡ named_refusal tally.side cell → refused_with (number r) tally ≡ added tally cell reading
  unfolding add_refusal
  bad_cell r e = add_refused (number r) (number_some r) (rw (← e) (sym (first_given (number r) _ (number_some r))))

  module _ (good-cell : 0 ≡ named_refusal tally.side cell) where
    pub bad_reading : (r : Refusal) → number r ≡ reading_refusal reading → refused_with (number r) tally ≡ added tally cell reading
    unfolding add_refusal
    bad_reading r e = add_refused (number r) (number_some r) (rw (← good-cell, ← e) (sym (first_given (number r) _ (number_some r))))

    module _ (good_reading : 0 ≡ reading_refusal reading) where
      by_slots : slot_refusal tally.slots cell ≡ add_refusal tally cell reading
      unfolding add_refusal
      by_slots = rw (← good-cell, ← good_reading)

      pub bad_slot : (r : Refusal) → number r ≡ slot_refusal tally.slots cell → refused_with (number r) tally ≡ added tally cell reading
      bad_slot r e = add_refused (number r) (number_some r) (e ∙ by_slots)

      pub add_done :
          (at : ℕ) →
          0 ≡ room cell tally.slots →
          index_in tally.slots (place_of cell tally.slots) ≡ Some at →
          done_with (set tally.slots at (with_reading reading cell (slot_of cell tally.slots))) tally ≡ added tally cell reading
      unfolding added
      add_done at e some = rw (← by_slots, ← slot_some cell tally.slots e at some, (in_list tally.slots (place_of cell tally.slots) at some).0)

-- ---- clearing

module _ (tally : Tally) (cell : LoopCell) where
  pub clear_refused : (r : Refusal) → number r ≡ named_refusal tally.side cell → refused_with (number r) tally ≡ cleared tally cell
  unfolding cleared
  clear_refused r e = rw (← e) (next_refused (number r) _ tally (number_some r))

  module _ (good-cell : 0 ≡ named_refusal tally.side cell) where
    pub clear_done :
        (at : ℕ) (slot : Slot) →
        position (holds cell) tally.slots ≡ Some at →
        slot ≡ empty_slot →
        done_with (set tally.slots at slot) tally ≡ cleared tally cell
    unfolding cleared
    clear_done at slot e slot_is = rw (← good-cell, (own_index cell tally.slots at e).0, slot_is)

    pub clear_absent : position (holds cell) tally.slots ≡ None → done_with tally.slots tally ≡ cleared tally cell
    unfolding cleared
    clear_absent e = rw (← good-cell, set_out tally.slots (index_of (holds cell) tally.slots) empty_slot (no_index cell tally.slots e))

  -- ---- reading

  pub read_refused : (r : Refusal) → number r ≡ named_refusal tally.side cell → Unread (number r) ≡ (read_from tally cell).answer
  unfolding read_from
  read_refused r e = rw (← e) (sym (is_refused_lem Unread _ (number r) (number_some r)))

  pub read_done : 0 ≡ named_refusal tally.side cell → sums_in (slot_of cell tally.slots) ≡ (read_from tally cell).answer
  unfolding read_from
  read_done e = rw (← e)
