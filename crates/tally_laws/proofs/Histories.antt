-- After any calls. What holds before and after each call holds after all of them; what a read answers and what an add is answered follow from it. A
-- cell's slot holds its readings, so it is full where they are 10⁶. A cell without a reading has no slot; then the rule decides, and where it gives one
-- there is a free slot, since the lists of the two loops and the free slots are 256 together. Assumes nothing.
use mathlib.Core.Path.{◌≡◌, refl, sym, ap, ◌∙◌}
use mathlib.Core.Bool.{Bool, true, false, not, ◌||◌}
use mathlib.Core.List.{List, [], ◌∷◌}
use mathlib.Core.Logic.{◌↔◌}
use Prim.Native.Nat.{ℕ, ◌≤◌}
use native.Mathlib.Omega.{arith}
use lib.Dec.{ltb, leb}
use lib.IntN.{ℤ, nat_abs}
use lib.ListN.{length}
use borrow.Author.Tests.{lt-ltb, le-ltb, ltb-true, ltb-false, leb-true, leb-false}
use Rattle.integers.proofs.Greatest.{not_both}
use Rattle.units.specs.Refusals.{out_of_limits, power_not_finite, power_out_of_limits, full_cell, no_new_slot, bad_loop, unless, first_refusal}
use Rattle.units.proofs.Chains.{Gives, chain, is_among}
use Rattle.cells.specs.Cells.{accepted_side, numbered, numbers_refusal}
use Rattle.readings.specs.declared.Reading.{Reading}
use Rattle.readings.specs.Readings.{power_refusal, reading_refusal}
use Rattle.slots.specs.declared.LoopCell.{LoopCell}
use Rattle.slots.specs.declared.Slot.{Slot}
use Rattle.tallies.specs.declared.Tally.{Tally}
use Rattle.slots.specs.Slots.{empty_slot, free, holds, index_of, most_readings}
use Rattle.shares.specs.Shares.{passing, held_in, sure_slots, shared_slots, beyond, granted, new_slot, place_of}
use Rattle.shares.proofs.Places.{own_place, new_place}
use Rattle.shares.proofs.Rule.{beyond_is, granted_not, granted_sure, granted_refused}
use Rattle.tallies.specs.Tallies.{Sums, is_loop, named_refusal, slot_refusal, add_refusal, empty_tally, read_from}
use Rattle.tally_laws.specs.Histories.{Call, adding, number_of, after, after_all, Answered, history, folded, with_call, readings_of}
use Rattle.tally_laws.specs.Histories.{sum_of, count_of, overloads_of, cells_with, cells_of, held_by, add_number}
use Rattle.tally_laws.specs.Theorems.{some_of, HistoryRule, AddDecided, AddRefusedExactly, OneSlot, HeldSlots, FreeWhereGranted, SureOfSlots, SumsBounded}
use Rattle.tally_laws.proofs.Lists.{Found, found}
use Rattle.tally_laws.proofs.Lists.Found.{nowhere, somewhere}
use Rattle.tally_laws.proofs.Loops.{loop_some, granted_room}
use Rattle.tally_laws.proofs.Placing.{new_granted, new_refused}
use Rattle.tally_laws.proofs.Sums.{full_is, sum_bounded}
use Rattle.tally_laws.proofs.Calls.{number_is, other_loops_refused}
use Rattle.tally_laws.proofs.Invariant.{sizes, Kept, start, granted_listed, step}

-- ---- the last two tests of an add, of n readings of the cell, where the loops hold so many

-- the number that they give
abbrev pub last_tests : ℕ → (ℕ → ℕ) → ℕ → ℕ
last_tests n held loop = unless (not (leb most_readings n)) full_cell (unless (ltb 0 n || granted held loop) no_new_slot 0)

-- where each of its numbers is given
by_tests :
    (n number : ℕ) (held : ℕ → ℕ) (loop : ℕ) →
    n ≤ most_readings →
    number ≡ last_tests n held loop →
    ((number ≡ full_cell) ↔ (n ≡ most_readings))
    × ((number ≡ no_new_slot) ↔ ((n ≡ 0) × (sure_slots ≤ held loop) × (shared_slots ≤ beyond held)))
by_tests n number held loop few e = at (leb most_readings n) (ltb 0 n) (granted held loop) refl refl refl
  where
    at :
        (full some new : Bool) →
        leb most_readings n ≡ full →
        ltb 0 n ≡ some →
        granted held loop ≡ new →
        ((number ≡ full_cell) ↔ (n ≡ most_readings))
        × ((number ≡ no_new_slot) ↔ ((n ≡ 0) × (sure_slots ≤ held loop) × (shared_slots ≤ beyond held)))
    at true some new f s g =
        let given : number ≡ full_cell = e ∙ rw f in
        let reached = leb-true most_readings n f in
        ((λ h. omega arith, λ h. given), (λ h. let z : ⊥ = omega arith in absurd z, λ h. omega (arith, h.0)))
    at false true new f s g =
        let given : number ≡ 0 = e ∙ rw (f, s) in
        let room = leb-false most_readings n f in
        let any = ltb-true 0 n s in
        ((λ h. omega arith, λ h. omega arith), (λ h. let z : ⊥ = omega arith in absurd z, λ h. omega (arith, h.0)))
    at false false true f s g =
        let given : number ≡ 0 = e ∙ rw (f, s, g) in
        let room = leb-false most_readings n f in (
          (λ h. omega arith, λ h. omega arith),
          (λ h. let z : ⊥ = omega arith in absurd z, λ h. absurd (not_both g (granted_refused held loop h.1 h.2))),
        )
    at false false false f s g =
        let given : number ≡ no_new_slot = e ∙ rw (f, s, g) in
        let room = leb-false most_readings n f in
        let none = ltb-false 0 n s in
        ((λ h. omega arith, λ h. omega arith), (λ h. let many = granted_not held loop g in (omega arith, many.0, many.1), λ h. given))

-- 44 is not given where the rule gives a slot
granted_accepted :
    (n : ℕ) (held : ℕ → ℕ) (loop : ℕ) (side : ℤ) (cell : LoopCell) (r : Reading) →
    granted held loop ≡ true →
    first_refusal (named_refusal side cell) (first_refusal (reading_refusal r) (last_tests n held loop)) ≡ no_new_slot →
    ⊥
unfolding named_refusal numbers_refusal power_refusal
granted_accepted n held loop side cell r g e = at (ltb 0 n) refl
  where
    others : List ℕ
    others = 0 ∷ bad_loop ∷ out_of_limits ∷ power_not_finite ∷ power_out_of_limits ∷ full_cell ∷ []

    none : (t : Bool) → first_refusal (named_refusal side cell) (first_refusal (reading_refusal r) (unless t full_cell 0)) ≡ no_new_slot → ⊥
    none t e =
        let g : Gives others (first_refusal (named_refusal side cell) (first_refusal (reading_refusal r) (unless t full_cell 0))) = search chain depth 40 in
        not_both (is_among others no_new_slot (rw e at g.one)) refl

    at : (some : Bool) → ltb 0 n ≡ some → ⊥
    at true s = none (not (leb most_readings n)) (rw s at e)
    at false s = none (not (leb most_readings n)) (rw (s, g) at e)

none_left : {A : Type 0} (xs : List A) → length xs ≡ 0 → xs ≡ []
none_left [] e = refl
none_left (x ∷ xs) e = let z : ⊥ = omega arith in absurd z

module _ {side : ℤ} {tally : Tally} {rs : LoopCell → List Reading} {cells : ℕ → List LoopCell} (k : Kept side tally rs cells) where
  pub read_told :
      accepted_side side ≡ true →
      (cell : LoopCell) →
      is_loop cell.loop_number ≡ true →
      numbered (nat_abs side) cell.east cell.north ≡ true →
      (read_from tally cell).answer ≡ Sums (sum_of (rs cell)) (count_of (rs cell)) (overloads_of (rs cell))
  unfolding read_from named_refusal numbers_refusal
  read_told ok cell good inside =
      let h = (k.each cell).holding in
      rw (k.side_is, good, ok, inside, h.sum_is, h.count_is, h.overloads_is)

  -- a free slot, where the rule gives one
  pub free_where_granted_kept : (loop : ℕ) → is_loop loop ≡ true → granted (sizes cells) loop ≡ true → 1 ≤ passing free tally.slots
  free_where_granted_kept loop ok g = omega (arith, granted_room (sizes cells) loop ok k.few g, k.all)

  -- a slot for the cell
  module _ (cell : LoopCell) (ok : is_loop cell.loop_number ≡ true) where
    abbrev slots : List Slot
    slots = tally.slots

    abbrev loop : ℕ
    loop = cell.loop_number

    -- a new one
    new_is : length slots ≤ index_of (holds cell) slots → ltb (place_of cell slots) (length slots) ≡ granted (sizes cells) loop
    new_is end = rw (new_place cell slots _ refl end) (at (granted (held_in slots) loop) refl (found free slots empty_slot)) ∙ granted_listed k loop ok
      where
        at : (t : Bool) → granted (held_in slots) loop ≡ t → Found free slots empty_slot → ltb (new_slot loop slots) (length slots) ≡ granted (held_in slots) loop
        at true g (somewhere _ in_List _) = rw (new_granted loop slots g, g) (lt-ltb _ _ in_List)
        at true g (nowhere none _) =
            let some = free_where_granted_kept loop ok (sym (granted_listed k loop ok) ∙ g) in
            let z : ⊥ = omega arith in
            absurd z
        at false g _ = rw (new_refused loop slots g, g) (le-ltb (length slots) (length slots) (omega arith))

    place_is : ltb (place_of cell slots) (length slots) ≡ (ltb 0 (length (rs cell)) || granted (sizes cells) loop)
    place_is = at (found (holds cell) slots empty_slot) (rs cell) (k.each cell).held
      where
        at : Found (holds cell) slots empty_slot → (all : List Reading) → passing (holds cell) slots ≡ some_of all →
            ltb (place_of cell slots) (length slots) ≡ (ltb 0 (length all) || granted (sizes cells) loop)
        at (somewhere _ in_List _) (r ∷ all) e =
            rw (own_place cell slots _ refl in_List, lt-ltb 0 (length (r ∷ all)) (omega arith)) (lt-ltb _ (length slots) in_List)
        at (somewhere some _ _) [] e = let z : ⊥ = omega arith in absurd z
        at (nowhere none _) (r ∷ all) e = let z : ⊥ = omega arith in absurd z
        at (nowhere _ end) [] e = new_is end

  pub add_told :
      (cell : LoopCell) (r : Reading) →
      number_of tally (adding cell r)
      ≡ first_refusal (named_refusal side cell) (first_refusal (reading_refusal r) (last_tests (length (rs cell)) (sizes cells) cell.loop_number))
  unfolding add_refusal slot_refusal named_refusal
  add_told cell r = number_is tally (adding cell r) ∙ rw (k.side_is, full_is (k.each cell).holding) (at (is_loop cell.loop_number) refl)
    where
      n : ℕ
      n = length (rs cell)

      at : (t : Bool) → is_loop cell.loop_number ≡ t →
          first_refusal (named_refusal side cell)
          (first_refusal (reading_refusal r)
          (unless (not (leb most_readings n)) full_cell (unless (ltb (place_of cell tally.slots) (length tally.slots)) no_new_slot 0)))
          ≡ first_refusal (named_refusal side cell) (first_refusal (reading_refusal r) (last_tests n (sizes cells) cell.loop_number))
      at true ok = rw (place_is cell ok)
      at false bad = rw bad

  pub add_exactly :
      (cell : LoopCell) (r : Reading) →
      named_refusal side cell ≡ 0 →
      reading_refusal r ≡ 0 →
      ((number_of tally (adding cell r) ≡ full_cell) ↔ (length (rs cell) ≡ most_readings))
      × ((number_of tally (adding cell r) ≡ no_new_slot)
      ↔ ((rs cell ≡ []) × (sure_slots ≤ sizes cells cell.loop_number) × (shared_slots ≤ beyond (sizes cells))))
  add_exactly cell r good-cell good_reading =
      let given =
      by_tests (length (rs cell)) (number_of tally (adding cell r)) (sizes cells) cell.loop_number (k.each cell).holding.few
      (add_told cell r ∙ rw (good-cell, good_reading))
      in
      let exactly = given.1 in
      (given.0, (λ h. let all = exactly.0 h in (none_left (rs cell) all.0, all.1, all.2), λ h. exactly.1 (ap length h.0, h.1, h.2)))

-- ---- any calls

all_kept :
    {side : ℤ} (calls : List Call) (tally : Tally) (rs : LoopCell → List Reading) (cells : ℕ → List LoopCell) →
    Kept side tally rs cells →
    Kept side (after_all tally calls) (λ cell. folded (with_call cell) (rs cell) (history tally calls)) (λ loop. folded (cells_with loop) (cells loop) (history tally calls))
unfolding after_all history folded
all_kept [] tally rs cells k = k
all_kept (call ∷ calls) tally rs cells k = all_kept calls (after tally call) _ _ (step k call (number_of tally call) refl)

module _ (side : ℤ) (calls : List Call) where
  abbrev past : List Answered
  past = history (empty_tally side) calls

  pub from_start : Kept side (after_all (empty_tally side) calls) (λ cell. readings_of cell past) (λ loop. cells_of loop past)
  from_start = all_kept calls (empty_tally side) (λ cell. []) (λ loop. []) (start side)

pub history_rule : HistoryRule
history_rule side ok calls cell good inside = read_told (from_start side calls) ok cell good inside

pub add_decided : AddDecided
unfolding add_number
add_decided side calls cell r = add_told (from_start side calls) cell r

pub add_refused_exactly : AddRefusedExactly
add_refused_exactly side calls cell r = add_exactly (from_start side calls) cell r

pub one_slot : OneSlot
one_slot side calls cell =
    let e = (from_start side calls).each cell in
    (e.held, e.listed)

pub held_slots : HeldSlots
held_slots side calls =
    let k = from_start side calls in
    let slots = (after_all (empty_tally side) calls).slots in
    let one = k.sized 1 (λ z. omega arith) in
    let two = k.sized 2 (λ z. omega arith) in (
      λ loop ok. k.sized loop (loop_some ok),
      omega (arith, one, two, k.all),
      omega (arith, one, two, k.few, beyond_is (held_in slots), beyond_is (sizes (λ loop. cells_of loop (past side calls)))),
    )

pub free_where_granted : FreeWhereGranted
free_where_granted side calls loop ok g =
    let k = from_start side calls in
    free_where_granted_kept k loop ok (sym (granted_listed k loop ok) ∙ g)

pub sure_of_slots : SureOfSlots
sure_of_slots side calls cell r few e = at (is_loop cell.loop_number) refl
  where
    tally : Tally
    tally = after_all (empty_tally side) calls

    at : (t : Bool) → is_loop cell.loop_number ≡ t → ⊥
    at true ok =
        let k = from_start side calls in
        let g = sym (granted_listed k cell.loop_number ok) ∙ granted_sure (held_in tally.slots) cell.loop_number few in
        granted_accepted (length (readings_of cell (past side calls))) (held_by (past side calls)) cell.loop_number side cell r g
        (sym (add_told k cell r) ∙ e)
    at false bad = omega (arith, (other_loops_refused tally (adding cell r) bad).0, e)

pub sums_bounded : SumsBounded
sums_bounded side calls cell =
    let h = ((from_start side calls).each cell).holding in
    (h.few, sum_bounded h)
