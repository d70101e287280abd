-- Two histories in which a loop's accepted calls are the same. A call that is refused or of the other loop changes no readings of the loop's cells and
-- not the list of those that have one; so both are what the loop's accepted calls alone give, and the answers to its calls follow from them, but for 44,
-- which how many slots the other loop holds decides too. Assumes nothing.
use mathlib.Core.Path.{◌≡◌, refl, sym, ap, subst, ◌∙◌}
use mathlib.Core.Bool.{Bool, true, false, ◌&&◌, ◌||◌, not}
use mathlib.Core.List.{List, [], ◌∷◌}
use mathlib.Core.Logic.{◌⊎◌, inl, inr}
use Prim.Native.Nat.{ℕ, zero, suc}
use native.Mathlib.Omega.{arith}
use lib.Dec.{eqb, ltb, leb}
use lib.IntN.{ℤ}
use lib.ListN.{length}
use borrow.Author.Tests.{eqb-true}
use Rattle.integers.proofs.Greatest.{both}
use Rattle.units.specs.Refusals.{full_cell, no_new_slot, unless, first_refusal, OneOf}
use Rattle.units.specs.Answers.{answered}
use Rattle.readings.specs.declared.Reading.{Reading}
use Rattle.readings.specs.Readings.{reading_refusal}
use Rattle.slots.specs.declared.LoopCell.{LoopCell}
use Rattle.slots.specs.Slots.{same_cell, most_readings}
use Rattle.shares.specs.Shares.{held_in, granted}
use Rattle.shares.proofs.Rule.{granted_same}
use Rattle.tallies.specs.declared.Tally.{Tally}
use Rattle.tallies.specs.Tallies.{Done, Refused, SumsAnswer, Sums, Unread, is_loop, named_refusal, empty_tally, sums_told, cleared, read_from}
use Rattle.tally_laws.specs.Histories.{Call, adding, clearing, reading, loop_in, changing, telling, answer_of, number_in, number_of, after_all, Answered, history}
use Rattle.tally_laws.specs.Histories.{folded, with_call, readings_of, sum_of, count_of, overloads_of, cells_with, cells_of, held_by, accepted_of}
use Rattle.tally_laws.specs.Theorems.{other_loop, TwoHistories}
use Rattle.tally_laws.proofs.Loops.{one_or_two}
use Rattle.tally_laws.proofs.Calls.{answer_is, other_loops_refused}
use Rattle.tally_laws.proofs.Invariant.{Kept}
use Rattle.tally_laws.proofs.Histories.{last_tests, add_told, from_start}

-- ---- what the loop's accepted calls alone give

all_accepted : List Call → List Answered
all_accepted [] = []
all_accepted (call ∷ calls) = record { call = call; number = 0 } ∷ all_accepted calls

module _ (loop : ℕ) where
  -- an accepted call of the loop
  abbrev pub ours : Call → ℕ → Bool
  ours call number = eqb (loop_in call) loop && eqb number 0

  -- one that is accepted and not the loop's is of another
  other_loop_lem : (call : Call) → ours call 0 ≡ false → eqb (loop_in call) loop ≡ false
  other_loop_lem call e = at (eqb (loop_in call) loop) refl e
    where
      at : (t : Bool) → eqb (loop_in call) loop ≡ t → (t && true) ≡ false → eqb (loop_in call) loop ≡ false
      at true f h = f ∙ h
      at false f h = f

  not_same : (cell other : LoopCell) → cell.loop_number ≡ loop → eqb other.loop_number loop ≡ false → same_cell other cell ≡ false
  unfolding same_cell
  not_same cell other own e = rw (own, e)

  pub not_ours : (cell : LoopCell) → cell.loop_number ≡ loop → (call : Call) (number : ℕ) (rs : List Reading) → ours call number ≡ false →
      with_call cell call number rs ≡ rs
  not_ours cell own (adding other r) zero rs e = rw (not_same cell other own (other_loop_lem (adding other r) e))
  not_ours cell own (clearing other) zero rs e = rw (not_same cell other own (other_loop_lem (clearing other) e))
  not_ours cell own (reading other) zero rs e = refl
  not_ours cell own call (suc number) rs e = refl

  pub not_listed : (call : Call) (number : ℕ) (cells : List LoopCell) → ours call number ≡ false → cells_with loop call number cells ≡ cells
  not_listed (adding other r) zero cells e = rw (other_loop_lem (adding other r) e)
  not_listed (clearing other) zero cells e = rw (other_loop_lem (clearing other) e)
  not_listed (reading other) zero cells e = refl
  not_listed call (suc number) cells e = refl

  -- what a step makes of a history that leaves all as it is at every other call
  own_calls : {A : Type 0} (step : Call → ℕ → A → A) → ((call : Call) (number : ℕ) (x : A) → ours call number ≡ false → step call number x ≡ x) →
      (past : List Answered) (x : A) →
      folded step x past ≡ folded step x (all_accepted (accepted_of loop past))
  unfolding folded accepted_of all_accepted
  own_calls step passes [] x = refl
  own_calls step passes (a ∷ later) x = at (ours a.call a.number) refl (own_calls step passes later)
    where
      at : (t : Bool) → ours a.call a.number ≡ t →
          ((y : _) → folded step y later ≡ folded step y (all_accepted (accepted_of loop later))) →
          folded step x (a ∷ later) ≡ folded step x (all_accepted (accepted_of loop (a ∷ later)))
      at true e rest =
          let accepted = eqb-true a.number 0 (both (eqb (loop_in a.call) loop) (eqb a.number 0) e).1 in
          rw e (rw accepted (rest (step a.call 0 x)))
      at false e rest = rw (e, passes a.call a.number x e) (rest x)

-- ---- the answers

-- a chain that is not answered 44 does not depend on its last test
but_for_44 : (a b : ℕ) (room some one two : Bool) →
    let chain : Bool → ℕ = λ new. first_refusal a (first_refusal b (unless room full_cell (unless (some || new) no_new_slot 0))) in
    (chain one ≡ no_new_slot → ⊥) →
    (chain two ≡ no_new_slot → ⊥) →
    chain one ≡ chain two
but_for_44 (suc a) b room some one two f s = refl
but_for_44 zero (suc b) room some one two f s = refl
but_for_44 zero zero false some one two f s = refl
but_for_44 zero zero true true one two f s = refl
but_for_44 zero zero true false true true f s = refl
but_for_44 zero zero true false false false f s = refl
but_for_44 zero zero true false true false f s = absurd (s refl)
but_for_44 zero zero true false false true f s = absurd (f refl)

-- and one that is answered 44 is answered 0 or 44 whatever its last test
or_accepted : (a b : ℕ) (room some one two : Bool) →
    let chain : Bool → ℕ = λ new. first_refusal a (first_refusal b (unless room full_cell (unless (some || new) no_new_slot 0))) in
    chain one ≡ no_new_slot →
    OneOf (0 ∷ no_new_slot ∷ []) (chain two)
or_accepted (suc a) b room some one two e = inr (inl e)
or_accepted zero (suc b) room some one two e = inr (inl e)
or_accepted zero zero false some one two e = inr (inl e)
or_accepted zero zero true true one two e = inl refl
or_accepted zero zero true false one true e = inl refl
or_accepted zero zero true false one false e = inr (inl refl)

module _ {side : ℤ} {tally : Tally} {rs : LoopCell → List Reading} {cells : ℕ → List LoopCell} (k : Kept side tally rs cells) where
  read_decided : (cell : LoopCell) →
      (read_from tally cell).answer ≡ answered Unread (named_refusal side cell) (Sums (sum_of (rs cell)) (count_of (rs cell)) (overloads_of (rs cell)))
  unfolding read_from
  read_decided cell =
      let h = (k.each cell).holding in
      rw (k.side_is, h.sum_is, h.count_is, h.overloads_is)

  clear_decided : (cell : LoopCell) → answer_of tally (clearing cell) ≡ changing (answered Refused (named_refusal side cell) Done)
  unfolding cleared
  clear_decided cell = rw k.side_is

module _ (side : ℤ) (loop : ℕ) (one two : List Call)
    (same : accepted_of loop (history (empty_tally side) one) ≡ accepted_of loop (history (empty_tally side) two))
  where
    abbrev past_one : List Answered
    past_one = history (empty_tally side) one

    abbrev past_two : List Answered
    past_two = history (empty_tally side) two

    abbrev tally_one : Tally
    tally_one = after_all (empty_tally side) one

    abbrev tally_two : Tally
    tally_two = after_all (empty_tally side) two

    -- a step that leaves all as it is at every call but the loop's accepted ones
    same_folded : {A : Type 0} (step : Call → ℕ → A → A) →
        ((call : Call) (number : ℕ) (x : A) → ours loop call number ≡ false → step call number x ≡ x) →
        (x : A) →
        folded step x past_one ≡ folded step x past_two
    same_folded step passes x =
        own_calls loop step passes past_one x ∙ ap (λ (calls : List Call). folded step x (all_accepted calls)) same ∙ sym (own_calls loop step passes past_two x)

    same_readings : (cell : LoopCell) → cell.loop_number ≡ loop → readings_of cell past_one ≡ readings_of cell past_two
    same_readings cell own = same_folded (with_call cell) (not_ours loop cell own) []

    same_cells : cells_of loop past_one ≡ cells_of loop past_two
    same_cells = same_folded (cells_with loop) (not_listed loop) []

    same_reads : (cell : LoopCell) → cell.loop_number ≡ loop → (read_from tally_one cell).answer ≡ (read_from tally_two cell).answer
    same_reads cell own =
        read_decided (from_start side one) cell
        ∙ ap (λ (rs : List Reading). answered Unread (named_refusal side cell) (Sums (sum_of rs) (count_of rs) (overloads_of rs))) (same_readings cell own)
        ∙ sym (read_decided (from_start side two) cell)

    same_clears : (cell : LoopCell) → answer_of tally_one (clearing cell) ≡ answer_of tally_two (clearing cell)
    same_clears cell = clear_decided (from_start side one) cell ∙ sym (clear_decided (from_start side two) cell)

    -- an add is answered by its number
    by_number : (cell : LoopCell) (r : Reading) → number_of tally_one (adding cell r) ≡ number_of tally_two (adding cell r) →
        answer_of tally_one (adding cell r) ≡ answer_of tally_two (adding cell r)
    by_number cell r e = answer_is tally_one cell r ∙ ap (λ (n : ℕ). changing (answered Refused n Done)) e ∙ sym (answer_is tally_two cell r)

    -- the second number over the first's readings
    second_told : (cell : LoopCell) (r : Reading) → cell.loop_number ≡ loop →
        number_of tally_two (adding cell r)
        ≡ first_refusal (named_refusal side cell)
        (first_refusal (reading_refusal r) (last_tests (length (readings_of cell past_one)) (held_by past_two) cell.loop_number))
    second_told cell r own = add_told (from_start side two) cell r ∙ rw (same_readings cell own)

    same_answers :
        (call : Call) →
        loop_in call ≡ loop →
        (number_of tally_one call ≡ no_new_slot → ⊥) →
        (number_of tally_two call ≡ no_new_slot → ⊥) →
        answer_of tally_one call ≡ answer_of tally_two call
    same_answers (adding cell r) own f s =
        let first = add_told (from_start side one) cell r in
        let second = second_told cell r own in
        by_number cell r
        (first
        ∙ but_for_44 (named_refusal side cell) (reading_refusal r) (not (leb most_readings (length (readings_of cell past_one))))
        (ltb 0 (length (readings_of cell past_one))) (granted (held_by past_one) cell.loop_number) (granted (held_by past_two) cell.loop_number)
        (λ e. f (first ∙ e)) (λ e. s (second ∙ e))
        ∙ sym second)
    same_answers (clearing cell) own f s = same_clears cell
    same_answers (reading cell) own f s = ap telling (same_reads cell own)

    same_refused : (call : Call) → loop_in call ≡ loop → number_of tally_one call ≡ no_new_slot → OneOf (0 ∷ no_new_slot ∷ []) (number_of tally_two call)
    same_refused (adding cell r) own e =
        let n : ℕ = length (readings_of cell past_one) in
        rw (second_told cell r own)
        (or_accepted (named_refusal side cell) (reading_refusal r) (not (leb most_readings n)) (ltb 0 n) (granted (held_by past_one) cell.loop_number)
        (granted (held_by past_two) cell.loop_number) (sym (add_told (from_start side one) cell r) ∙ e))
    same_refused (clearing cell) own e = inr (inl (sym (ap number_in (same_clears cell)) ∙ e))
    same_refused (reading cell) own e = inr (inl (sym (ap (λ (a : SumsAnswer). (sums_told a).refusal) (same_reads cell own)) ∙ e))

    module _ (equal : held_in tally_one.slots (other_loop loop) ≡ held_in tally_two.slots (other_loop loop)) where
      -- by the lists
      same_held : (other : ℕ) → (other ≡ 0 → ⊥) → held_in tally_one.slots other ≡ held_in tally_two.slots other → held_by past_one other ≡ held_by past_two other
      same_held other some e = sym ((from_start side one).sized other some) ∙ e ∙ (from_start side two).sized other some

      same_granted : is_loop loop ≡ true → granted (held_by past_one) loop ≡ granted (held_by past_two) loop
      same_granted ok = at (one_or_two loop ok)
        where
          own : held_by past_one loop ≡ held_by past_two loop
          own = ap length same_cells

          at : (loop ≡ 1) ⊎ (loop ≡ 2) → granted (held_by past_one) loop ≡ granted (held_by past_two) loop
          at (inl e) =
              granted_same (held_by past_one) loop (held_by past_two) own (rw e at own) (same_held 2 (λ z. omega arith) (rw e at equal))
          at (inr e) =
              granted_same (held_by past_one) loop (held_by past_two) own (same_held 1 (λ z. omega arith) (rw e at equal)) (rw e at own)

      same_numbers : (cell : LoopCell) (r : Reading) → cell.loop_number ≡ loop → number_of tally_one (adding cell r) ≡ number_of tally_two (adding cell r)
      same_numbers cell r own = at (is_loop cell.loop_number) refl
        where
          at : (t : Bool) → is_loop cell.loop_number ≡ t → number_of tally_one (adding cell r) ≡ number_of tally_two (adding cell r)
          at true ok =
              let new = subst (λ (n : ℕ). granted (held_by past_one) n ≡ granted (held_by past_two) n) (sym own) (same_granted (sym (ap is_loop own) ∙ ok)) in
              add_told (from_start side one) cell r ∙ rw new (sym (second_told cell r own))
          at false bad =
              (other_loops_refused tally_one (adding cell r) bad).0 ∙ sym (other_loops_refused tally_two (adding cell r) bad).0

      same_answers_all : (call : Call) → loop_in call ≡ loop → answer_of tally_one call ≡ answer_of tally_two call
      same_answers_all (adding cell r) own = by_number cell r (same_numbers cell r own)
      same_answers_all (clearing cell) own = same_clears cell
      same_answers_all (reading cell) own = ap telling (same_reads cell own)

pub two_histories : TwoHistories
two_histories side loop one two same = record {
  reads = same_reads side loop one two same;
  answers = same_answers side loop one two same;
  refused = same_refused side loop one two same;
  answers_all = same_answers_all side loop one two same;
}
