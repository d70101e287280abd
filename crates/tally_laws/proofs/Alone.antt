-- A loop's accepted calls, made again on a tally of their own, are all accepted: the readings of its cells and their list are the same at each of them,
-- and of the other loop no slot is held, so that no more is held beyond 96. Assumes nothing.
use mathlib.Core.Path.{◌≡◌, refl, sym, ap, subst, ◌∙◌}
use mathlib.Core.Bool.{Bool, true, false, ◌||◌, not}
use mathlib.Core.List.{List, [], ◌∷◌}
use mathlib.Core.Logic.{◌⊎◌, inl, inr}
use Prim.Native.Nat.{ℕ, ◌≤◌}
use native.Mathlib.Omega.{arith}
use lib.Dec.{eqb, ltb, leb}
use lib.IntN.{ℤ}
use lib.ListN.{length}
use borrow.Author.Tests.{eqb-true}
use Rattle.integers.proofs.Greatest.{both}
use Rattle.units.proofs.Chains.{link_passed, both_passed}
use Rattle.readings.specs.declared.Reading.{Reading}
use Rattle.readings.specs.Readings.{reading_refusal}
use Rattle.slots.specs.declared.LoopCell.{LoopCell}
use Rattle.slots.specs.Slots.{most_readings}
use Rattle.shares.specs.Shares.{beyond, granted}
use Rattle.shares.proofs.Rule.{beyond_is, granted_fewer}
use Rattle.tallies.specs.declared.Tally.{Tally}
use Rattle.tallies.specs.Tallies.{is_loop, named_refusal, empty_tally}
use Rattle.tally_laws.specs.Histories.{Call, adding, clearing, reading, loop_in, number_of, after, history, with_call, cells_with, accepted_of}
use Rattle.tally_laws.specs.Theorems.{LoopAlone}
use Rattle.tally_laws.proofs.Loops.{one_or_two}
use Rattle.tally_laws.proofs.Calls.{loop_passed, cell_decides}
use Rattle.tally_laws.proofs.Invariant.{sizes, Kept, start, step}
use Rattle.tally_laws.proofs.Histories.{add_told}
use Rattle.tally_laws.proofs.TwoHistories.{ours, not_ours, not_listed, two_histories}

-- of two tests one passes still where the second does
either : (t : Bool) {one two : Bool} → (one ≡ true → two ≡ true) → (t || one) ≡ true → (t || two) ≡ true
either true h e = refl
either false h e = h e

module _ (side : ℤ) (loop : ℕ) where
  -- a tally, and one on which the loop is alone
  record Beside (tally alone : Tally) : Type 0 where
    rs : LoopCell → List Reading
    cells : ℕ → List LoopCell
    kept : Kept side tally rs cells
    alone_rs : LoopCell → List Reading
    alone_cells : ℕ → List LoopCell
    alone_kept : Kept side alone alone_rs alone_cells
    same_readings : (cell : LoopCell) → cell.loop_number ≡ loop → rs cell ≡ alone_rs cell
    same_cells : cells loop ≡ alone_cells loop
    no_others : (other : ℕ) → eqb loop other ≡ false → alone_cells other ≡ []

  begun : Beside (empty_tally side) (empty_tally side)
  begun = record {
    rs = λ cell. [];
    cells = λ other. [];
    kept = start side;
    alone_rs = λ cell. [];
    alone_cells = λ other. [];
    alone_kept = start side;
    same_readings = λ cell own. refl;
    same_cells = refl;
    no_others = λ other differs. refl;
  }

  module _ {tally alone : Tally} (b : Beside tally alone) where
    -- no more is held beyond 96 where the loop is alone
    fewer : is_loop loop ≡ true → beyond (sizes b.alone_cells) ≤ beyond (sizes b.cells)
    fewer ok = at (one_or_two loop ok)
      where
        own : sizes b.cells loop ≡ sizes b.alone_cells loop
        own = ap length b.same_cells

        none : (other : ℕ) → eqb loop other ≡ false → sizes b.alone_cells other ≡ 0
        none other differs = ap length (b.no_others other differs)

        at : (loop ≡ 1) ⊎ (loop ≡ 2) → beyond (sizes b.alone_cells) ≤ beyond (sizes b.cells)
        at (inl e) = omega (arith, beyond_is (sizes b.cells), beyond_is (sizes b.alone_cells), rw e at own, none 2 (rw e))
        at (inr e) = omega (arith, beyond_is (sizes b.cells), beyond_is (sizes b.alone_cells), rw e at own, none 1 (rw e))

    new_granted : (cell : LoopCell) → cell.loop_number ≡ loop → is_loop cell.loop_number ≡ true →
        granted (sizes b.cells) cell.loop_number ≡ true →
        granted (sizes b.alone_cells) cell.loop_number ≡ true
    new_granted cell own ok g =
        subst (λ (n : ℕ). granted (sizes b.alone_cells) n ≡ true) (sym own)
        (granted_fewer (sizes b.cells) loop (sizes b.alone_cells) (ap length b.same_cells) (fewer (sym (ap is_loop own) ∙ ok)) (rw own at g))

    -- an accepted call of the loop is accepted there too
    alone_accepted : (call : Call) → loop_in call ≡ loop → number_of tally call ≡ 0 → number_of alone call ≡ 0
    alone_accepted (adding cell r) own e =
        let n : ℕ = length (b.rs cell) in
        let first = both_passed (named_refusal side cell) _ (sym (add_told b.kept cell r) ∙ e) in
        let second = both_passed (reading_refusal r) _ first.1 in
        let third = link_passed (not (leb most_readings n)) 42 second.1 in
        let fourth = link_passed (ltb 0 n || granted (sizes b.cells) cell.loop_number) 43 third.1 in
        let ok = loop_passed (empty_tally side) cell first.0 in
        let slot = either (ltb 0 n) (new_granted cell own ok) fourth.0 in
        add_told b.alone_kept cell r ∙ rw (first.0, second.0, sym (b.same_readings cell own), third.0, slot)
    alone_accepted (clearing cell) own e =
        (cell_decides alone cell).0 ∙ ap (λ (z : ℤ). named_refusal z cell) (b.alone_kept.side_is ∙ sym b.kept.side_is) ∙ sym (cell_decides tally cell).0 ∙ e
    alone_accepted (reading cell) own e =
        (cell_decides alone cell).1 ∙ ap (λ (z : ℤ). named_refusal z cell) (b.alone_kept.side_is ∙ sym b.kept.side_is) ∙ sym (cell_decides tally cell).1 ∙ e

    -- both go on
    together : (call : Call) → loop_in call ≡ loop → number_of tally call ≡ 0 → Beside (after tally call) (after alone call)
    together call own e = record {
      rs = λ cell. with_call cell call 0 (b.rs cell);
      cells = λ other. cells_with other call 0 (b.cells other);
      kept = step b.kept call 0 e;
      alone_rs = λ cell. with_call cell call 0 (b.alone_rs cell);
      alone_cells = λ other. cells_with other call 0 (b.alone_cells other);
      alone_kept = step b.alone_kept call 0 (alone_accepted call own e);
      same_readings = λ cell c. ap (with_call cell call 0) (b.same_readings cell c);
      same_cells = ap (cells_with loop call 0) b.same_cells;
      no_others = λ other differs.
          ap (cells_with other call 0) (b.no_others other differs) ∙ not_listed other call 0 [] (rw (ap (λ (n : ℕ). eqb n other) own ∙ differs));
    }

    -- any other call changes nothing for the loop
    passed_over : (call : Call) → ours loop call (number_of tally call) ≡ false → Beside (after tally call) alone
    passed_over call e = record {
      rs = λ cell. with_call cell call (number_of tally call) (b.rs cell);
      cells = λ other. cells_with other call (number_of tally call) (b.cells other);
      kept = step b.kept call (number_of tally call) refl;
      alone_rs = b.alone_rs;
      alone_cells = b.alone_cells;
      alone_kept = b.alone_kept;
      same_readings = λ cell c. not_ours loop cell c call (number_of tally call) (b.rs cell) e ∙ b.same_readings cell c;
      same_cells = not_listed loop call (number_of tally call) (b.cells loop) e ∙ b.same_cells;
      no_others = b.no_others;
    }

  same_accepted : (calls : List Call) (tally alone : Tally) → Beside tally alone →
      accepted_of loop (history tally calls) ≡ accepted_of loop (history alone (accepted_of loop (history tally calls)))
  unfolding history accepted_of
  same_accepted [] tally alone b = refl
  same_accepted (call ∷ calls) tally alone b = at (ours loop call (number_of tally call)) refl (same_accepted calls)
    where
      at : (t : Bool) → ours loop call (number_of tally call) ≡ t →
          ((tally alone : Tally) → Beside tally alone →
          accepted_of loop (history tally calls) ≡ accepted_of loop (history alone (accepted_of loop (history tally calls)))) →
          accepted_of loop (history tally (call ∷ calls)) ≡ accepted_of loop (history alone (accepted_of loop (history tally (call ∷ calls))))
      at true e rest =
          let each = both (eqb (loop_in call) loop) (eqb (number_of tally call) 0) e in
          let own = eqb-true (loop_in call) loop each.0 in
          let zero-told = eqb-true (number_of tally call) 0 each.1 in
          let again = alone_accepted b call own zero-told in
          rw (e, each.0, again) (ap (λ (later : List Call). call ∷ later) (rest (after tally call) (after alone call) (together b call own zero-told)))
      at false e rest = rw e (rest (after tally call) alone (passed_over b call e))

pub loop_alone : LoopAlone
loop_alone side loop calls =
    let again = same_accepted side loop calls (empty_tally side) (empty_tally side) (begun side loop) in
    (sym again, two_histories side loop calls _ again)
