-- The witness of a full cell, with no million computed. As long as a cell has fewer than 10⁶ readings, and no other cell has one, a reading of
-- 1,000 mW is accepted, and adds 10⁹ nW and one to the count; so it goes for any number of them up to 10⁶. Assumes nothing.
use mathlib.Core.Path.{◌≡◌, refl, subst, ◌∙◌}
use mathlib.Core.List.{List, []}
use Prim.Native.Nat.{ℕ, zero, suc, ◌+◌, ◌*◌, ◌≤◌, ◌<◌}
use native.Mathlib.Omega.{arith}
use lib.Dec.{ltb, lit≤}
use lib.IntN.{pos}
use lib.ListN.{length, replicate}
use borrow.Author.Tests.{lt-leb, le-leb}
use Rattle.units.specs.Spans.{within, same}
use Rattle.units.specs.Refusals.{full_cell}
use Rattle.cells.specs.Cells.{accepted_side, numbered, numbers_refusal}
use Rattle.readings.specs.declared.Reading.{Reading}
use Rattle.readings.specs.declared.Reading.TheVariants.{Power, Overloaded}
use Rattle.readings.specs.Readings.{power_refusal, reading_refusal}
use Rattle.readings.proofs.Witnesses.{accepted_witnesses}
use Rattle.slots.specs.declared.LoopCell.{LoopCell}
use Rattle.tallies.specs.declared.Tally.{Tally}
use Rattle.slots.specs.Slots.{most_readings}
use Rattle.shares.proofs.Rule.{second_passes, granted_sure}
use Rattle.tallies.specs.Tallies.{Sums, is_loop, named_refusal, read_from}
use Rattle.tally_laws.specs.Histories.{Call, adding, number_of, after, after_all, sum_of, count_of, overloads_of, without, with_call, cells_with}
use Rattle.tally_witnesses.specs.WitnessTheorems.{cell_at, watt, fresh, FullWitness}
use Rattle.tally_laws.proofs.Cells.{cell_self}
use Rattle.tally_laws.proofs.Sums.{kinds}
use Rattle.tally_laws.proofs.Invariant.{sizes, Kept, start, step}
use Rattle.tally_laws.proofs.Histories.{read_told, add_told}

abbrev cell : LoopCell
cell = cell_at 1 (pos 0) (pos 0)

abbrev call : Call
call = adding cell (Power watt)

-- n readings of 1,000 mW in the cell, and none in another
record Filled (tally : Tally) (n : ℕ) : Type 0 where
  rs : LoopCell → List Reading
  cells : ℕ → List LoopCell
  state : Kept (pos 100_000) tally rs cells
  sum_is : sum_of (rs cell) ≡ 1_000_000_000 * n
  count_is : count_of (rs cell) ≡ n
  overloads_is : overloads_of (rs cell) ≡ 0
  alone : without cell (cells 1) ≡ []
  few : length (cells 1) ≤ 1

empty : Filled fresh 0
unfolding without
empty = record {
  rs = λ c. [];
  cells = λ loop. [];
  state = start (pos 100_000);
  sum_is = refl;
  count_is = refl;
  overloads_is = refl;
  alone = refl;
  few = omega arith;
}

cell_good : named_refusal (pos 100_000) cell ≡ 0
unfolding accepted_side same within numbers_refusal numbered named_refusal is_loop
cell_good = refl

watt_good : power_refusal watt ≡ 0
watt_good = accepted_witnesses.1.0

module _ {tally : Tally} {n : ℕ} (f : Filled tally n) where
  readings_are : length (f.rs cell) ≡ n
  readings_are = omega (arith, kinds (f.rs cell))

  -- one more is accepted below 10⁶, and refused at 10⁶

  accepted : n < most_readings → number_of tally call ≡ 0
  accepted h =
      let sure = granted_sure (sizes f.cells) 1 (omega (arith, f.few)) in
      add_told f.state cell (Power watt) ∙ rw (cell_good, watt_good, readings_are, lt-leb most_readings n h, sure, second_passes (ltb 0 n))

  refused : most_readings ≤ n → (r : Reading) → reading_refusal r ≡ 0 → number_of tally (adding cell r) ≡ full_cell
  refused h r good = add_told f.state cell r ∙ rw (cell_good, good, readings_are, le-leb most_readings n h)

  more : n < most_readings → Filled (after tally call) (suc n)
  unfolding without
  more h = record {
    rs = λ c. with_call c call 0 (f.rs c);
    cells = λ loop. cells_with loop call 0 (f.cells loop);
    state = step f.state call 0 (accepted h);
    sum_is = rw (cell_self cell) (omega (arith, f.sum_is, accepted_witnesses.1.1));
    count_is = rw (cell_self cell) (omega (arith, f.count_is));
    overloads_is = rw (cell_self cell) f.overloads_is;
    alone = rw (cell_self cell, f.alone);
    few = rw f.alone (omega arith);
  }

  told : (read_from tally cell).answer ≡ Sums (1_000_000_000 * n) n 0
  unfolding accepted_side same within numbered is_loop
  told = read_told f.state refl cell refl refl ∙ rw (f.sum_is, f.count_is, f.overloads_is)

filled : (n m k : ℕ) (tally : Tally) → n + m ≡ k → k ≤ most_readings → Filled tally m → Filled (after_all tally (replicate n call)) k
unfolding after_all
filled zero m k tally sum h f = let e : m ≡ k = omega arith in subst (Filled tally) e f
filled (suc n) m k tally sum h f = filled n (suc m) k (after tally call) (omega arith) h (more f (omega arith))

full_state : Filled (after_all fresh (replicate 1_000_000 call)) 1_000_000
full_state = filled 1_000_000 0 1_000_000 fresh refl (lit≤ tt) empty

pub full_witness : FullWitness
full_witness =
    let f = full_state in
    (told f, refused f (lit≤ tt) (Power watt) watt_good, refused f (lit≤ tt) (Overloaded watt) watt_good)
