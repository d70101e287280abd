-- What holds of a tally, the readings of each cell and for each loop the list of its cells that have one, before and after every call. A refused call
-- changes none of them. An accepted add or a clear changes one cell's slot, readings and place in its loop's list, and of each as much: a cell that gets
-- its first reading takes a free slot and enters the list, which the rule gives it, and one that is cleared frees its slot and leaves the list. Assumes
-- nothing.
use mathlib.Core.Path.{◌≡◌, refl, sym, ap, subst, ◌∙◌}
use mathlib.Core.Bool.{Bool, true, false, cond}
use mathlib.Core.List.{List, [], ◌∷◌}
use mathlib.Core.Logic.{◌⊎◌, inl, inr}
use Prim.Native.Nat.{ℕ, zero, suc, ◌+◌, ◌≤◌}
use native.Mathlib.Omega.{arith}
use lib.Dec.{eqb}
use lib.IntN.{ℤ}
use lib.ListN.{length, replicate}
use borrow.Author.Tests.{eq-eqb, ne_eqb, eqb-true}
use Rattle.readings.specs.declared.Reading.{Reading}
use Rattle.slots.specs.declared.LoopCell.{LoopCell}
use Rattle.slots.specs.declared.Slot.{Slot}
use Rattle.tallies.specs.declared.Tally.{Tally}
use Rattle.slots.specs.Slots.{slot_count, empty_slot, free, same_cell, holds, slot_of, with_reading}
use Rattle.shares.specs.Shares.{passing, of_loop, held_in, shared_slots, beyond, granted}
use Rattle.shares.proofs.Counting.{bit}
use Rattle.shares.proofs.Rule.{beyond_is, granted_same}
use Rattle.tallies.specs.Tallies.{is_loop, empty_tally, added, cleared, read_from}
use Rattle.tally_laws.specs.Histories.{Call, adding, clearing, reading, number_of, after, with_call, without, cells_with}
use Rattle.tally_laws.specs.Theorems.{some_of}
use Rattle.tally_laws.proofs.Lists.{passing_alike}
use Rattle.tally_laws.proofs.Cells.{cell_equal, is, Relisted, dropped, put_first}
use Rattle.tally_laws.proofs.Loops.{loop_some, both_changed, within_rule}
use Rattle.tally_laws.proofs.Slots.{Placed, empty_free, empty_not_held, empty_slot_lem}
use Rattle.tally_laws.proofs.Placing.{reading_held, place_granted, add_placed, clear_placed}
use Rattle.tally_laws.proofs.Sums.{Holding, holding_none, holding_more}
use Rattle.tally_laws.proofs.Calls.{number_is, refused_unchanged, loop_passed, passed, add_slots, clear_slots}

-- of a cell: it has a slot and stands in its loop's list where it has readings, and only once; and the slot holds them
pub record Each (slots : List Slot) (rs : List Reading) (cells : List LoopCell) (cell : LoopCell) : Type 0 where
  pub held : passing (holds cell) slots ≡ some_of rs
  pub listed : passing (is cell) cells ≡ some_of rs
  pub holding : Holding rs (slot_of cell slots)

-- how many cells each list has
abbrev pub sizes : (ℕ → List LoopCell) → ℕ → ℕ
sizes cells loop = length (cells loop)

-- of a tally, the readings of each cell and each loop's list of the cells that have one
pub record Kept (side : ℤ) (tally : Tally) (rs : LoopCell → List Reading) (cells : ℕ → List LoopCell) : Type 0 where
  pub side_is : tally.side ≡ side
  pub sized : (loop : ℕ) → (loop ≡ 0 → ⊥) → held_in tally.slots loop ≡ sizes cells loop
  pub all : (sizes cells 1 + sizes cells 2) + passing free tally.slots ≡ slot_count
  pub few : beyond (sizes cells) ≤ shared_slots
  pub each : (cell : LoopCell) → Each tally.slots (rs cell) (cells cell.loop_number) cell

none_listed : (cell : LoopCell) → passing (is cell) [] ≡ 0
unfolding passing
none_listed cell = refl

none_of_loop : (loop : ℕ) → (loop ≡ 0 → ⊥) → of_loop loop empty_slot ≡ false
unfolding of_loop
none_of_loop loop some = ne_eqb 0 loop (λ z. some (sym z))

pub start : (side : ℤ) → Kept side (empty_tally side) (λ cell. []) (λ loop. [])
start side =
    let frees = passing_alike free slot_count empty_slot true (empty_free refl) in
    record {
      side_is = refl;
      sized = λ loop some. passing_alike (of_loop loop) slot_count empty_slot false (none_of_loop loop some);
      all = ap (λ (n : ℕ). 0 + n) frees;
      few = omega (arith, beyond_is (sizes (λ loop. [])));
      each = λ cell.
          let none = passing_alike (holds cell) slot_count empty_slot false (empty_not_held cell) in
          record { held = none; listed = none_listed cell; holding = rw (empty_slot_lem cell (replicate slot_count empty_slot) none) holding_none };
    }

some_most : (rs : List Reading) → some_of rs ≤ 1
some_most [] = omega arith
some_most (r ∷ rs) = omega arith

module _ {side : ℤ} {tally : Tally} {rs : LoopCell → List Reading} {cells : ℕ → List LoopCell} (k : Kept side tally rs cells) where
  at_most_one : (cell : LoopCell) → passing (holds cell) tally.slots ≤ 1
  at_most_one cell = rw (k.each cell).held (some_most (rs cell))

  -- the rule decides by the lists as by the slots
  pub granted_listed : (loop : ℕ) → is_loop loop ≡ true → granted (held_in tally.slots) loop ≡ granted (sizes cells) loop
  granted_listed loop ok =
      granted_same (held_in tally.slots) loop (sizes cells) (k.sized loop (loop_some ok)) (k.sized 1 (λ z. omega arith)) (k.sized 2 (λ z. omega arith))

  -- one cell's slot, readings and place in its loop's list
  module _ (next : Tally) (cell : LoopCell) (slot : Slot) (new : LoopCell → List Reading) (new-cells : ℕ → List LoopCell) where
    abbrev loop : ℕ
    loop = cell.loop_number

    abbrev next_cells : ℕ → List LoopCell
    next_cells other = cond (eqb loop other) (new-cells other) (cells other)

    -- the call's changes, each as the callee states it
    record Changed : Type 0 where
      ok : is_loop loop ≡ true
      side_kept : next.side ≡ tally.side
      placed : Placed cell tally.slots next.slots slot
      relisted : Relisted cell (cells loop) (new-cells loop) (some_of (new cell))
      now_holding : Holding (new cell) slot
      now_held : bit (holds cell slot) ≡ some_of (new cell)
      by_rule : (some_of (new cell) ≤ passing (holds cell) tally.slots) ⊎ (granted (held_in tally.slots) loop ≡ true)

    own_list : next_cells loop ≡ new-cells loop
    own_list = rw (eq-eqb loop loop refl)

    other_lists : (other : ℕ) → eqb loop other ≡ false → next_cells other ≡ cells other
    other_lists other e = rw e

    module _ (c : Changed) where
      -- how much longer the loop's list is
      longer : sizes next_cells loop + passing (holds cell) tally.slots ≡ sizes cells loop + some_of (new cell)
      longer = rw own_list (omega (arith, c.relisted.size, (k.each cell).held, (k.each cell).listed))

      new_sized : (other : ℕ) → (other ≡ 0 → ⊥) → held_in next.slots other ≡ sizes next_cells other
      new_sized other some = at (eqb loop other) refl
        where
          at : (t : Bool) → eqb loop other ≡ t → held_in next.slots other ≡ sizes next_cells other
          at true e =
              let own = c.placed.own_held (loop_some c.ok) in
              let same : held_in next.slots loop ≡ sizes next_cells loop = omega (arith, own, longer, c.now_held, k.sized loop (loop_some c.ok)) in
              subst (λ (n : ℕ). held_in next.slots n ≡ sizes next_cells n) (eqb-true loop other e) same
          at false e = c.placed.others_held other some e ∙ k.sized other some ∙ ap length (sym (other_lists other e))

      same_sizes : (other : ℕ) → eqb loop other ≡ false → sizes next_cells other ≡ sizes cells other
      same_sizes other e = ap length (other_lists other e)

      new_all : (sizes next_cells 1 + sizes next_cells 2) + passing free next.slots ≡ slot_count
      new_all =
          let total = both_changed (sizes cells) (sizes next_cells) loop c.ok same_sizes (some_of (new cell)) (passing (holds cell) tally.slots) longer in
          omega (arith, total, c.placed.frees, c.now_held, k.all)

      new_few : beyond (sizes next_cells) ≤ shared_slots
      new_few = within_rule (sizes cells) (sizes next_cells) loop c.ok same_sizes k.few (at c.by_rule)
        where
          at : (some_of (new cell) ≤ passing (holds cell) tally.slots) ⊎ (granted (held_in tally.slots) loop ≡ true) →
              (sizes next_cells loop ≤ sizes cells loop)
              ⊎ ((sizes next_cells loop ≤ suc (sizes cells loop)) × (granted (sizes cells) loop ≡ true))
          at (inl h) = inl (omega (arith, longer))
          at (inr g) = inr (omega (arith, longer, some_most (new cell)), sym (granted_listed loop c.ok) ∙ g)

      own : Each next.slots (new cell) (new-cells loop) cell
      own = record { held = c.placed.own ∙ c.now_held; listed = c.relisted.own; holding = rw c.placed.own_slot c.now_holding }

      other_listed : (other : LoopCell) → same_cell cell other ≡ false → passing (is other) (next_cells other.loop_number) ≡ some_of (rs other)
      other_listed other e = at (eqb loop other.loop_number) refl ∙ (k.each other).listed
        where
          at : (t : Bool) → eqb loop other.loop_number ≡ t →
              passing (is other) (next_cells other.loop_number) ≡ passing (is other) (cells other.loop_number)
          at true same =
              subst (λ (n : ℕ). passing (is other) (next_cells n) ≡ passing (is other) (cells n)) (eqb-true loop other.loop_number same)
              (rw own_list (c.relisted.others other e))
          at false differs = ap (passing (is other)) (other_lists other.loop_number differs)

      new_each :
          (other : LoopCell) →
          Each next.slots (cond (same_cell cell other) (new other) (rs other)) (next_cells other.loop_number) other
      new_each other = at (same_cell cell other) refl
        where
          at :
              (t : Bool) →
              same_cell cell other ≡ t →
              Each next.slots (cond (same_cell cell other) (new other) (rs other)) (next_cells other.loop_number) other
          at true e =
              rw e (subst (λ (c : LoopCell). Each next.slots (new c) (next_cells c.loop_number) c) (cell_equal cell other e) (rw own_list own))
          at false e =
              rw e (record {
                held = c.placed.others other e ∙ (k.each other).held;
                listed = other_listed other e;
                holding = rw (c.placed.other_slots other e) (k.each other).holding;
              })

      changed : Kept side next (λ other. cond (same_cell cell other) (new other) (rs other)) next_cells
      changed = record { side_is = c.side_kept ∙ k.side_is; sized = new_sized; all = new_all; few = new_few; each = new_each }

  add_kept : (cell : LoopCell) (r : Reading) → number_of tally (adding cell r) ≡ 0 →
      Kept side (after tally (adding cell r)) (λ other. with_call other (adding cell r) 0 (rs other)) (λ loop. cells_with loop (adding cell r) 0 (cells loop))
  unfolding added
  add_kept cell r e =
      let zero-told = sym (number_is tally (adding cell r)) ∙ e in
      let tests = passed tally cell r zero-told in
      let slot : Slot = with_reading r cell (slot_of cell tally.slots) in
      let own = reading_held r cell (slot_of cell tally.slots) (loop_some tests.good_loop) in
      changed (after tally (adding cell r)) cell slot (λ other. r ∷ rs other) (λ loop. cell ∷ without cell (cells loop))
      (record {
        ok = tests.good_loop;
        side_kept = refl;
        placed = rw (add_slots tally cell r zero-told) (add_placed cell tally.slots (at_most_one cell) slot tests.place own);
        relisted = put_first cell (cells cell.loop_number);
        now_holding = holding_more (k.each cell).holding cell r tests.good_reading tests.room;
        now_held = ap bit own;
        by_rule = place_granted cell tally.slots tests.place;
      })

  clear_kept : (cell : LoopCell) → number_of tally (clearing cell) ≡ 0 →
      Kept side (after tally (clearing cell)) (λ other. with_call other (clearing cell) 0 (rs other)) (λ loop. cells_with loop (clearing cell) 0 (cells loop))
  unfolding cleared
  clear_kept cell e =
      let zero-told = sym (number_is tally (clearing cell)) ∙ e in
      changed (after tally (clearing cell)) cell empty_slot (λ other. []) (λ loop. without cell (cells loop))
      (record {
        ok = loop_passed tally cell zero-told;
        side_kept = refl;
        placed = rw (clear_slots tally cell zero-told) (clear_placed cell tally.slots (at_most_one cell));
        relisted = dropped cell (cells cell.loop_number);
        now_holding = holding_none;
        now_held = ap bit (empty_not_held cell);
        by_rule = inl (omega arith);
      })

  -- any call, by its number
  pub step : (call : Call) (n : ℕ) → number_of tally call ≡ n →
      Kept side (after tally call) (λ cell. with_call cell call n (rs cell)) (λ loop. cells_with loop call n (cells loop))
  unfolding read_from
  step (adding cell r) zero e = add_kept cell r e
  step (clearing cell) zero e = clear_kept cell e
  step (reading cell) zero e = k
  step call (suc n) e = rw (refused_unchanged tally call (λ z. omega arith)) k
