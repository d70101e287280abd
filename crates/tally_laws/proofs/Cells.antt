-- Two cells that are the same by the test are equal, for their loop and both their numbers are. So a list without a cell has it no more and every other cell as
-- often as before, and what it is shorter by is how often it had the cell. Assumes nothing.
use mathlib.Core.Path.{◌≡◌, refl, ap, ap₂, ◌∙◌}
use mathlib.Core.Bool.{Bool, true, false}
use mathlib.Core.List.{List, [], ◌∷◌}
use Prim.Native.Nat.{ℕ, ◌+◌}
use native.Mathlib.Omega.{arith}
use lib.Dec.{eqb}
use lib.IntN.{ℤ}
use lib.ListN.{length}
use lib.Signed.{≤ℤ_refl}
use borrow.Author.Tests.{eq-eqb, eqb-true}
use Rattle.proof_kit.proofs.Order.{le_le_z}
use Rattle.integers.proofs.Greatest.{both}
use Rattle.units.specs.Spans.{within, same}
use Rattle.units.proofs.Spans.{same_equal}
use Rattle.slots.specs.declared.LoopCell.{LoopCell}
use Rattle.slots.specs.Slots.{same_cell}
use Rattle.shares.specs.Shares.{passing}
use Rattle.tally_laws.specs.Histories.{without}

pub cell_equal : (one other : LoopCell) → same_cell one other ≡ true → one ≡ other
unfolding same_cell
cell_equal one other e =
    let each = both (eqb one.loop_number other.loop_number) _ e in
    let numbers = both (same one.east other.east) (same one.north other.north) each.1 in
    let loops = eqb-true one.loop_number other.loop_number each.0 in
    let easts = same_equal one.east other.east numbers.0 in
    let norths = same_equal one.north other.north numbers.1 in
    ap (λ (n : ℕ). record { loop_number = n; east = one.east; north = one.north }) loops
    ∙ ap₂ {C = LoopCell} (λ (x y : ℤ). record { loop_number = other.loop_number; east = x; north = y }) easts norths

pub cell_self : (cell : LoopCell) → same_cell cell cell ≡ true
unfolding same_cell same within
cell_self cell = rw (eq-eqb cell.loop_number _ refl, le_le_z (≤ℤ_refl cell.east), le_le_z (≤ℤ_refl cell.north))

-- ---- a list of cells

-- whether an element is the cell
abbrev pub is : LoopCell → LoopCell → Bool
is cell other = same_cell other cell

module _ (cell : LoopCell) where
  -- the list has the cell n times now, and every other cell as often as before
  pub record Relisted (old new : List LoopCell) (n : ℕ) : Type 0 where
    pub own : passing (is cell) new ≡ n
    pub others : (other : LoopCell) → same_cell cell other ≡ false → passing (is other) new ≡ passing (is other) old
    pub size : length new + passing (is cell) old ≡ length old + n

  pub dropped : (xs : List LoopCell) → Relisted xs (without cell xs) 0
  unfolding without passing
  dropped [] = record { own = refl; others = λ other differs. refl; size = refl }
  dropped (x ∷ xs) = at (same_cell x cell) refl (dropped xs)
    where
      at : (t : Bool) → same_cell x cell ≡ t → Relisted xs (without cell xs) 0 → Relisted (x ∷ xs) (without cell (x ∷ xs)) 0
      at true e later =
          rw e (record {
            own = later.own;
            others = λ other differs.
                let fails = ap (is other) (cell_equal x cell e) ∙ differs in
                rw fails (omega (arith, later.others other differs));
            size = rw e (omega (arith, later.size));
          })
      at false e later =
          rw e (record {
            own = rw e (omega (arith, later.own));
            others = λ other differs. omega (arith, later.others other differs);
            size = rw e (omega (arith, later.size));
          })

  pub put_first : (xs : List LoopCell) → Relisted xs (cell ∷ without cell xs) 1
  unfolding passing
  put_first xs =
      let rest = dropped xs in
      record {
        own = rw (cell_self cell) (omega (arith, rest.own));
        others = λ other differs. rw differs (omega (arith, rest.others other differs));
        size = omega (arith, rest.size);
      }
