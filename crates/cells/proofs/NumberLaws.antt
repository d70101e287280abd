-- Laws of the cell number, for every side above 0 and every coordinate. A number is the coordinate's exactly where its cell holds the
-- coordinate: its product with the side is not above the coordinate, and the next number's, with all that follow, is. A whole quotient toward
-- 0 is such a number where no negative remainder is left, and one less is where one is; so there is a cell, and one alone. Assumes nothing.
use mathlib.Core.Path.{◌≡◌, sym, ◌∙◌, subst}
use mathlib.Core.List.{[], ◌∷◌}
use mathlib.Core.Logic.{◌⊎◌, inl, inr}
use Prim.Native.Nat.{ℕ, zero-le, ◌/◌, ◌<◌, ◌≤◌}
use native.Mathlib.Nat.{div-add-mod', le-mul_of_pos_right, mod-lt}
use native.Mathlib.Omega.{arith}
use lib.IntN.{ℤ, pos, negsuc, nat_abs, ◌+ℤ◌, ◌-ℤ◌, ◌*ℤ◌}
use lib.Signed.{◌≤ℤ◌, ◌<ℤ◌, ≤ℤ_refl}
use Rattle.proof_kit.proofs.Laws.{nat_abs_parts, parts-+, parts--, P-*, N-*}
use Rattle.proof_kit.proofs.Order.{
  order,
  ≤ℤ-antisym,
  ≤ℤ-total,
  *ℤ-mono,
  <ℤ-one,
  le_le_z,
  lt_le_z,
  le_parts,
  lt_parts,
  pos-≤ℤ,
}
use Rattle.proof_kit.proofs.Ring.{ring, quote}
use Rattle.std.specs.Int.{int_div_euclid}
use Rattle.cells.specs.Cells.{not_above, cell_number}
use Rattle.cells.specs.Theorems.{NumberGreatest, NumberUnique, InCell, OneCell, NumberCell, CellsTouch}
use Rattle.cells.proofs.GreatestWhole.{greatest_whole_is}

module _ (side : ℕ) (some : 0 < side) where
  -- ---- the number of the cell that holds a coordinate

  pub edges_rise : {j k : ℤ} → j ≤ℤ k → (j *ℤ pos side) ≤ℤ (k *ℤ pos side)
  edges_rise h = *ℤ-mono (pos-≤ℤ zero-le) h

  -- a later cell begins above what lies before the next
  later_above : {j k z : ℤ} → z <ℤ ((k +ℤ pos 1) *ℤ pos side) → k <ℤ j → z <ℤ (j *ℤ pos side)
  later_above {j} {k} {z} h l =
      let e = edges_rise (<ℤ-one l) in
      omega order

  -- so a cell that begins no later than z is no later than one that ends after z
  pub no_later : (j k : ℤ) {z : ℤ} → (j *ℤ pos side) ≤ℤ z → z <ℤ ((k +ℤ pos 1) *ℤ pos side) → j ≤ℤ k
  no_later j k {z} low high = at (≤ℤ-total j k)
    where
      at : (j ≤ℤ k) ⊎ (k <ℤ j) → j ≤ℤ k
      at (inl b) = b
      at (inr a) =
          let above = later_above high a in
          let never : ⊥ = omega order in
          absurd never

  pub next_edge : (k : ℤ) → (k +ℤ pos 1) *ℤ pos side ≡ k *ℤ pos side +ℤ pos side
  next_edge k = ring (k ∷ pos side ∷ []) (search quote depth 40 fits 20000) tt

  -- from its first coordinate on, and less than a side past it
  pub held : (k z : ℤ) → (k *ℤ pos side) ≤ℤ z → z <ℤ (k *ℤ pos side +ℤ pos side) → InCell side k z
  held k z low high = record { from_first = low; before_next = rw (next_edge k) high }

  -- its number is no farther from 0 than the coordinate
  number_small : (k z : ℤ) → InCell side k z → nat_abs k ≤ nat_abs z
  number_small (pos a) z i =
      omega (
        arith,
        nat_abs_parts z,
        le-mul_of_pos_right a some,
        le_parts i.from_first,
        P-* (pos a) (pos side),
        N-* (pos a) (pos side),
      )
  number_small (negsuc m) z i =
      let edge : ℤ = negsuc m *ℤ pos side in
      omega (
        arith,
        nat_abs_parts z,
        le-mul_of_pos_right m some,
        lt_parts (rw (next_edge (negsuc m)) at i.before_next),
        parts-+ edge (pos side),
        P-* (negsuc m) (pos side),
        N-* (negsuc m) (pos side),
      )

  pub number_is : (k z : ℤ) → InCell side k z → cell_number side z ≡ k
  unfolding cell_number not_above
  number_is k z i =
      greatest_whole_is (not_above side z) (nat_abs z) k (number_small k z i)
      (le_le_z i.from_first) (λ j l. lt_le_z (later_above i.before_next l))

  -- ---- by division

  pub euclid_cell : (z : ℤ) → InCell side (int_div_euclid z (pos side)) z
  euclid_cell (pos n) =
      let e = div-add-mod' n side in
      let m = mod-lt n some in
      let edge : ℤ = pos (n / side) *ℤ pos side in
      held (pos (n / side)) (pos n) (omega (order, arith)) (omega (order, arith, parts-+ edge (pos side)))
  euclid_cell (negsuc n) =
      let e = div-add-mod' n side in
      let m = mod-lt n some in
      let edge : ℤ = negsuc (n / side) *ℤ pos side in
      held (negsuc (n / side)) (negsuc n)
      (omega (order, arith, P-* (negsuc (n / side)) (pos side), N-* (negsuc (n / side)) (pos side)))
      (omega (order, arith, parts-+ edge (pos side), P-* (negsuc (n / side)) (pos side), N-* (negsuc (n / side)) (pos side)))

  pub number_by_division : (z : ℤ) → int_div_euclid z (pos side) ≡ cell_number side z
  number_by_division z = sym (number_is (int_div_euclid z (pos side)) z (euclid_cell z))

  some_cell : (z : ℤ) → (k : ℤ) × InCell side k z
  some_cell z = (int_div_euclid z (pos side), euclid_cell z)

  -- the first coordinate of a cell, its last, and the one before its first
  pub first_in : (k : ℤ) → InCell side k (k *ℤ pos side)
  first_in k =
      let edge : ℤ = k *ℤ pos side in
      held k edge (≤ℤ_refl edge) (omega (order, parts-+ edge (pos side)))

  pub last_in : (k : ℤ) → InCell side k (k *ℤ pos side +ℤ pos side -ℤ pos 1)
  last_in k =
      let edge : ℤ = k *ℤ pos side in
      let next : ℤ = edge +ℤ pos side in
      held k (next -ℤ pos 1) (omega (order, parts-+ edge (pos side), parts-- next (pos 1))) (omega (order, parts-- next (pos 1)))

  before_first : (k : ℤ) → (k -ℤ pos 1) *ℤ pos side +ℤ pos side -ℤ pos 1 ≡ k *ℤ pos side -ℤ pos 1
  before_first k = ring (k ∷ pos side ∷ []) (search quote depth 40 fits 20000) tt

  last_before : (k : ℤ) → InCell side (k -ℤ pos 1) (k *ℤ pos side -ℤ pos 1)
  last_before k = subst (InCell side (k -ℤ pos 1)) (before_first k) (last_in (k -ℤ pos 1))

-- ---- what is stated

pub number_cell : NumberCell
number_cell side h z =
    let there = some_cell side h z in
    subst (λ (k : ℤ). InCell side k z) (sym (number_is side h there.0 z there.1)) there.1

pub one_cell : OneCell
one_cell side h z = (some_cell side h z, λ k j i l. sym (number_is side h k z i) ∙ number_is side h j z l)

pub number_greatest : NumberGreatest
number_greatest side h z =
    let i = number_cell side h z in
    record { product_not_above = i.from_first; none_greater = λ j l. no_later side h j (cell_number side z) l i.before_next }

pub number_unique : NumberUnique
number_unique side h z k g =
    let n = number_greatest side h z in
    ≤ℤ-antisym (n.none_greater k g.product_not_above) (g.none_greater (cell_number side z) n.product_not_above)

pub cells_touch : CellsTouch
cells_touch side h k = (
  number_is side h k (k *ℤ pos side) (first_in side h k),
  λ z e. subst (λ (j : ℤ). (j *ℤ pos side) ≤ℤ z) e (number_cell side h z).from_first,
  number_is side h (k -ℤ pos 1) (k *ℤ pos side -ℤ pos 1) (last_before side h k),
)
