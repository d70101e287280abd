-- How large X and Y of a point on the map are, and that its K is not negative. Assumes nothing.
use mathlib.Core.Path.{◌≡◌}
use mathlib.Core.Bool.{true}
use Prim.Native.Nat.{ℕ, ◌*◌, ◌<◌, ◌≤◌}
use native.Mathlib.Nat.{le_refl, le_trans}
use native.Mathlib.Omega.{arith}
use lib.Dec.{lit<}
use lib.IntN.{ℤ, pos, neg_ℤ, nat_abs, ◌*ℤ◌}
use Rattle.proof_kit.proofs.Size.{abs_mul_le}
use Rattle.integers.specs.Near.{near}
use Rattle.integers.proofs.Rounding.{near_at_most}
use Rattle.integers.proofs.Greatest.{both}
use Rattle.units.specs.Units.{unit, U}
use Rattle.units.specs.Spans.{within}
use Rattle.units.proofs.Spans.{within_size}
use Rattle.constants.specs.declared.Constants.{Constants}
use Rattle.constants.proofs.ConstantsLaws.{Sound}
use Rattle.sphere_points.proofs.SphereLaws.{versine_natural}
use Rattle.azimuthal_inverse.specs.Steps.{on_map, X, Y, K}

-- ---- X and Y of a point on the map: at most 2 U

ratio_size : (d r : ℤ) → pos (nat_abs r) ≡ r → 0 < nat_abs r → within (neg_ℤ (pos 2 *ℤ r)) (pos 2 *ℤ r) d ≡ true →
    (nat_abs d ≤ 2 * nat_abs r) × (nat_abs (near (d *ℤ U) (nat_abs r)) ≤ 2_000_000_000)
ratio_size d r natural-r some-r e =
    let n : ℕ = nat_abs r in
    let size : nat_abs d ≤ 2 * n = within_size (2 * n) d (rw (← natural-r) at e) in
    (size, near_at_most (d *ℤ U) n 2_000_000_000 some-r (omega (arith, abs_mul_le d U size (le_refl unit))))

pub record OnMap (c : Constants) (dE dN : ℤ) : Type 0 where
  pub d_e_size : nat_abs dE ≤ 2_160_000_000
  pub d_n_size : nat_abs dN ≤ 2_160_000_000
  pub X-size : nat_abs (X c dE) ≤ 2_000_000_000
  pub Y-size : nat_abs (Y c dN) ≤ 2_000_000_000

pub map_sizes : (c : Constants) → Sound c → (dE dN : ℤ) → on_map c dE dN ≡ true → OnMap c dE dN
unfolding on_map X Y
map_sizes c k dE dN e =
    let t = both (within (neg_ℤ (pos 2 *ℤ c.rd)) (pos 2 *ℤ c.rd) dE) (within (neg_ℤ (pos 2 *ℤ c.rn)) (pos 2 *ℤ c.rn) dN) e in
    let x = ratio_size dE c.rd k.rd_between.natural (le_trans (lit< tt) k.rd_between.least) t.0 in
    let y = ratio_size dN c.rn k.rn_between.natural (le_trans (lit< tt) k.rn_between.least) t.1 in
    record {
      d_e_size = omega (arith, x.0, k.rd_between.most);
      d_n_size = omega (arith, y.0, k.rn_between.most);
      X-size = x.1;
      Y-size = y.1;
    }

pub K-natural : (c : Constants) (dE dN : ℤ) → pos (nat_abs (K c dE dN)) ≡ K c dE dN
unfolding K
K-natural c dE dN = versine_natural (X c dE) (Y c dN)
