-- K from 0 to 1.98 U keeps every quantity at most 2 units in size, and every sum within 64 bits. Assumes nothing.
use Rattle.std.proofs.Common.{◌≡◌, ℕ, ◌≤◌, ◌<◌, ◌^◌, ℤ, pos, nat_abs, ◌+ℤ◌, ◌-ℤ◌, ◌*ℤ◌, ◌≤ℤ◌, lit<, ap}
use lib.Dec.{lit≤}
use lib.Signed.{mag}
use Rattle.proof_kit.proofs.Range.{code, read}
use Rattle.integers.specs.Near.{near}
use Rattle.units.specs.Units.{unit}
use Rattle.constants.specs.declared.Constants.{Constants}
use Rattle.constants.specs.InnerPrepared.{BoundedCentre}
use Rattle.azimuthal_forward.specs.Steps.{H}
use Rattle.sphere_points.specs.Sphere.{G, up, level, z_of, f_of, point_of}
use Rattle.billionths.proofs.Calls.{back, back_is, fits_is, near_is, product_is, Holds, holds, given_holds}
use Rattle.sphere_points.proofs.SphereLaws.{up_size, H-small, level_size, point_sized}
use Rattle.sphere_points.proofs.point.Goals as goal

-- the paper's up, H, and one of east and north, for the K that the function was given
module _ (K : ℤ) (least : pos 0 ≤ℤ K) (most : nat_abs K ≤ 1_980_000_000) where
  h-size : nat_abs (pos (H (G K))) ≤ unit
  h-size = H-small K least most

  h-holds : {h : ℕ} → h ≡ H (G K) → Holds (pos h) (pos (H (G K)))
  h-holds is = holds (back_is (ap pos is) h-size (lit< tt)) h-size (lit≤ tt)

  up-holds : Holds (pos 1_000_000_000 -ℤ back K) (up K)
  unfolding up
  up-holds = holds (read (search (code, most) depth 40 fits 20000) tt) (up_size K least most) (lit≤ tt)

  -- level K x, from a call with the H of K
  level-holds : (x : ℤ) {r : ℤ} {h : ℕ} → nat_abs x ≤ 2_000_000_000 → h ≡ H (G K) → mag r < 2 ^ 63 → r ≡ near (back x *ℤ back (pos h)) unit →
      Holds r (level K x)
  unfolding level
  level-holds x small is fits e =
      holds (product_is fits e (given_holds small (lit≤ tt)).is (h-holds is).is) (level_size K least most x small) (lit≤ tt)

  -- z and f, from calls with up, north, S0 and C0
  module _ (k : Constants) (centre : BoundedCentre k) where
    s0-holds : Holds k.s0 k.s0
    s0-holds = given_holds centre.s0_size (lit≤ tt)

    c0-holds : Holds k.c0 k.c0
    c0-holds = given_holds centre.c0_size (lit≤ tt)

    z-read : (y : ℤ) {r n : ℤ} → Holds n (level K y) → mag r < 2 ^ 63 →
        r ≡ near (back (pos 1_000_000_000 -ℤ back K) *ℤ back k.s0 +ℤ back n *ℤ back k.c0) unit → back r ≡ z_of k (up K) (level K y)
    unfolding z_of
    z-read y north fits e = near_is fits unit e (rw (up-holds.is, s0-holds.is, north.is, c0-holds.is))

    f-read : (y : ℤ) {r n : ℤ} → Holds n (level K y) → mag r < 2 ^ 63 →
        r ≡ near (back (pos 1_000_000_000 -ℤ back K) *ℤ back k.c0 -ℤ back n *ℤ back k.s0) unit → back r ≡ f_of k (up K) (level K y)
    unfolding f_of
    f-read y north fits e = near_is fits unit e (rw (up-holds.is, c0-holds.is, north.is, s0-holds.is))

pub overflow_cast-scale : goal.overflow_cast-scale
overflow_cast-scale c = fits_is (ap pos c.requires.5) (h-size c.args.versed c.requires.3 c.requires.4) (lit< tt)

pub product-north-requires : goal.product-north-requires
product-north-requires c =
    ((given_holds {x = c.args.y} c.requires.2 (lit≤ tt)).small, (h-holds c.args.versed c.requires.3 c.requires.4 c.requires.5).small)

pub product-requires : goal.product-requires
product-requires c =
    ((given_holds {x = c.args.x} c.requires.1 (lit≤ tt)).small, (h-holds c.args.versed c.requires.3 c.requires.4 c.requires.5).small)

pub sum-requires : goal.sum-requires
sum-requires c =
    let north = level-holds c.args.versed c.requires.3 c.requires.4 c.args.y c.requires.2 c.requires.5 c.product-north.type_inv c.product-north.ensures in (
      (up-holds c.args.versed c.requires.3 c.requires.4).small,
      (s0-holds c.args.versed c.requires.3 c.requires.4 c.args.k c.requires.0).small,
      north.small,
      (c0-holds c.args.versed c.requires.3 c.requires.4 c.args.k c.requires.0).small,
    )

pub difference-requires : goal.difference-requires
difference-requires c =
    let north = level-holds c.args.versed c.requires.3 c.requires.4 c.args.y c.requires.2 c.requires.5 c.product-north.type_inv c.product-north.ensures in (
      (up-holds c.args.versed c.requires.3 c.requires.4).small,
      (c0-holds c.args.versed c.requires.3 c.requires.4 c.args.k c.requires.0).small,
      north.small,
      (s0-holds c.args.versed c.requires.3 c.requires.4 c.args.k c.requires.0).small,
    )

pub returns : goal.returns
unfolding point_of
returns c =
    let north = level-holds c.args.versed c.requires.3 c.requires.4 c.args.y c.requires.2 c.requires.5 c.product-north.type_inv c.product-north.ensures in
    rw (
      (level-holds c.args.versed c.requires.3 c.requires.4 c.args.x c.requires.1 c.requires.5 c.product.type_inv c.product.ensures).is,
      z-read c.args.versed c.requires.3 c.requires.4 c.args.k c.requires.0 c.args.y north c.sum.type_inv c.sum.ensures,
      f-read c.args.versed c.requires.3 c.requires.4 c.args.k c.requires.0 c.args.y north c.difference.type_inv c.difference.ensures,
    )

pub invariant_of-result : goal.invariant_of-result
unfolding point_of
invariant_of-result c =
    let north = level-holds c.args.versed c.requires.3 c.requires.4 c.args.y c.requires.2 c.requires.5 c.product-north.type_inv c.product-north.ensures in
    let small = point_sized c.args.versed c.requires.3 c.requires.4 c.args.k c.requires.0 c.args.x c.args.y c.requires.1 c.requires.2 in
    record {
      east_size =
          rw (level-holds c.args.versed c.requires.3 c.requires.4 c.args.x c.requires.1 c.requires.5 c.product.type_inv c.product.ensures).is small.east_size;
      z_size = rw (z-read c.args.versed c.requires.3 c.requires.4 c.args.k c.requires.0 c.args.y north c.sum.type_inv c.sum.ensures) small.z_size;
      f_size = rw (f-read c.args.versed c.requires.3 c.requires.4 c.args.k c.requires.0 c.args.y north c.difference.type_inv c.difference.ensures) small.f_size;
    }
