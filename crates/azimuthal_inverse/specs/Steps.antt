-- Document 01, "Inverse steps", in centimetres and milliarcseconds.
use Rattle.std.specs.Prelude.{Bool, ◌&&◌, ℤ, pos, neg_ℤ, nat_abs, ◌*ℤ◌}
use Rattle.integers.specs.Near.{near}
use Rattle.units.specs.Units.{U}
use Rattle.units.specs.Spans.{within, same}
use Rattle.constants.specs.declared.Constants.{Constants}
use Rattle.sphere_points.specs.Points.{Point}
use Rattle.sphere_points.specs.Sphere.{versine_of, point_of}

-- "Both zero"
unfoldable pub at_origin : ℤ → ℤ → Bool
at_origin dE dN = same dE (pos 0) && same dN (pos 0)

-- "dE beyond ±2·RD or dN beyond ±2·RN: refused 4"
unfoldable pub on_map : Constants → ℤ → ℤ → Bool
on_map k dE dN =
    within (neg_ℤ (pos 2 *ℤ k.rd)) (pos 2 *ℤ k.rd) dE && within (neg_ℤ (pos 2 *ℤ k.rn)) (pos 2 *ℤ k.rn) dN

-- "X = near(dE·U/RD); Y = near(dN·U/RN)"
unfoldable pub X : Constants → ℤ → ℤ
X k dE = near (dE *ℤ U) (nat_abs k.rd)

unfoldable pub Y : Constants → ℤ → ℤ
Y k dN = near (dN *ℤ U) (nat_abs k.rn)

-- K and the point of the sphere
unfoldable pub K : Constants → ℤ → ℤ → ℤ
K k dE dN = versine_of (X k dE) (Y k dN)

unfoldable pub found : Constants → ℤ → ℤ → Point
found k dE dN = point_of k (X k dE) (Y k dN) (K k dE dN)
