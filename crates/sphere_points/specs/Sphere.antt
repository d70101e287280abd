-- Document 01, "Inverse steps": from X, Y and K to the point of the sphere, and to its β and Δ. Numbers are in billionths, angles in mas.
use Rattle.std.specs.Prelude.{◌-◌, ◌*◌, cond, ℤ, pos, nat_abs, ◌+ℤ◌, ◌-ℤ◌, ◌*ℤ◌}
use Rattle.std.specs.Int.Signed.{lt_z}
use Rattle.integers.specs.Near.{near, signed}
use Rattle.integers.specs.Root.{root}
use Rattle.units.specs.Units.{unit, U, half_turn}
use Rattle.angles.specs.Angle.{angle}
use Rattle.latitudes.specs.declared.Authalic.{Authalic}
use Rattle.constants.specs.declared.Constants.{Constants}
use Rattle.azimuthal_forward.specs.Steps.{H}
use Rattle.sphere_points.specs.Points.{Point}

-- "K = near((X² + Y²)/(2U)). G = 2U − K". K is the versed sine of the distance from the centre.
unfoldable pub versine_of : ℤ → ℤ → ℤ
versine_of X Y = near (X *ℤ X +ℤ Y *ℤ Y) (2 * unit)

unfoldable pub G : ℤ → ℤ
G K = pos 2 *ℤ U -ℤ K

-- "up = U − K; east = near(X·H/U); north = near(Y·H/U)"
unfoldable pub up : ℤ → ℤ
up K = U -ℤ K

unfoldable pub level : ℤ → ℤ → ℤ
level K X = near (X *ℤ pos (H (G K))) unit

-- "z = near((up·S0 + north·C0)/U); f = near((up·C0 − north·S0)/U)"
unfoldable pub z_of : Constants → ℤ → ℤ → ℤ
z_of k up north = near (up *ℤ k.s0 +ℤ north *ℤ k.c0) unit

unfoldable pub f_of : Constants → ℤ → ℤ → ℤ
f_of k up north = near (up *ℤ k.c0 -ℤ north *ℤ k.s0) unit

unfoldable pub point_of : Constants → ℤ → ℤ → ℤ → Point
point_of k X Y K =
    record { east = level K X; z = z_of k (up K) (level K Y); f = f_of k (up K) (level K Y) }

-- "|β| = angle(root(east² + f²), |z|), with the sign of z"
unfoldable pub latitude_of : Point → Authalic
latitude_of s =
    record {
      0 = signed (lt_z s.z (pos 0)) (angle (root (nat_abs (s.east *ℤ s.east +ℤ s.f *ℤ s.f))) (nat_abs s.z));
    }

-- "|Δ| = angle(|f|, |east|), taken from 180° if f is negative, with the sign of east, positive for east = 0"
unfoldable pub longitude_of : Point → ℤ
longitude_of s =
    signed (lt_z s.east (pos 0)) (cond (lt_z s.f (pos 0)) (half_turn - angle (nat_abs s.f) (nat_abs s.east)) (angle (nat_abs s.f) (nat_abs s.east)))
