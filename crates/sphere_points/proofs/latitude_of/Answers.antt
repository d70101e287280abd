-- A distance from the axis and a height are as small as `angle` requires them, and an angle is at most 90°. Assumes nothing.
use Rattle.std.proofs.Common.{lit<, ap₂, ◌∙◌}
use native.Mathlib.Nat.{lt_of_le_of_lt, le_trans}
use lib.Dec.{lit≤}
use Rattle.proof_kit.proofs.Range.{returned}
use Rattle.integers.specs.Near.{signed}
use Rattle.angles.specs.Angle.{angle}
use Rattle.sphere_points.specs.Sphere.{latitude_of}
use Rattle.sphere_points.proofs.AngleLaws.{point_small, magnitude_is, sign_is, radius_size, angle_size}
use Rattle.sphere_points.proofs.latitude_of.Goals as goal

pub angle-requires : goal.angle-requires
angle-requires c = (
  rw c.requires (radius_size (point_small c.args.s)),
  rw (magnitude_is c.args.s.z c.args.s.z_size (lit< tt) c.magnitude.ensures) (le_trans c.args.s.z_size (lit≤ tt)),
)

pub signed-requires : goal.signed-requires
signed-requires c = rw c.angle.ensures (lt_of_le_of_lt (angle_size _ _) (lit< tt))

pub returns : goal.returns
unfolding latitude_of
returns c =
    let s = c.args.s in
    rw (returned c.signed.type_inv
    ∙ c.signed.ensures
    ∙ ap₂ signed (sign_is s.z s.z_size (lit< tt))
    (c.angle.ensures ∙ ap₂ angle c.requires (magnitude_is s.z s.z_size (lit< tt) c.magnitude.ensures)))
