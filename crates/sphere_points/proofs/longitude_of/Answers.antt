-- An angle is at most 90°, and turned to the far side at most 180°. Assumes nothing.
use Rattle.std.proofs.Common.{◌≡◌, ℕ, pos, nat_abs, lit<, ap₂, ◌∙◌}
use native.Mathlib.Nat.{lt_of_le_of_lt}
use lib.Signed.{lt_z}
use Rattle.proof_kit.proofs.Range.{returned}
use Rattle.integers.specs.Near.{signed}
use Rattle.angles.specs.Angle.{angle}
use Rattle.billionths.proofs.Calls.{back}
use Rattle.sphere_points.specs.Points.{Point, point_at}
use Rattle.sphere_points.specs.InnerSizes.{SmallPoint}
use Rattle.sphere_points.specs.Sphere.{longitude_of}
use Rattle.sphere_points.proofs.AngleLaws.{point_small, magnitude_is, sign_is, angle_size, turned, turn, turn_size}
use Rattle.sphere_points.proofs.longitude_of.Goals as goal

-- the size t of Δ, from the sizes m and n that the calls give of f and east, and a, their angle
turned-is : {s : Point} {m n a t : ℕ} → SmallPoint s → m ≡ nat_abs (back s.f) → n ≡ nat_abs (back s.east) → a ≡ angle m n →
    t ≡ turned (lt_z (back s.f) (pos 0)) a → t ≡ turn s
turned-is {s} small f east angle-is is =
    is
    ∙ ap₂ turned (sign_is s.f small.f_size (lit< tt))
    (angle-is ∙ ap₂ angle (magnitude_is s.f small.f_size (lit< tt) f) (magnitude_is s.east small.east_size (lit< tt) east))

pub turned-requires : goal.turned-requires
turned-requires c = rw c.angle-near_side.ensures (angle_size _ _)

pub signed-requires : goal.signed-requires
signed-requires c =
    rw (turned-is (point_small c.args.s) c.magnitude.ensures c.magnitude-2.ensures c.angle-near_side.ensures c.turned.ensures)
    (lt_of_le_of_lt (turn_size (point_at c.args.s.east c.args.s.z c.args.s.f)) (lit< tt))

pub returns : goal.returns
unfolding longitude_of
returns c =
    let s = c.args.s in
    returned c.signed.type_inv
    ∙ c.signed.ensures
    ∙ ap₂ signed (sign_is s.east s.east_size (lit< tt))
    (turned-is (point_small s) c.magnitude.ensures c.magnitude-2.ensures c.angle-near_side.ensures c.turned.ensures)
