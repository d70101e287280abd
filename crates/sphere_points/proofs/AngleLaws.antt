-- Laws of the angles that the inverse steps give: an angle of two numbers is at most 90°, so a latitude is too, and a longitude
-- from the centre's is at most 180°.
-- Assumes nothing.
use mathlib.Core.Path.{◌≡◌, ap, ◌∙◌}
use mathlib.Core.Bool.{Bool, true, false, cond, ◌&&◌}
use Prim.Native.Nat.{ℕ, ◌+◌, ◌-◌, ◌*◌, ◌<◌, ◌≤◌, ◌^◌, zero-le}
use native.Mathlib.Nat.{mul-le-mul}
use native.Mathlib.Omega.{arith}
use lib.Dec.{eqb}
use lib.IntN.{ℤ, pos, nat_abs}
use lib.Signed.{lt_z}
use Rattle.proof_kit.proofs.Range.{kept}
use Rattle.proof_kit.proofs.Size.{abs_neg, square_abs}
use Rattle.integers.specs.Near.{signed}
use Rattle.integers.specs.Root.{root}
use Rattle.integers.specs.Greatest.{greatest}
use Rattle.integers.proofs.Greatest.{greatest_le}
use Rattle.integers.proofs.Squares.{root_most}
use Rattle.units.specs.Units.{right_angle, half_turn}
use Rattle.billionths.proofs.Calls.{back}
use Rattle.angles.specs.Angle.{under, angle}
use Rattle.sphere_points.specs.declared.SpherePoint.{SpherePoint}
use Rattle.sphere_points.specs.Points.{Point, point_at}
use Rattle.sphere_points.specs.Sphere.{latitude_of, longitude_of}
use Rattle.sphere_points.specs.InnerSizes.{SmallPoint, squared_radius}

-- ---- a point's coordinates, as the code reads them

-- a coordinate is small enough to be read back as it was, so the code finds its size and its sign
module _ (z : ℤ) {n : ℕ} (small : nat_abs z ≤ n) (room : n < 2 ^ 63) where
  pub magnitude_is : {r : ℕ} → r ≡ nat_abs (back z) → r ≡ nat_abs z
  magnitude_is e = e ∙ ap nat_abs (kept z small room)

  pub sign_is : lt_z (back z) (pos 0) ≡ lt_z z (pos 0)
  sign_is = ap (λ (z : ℤ). lt_z z (pos 0)) (kept z small room)

-- what a point of the code knows of its sizes
pub point_small : (s : SpherePoint) → SmallPoint (point_at s.east s.z s.f)
point_small s = record { east_size = s.east_size; z_size = s.z_size; f_size = s.f_size }

-- root(east² + f²): how far the point is from the axis
abbrev pub radius : Point → ℕ
radius s = root (squared_radius s)

-- the square of that distance, from the sizes of east and f
pub sum_of_squares : (s : Point) → nat_abs s.east * nat_abs s.east + nat_abs s.f * nat_abs s.f ≡ squared_radius s
sum_of_squares s = rw (square_abs s.east, square_abs s.f)

module _ {s : Point} (small : SmallPoint s) where
  pub squares_size : nat_abs s.east * nat_abs s.east + nat_abs s.f * nat_abs s.f ≤ 13_000_000_000_000_000_000
  squares_size = omega (arith, mul-le-mul small.east_size small.east_size, mul-le-mul small.f_size small.f_size)

  pub radius_size : radius s ≤ 18_000_000_000
  radius_size = root_most (squared_radius s) 18_000_000_000 (rw (← sum_of_squares s) (omega (arith, squares_size)))

-- ---- sizes

pub angle_size : (p q : ℕ) → angle p q ≤ right_angle
unfolding angle
angle_size p q = at (eqb p 0 && eqb q 0)
  where
    at : (b : Bool) → cond b 0 (greatest (under p q) right_angle) ≤ right_angle
    at true = zero-le
    at false = greatest_le (under p q) right_angle

-- a sign does not change the size
pub signed_size : (b : Bool) (n : ℕ) {m : ℕ} → n ≤ m → nat_abs (signed b n) ≤ m
signed_size true n h = rw (abs_neg (pos n)) h
signed_size false n h = h

pub latitude_size : (s : Point) → nat_abs (latitude_of s).0 ≤ right_angle
unfolding latitude_of
latitude_size s = signed_size (lt_z s.z (pos 0)) _ (angle_size (radius s) (nat_abs s.z))

-- the size of an angle, taken from 180° on the far side of the axis
abbrev pub turned : Bool → ℕ → ℕ
turned far n = cond far (half_turn - n) n

-- |Δ|
abbrev pub turn : Point → ℕ
turn s = turned (lt_z s.f (pos 0)) (angle (nat_abs s.f) (nat_abs s.east))

pub turn_size : (s : Point) → turn s ≤ half_turn
turn_size s = at (lt_z s.f (pos 0)) _ (angle_size (nat_abs s.f) (nat_abs s.east))
  where
    at : (far : Bool) (n : ℕ) → n ≤ right_angle → turned far n ≤ half_turn
    at true n h = omega arith
    at false n h = omega arith

pub longitude_size : (s : Point) → nat_abs (longitude_of s) ≤ half_turn
unfolding longitude_of
longitude_size s = signed_size (lt_z s.east (pos 0)) _ (turn_size s)
