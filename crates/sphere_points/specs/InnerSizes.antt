-- Inner: how small a point of the sphere is, and the square whose root is its distance from the axis.
use Rattle.std.specs.Prelude.{ℕ, ◌≤◌, nat_abs, ◌+ℤ◌, ◌*ℤ◌}
use Rattle.sphere_points.specs.Points.{Point}

-- "east² + f²": the square of a point's distance from the axis
abbrev pub squared_radius : Point → ℕ
squared_radius s = nat_abs (s.east *ℤ s.east +ℤ s.f *ℤ s.f)

-- Every point that the steps reach is this small, which keeps the code within 64 bits.
pub record SmallPoint (s : Point) : Type 0 where
  pub east_size : nat_abs s.east ≤ 2_000_000_000
  pub z_size : nat_abs s.z ≤ 3_000_000_000
  pub f_size : nat_abs s.f ≤ 3_000_000_000
