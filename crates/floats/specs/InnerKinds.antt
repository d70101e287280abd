-- The kinds of coordinate: what a limit and a unit have to be, so that the laws of degrees and metres hold, and the three kinds that there are.
use Rattle.std.specs.Prelude.{ℕ, ◌*◌, ◌^◌, ◌<◌, ◌≤◌, ◌≡◌, false, pos, Float, refl}
use Rattle.std.specs.Float.{fin}
use Rattle.std.proofs.Common.{lit<, lit≤}
use Rattle.units.specs.Units.{right_angle, half_turn, degree, metre, plane_limit}
use Rattle.floats.specs.Limits.{latitude_limit, longitude_limit, plane_limit_float}

-- a kind of coordinate: its unit, its limit as a double, and the limit in units. The double is digits · 2^twos.
pub record Coordinate (unit : ℕ) (limit : Float) (most : ℕ) : Type 0 where
  pub digits : ℕ
  pub twos : ℕ
  pub limit_is : limit ≡ fin false digits (pos twos)
  pub most_is : most ≡ digits * 2 ^ twos * unit
  pub limit_small : digits * 2 ^ twos ≤ 50_000_000
  pub unit_some : 0 < unit
  pub unit_small : unit ≤ degree

pub latitude : Coordinate degree latitude_limit right_angle
latitude = record { digits = 45; twos = 1; limit_is = refl; most_is = refl; limit_small = lit≤ tt; unit_some = lit< tt; unit_small = lit≤ tt }

pub longitude : Coordinate degree longitude_limit half_turn
longitude = record { digits = 45; twos = 2; limit_is = refl; most_is = refl; limit_small = lit≤ tt; unit_some = lit< tt; unit_small = lit≤ tt }

pub plane : Coordinate metre plane_limit_float plane_limit
plane = record { digits = 390_625; twos = 7; limit_is = refl; most_is = refl; limit_small = lit≤ tt; unit_some = lit< tt; unit_small = lit≤ tt }
