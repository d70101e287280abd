-- A point of the unit sphere in billionths: east of the centre's meridian, z along the axis, f outwards at the centre's longitude.
use Rattle.std.specs.Prelude.{ℤ}

pub record Point : Type 0 where
  pub east : ℤ
  pub z : ℤ
  pub f : ℤ

abbrev pub point_at : ℤ → ℤ → ℤ → Point
point_at east z f = record { east = east; z = z; f = f }
