-- Inner: where sines that are only nearly right give the same rounded sum of three terms as the sines themselves.
use Rattle.std.specs.Prelude.{ℕ, ◌+◌, ◌*◌, Bool, ltb, ℤ, nat_abs, ◌-ℤ◌, ◌*ℤ◌}
use Rattle.units.specs.Units.{U}
use Rattle.trig.specs.InnerLines.{line_error, minute_error}

-- By at most this the sum of the three terms differs between sines that differ by at most a, b and c.
abbrev pub weighted : ℕ → ℕ → ℕ → ℤ → ℤ → ℤ → ℕ
weighted a b c k2 k4 k6 = a * nat_abs k2 + b * nat_abs k4 + c * nat_abs k6

-- Weights as small as this keep that sum within 64 bits.
abbrev pub weight_limit : ℕ
weight_limit = 1_000_000

-- The sines of 2x and 4x are taken by lines, that of 6x by the minute.
abbrev pub terms_error : ℤ → ℤ → ℤ → ℕ
terms_error k2 k4 k6 = weighted line_error line_error minute_error k2 k4 k6

-- half of U
abbrev pub half_unit : ℕ
half_unit = 500_000_000

-- Every number within `error` of `about` is less than half of U from y·U, so that y is the nearest whole number of its U-th part.
unfoldable pub safe : ℤ → ℤ → ℕ → Bool
safe about y error = ltb (nat_abs (about -ℤ y *ℤ U) + error) half_unit
