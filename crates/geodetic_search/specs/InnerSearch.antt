-- Inner: what the search for a geodetic latitude goes by.
use Rattle.std.specs.Prelude.{ℕ, ◌+◌, ℤ}
use Rattle.latitudes.specs.InnerRounding.{weighted, terms_error}

-- An estimate of φ, past a pole perhaps, is within this many mas of the Equator.
abbrev pub estimate_limit : ℕ
estimate_limit = 400_000_000

-- Inner: by at most this the three terms by lines at x differ from the three terms at x and at x + 1. A sine changes by at most 5 in one mas, so
-- from x to x + 1 those of 2x, 4x and 6x change by at most 10, 20 and 30.
abbrev pub settled_error : ℤ → ℤ → ℤ → ℕ
settled_error k2 k4 k6 = terms_error k2 k4 k6 + weighted 10 20 30 k2 k4 k6
