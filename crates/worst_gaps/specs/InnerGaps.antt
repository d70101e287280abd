-- The gaps of a round trip as they are printed.
use Rattle.std.specs.Prelude.{ℕ, ◌+◌, ◌/◌, ℤ, nat_abs, ◌-ℤ◌}
use Rattle.latitudes.specs.declared.Geodetic.{Geodetic}
use Rattle.parameters.specs.declared.Parameters.{Parameters}
use Rattle.round_trip.specs.RoundTrip.{longitude_gap}

-- by how many mas two latitudes differ
abbrev pub latitude_gap : Geodetic → Geodetic → ℕ
latitude_gap φ φ' = nat_abs (φ'.0 -ℤ φ.0)

-- billionths as thousandths, rounded up: what is printed is not below what was found
abbrev pub thousandths_of : ℕ → ℕ
thousandths_of n = (n + 999_999) / 1_000_000

-- the longitude gap of document 01, in thousandths of a mas
abbrev pub gap_thousandths : Parameters → Geodetic → ℤ → ℤ → ℕ
gap_thousandths p φ lon lon' = thousandths_of (nat_abs (longitude_gap p φ lon lon'))
