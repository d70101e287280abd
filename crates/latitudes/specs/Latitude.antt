-- Document 01, "Authalic latitude (Snyder 3-14)".
use Rattle.std.specs.Prelude.{ℤ, pos, ◌+ℤ◌, ◌-ℤ◌, ◌*ℤ◌}
use Rattle.integers.specs.Near.{near}
use Rattle.units.specs.Units.{unit}
use Rattle.trig.specs.Sine.{sine}
use Rattle.latitudes.specs.declared.Geodetic.{Geodetic}
use Rattle.latitudes.specs.declared.Authalic.{Authalic}
use Rattle.latitudes.specs.declared.AuthalicSeries.{AuthalicSeries}

-- so many mas north of the Equator, as a geodetic latitude
abbrev pub latitude : ℤ → Geodetic
latitude φ = record { 0 = φ }

abbrev pub coefficients : ℤ → ℤ → ℤ → AuthalicSeries
coefficients k2 k4 k6 = record { k2 = k2; k4 = k4; k6 = k6 }

-- "k2·sine(2φ) − k4·sine(4φ) + k6·sine(6φ)", in billionths of a mas
abbrev pub three_terms : ℤ → ℤ → ℤ → ℤ → ℤ
three_terms k2 k4 k6 x = k2 *ℤ sine (pos 2 *ℤ x) -ℤ k4 *ℤ sine (pos 4 *ℤ x) +ℤ k6 *ℤ sine (pos 6 *ℤ x)

unfoldable pub terms : AuthalicSeries → Geodetic → ℤ
terms k φ = three_terms k.k2 k.k4 k.k6 φ.0

-- "β = φ − near((k2·sine(2φ) − k4·sine(4φ) + k6·sine(6φ))/U), one rounding"
unfoldable pub rounded : AuthalicSeries → Geodetic → ℤ
rounded k φ = near (terms k φ) unit

unfoldable pub beta : AuthalicSeries → Geodetic → Authalic
beta k φ = record { 0 = φ.0 -ℤ rounded k φ }
