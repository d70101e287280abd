-- Document 01, "Authalic latitude (Snyder 3-14)": the way back from β to φ.
use Rattle.std.specs.Prelude.{ℕ, Bool, pos, ◌-ℤ◌}
use Rattle.std.specs.Int.Signed.{le_z}
use Rattle.integers.specs.Greatest.{greatest}
use Rattle.units.specs.Units.{right_angle, half_turn}
use Rattle.latitudes.specs.declared.Geodetic.{Geodetic}
use Rattle.latitudes.specs.declared.Authalic.{Authalic}
use Rattle.latitudes.specs.declared.AuthalicSeries.{AuthalicSeries}
use Rattle.latitudes.specs.Latitude.{latitude, beta}

-- "φ is the greatest latitude from −90° to 90° whose β is not above the one found": the latitudes are counted from −90°.
unfoldable pub from_south_pole : ℕ → Geodetic
from_south_pole n = latitude (pos n -ℤ pos right_angle)

unfoldable pub not_above : AuthalicSeries → Authalic → ℕ → Bool
not_above k β n = le_z (beta k (from_south_pole n)).0 β.0

unfoldable pub geodetic : AuthalicSeries → Authalic → Geodetic
geodetic k β = from_south_pole (greatest (not_above k β) half_turn)
