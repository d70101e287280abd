-- Document 01, "Degrees and metres" and "Refusal numbers": pairs of doubles, the answers that carry them, and their tests and conversions.
use Rattle.std.specs.Prelude.{ℕ, Bool, false, ◌&&◌, ℤ, pos, Float}
use Rattle.std.specs.Float.{fin}
use Rattle.units.specs.Units.{degree, metre}
use Rattle.floats.specs.Conversion.{whole_of, float_of}
use Rattle.floats.specs.Limits.{is_finite, within_limit, latitude_limit, longitude_limit, plane_limit_float}
use Rattle.latitudes.specs.declared.Geodetic.{Geodetic}
use Rattle.latitudes.specs.Latitude.{latitude}
use Rattle.azimuthal_forward.specs.Answer.{PlaneAnswer, Plane, Refused as PlaneRefused}
use Rattle.azimuthal_inverse.specs.Answer.{GeodeticAnswer, Position, Refused as GeodeticRefused}
use Rattle.pairs.specs.declared.GeodeticPair.{GeodeticPair}
use Rattle.pairs.specs.declared.PlanePair.{PlanePair}
use Rattle.pairs.specs.PlanePairAnswer.{PlanePairAnswer, Metres, Refused}
use Rattle.pairs.specs.GeodeticPairAnswer.{GeodeticPairAnswer, Degrees, Refused as NotFound}

-- ---- pairs

abbrev pub degrees : Float → Float → GeodeticPair
degrees latitude longitude = record { latitude = latitude; longitude = longitude }

abbrev pub metres : Float → Float → PlanePair
metres first second = record { first = first; second = second }

-- "Degrees to mas: near(value · 3,600,000) of the double's exact value."
unfoldable pub latitude_mas : GeodeticPair → Geodetic
latitude_mas at = latitude (whole_of degree at.latitude)

unfoldable pub longitude_mas : GeodeticPair → ℤ
longitude_mas at = whole_of degree at.longitude

-- "Metres to cm: near(value · 100)."
unfoldable pub easting_cm : PlanePair → ℤ
easting_cm at = whole_of metre at.first

unfoldable pub northing_cm : PlanePair → ℤ
northing_cm at = whole_of metre at.second

-- "Back: the whole number as f64, divided once by 3,600,000 or 100."
abbrev pub plane_pair : ℤ → ℤ → PlanePair
plane_pair E N = metres (float_of metre E) (float_of metre N)

abbrev pub geodetic_pair : ℤ → ℤ → GeodeticPair
geodetic_pair φ lon = degrees (float_of degree φ) (float_of degree lon)

-- ---- answers

-- an answer as a list holds it: its mark and its two values
pub record Row : Type 0 where
  pub mark : ℕ
  pub first : Float
  pub second : Float

-- +0.0
abbrev pub zero_float : Float
zero_float = fin false 0 (pos 0)

-- number and values as a list holds them: "its answer and mark 0, or 0.0, 0.0 and its number"
abbrev pub accepted_row : Float → Float → Row
accepted_row first second = record { mark = 0; first = first; second = second }

abbrev pub refused_row : ℕ → Row
refused_row number = record { mark = number; first = zero_float; second = zero_float }

-- of each case
abbrev pub plane_row : PlanePairAnswer → Row
plane_row (Metres pair) = accepted_row pair.first pair.second
plane_row (Refused number) = refused_row number

abbrev pub geodetic_row : GeodeticPairAnswer → Row
geodetic_row (Degrees pair) = accepted_row pair.latitude pair.longitude
geodetic_row (NotFound number) = refused_row number

-- ---- tests

-- refusal 2: "both coordinates are tested for 2 before either for 3"
unfoldable pub are_finite : Float → Float → Bool
are_finite x y = is_finite x && is_finite y

-- refusal 3: "latitude beyond ±90° or longitude beyond ±180°", tested "on the float, before rounding"
unfoldable pub within_globe : GeodeticPair → Bool
within_globe at = within_limit latitude_limit at.latitude && within_limit longitude_limit at.longitude

-- refusal 3: "easting or northing beyond ±50,000,000 m"
unfoldable pub within_plane : PlanePair → Bool
within_plane at = within_limit plane_limit_float at.first && within_limit plane_limit_float at.second

-- ---- the whole-unit answer in metres, in degrees

abbrev pub in_metres : PlaneAnswer → PlanePairAnswer
in_metres (Plane E N) = Metres (plane_pair E N)
in_metres (PlaneRefused n) = Refused n

abbrev pub in_degrees : GeodeticAnswer → GeodeticPairAnswer
in_degrees (Position φ lon) = Degrees (geodetic_pair φ.0 lon)
in_degrees (GeodeticRefused n) = NotFound n
