-- The answer of the inverse steps, document 01, "Inverse steps" and "Refusal numbers": one refusal number and one pair of values.
use Rattle.std.specs.Prelude.{ℕ, cond, ℤ, ◌+ℤ◌, ◌-ℤ◌, Result, Ok, Err}
use Rattle.units.specs.Spans.{on_plane, wrapped}
use Rattle.units.specs.declared.refusals.Refusal.{Refusal}
use Rattle.units.specs.Refusals.{number, out_of_limits, too_far, unless, first_refusal}
use Rattle.units.specs.Answers.{Told, accepted, refused, answered}
use Rattle.latitudes.specs.declared.Geodetic.{Geodetic}
use Rattle.geodetic_search.specs.Reverse.{geodetic}
use Rattle.parameters.specs.declared.Parameters.{Parameters}
use Rattle.parameters.specs.ParameterSet.{set_refusal}
use Rattle.constants.specs.declared.Constants.{Constants}
use Rattle.constants.specs.Derived.{constants_of}
use Rattle.azimuthal_forward.specs.Steps.{near_enough}
use Rattle.azimuthal_forward.specs.declared.GeodeticPosition.{GeodeticPosition}
use Rattle.azimuthal_inverse.specs.Steps.{at_origin, on_map, K, found}
use Rattle.sphere_points.specs.Sphere.{G, latitude_of, longitude_of}

-- latitude and longitude, or the refusal number alone
pub data GeodeticAnswer : Type 0 where
  Position : Geodetic → ℤ → GeodeticAnswer
  Refused : ℕ → GeodeticAnswer

-- what the code answers: a refusal by its number
abbrev pub geodetic_answer : Result GeodeticPosition Refusal → GeodeticAnswer
geodetic_answer (Ok position) = Position position.latitude position.longitude
geodetic_answer (Err refusal) = Refused (number refusal)

-- A set, its constants and a point counted from the false origin: "dE = E − FE, dN = N − FN".
module _ (p : Parameters) (k : Constants) (dE dN : ℤ) where
  -- "Both zero: answer (φ0, lon0)", so 4 is not asked there. "dE beyond ±2·RD or dN beyond ±2·RN: refused 4"; "under 20,000,000: refused 4"
  unfoldable pub far_from : ℕ
  far_from =
      cond (at_origin dE dN) 0 (unless (on_map k dE dN) too_far (unless (near_enough (G (K k dE dN))) too_far 0))

  unfoldable pub latitude_from : Geodetic
  latitude_from = cond (at_origin dE dN) p.lat0 (geodetic k.series (latitude_of (found k dE dN)))

  -- "lon = lon0 + Δ brought above −180° and to at most 180°"
  unfoldable pub longitude_from : ℤ
  longitude_from = cond (at_origin dE dN) p.lon0 (wrapped (p.lon0 +ℤ longitude_of (found k dE dN)))

  abbrev pub answer_from : GeodeticAnswer
  answer_from = answered Refused far_from (Position latitude_from longitude_from)

-- A set, an easting and a northing.
module _ (p : Parameters) (E N : ℤ) where
  unfoldable pub inverse_far : ℕ
  inverse_far = far_from p (constants_of p) (E -ℤ p.false_easting) (N -ℤ p.false_northing)

  -- the set's number, 3, 4, in this order, each exactly under its condition
  unfoldable pub inverse_refusal : ℕ
  inverse_refusal = first_refusal (set_refusal p) (unless (on_plane E N) out_of_limits inverse_far)

  unfoldable pub inverse_latitude : Geodetic
  inverse_latitude = latitude_from p (constants_of p) (E -ℤ p.false_easting) (N -ℤ p.false_northing)

  unfoldable pub inverse_longitude : ℤ
  inverse_longitude = longitude_from p (constants_of p) (E -ℤ p.false_easting) (N -ℤ p.false_northing)

-- the number and the values of each case
abbrev pub geodetic_told : GeodeticAnswer → Told
geodetic_told (Position φ lon) = accepted φ.0 lon
geodetic_told (Refused number) = refused number

-- what `inverse` answers, and what its answer tells
unfoldable pub inverse_of : Parameters → ℤ → ℤ → GeodeticAnswer
inverse_of p E N = answered Refused (inverse_refusal p E N) (Position (inverse_latitude p E N) (inverse_longitude p E N))

unfoldable pub inverse_told : Parameters → ℤ → ℤ → Told
inverse_told p E N = answered refused (inverse_refusal p E N) (accepted (inverse_latitude p E N).0 (inverse_longitude p E N))
