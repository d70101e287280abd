-- The answer of the forward steps, document 01, "Forward steps" and "Refusal numbers": one refusal number and one pair of values.
use Rattle.std.specs.Prelude.{ℕ, Bool, ◌&&◌, ℤ, ◌+ℤ◌, ◌-ℤ◌, Result, Ok, Err}
use Rattle.units.specs.Units.{right_angle, half_turn}
use Rattle.units.specs.Spans.{inside}
use Rattle.units.specs.declared.refusals.Refusal.{Refusal}
use Rattle.units.specs.Refusals.{number, out_of_limits, too_far, unless, first_refusal}
use Rattle.units.specs.Answers.{Told, accepted, refused, answered}
use Rattle.latitudes.specs.declared.Geodetic.{Geodetic}
use Rattle.parameters.specs.declared.Parameters.{Parameters}
use Rattle.parameters.specs.ParameterSet.{set_refusal}
use Rattle.constants.specs.Derived.{constants_of}
use Rattle.azimuthal_forward.specs.declared.PlanePosition.{PlanePosition}
use Rattle.azimuthal_forward.specs.Steps.{near_enough, G, dE, dN}

-- "latitude beyond ±90° or longitude beyond ±180°" is refused 3
unfoldable pub on_globe : Geodetic → ℤ → Bool
on_globe φ lon = inside right_angle φ.0 && inside half_turn lon

-- A set, a latitude and a longitude.
module _ (p : Parameters) (φ : Geodetic) (lon : ℤ) where
  -- the nearness of the position in the forward steps
  unfoldable pub nearness : ℤ
  nearness = G (constants_of p) φ (lon -ℤ p.lon0)

  -- "G below 20,000,000: refused 4"
  unfoldable pub forward_far : ℕ
  forward_far = unless (near_enough nearness) too_far 0

  -- the set's number, 3, 4, in this order, each exactly under its condition
  unfoldable pub forward_refusal : ℕ
  forward_refusal = first_refusal (set_refusal p) (unless (on_globe φ lon) out_of_limits forward_far)

  -- "E = FE + near(RD·u/H); N = FN + near(RN·w/H)"
  unfoldable pub easting_of : ℤ
  easting_of = p.false_easting +ℤ dE (constants_of p) φ (lon -ℤ p.lon0)

  unfoldable pub northing_of : ℤ
  northing_of = p.false_northing +ℤ dN (constants_of p) φ (lon -ℤ p.lon0)

-- easting and northing, or the refusal number alone
pub data PlaneAnswer : Type 0 where
  Plane : ℤ → ℤ → PlaneAnswer
  Refused : ℕ → PlaneAnswer

-- what the code answers: a refusal by its number
abbrev pub plane_answer : Result PlanePosition Refusal → PlaneAnswer
plane_answer (Ok position) = Plane position.easting position.northing
plane_answer (Err refusal) = Refused (number refusal)

-- the number and the values of each case
abbrev pub plane_told : PlaneAnswer → Told
plane_told (Plane E N) = accepted E N
plane_told (Refused number) = refused number

-- what `forward` answers, and what its answer tells
unfoldable pub forward_of : Parameters → Geodetic → ℤ → PlaneAnswer
forward_of p φ lon = answered Refused (forward_refusal p φ lon) (Plane (easting_of p φ lon) (northing_of p φ lon))

unfoldable pub forward_told : Parameters → Geodetic → ℤ → Told
forward_told p φ lon = answered refused (forward_refusal p φ lon) (accepted (easting_of p φ lon) (northing_of p φ lon))
