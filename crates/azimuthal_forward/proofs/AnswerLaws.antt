-- The forward answer by the tests that decide it, and what it tells. Assumes nothing.
use mathlib.Core.Path.{◌≡◌}
use mathlib.Core.Bool.{true, false}
use Prim.Native.Nat.{ℕ}
use lib.IntN.{ℤ}
use Rattle.units.specs.Refusals.{out_of_limits, unless}
use Rattle.units.proofs.AnswerLaws.{answer_tells, set_refused}
use Rattle.latitudes.specs.declared.Geodetic.{Geodetic}
use Rattle.parameters.specs.declared.Parameters.{Parameters}
use Rattle.parameters.specs.ParameterSet.{set_refusal}
use Rattle.azimuthal_forward.specs.Steps.{near_enough}
use Rattle.azimuthal_forward.specs.Answer.{Plane, Refused}
use Rattle.azimuthal_forward.specs.Answer.{on_globe, nearness, forward_far, forward_refusal, easting_of, northing_of, plane_told}
use Rattle.azimuthal_forward.specs.Answer.{forward_of, forward_told}

module _ (p : Parameters) (φ : Geodetic) (lon : ℤ) where
  pub forward_tells : plane_told (forward_of p φ lon) ≡ forward_told p φ lon
  unfolding forward_of forward_told
  forward_tells = answer_tells plane_told Refused (forward_refusal p φ lon) (Plane (easting_of p φ lon) (northing_of p φ lon))

  pub forward_set_refused : (n : ℕ) → (n ≡ 0 → ⊥) → set_refusal p ≡ n → forward_of p φ lon ≡ Refused n
  unfolding forward_of forward_refusal
  forward_set_refused =
      set_refused Refused (Plane (easting_of p φ lon) (northing_of p φ lon)) (set_refusal p) (unless (on_globe φ lon) out_of_limits (forward_far p φ lon))

  -- with an accepted set
  module _ (ok : set_refusal p ≡ 0) where
    pub forward_off_globe : on_globe φ lon ≡ false → forward_of p φ lon ≡ Refused 3
    unfolding forward_of forward_refusal
    forward_off_globe e = rw (ok, e)

    pub forward_too_far : on_globe φ lon ≡ true → near_enough (nearness p φ lon) ≡ false → forward_of p φ lon ≡ Refused 4
    unfolding forward_of forward_refusal forward_far
    forward_too_far e f = rw (ok, e, f)

    pub forward_plane : on_globe φ lon ≡ true → near_enough (nearness p φ lon) ≡ true → forward_of p φ lon ≡ Plane (easting_of p φ lon) (northing_of p φ lon)
    unfolding forward_of forward_refusal forward_far
    forward_plane e f = rw (ok, e, f)
