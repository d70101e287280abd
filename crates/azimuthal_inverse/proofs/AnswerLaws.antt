-- The inverse answer by the tests that decide it, and what it tells. Assumes nothing.
use mathlib.Core.Path.{◌≡◌}
use mathlib.Core.Bool.{true, false}
use Prim.Native.Nat.{ℕ}
use lib.IntN.{ℤ, ◌-ℤ◌}
use Rattle.units.specs.Spans.{on_plane}
use Rattle.units.specs.Refusals.{out_of_limits, unless}
use Rattle.units.proofs.AnswerLaws.{answer_tells, set_refused}
use Rattle.parameters.specs.declared.Parameters.{Parameters}
use Rattle.parameters.specs.ParameterSet.{set_refusal}
use Rattle.constants.specs.declared.Constants.{Constants}
use Rattle.constants.specs.Derived.{constants_of}
use Rattle.azimuthal_forward.specs.Steps.{near_enough}
use Rattle.azimuthal_inverse.specs.Answer.{Position, Refused}
use Rattle.azimuthal_inverse.specs.Steps.{at_origin, on_map, K, found}
use Rattle.sphere_points.specs.Sphere.{G}
use Rattle.azimuthal_inverse.specs.Answer.{far_from, latitude_from, longitude_from, answer_from, inverse_far}
use Rattle.azimuthal_inverse.specs.InnerStages.{position_of}
use Rattle.azimuthal_inverse.specs.Answer.{inverse_refusal, inverse_latitude, inverse_longitude, geodetic_told, inverse_of, inverse_told}

-- ---- a point counted from the false origin

module _ (p : Parameters) (k : Constants) (dE dN : ℤ) where
  pub from_origin : at_origin dE dN ≡ true → answer_from p k dE dN ≡ Position p.lat0 p.lon0
  unfolding far_from latitude_from longitude_from
  from_origin e = rw e

  pub from_off_map : at_origin dE dN ≡ false → on_map k dE dN ≡ false → answer_from p k dE dN ≡ Refused 4
  unfolding far_from
  from_off_map e f = rw (e, f)

  pub from_too_far : at_origin dE dN ≡ false → on_map k dE dN ≡ true → near_enough (G (K k dE dN)) ≡ false → answer_from p k dE dN ≡ Refused 4
  unfolding far_from
  from_too_far e f g = rw (e, f, g)

  pub from_position :
      at_origin dE dN ≡ false →
      on_map k dE dN ≡ true →
      near_enough (G (K k dE dN)) ≡ true →
      answer_from p k dE dN ≡ position_of k.series p.lon0 (found k dE dN)
  unfolding far_from latitude_from longitude_from
  from_position e f g = rw (e, f, g)

-- ---- a point of the plane

module _ (p : Parameters) (E N : ℤ) where
  pub inverse_tells : geodetic_told (inverse_of p E N) ≡ inverse_told p E N
  unfolding inverse_of inverse_told
  inverse_tells = answer_tells geodetic_told Refused (inverse_refusal p E N) (Position (inverse_latitude p E N) (inverse_longitude p E N))

  pub inverse_set_refused : (n : ℕ) → (n ≡ 0 → ⊥) → set_refusal p ≡ n → inverse_of p E N ≡ Refused n
  unfolding inverse_of inverse_refusal
  inverse_set_refused =
      set_refused Refused (Position (inverse_latitude p E N) (inverse_longitude p E N)) (set_refusal p) (unless (on_plane E N) out_of_limits (inverse_far p E N))

  -- with an accepted set
  module _ (ok : set_refusal p ≡ 0) where
    pub inverse_off_plane : on_plane E N ≡ false → inverse_of p E N ≡ Refused 3
    unfolding inverse_of inverse_refusal
    inverse_off_plane e = rw (ok, e)

    pub inverse_on_plane : on_plane E N ≡ true → inverse_of p E N ≡ answer_from p (constants_of p) (E -ℤ p.false_easting) (N -ℤ p.false_northing)
    unfolding inverse_of inverse_refusal inverse_far inverse_latitude inverse_longitude
    inverse_on_plane e = rw (ok, e)
