-- The answers of pairs by the tests that decide them, and what they tell. The chain of tests is one for both directions, and so are its laws.
-- Past the tests of the doubles the rounded position passes those of the whole-unit call, so its answer converted is the pair's answer.
-- Assumes nothing.
use mathlib.Core.Path.{◌≡◌, sym, ◌∙◌}
use mathlib.Core.Bool.{Bool, true, false}
use Prim.Native.Nat.{ℕ}
use lib.IntN.{ℤ}
use Rattle.integers.proofs.Greatest.{both}
use Rattle.units.specs.Spans.{on_plane}
use Rattle.units.specs.Refusals.{not_finite, out_of_limits, unless, first_refusal}
use Rattle.units.specs.Answers.{answered}
use Rattle.units.proofs.Spans.{size_inside}
use Rattle.units.proofs.AnswerLaws.{answer_tells, set_refused}
use Rattle.floats.specs.Limits.{within_limit, latitude_limit, longitude_limit, plane_limit_float}
use Rattle.floats.specs.InnerKinds.{latitude, longitude, plane}
use Rattle.floats.proofs.Coordinates.{whole_within}
use Rattle.latitudes.specs.declared.Geodetic.{Geodetic}
use Rattle.parameters.specs.declared.Parameters.{Parameters}
use Rattle.parameters.specs.ParameterSet.{set_refusal}
use Rattle.azimuthal_forward.specs.Answer.{Plane, Refused as PlaneRefused, on_globe, forward_far, forward_refusal, easting_of, northing_of, forward_of}
use Rattle.azimuthal_inverse.specs.Answer.{Position, Refused as GeodeticRefused, inverse_far, inverse_refusal, inverse_latitude, inverse_longitude, inverse_of}
use Rattle.pairs.specs.declared.GeodeticPair.{GeodeticPair}
use Rattle.pairs.specs.declared.PlanePair.{PlanePair}
use Rattle.pairs.specs.PlanePairAnswer.{PlanePairAnswer, Metres, Refused}
use Rattle.pairs.specs.GeodeticPairAnswer.{GeodeticPairAnswer, Degrees, Refused as NotFound}
use Rattle.pairs.specs.Pairs.{latitude_mas, longitude_mas, easting_cm, northing_cm, plane_row, geodetic_row, in_metres, in_degrees}
use Rattle.pairs.specs.Pairs.{are_finite, within_globe, within_plane}
use Rattle.points.specs.Points.{pair_refusal}
use Rattle.points.specs.Points.{forward_pair_refusal, forward_pair, forward_degrees, forward_row}
use Rattle.points.specs.Points.{inverse_pair_refusal, inverse_pair, inverse_metres, inverse_row}

-- ---- the chain, for an answer of either kind: its two constructors and what its tests say

record Chain (A : Type 0) : Type 0 where
  refuse : ℕ → A
  given : A
  set : ℕ
  finite : Bool
  inside : Bool
  far : ℕ

module _ {A : Type 0} (k : Chain A) where
  abbrev after_set : ℕ
  after_set = unless k.finite not_finite (unless k.inside out_of_limits k.far)

  abbrev decided : A
  decided = answered k.refuse (first_refusal k.set after_set) k.given

  by_set : (n : ℕ) → (n ≡ 0 → ⊥) → k.set ≡ n → decided ≡ k.refuse n
  by_set = set_refused k.refuse k.given k.set after_set

  -- with an accepted set
  module _ (ok : k.set ≡ 0) where
    by_not_finite : k.finite ≡ false → decided ≡ k.refuse not_finite
    by_not_finite e = rw (ok, e)

    by_beyond : k.finite ≡ true → k.inside ≡ false → decided ≡ k.refuse out_of_limits
    by_beyond finite e = rw (ok, finite, e)

    by_far : k.finite ≡ true → k.inside ≡ true → decided ≡ answered k.refuse k.far k.given
    by_far finite e = rw (ok, finite, e)

-- ---- forward

module _ (p : Parameters) (at : GeodeticPair) where
  abbrev φ : Geodetic
  φ = latitude_mas at

  abbrev lon : ℤ
  lon = longitude_mas at

  abbrev forward_chain : Chain PlanePairAnswer
  forward_chain =
      record {
        refuse = Refused;
        given = Metres (forward_pair p at);
        set = set_refusal p;
        finite = are_finite at.latitude at.longitude;
        inside = within_globe at;
        far = forward_far p φ lon;
      }

  pub forward_tells : plane_row (forward_degrees p at) ≡ forward_row p at
  unfolding forward_degrees forward_row
  forward_tells = answer_tells plane_row Refused (forward_pair_refusal p at) (Metres (forward_pair p at))

  pub forward_set_refused : (n : ℕ) → (n ≡ 0 → ⊥) → set_refusal p ≡ n → forward_degrees p at ≡ Refused n
  unfolding forward_degrees forward_pair_refusal pair_refusal
  forward_set_refused = by_set forward_chain

  -- a pair within the limits rounds to a position on the globe
  pub rounded_on_globe : within_globe at ≡ true → on_globe φ lon ≡ true
  unfolding within_globe on_globe latitude_mas longitude_mas
  rounded_on_globe e =
      let t = both (within_limit latitude_limit at.latitude) (within_limit longitude_limit at.longitude) e in
      rw (size_inside _ _ (whole_within latitude at.latitude t.0), size_inside _ _ (whole_within longitude at.longitude t.1))

  -- with an accepted set
  module _ (ok : set_refusal p ≡ 0) where
    pub forward_not_finite : are_finite at.latitude at.longitude ≡ false → forward_degrees p at ≡ Refused not_finite
    unfolding forward_degrees forward_pair_refusal pair_refusal
    forward_not_finite = by_not_finite forward_chain ok

    module _ (finite : are_finite at.latitude at.longitude ≡ true) where
      pub forward_beyond : within_globe at ≡ false → forward_degrees p at ≡ Refused out_of_limits
      unfolding forward_degrees forward_pair_refusal pair_refusal
      forward_beyond = by_beyond forward_chain ok finite

      pub forward_converted : within_globe at ≡ true → forward_degrees p at ≡ in_metres (forward_of p φ lon)
      unfolding forward_degrees forward_pair_refusal pair_refusal forward_pair forward_of forward_refusal
      forward_converted e =
          by_far forward_chain ok finite e
          ∙ sym (rw (ok, rounded_on_globe e) (answer_tells in_metres PlaneRefused (forward_far p φ lon) (Plane (easting_of p φ lon) (northing_of p φ lon))))

-- ---- inverse

module _ (p : Parameters) (at : PlanePair) where
  abbrev E : ℤ
  E = easting_cm at

  abbrev N : ℤ
  N = northing_cm at

  abbrev inverse_chain : Chain GeodeticPairAnswer
  inverse_chain =
      record {
        refuse = NotFound;
        given = Degrees (inverse_pair p at);
        set = set_refusal p;
        finite = are_finite at.first at.second;
        inside = within_plane at;
        far = inverse_far p E N;
      }

  pub inverse_tells : geodetic_row (inverse_metres p at) ≡ inverse_row p at
  unfolding inverse_metres inverse_row
  inverse_tells = answer_tells geodetic_row NotFound (inverse_pair_refusal p at) (Degrees (inverse_pair p at))

  pub inverse_set_refused : (n : ℕ) → (n ≡ 0 → ⊥) → set_refusal p ≡ n → inverse_metres p at ≡ NotFound n
  unfolding inverse_metres inverse_pair_refusal pair_refusal
  inverse_set_refused = by_set inverse_chain

  -- a pair within the limits rounds to a position on the plane
  pub rounded_on_plane : within_plane at ≡ true → on_plane E N ≡ true
  unfolding within_plane on_plane easting_cm northing_cm
  rounded_on_plane e =
      let t = both (within_limit plane_limit_float at.first) (within_limit plane_limit_float at.second) e in
      rw (size_inside _ _ (whole_within plane at.first t.0), size_inside _ _ (whole_within plane at.second t.1))

  -- with an accepted set
  module _ (ok : set_refusal p ≡ 0) where
    pub inverse_not_finite : are_finite at.first at.second ≡ false → inverse_metres p at ≡ NotFound not_finite
    unfolding inverse_metres inverse_pair_refusal pair_refusal
    inverse_not_finite = by_not_finite inverse_chain ok

    module _ (finite : are_finite at.first at.second ≡ true) where
      pub inverse_beyond : within_plane at ≡ false → inverse_metres p at ≡ NotFound out_of_limits
      unfolding inverse_metres inverse_pair_refusal pair_refusal
      inverse_beyond = by_beyond inverse_chain ok finite

      pub inverse_converted : within_plane at ≡ true → inverse_metres p at ≡ in_degrees (inverse_of p E N)
      unfolding inverse_metres inverse_pair_refusal pair_refusal inverse_pair inverse_of inverse_refusal
      inverse_converted e =
          by_far inverse_chain ok finite e
          ∙ sym (rw (ok, rounded_on_plane e)
          (answer_tells in_degrees GeodeticRefused (inverse_far p E N) (Position (inverse_latitude p E N) (inverse_longitude p E N))))
