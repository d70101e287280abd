-- Document 01, "Degrees and metres" and "Refusal numbers": one pair of doubles, forward and back. Each call has one refusal number and one pair of values.
use Rattle.std.specs.Prelude.{ℕ, Bool, Float}
use Rattle.units.specs.Refusals.{not_finite, out_of_limits, unless, first_refusal}
use Rattle.units.specs.Answers.{answered}
use Rattle.parameters.specs.declared.Parameters.{Parameters}
use Rattle.parameters.specs.ParameterSet.{set_refusal}
use Rattle.azimuthal_forward.specs.Answer.{forward_far, easting_of, northing_of}
use Rattle.azimuthal_inverse.specs.Answer.{inverse_far, inverse_latitude, inverse_longitude}
use Rattle.pairs.specs.declared.GeodeticPair.{GeodeticPair}
use Rattle.pairs.specs.declared.PlanePair.{PlanePair}
use Rattle.pairs.specs.PlanePairAnswer.{PlanePairAnswer, Metres, Refused}
use Rattle.pairs.specs.GeodeticPairAnswer.{GeodeticPairAnswer, Degrees, Refused as NotFound}
use Rattle.pairs.specs.Pairs.{Row, latitude_mas, longitude_mas, easting_cm, northing_cm, plane_pair, geodetic_pair, accepted_row, refused_row}
use Rattle.pairs.specs.Pairs.{are_finite, within_globe, within_plane}

-- ---- The set's number, 2, 3, 4, in this order, each exactly under its condition; 4 is that of the whole-unit steps for the rounded position.

unfoldable pub pair_refusal : Parameters → Float → Float → Bool → ℕ → ℕ
pair_refusal p x y inside far = first_refusal (set_refusal p) (unless (are_finite x y) not_finite (unless inside out_of_limits far))

-- ---- forward

module _ (p : Parameters) (at : GeodeticPair) where
  unfoldable pub forward_pair_refusal : ℕ
  forward_pair_refusal =
      pair_refusal p at.latitude at.longitude (within_globe at) (forward_far p (latitude_mas at) (longitude_mas at))

  unfoldable pub forward_pair : PlanePair
  forward_pair =
      plane_pair (easting_of p (latitude_mas at) (longitude_mas at)) (northing_of p (latitude_mas at) (longitude_mas at))

-- what `forward_degrees` answers, and what its answer tells
unfoldable pub forward_degrees : Parameters → GeodeticPair → PlanePairAnswer
forward_degrees p at = answered Refused (forward_pair_refusal p at) (Metres (forward_pair p at))

unfoldable pub forward_row : Parameters → GeodeticPair → Row
forward_row p at = answered refused_row (forward_pair_refusal p at) (accepted_row (forward_pair p at).first (forward_pair p at).second)

-- ---- inverse

module _ (p : Parameters) (at : PlanePair) where
  unfoldable pub inverse_pair_refusal : ℕ
  inverse_pair_refusal =
      pair_refusal p at.first at.second (within_plane at) (inverse_far p (easting_cm at) (northing_cm at))

  unfoldable pub inverse_pair : GeodeticPair
  inverse_pair =
      geodetic_pair (inverse_latitude p (easting_cm at) (northing_cm at)).0 (inverse_longitude p (easting_cm at) (northing_cm at))

-- what `inverse_metres` answers, and what its answer tells
unfoldable pub inverse_metres : Parameters → PlanePair → GeodeticPairAnswer
inverse_metres p at = answered NotFound (inverse_pair_refusal p at) (Degrees (inverse_pair p at))

unfoldable pub inverse_row : Parameters → PlanePair → Row
inverse_row p at = answered refused_row (inverse_pair_refusal p at) (accepted_row (inverse_pair p at).latitude (inverse_pair p at).longitude)
