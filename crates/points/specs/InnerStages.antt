-- The stages of a pair of doubles, for the functions that work them out one by one: its tests and its position in whole units, the steps from there,
-- and its answer, in either direction. They give the answers of `Points.antt`: `forward_told` and `inverse_told` of proofs/StageLaws.antt.
use Rattle.std.specs.Prelude.{ℕ, Bool, ℤ, Result, Ok, Err, Float}
use Rattle.units.specs.Refusals.{not_finite, out_of_limits, unless, first_refusal, number}
use Rattle.units.specs.declared.refusals.Refusal.{Refusal}
use Rattle.units.specs.Answers.{answered}
use Rattle.parameters.specs.declared.Parameters.{Parameters}
use Rattle.parameters.specs.ParameterSet.{set_refusal}
use Rattle.azimuthal_forward.specs.declared.GeodeticPosition.{GeodeticPosition}
use Rattle.azimuthal_forward.specs.declared.PlanePosition.{PlanePosition}
use Rattle.azimuthal_forward.specs.Answer.{forward_of}
use Rattle.azimuthal_inverse.specs.Answer.{inverse_of}
use Rattle.pairs.specs.declared.GeodeticPair.{GeodeticPair}
use Rattle.pairs.specs.declared.PlanePair.{PlanePair}
use Rattle.pairs.specs.PlanePairAnswer.{PlanePairAnswer, Metres, Refused}
use Rattle.pairs.specs.GeodeticPairAnswer.{GeodeticPairAnswer, Degrees, Refused as NotFound}
use Rattle.pairs.specs.Pairs.{Row, accepted_row, refused_row}
use Rattle.pairs.specs.Pairs.{latitude_mas, longitude_mas, easting_cm, northing_cm, degrees, metres, in_metres, in_degrees}
use Rattle.pairs.specs.Pairs.{are_finite, within_globe, within_plane}

-- ---- an answer of any kind: what is found, or the refusal number

-- the code's answer, its refusal by its number
abbrev pub numbered : {A : Type 0} → Result A Refusal → Result A ℕ
numbered (Ok found) = Ok found
numbered (Err refusal) = Err (number refusal)

abbrev pub plane_found : PlanePairAnswer → Result PlanePair ℕ
plane_found (Metres pair) = Ok pair
plane_found (Refused n) = Err n

abbrev pub geodetic_found : GeodeticPairAnswer → Result GeodeticPair ℕ
geodetic_found (Degrees pair) = Ok pair
geodetic_found (NotFound n) = Err n

-- ---- the stages, in whatever direction: from a pair to a position in whole units, and from there to the pair found

pub record Stages (Given Whole Found : Type 0) : Type 0 where
  -- the pair of two doubles of lists, and the two doubles of the pair found
  pub given : Float → Float → Given
  pub values : Found → Float × Float
  -- the pair's own refusal, 2, 3 or 0 for none, and its position in whole units
  pub refusal : Given → ℕ
  pub whole : Given → Whole
  -- what the steps of a set say of a position
  pub steps : Parameters → Whole → Result Found ℕ

module _ {Given Whole Found : Type 0} (stages : Stages Given Whole Found) where
  -- the first stage
  abbrev pub whole_by : Given → Result Whole ℕ
  whole_by at = answered Err (stages.refusal at) (Ok (stages.whole at))

  -- what a call answers: the set's refusal comes first, then the pair's own, then what the steps say
  abbrev pub answer_by : Parameters → Given → Result Found ℕ
  answer_by p at = answered Err (first_refusal (set_refusal p) (stages.refusal at)) (stages.steps p (stages.whole at))

  -- as a list holds it
  abbrev pub listed : Result Found ℕ → Row
  listed (Ok found) = accepted_row (stages.values found).0 (stages.values found).1
  listed (Err n) = refused_row n

  abbrev pub row_by : Parameters → Float → Float → Row
  row_by p x y = listed (answer_by p (stages.given x y))

-- ---- of each direction

unfoldable pub tested : Bool → Bool → ℕ
tested finite inside = unless finite not_finite (unless inside out_of_limits 0)

abbrev pub forward_stages : Stages GeodeticPair GeodeticPosition PlanePair
forward_stages =
    record {
      given = degrees;
      values = λ pair. (pair.first, pair.second);
      refusal = λ at. tested (are_finite at.latitude at.longitude) (within_globe at);
      whole = λ at. record { latitude = latitude_mas at; longitude = longitude_mas at };
      steps = λ p at. plane_found (in_metres (forward_of p at.latitude at.longitude));
    }

abbrev pub inverse_stages : Stages PlanePair PlanePosition GeodeticPair
inverse_stages =
    record {
      given = metres;
      values = λ pair. (pair.latitude, pair.longitude);
      refusal = λ at. tested (are_finite at.first at.second) (within_plane at);
      whole = λ at. record { easting = easting_cm at; northing = northing_cm at };
      steps = λ p at. geodetic_found (in_degrees (inverse_of p at.easting at.northing));
    }
