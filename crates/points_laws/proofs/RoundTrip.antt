-- Demand 3 over doubles: the forward answer's floats stand for its whole numbers, which lie on the plane, so they pass the tests of the inverse call, and
-- it answers as the whole-unit call does. At an index of a list call the same holds, for the call equals the single call there. Assumes nothing.
use mathlib.Core.Path.{◌≡◌, sym, ap, ◌∙◌, subst}
use Prim.Native.Nat.{ℕ, ◌<◌}
use lib.Ieee.{nan}
use lib.ListN.{length, get_or}
use Rattle.parameters.specs.declared.Parameters.{Parameters}
use Rattle.azimuthal_inverse.specs.Answer.{inverse_of}
use Rattle.round_trip.specs.RoundTrip.{latitude_bound, gap_bound, Conditions, CloseTo}
use Rattle.round_trip.specs.Theorems.{RoundTripAt}
use Rattle.round_trip.proofs.Demand3.{demand_3}
use Rattle.pairs.specs.declared.GeodeticPair.{GeodeticPair}
use Rattle.pairs.specs.declared.PlanePair.{PlanePair}
use Rattle.pairs.specs.Pairs.{Row}
use Rattle.pairs.specs.PlanePairAnswer.{Metres}
use Rattle.pairs.specs.GeodeticPairAnswer.{Degrees}
use Rattle.pairs.specs.Pairs.{degrees, metres, latitude_mas, longitude_mas, easting_cm, northing_cm, geodetic_pair, within_plane}
use Rattle.pairs.specs.Pairs.{plane_row, geodetic_row, in_degrees}
use Rattle.points.specs.Points.{forward_degrees, inverse_metres}
use Rattle.points.proofs.AnswerLaws.{forward_tells, inverse_tells, inverse_converted}
use Rattle.row_lists.specs.Rows.{forward_at, inverse_at}
use Rattle.row_lists.specs.InnerRows.{row_at}
use Rattle.points_laws.specs.RoundTripTheorems.{PairCloseTo, FloatRoundTrip}
use Rattle.points_laws.specs.RoundTripTheorems.{CentreForwardAt, CentreInverseAt, CentreForwardListed, CentreInverseListed, ListRoundTrip}
use Rattle.points_laws.proofs.Floats.{both_finite, both_within}
use Rattle.points_laws.proofs.Converted.{forward_passed, forward_floats, forward_back, inverse_back}
use Rattle.points_laws.proofs.Whole.{centre_forward, centre_inverse}
use Rattle.points_laws.proofs.Listed.{at_each_index, forward_listed, inverse_listed, list_counted}
use Rattle.points_laws.proofs.Refusals.{forward_decided}

-- the inverse call on the answered floats is the whole-unit inverse of the answered numbers, in degrees
inverse_of_answer : (p : Parameters) (at : GeodeticPair) (pair : PlanePair) →
    forward_degrees p at ≡ Metres pair →
    inverse_metres p pair ≡ in_degrees (inverse_of p (easting_cm pair) (northing_cm pair))
unfolding within_plane
inverse_of_answer p at pair e =
    let floats = forward_floats p at pair e in
    inverse_converted p pair (forward_passed p at pair e).set_passed (both_finite floats) (both_within floats)

pub float_round_trip : FloatRoundTrip
unfolding RoundTripAt
float_round_trip p at pair near e =
    let φ = latitude_mas at in
    let lon = longitude_mas at in
    let met : Conditions p φ lon = record {
      easting = easting_cm pair;
      northing = northing_cm pair;
      set_accepted = (forward_passed p at pair e).set_passed;
      from_equator = near.0;
      forward_is = forward_back p at pair e;
      near_centre = near.1;
    } in
    let trip = demand_3 p φ lon met in
    let back : GeodeticPair = geodetic_pair trip.φ'.0 trip.lon' in
    let came : inverse_metres p pair ≡ Degrees back = inverse_of_answer p at pair e ∙ ap in_degrees trip.answer_is in
    record {
      back = back;
      answer_is = came;
      close = subst (CloseTo latitude_bound gap_bound 1 p φ lon) (inverse_back p pair back came) trip;
    }

-- ---- at an index

pub centre_forward_listed : CentreForwardListed
centre_forward_listed =
    at_each_index forward_at CentreForwardAt (λ p set x y at.
    sym (forward_tells p (degrees x y)) ∙ ap (λ g. plane_row (forward_degrees p g)) at ∙ ap plane_row (centre_forward p set))

pub centre_inverse_listed : CentreInverseListed
centre_inverse_listed =
    at_each_index inverse_at CentreInverseAt (λ p set x y at.
    sym (inverse_tells p (metres x y)) ∙ ap (λ g. geodetic_row (inverse_metres p g)) at ∙ ap geodetic_row (centre_inverse p set))

pub list_round_trip : ListRoundTrip
list_round_trip p xs ys first first' second second' mark mark' answer call none lat lat' lon lon' again again' answer' call' none' k l zero-mark near =
    let at : GeodeticPair = degrees (get_or xs k nan) (get_or ys k nan) in
    let pair : PlanePair = metres (get_or first' k nan) (get_or second' k nan) in
    let there : forward_degrees p at ≡ Metres pair =
    forward_decided p at pair.first pair.second
    (sym (forward_listed p xs ys first first' second second' mark mark' answer call none k l)
    ∙ ap (λ (m : ℕ). record { mark = m; first = pair.first; second = pair.second }) zero-mark) in
    let trip = float_round_trip p at pair near there in
    let kept = list_counted p (forward_at p) xs ys first first' second second' mark mark' answer call none in
    let l' : k < length first' = subst (λ (n : ℕ). k < n) (sym kept.1) l in
    let row : row_at k lat' lon' again' ≡ geodetic_row (Degrees trip.back) =
    inverse_listed p first' second' lat lat' lon lon' again again' answer' call' none' k l' ∙ ap geodetic_row trip.answer_is in
    (ap (λ (m : Row). m.mark) row, subst (PairCloseTo p at) (ap (λ (m : Row). degrees m.first m.second) (sym row)) trip.close)
