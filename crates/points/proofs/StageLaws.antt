-- The stages of a pair give its answer. Where the tests pass, the position is the pair's own, and the whole-unit answer converted is the pair's;
-- where one fails, its refusal is the answer, whatever the steps say of 0 and 0. The laws are over both directions. Assumes nothing.
use mathlib.Core.Path.{◌≡◌, refl, sym, ap, ◌∙◌}
use mathlib.Core.Bool.{Bool, true, false}
use mathlib.Core.List.{List, [], ◌∷◌, map}
use Prim.Native.Nat.{ℕ, zero, suc}
use lib.IntN.{ℤ}
use lib.Ieee.{Float}
use lib.ListN.{get_or}
use Rattle.std.specs.Prelude.{Result, Ok, Err}
use Rattle.units.specs.Refusals.{not_finite, out_of_limits}
use Rattle.units.specs.declared.refusals.Refusal.{Refusal}
use Rattle.units.specs.Answers.{answered}
use Rattle.units.proofs.AnswerLaws.{answer_tells}
use Rattle.latitudes.specs.Latitude.{latitude}
use Rattle.parameters.specs.declared.Parameters.{Parameters}
use Rattle.parameters.specs.ParameterSet.{set_refusal}
use Rattle.azimuthal_forward.specs.Answer.{PlaneAnswer, forward_of}
use Rattle.azimuthal_inverse.specs.Answer.{inverse_of}
use Rattle.pairs.specs.declared.GeodeticPair.{GeodeticPair}
use Rattle.pairs.specs.declared.PlanePair.{PlanePair}
use Rattle.pairs.specs.PlanePairAnswer.{PlanePairAnswer, Metres, Refused, plane_pair_answer}
use Rattle.pairs.specs.GeodeticPairAnswer.{GeodeticPairAnswer, Degrees, Refused as NotFound, geodetic_pair_answer}
use Rattle.pairs.specs.Pairs.{degrees, metres, plane_row, geodetic_row}
use Rattle.pairs.specs.Pairs.{latitude_mas, longitude_mas, easting_cm, northing_cm, in_metres, in_degrees}
use Rattle.pairs.specs.Pairs.{are_finite, within_globe, within_plane}
use Rattle.points.specs.Points.{forward_degrees, forward_row, inverse_metres, inverse_row}
use Rattle.points.specs.InnerStages.{tested, numbered, plane_found, geodetic_found}
use Rattle.points.specs.InnerStages.{answer_by, listed, row_by, forward_stages, inverse_stages}
use Rattle.points.proofs.AnswerLaws.{forward_not_finite, forward_beyond, forward_converted, forward_set_refused, forward_tells}
use Rattle.points.proofs.AnswerLaws.{inverse_not_finite, inverse_beyond, inverse_converted, inverse_set_refused, inverse_tells}

-- ---- the answer by the stages

-- for an answer of either kind: `right` is that of the pair, whose position the steps give `found`
by_cases :
    {A : Type 0} (refuse : ℕ → A) (found right : A) (finite inside : Bool) →
    (finite ≡ false → right ≡ refuse not_finite) →
    (finite ≡ true → inside ≡ false → right ≡ refuse out_of_limits) →
    (finite ≡ true → inside ≡ true → right ≡ found) →
    right ≡ answered refuse (tested finite inside) found
unfolding tested
by_cases refuse found right false inside two three passed = two refl
by_cases refuse found right true false two three passed = three refl refl
by_cases refuse found right true true two three passed = passed refl refl

-- The answer of the stages is that of the call, whether the set is accepted or not.
forward_staged :
    (p : Parameters) (at : GeodeticPair) (n : ℕ) →
    set_refusal p ≡ n →
    answer_by forward_stages p at ≡ plane_found (forward_degrees p at)
forward_staged p at zero ok =
    let found : PlanePairAnswer = in_metres (forward_of p (latitude_mas at) (longitude_mas at)) in
    let finite = are_finite at.latitude at.longitude in
    rw ok
    (sym
    (ap plane_found
    (by_cases Refused found (forward_degrees p at) finite (within_globe at)
    (forward_not_finite p at ok) (forward_beyond p at ok) (forward_converted p at ok))
    ∙ answer_tells plane_found Refused (tested finite (within_globe at)) found))
forward_staged p at (suc n) is = rw is (sym (ap plane_found (forward_set_refused p at (suc n) (λ (z : suc n ≡ 0). cc) is)))

inverse_staged :
    (p : Parameters) (at : PlanePair) (n : ℕ) →
    set_refusal p ≡ n →
    answer_by inverse_stages p at ≡ geodetic_found (inverse_metres p at)
inverse_staged p at zero ok =
    let found : GeodeticPairAnswer = in_degrees (inverse_of p (easting_cm at) (northing_cm at)) in
    let finite = are_finite at.first at.second in
    rw ok
    (sym
    (ap geodetic_found
    (by_cases NotFound found (inverse_metres p at) finite (within_plane at)
    (inverse_not_finite p at ok) (inverse_beyond p at ok) (inverse_converted p at ok))
    ∙ answer_tells geodetic_found NotFound (tested finite (within_plane at)) found))
inverse_staged p at (suc n) is = rw is (sym (ap geodetic_found (inverse_set_refused p at (suc n) (λ (z : suc n ≡ 0). cc) is)))

-- ---- what is told of the answer

plane_decided : (r : Result PlanePair Refusal) (answer : PlanePairAnswer) → numbered r ≡ plane_found answer → plane_pair_answer r ≡ answer
plane_decided (Ok pair) (Metres right) e = cc
plane_decided (Ok pair) (Refused n) e = cc
plane_decided (Err refusal) (Metres right) e = cc
plane_decided (Err refusal) (Refused n) e = cc

geodetic_decided : (r : Result GeodeticPair Refusal) (answer : GeodeticPairAnswer) → numbered r ≡ geodetic_found answer → geodetic_pair_answer r ≡ answer
geodetic_decided (Ok pair) (Degrees right) e = cc
geodetic_decided (Ok pair) (NotFound n) e = cc
geodetic_decided (Err refusal) (Degrees right) e = cc
geodetic_decided (Err refusal) (NotFound n) e = cc

pub forward_told :
    (p : Parameters) (at : GeodeticPair) (r : Result PlanePair Refusal) →
    numbered r ≡ answer_by forward_stages p at →
    (plane_pair_answer r ≡ forward_degrees p at) × (plane_row (plane_pair_answer r) ≡ forward_row p at)
forward_told p at r e =
    let is = plane_decided r (forward_degrees p at) (e ∙ forward_staged p at (set_refusal p) refl) in
    (is, ap plane_row is ∙ forward_tells p at)

pub inverse_told :
    (p : Parameters) (at : PlanePair) (r : Result GeodeticPair Refusal) →
    numbered r ≡ answer_by inverse_stages p at →
    (geodetic_pair_answer r ≡ inverse_metres p at) × (geodetic_row (geodetic_pair_answer r) ≡ inverse_row p at)
inverse_told p at r e =
    let is = geodetic_decided r (inverse_metres p at) (e ∙ inverse_staged p at (set_refusal p) refl) in
    (is, ap geodetic_row is ∙ inverse_tells p at)

-- a point of a list by the stages is what the single call tells of it
plane_listed : (answer : PlanePairAnswer) → listed forward_stages (plane_found answer) ≡ plane_row answer
plane_listed (Metres pair) = refl
plane_listed (Refused n) = refl

geodetic_listed : (answer : GeodeticPairAnswer) → listed inverse_stages (geodetic_found answer) ≡ geodetic_row answer
geodetic_listed (Degrees pair) = refl
geodetic_listed (NotFound n) = refl

pub forward_listed : (p : Parameters) (x y : Float) → row_by forward_stages p x y ≡ forward_row p (degrees x y)
forward_listed p x y =
    ap (listed forward_stages) (forward_staged p (degrees x y) (set_refusal p) refl)
    ∙ plane_listed (forward_degrees p (degrees x y))
    ∙ forward_tells p (degrees x y)

pub inverse_listed : (p : Parameters) (x y : Float) → row_by inverse_stages p x y ≡ inverse_row p (metres x y)
inverse_listed p x y =
    ap (listed inverse_stages) (inverse_staged p (metres x y) (set_refusal p) refl)
    ∙ geodetic_listed (inverse_metres p (metres x y))
    ∙ inverse_tells p (metres x y)
