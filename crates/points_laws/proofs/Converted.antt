-- An answer that is a pair has the number 0, so each of its tests is passed: the set is accepted, and the rounded position passes the tests of the
-- whole-unit call. So the answer is the whole-unit answer converted. That answer lies within the limits of its coordinates, so its floats are finite,
-- and taken back they are its whole numbers. Assumes nothing.
use mathlib.Core.Path.{◌≡◌, refl, sym, ap, ap₂, ◌∙◌}
use mathlib.Core.Bool.{Bool, true}
use Prim.Native.Nat.{ℕ, zero, suc}
use lib.IntN.{ℤ}
use Rattle.proof_kit.proofs.Order.{<ℤ-≤ℤ, abs_between}
use Rattle.units.specs.Refusals.{unless, first_refusal}
use Rattle.units.proofs.Spans.{plane_sizes}
use Rattle.units.proofs.Chains.{link_passed}
use Rattle.floats.specs.InnerKinds.{latitude, longitude, plane}
use Rattle.latitudes.specs.declared.Geodetic.{Geodetic}
use Rattle.parameters.specs.declared.Parameters.{Parameters}
use Rattle.parameters.specs.ParameterSet.{set_refusal}
use Rattle.azimuthal_forward.specs.Answer.{Plane}
use Rattle.azimuthal_forward.specs.Answer.{forward_far, forward_refusal, easting_of, northing_of, forward_of}
use Rattle.azimuthal_inverse.specs.Answer.{Position}
use Rattle.azimuthal_inverse.specs.Answer.{inverse_far, inverse_refusal, inverse_latitude, inverse_longitude, inverse_of}
use Rattle.projection_laws.proofs.Ranges.{position_in_range}
use Rattle.round_trip.proofs.Limits.{forward_on_plane}
use Rattle.pairs.specs.declared.GeodeticPair.{GeodeticPair}
use Rattle.pairs.specs.declared.PlanePair.{PlanePair}
use Rattle.pairs.specs.PlanePairAnswer.{Metres}
use Rattle.pairs.specs.GeodeticPairAnswer.{Degrees}
use Rattle.pairs.specs.Pairs.{latitude_mas, longitude_mas, easting_cm, northing_cm, are_finite, within_globe, within_plane, plane_row, geodetic_row}
use Rattle.points.specs.Points.{pair_refusal}
use Rattle.points.specs.Points.{forward_pair_refusal, forward_pair, forward_degrees, forward_row, inverse_pair_refusal, inverse_pair, inverse_metres, inverse_row}
use Rattle.points.proofs.AnswerLaws.{forward_tells, inverse_tells, rounded_on_globe, rounded_on_plane}
use Rattle.points.proofs.AnswerLaws.{forward_converted as converted-forward, inverse_converted as converted-inverse}
use Rattle.points_laws.specs.Theorems.{ForwardConverted, InverseConverted, ForwardFinite, InverseFinite, ForwardBack, InverseBack}
use Rattle.points_laws.proofs.Rows.{nothing, row_values}
use Rattle.points_laws.proofs.Floats.{Floats, each_finite, first_back, second_back}

-- ---- a chain of the tests of a single call that gives 0

pub record Passed (set : ℕ) (finite inside : Bool) (far : ℕ) : Type 0 where
  pub set_passed : set ≡ 0
  pub finite_passed : finite ≡ true
  pub inside_passed : inside ≡ true
  pub far_passed : far ≡ 0

all_passed : (set : ℕ) (finite inside : Bool) (far : ℕ) → first_refusal set (unless finite 2 (unless inside 3 far)) ≡ 0 → Passed set finite inside far
all_passed zero finite inside far h =
    let second = link_passed finite 1 h in
    let third = link_passed inside 2 second.1 in
    record { set_passed = refl; finite_passed = second.0; inside_passed = third.0; far_passed = third.1 }
all_passed (suc n) finite inside far h = nothing h

-- ---- forward

module _ (p : Parameters) (at : GeodeticPair) (pair : PlanePair) (e : forward_degrees p at ≡ Metres pair) where
  abbrev φ : Geodetic
  φ = latitude_mas at

  abbrev lon : ℤ
  lon = longitude_mas at

  forward_told_lem : (forward_pair_refusal p at ≡ 0) × ((forward_pair p at).first ≡ pair.first) × ((forward_pair p at).second ≡ pair.second)
  unfolding forward_row
  forward_told_lem = row_values (forward_pair_refusal p at) _ _ _ _ (sym (forward_tells p at) ∙ ap plane_row e)

  pub forward_passed : Passed (set_refusal p) (are_finite at.latitude at.longitude) (within_globe at) (forward_far p φ lon)
  unfolding forward_pair_refusal pair_refusal
  forward_passed = all_passed _ _ _ _ forward_told_lem.0

  plane_answer : forward_of p φ lon ≡ Plane (easting_of p φ lon) (northing_of p φ lon)
  unfolding forward_of forward_refusal
  plane_answer = rw (forward_passed.set_passed, rounded_on_globe p at forward_passed.inside_passed, forward_passed.far_passed)

  pub forward_floats : Floats plane plane (easting_of p φ lon) (northing_of p φ lon) pair.first pair.second
  unfolding forward_pair
  forward_floats =
      let size = plane_sizes (easting_of p φ lon) (northing_of p φ lon) (forward_on_plane p φ lon _ _ plane_answer) in
      record {
        first_size = size.0;
        second_size = size.1;
        first_is = sym forward_told_lem.1;
        second_is = sym forward_told_lem.2;
      }

pub forward_converted : ForwardConverted
forward_converted p at pair e =
    let passed = forward_passed p at pair e in
    let told = converted-forward p at passed.set_passed passed.finite_passed passed.inside_passed in
    cc (e, told)

pub forward_finite : ForwardFinite
forward_finite p at pair e = each_finite (forward_floats p at pair e)

pub forward_back : ForwardBack
unfolding easting_cm northing_cm
forward_back p at pair e =
    let floats = forward_floats p at pair e in
    plane_answer p at pair e ∙ ap₂ Plane (sym (first_back floats)) (sym (second_back floats))

-- ---- inverse

module _ (p : Parameters) (at : PlanePair) (pair : GeodeticPair) (e : inverse_metres p at ≡ Degrees pair) where
  abbrev E : ℤ
  E = easting_cm at

  abbrev N : ℤ
  N = northing_cm at

  inverse_told_lem : (inverse_pair_refusal p at ≡ 0) × ((inverse_pair p at).latitude ≡ pair.latitude) × ((inverse_pair p at).longitude ≡ pair.longitude)
  unfolding inverse_row
  inverse_told_lem = row_values (inverse_pair_refusal p at) _ _ _ _ (sym (inverse_tells p at) ∙ ap geodetic_row e)

  pub inverse_passed : Passed (set_refusal p) (are_finite at.first at.second) (within_plane at) (inverse_far p E N)
  unfolding inverse_pair_refusal pair_refusal
  inverse_passed = all_passed _ _ _ _ inverse_told_lem.0

  geodetic_answer : inverse_of p E N ≡ Position (inverse_latitude p E N) (inverse_longitude p E N)
  unfolding inverse_of inverse_refusal
  geodetic_answer = rw (inverse_passed.set_passed, rounded_on_plane p at inverse_passed.inside_passed, inverse_passed.far_passed)

  pub inverse_floats : Floats latitude longitude (inverse_latitude p E N).0 (inverse_longitude p E N) pair.latitude pair.longitude
  unfolding inverse_pair
  inverse_floats =
      let range = position_in_range p E N (inverse_latitude p E N) (inverse_longitude p E N) geodetic_answer in
      record {
        first_size = range.0;
        second_size = abs_between (inverse_longitude p E N) (<ℤ-≤ℤ range.1) range.2;
        first_is = sym inverse_told_lem.1;
        second_is = sym inverse_told_lem.2;
      }

pub inverse_converted : InverseConverted
inverse_converted p at pair e =
    let passed = inverse_passed p at pair e in
    sym e ∙ converted-inverse p at passed.set_passed passed.finite_passed passed.inside_passed

pub inverse_finite : InverseFinite
inverse_finite p at pair e = each_finite (inverse_floats p at pair e)

pub inverse_back : InverseBack
unfolding latitude_mas longitude_mas
inverse_back p at pair e =
    let floats = inverse_floats p at pair e in
    geodetic_answer p at pair e
    ∙ ap₂ (λ (φ lon : ℤ). Position (record { 0 = φ }) lon) (sym (first_back floats)) (sym (second_back floats))
