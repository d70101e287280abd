-- The witnesses: a concrete call for each refusal. Its tests compute, and the laws of the answers by their tests do the rest; 4 is that of the whole-unit
-- witnesses, since the floats of whole numbers have the answer of the numbers. Assumes nothing.
use mathlib.Core.Path.{◌≡◌, refl, ap, ◌∙◌}
use mathlib.Core.Bool.{true, false}
use lib.Dec.{lit≤}
use lib.IntN.{pos, neg_ℤ}
use lib.Ieee.{nan, lt, neg}
use Rattle.units.specs.Answers.{Told}
use Rattle.floats.specs.Limits.{is_finite, beyond, within_limit}
use Rattle.parameters.specs.ParameterSet.{etrs_laea}
use Rattle.parameters.specs.FieldTheorems.{number_of, wrong}
use Rattle.parameters.proofs.Fields.{not_none, etrs_accepted, wrong_refused}
use Rattle.azimuthal_forward.specs.Answer.{PlaneAnswer}
use Rattle.azimuthal_forward.specs.Answer.{Plane, Refused}
use Rattle.azimuthal_forward.specs.Answer.{forward_of, plane_told}
use Rattle.azimuthal_inverse.specs.Answer.{GeodeticAnswer}
use Rattle.azimuthal_inverse.specs.Answer.{Position, Refused as NotFound}
use Rattle.azimuthal_inverse.specs.Answer.{inverse_of, geodetic_told}
use Rattle.latitudes.specs.Latitude.{latitude}
use Rattle.projection_laws.proofs.Witnesses.{forward_witnesses as whole-forward, inverse_witnesses as whole-inverse}
use Rattle.pairs.specs.Pairs.{degrees, metres, zero_float, are_finite, within_globe, within_plane, plane_row, geodetic_row, in_metres, in_degrees}
use Rattle.points.proofs.AnswerLaws.{forward_set_refused, forward_not_finite, forward_beyond, inverse_set_refused, inverse_not_finite, inverse_beyond}
use Rattle.point_lists.specs.Lists.{length_refusal, list_refusal}
use Rattle.points_laws.specs.Theorems.{past_pole, past_plane, ForwardWitnesses, InverseWitnesses, ListWitnesses}
use Rattle.points_laws.proofs.Whole.{forward_whole, inverse_whole}

-- the tests of the pairs
nan_tests : (are_finite past_pole nan ≡ false) × (are_finite past_plane nan ≡ false)
unfolding are_finite is_finite
nan_tests = (refl, refl)

finite_tests : (are_finite past_pole zero_float ≡ true) × (are_finite past_plane zero_float ≡ true)
unfolding are_finite is_finite
finite_tests = (refl, refl)

limit_tests : (within_globe (degrees past_pole zero_float) ≡ false) × (within_plane (metres past_plane zero_float) ≡ false)
unfolding within_globe within_plane within_limit is_finite beyond lt neg
limit_tests = (refl, refl)

-- the mark of an answer that is converted is the refusal number of the whole-unit answer
metres_mark : (answer : PlaneAnswer) → (plane_row (in_metres answer)).mark ≡ (plane_told answer).refusal
metres_mark (Plane E N) = refl
metres_mark (Refused n) = refl

degrees_mark : (answer : GeodeticAnswer) → (geodetic_row (in_degrees answer)).mark ≡ (geodetic_told answer).refusal
degrees_mark (Position φ lon) = refl
degrees_mark (NotFound n) = refl

pub forward_witnesses : ForwardWitnesses
forward_witnesses = (
  λ f. forward_set_refused (wrong f) (degrees past_pole nan) (number_of f) (not_none f) (wrong_refused f),
  forward_not_finite etrs_laea (degrees past_pole nan) etrs_accepted nan_tests.0,
  forward_beyond etrs_laea (degrees past_pole zero_float) etrs_accepted finite_tests.0 limit_tests.0,
  ap (λ r. (plane_row r).mark) (forward_whole etrs_laea etrs_accepted (neg_ℤ (pos 187_200_000)) (neg_ℤ (pos 612_000_000)) (lit≤ tt) (lit≤ tt))
      ∙ metres_mark (forward_of etrs_laea (latitude (neg_ℤ (pos 187_200_000))) (neg_ℤ (pos 612_000_000)))
      ∙ ap (λ (t : Told). t.refusal) whole-forward.3,
)

pub inverse_witnesses : InverseWitnesses
inverse_witnesses = (
  λ f. inverse_set_refused (wrong f) (metres past_plane nan) (number_of f) (not_none f) (wrong_refused f),
  inverse_not_finite etrs_laea (metres past_plane nan) etrs_accepted nan_tests.1,
  inverse_beyond etrs_laea (metres past_plane zero_float) etrs_accepted finite_tests.1 limit_tests.1,
  ap (λ r. (geodetic_row r).mark) (inverse_whole etrs_laea etrs_accepted (pos 5_000_000_000) (pos 0) (lit≤ tt) (lit≤ tt))
      ∙ degrees_mark (inverse_of etrs_laea (pos 5_000_000_000) (pos 0))
      ∙ ap (λ (t : Told). t.refusal) whole-inverse.3,
)

pub list_witnesses : ListWitnesses
unfolding list_refusal length_refusal
list_witnesses = (refl, refl, wrong_refused, etrs_accepted)
