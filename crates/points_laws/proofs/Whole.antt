-- The floats of whole numbers within the limits pass the tests, and taken to whole numbers they are the numbers again. So their answer is that of
-- the numbers, and the centre's floats go to the false origin's, and back. Assumes nothing.
use mathlib.Core.Path.{refl, ap, ap₂, ◌∙◌}
use native.Mathlib.Nat.{le_trans}
use lib.Dec.{lit≤}
use lib.IntN.{ℤ}
use Rattle.floats.specs.InnerKinds.{latitude, longitude, plane}
use Rattle.parameters.proofs.AcceptedSet.{accepted_fields, lat0_size}
use Rattle.azimuthal_forward.specs.Answer.{forward_of}
use Rattle.azimuthal_inverse.specs.Answer.{inverse_of}
use Rattle.projection_laws.proofs.Centre.{centre_forward as whole-centre-forward, centre_inverse as whole-centre-inverse}
use Rattle.projection_laws.proofs.Refusals.{forward_decided, inverse_decided}
use Rattle.pairs.specs.Pairs.{latitude_mas, longitude_mas, easting_cm, northing_cm, plane_pair, geodetic_pair, within_globe, within_plane, in_metres, in_degrees}
use Rattle.points.proofs.AnswerLaws.{forward_converted, inverse_converted}
use Rattle.points_laws.specs.Theorems.{ForwardWhole, InverseWhole, CentreForward, CentreInverse}
use Rattle.points_laws.proofs.Floats.{Floats, both_finite, both_within, first_back, second_back}

pub forward_whole : ForwardWhole
unfolding within_globe latitude_mas longitude_mas
forward_whole p set φ lon φ-size lon-size =
    let floats : Floats latitude longitude φ lon (geodetic_pair φ lon).latitude (geodetic_pair φ lon).longitude =
    record { first_size = φ-size; second_size = lon-size; first_is = refl; second_is = refl } in
    forward_converted p (geodetic_pair φ lon) set (both_finite floats) (both_within floats)
    ∙ ap₂ (λ (x y : ℤ). in_metres (forward_of p (record { 0 = x }) y)) (first_back floats) (second_back floats)

pub inverse_whole : InverseWhole
unfolding within_plane easting_cm northing_cm
inverse_whole p set E N E-size N-size =
    let floats : Floats plane plane E N (plane_pair E N).first (plane_pair E N).second =
    record { first_size = E-size; second_size = N-size; first_is = refl; second_is = refl } in
    inverse_converted p (plane_pair E N) set (both_finite floats) (both_within floats)
    ∙ ap₂ (λ (x y : ℤ). in_degrees (inverse_of p x y)) (first_back floats) (second_back floats)

pub centre_forward : CentreForward
centre_forward p set =
    let ok = accepted_fields p set in
    forward_whole p set p.lat0.0 p.lon0 (lat0_size p.lat0 ok.lat0_accepted) ok.lon0_size
    ∙ ap in_metres (forward_decided p p.lat0 p.lon0 p.false_easting p.false_northing (whole-centre-forward p set))

pub centre_inverse : CentreInverse
centre_inverse p set =
    let ok = accepted_fields p set in
    let FE = p.false_easting in
    let FN = p.false_northing in
    inverse_whole p set FE FN (le_trans ok.easting_size (lit≤ tt)) (le_trans ok.northing_size (lit≤ tt))
    ∙ ap in_degrees (inverse_decided p FE FN p.lat0.0 p.lon0 (whole-centre-inverse p set))
