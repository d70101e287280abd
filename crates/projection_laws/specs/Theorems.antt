-- What holds of forward and inverse, over the definitions that their contracts cite. What `CentreForward` states is proved as `centre_forward` in proofs/,
-- and so the others.
use Rattle.std.specs.Prelude.{ℕ, ◌≤◌, ◌≡◌, true, List, [], ◌∷◌, ◌++◌, ℤ, pos, neg_ℤ, nat_abs, ◌+ℤ◌, ◌-ℤ◌, ◌*ℤ◌, ◌≤ℤ◌, ◌<ℤ◌}
use Rattle.units.specs.Units.{right_angle, half_turn}
use Rattle.units.specs.Refusals.{out_of_limits, too_far, OneOf}
use Rattle.units.specs.Answers.{accepted, refused}
use Rattle.latitudes.specs.declared.Geodetic.{Geodetic}
use Rattle.latitudes.specs.Latitude.{latitude, beta}
use Rattle.parameters.specs.declared.Parameters.{Parameters}
use Rattle.parameters.specs.ParameterSet.{polar, accepted_e2, set_refusal, etrs_laea}
use Rattle.parameters.specs.FieldTheorems.{Field, number_of, set_refusals, wrong}
use Rattle.constants.specs.Derived.{series_of, RD, constants_of}
use Rattle.azimuthal_forward.specs.Answer.{Plane, Refused, forward_refusal, forward_of, plane_told}
use Rattle.azimuthal_inverse.specs.Answer.{Position, Refused as NotFound, inverse_refusal, inverse_of, geodetic_told}
use Rattle.azimuthal_inverse.specs.Steps.{on_map}

-- a latitude as far on the other side of the Equator
abbrev pub opposite : Geodetic → Geodetic
opposite φ = latitude (neg_ℤ φ.0)

-- ---- the centre

-- "The centre goes to the false origin exactly"
abbrev pub CentreForward : Type 0
CentreForward =
    (p : Parameters) →
    set_refusal p ≡ 0 →
    plane_told (forward_of p p.lat0 p.lon0) ≡ accepted p.false_easting p.false_northing

-- "and the false origin comes back as the centre exactly"
abbrev pub CentreInverse : Type 0
CentreInverse =
    (p : Parameters) →
    set_refusal p ≡ 0 →
    geodetic_told (inverse_of p p.false_easting p.false_northing) ≡ accepted p.lat0.0 p.lon0

-- The pole of a polar set goes to the false origin, whatever its longitude.
abbrev pub PoleForward : Type 0
PoleForward =
    (p : Parameters) →
    set_refusal p ≡ 0 →
    polar p.lat0 ≡ true →
    (lon : ℤ) →
    nat_abs lon ≤ half_turn →
    plane_told (forward_of p p.lat0 lon) ≡ accepted p.false_easting p.false_northing

-- The point opposite to the centre is refused 4.
abbrev pub OppositeForward : Type 0
OppositeForward =
    (p : Parameters) →
    set_refusal p ≡ 0 →
    (lon : ℤ) →
    nat_abs lon ≤ half_turn →
    nat_abs (lon -ℤ p.lon0) ≡ half_turn →
    plane_told (forward_of p (opposite p.lat0) lon) ≡ refused too_far

-- The inverse has a second place for 4: a point on the edge of the map, dE = 2·RD, is within ±2·RD but not near enough.
abbrev pub EdgeInverse : Type 0
EdgeInverse =
    (p : Parameters) →
    set_refusal p ≡ 0 →
    (on_map (constants_of p) (pos 2 *ℤ RD p) (pos 0) ≡ true)
    × (geodetic_told (inverse_of p (p.false_easting +ℤ pos 2 *ℤ RD p) p.false_northing) ≡ refused too_far)

-- ---- β

-- β of the opposite latitude is the opposite of β.
abbrev pub BetaOdd : Type 0
BetaOdd = (e2 : ℤ) (φ : Geodetic) → (beta (series_of e2) (opposite φ)).0 ≡ neg_ℤ (beta (series_of e2) φ).0

-- "β never falls as φ rises."
abbrev pub BetaNeverFalls : Type 0
BetaNeverFalls =
    (e2 : ℤ) →
    accepted_e2 e2 ≡ true →
    (φ ψ : Geodetic) →
    φ.0 ≤ℤ ψ.0 →
    (beta (series_of e2) φ).0 ≤ℤ (beta (series_of e2) ψ).0

-- β of a pole is the pole.
abbrev pub BetaPoles : Type 0
BetaPoles =
    (e2 : ℤ) →
    ((beta (series_of e2) (latitude (pos right_angle))).0 ≡ pos right_angle)
    × ((beta (series_of e2) (latitude (neg_ℤ (pos right_angle)))).0 ≡ neg_ℤ (pos right_angle))

-- ---- ranges

-- The latitude is one "from −90° to 90°", the longitude is brought "above −180° and to at most 180°". A refused answer tells 0 and 0.
abbrev pub InverseRange : Type 0
InverseRange =
    (p : Parameters) (E N : ℤ) →
    (nat_abs (geodetic_told (inverse_of p E N)).first ≤ right_angle)
    × (neg_ℤ (pos half_turn) <ℤ (geodetic_told (inverse_of p E N)).second)
    × ((geodetic_told (inverse_of p E N)).second ≤ℤ pos half_turn)

-- "−180° and 180° forward alike"
abbrev pub HalfTurnAlike : Type 0
HalfTurnAlike = (p : Parameters) (φ : Geodetic) → forward_of p φ (neg_ℤ (pos half_turn)) ≡ forward_of p φ (pos half_turn)

-- ---- refusals: their exact conditions and order are promised by the calls themselves

-- the refusals of a call in whole units; 0 is none
abbrev pub whole_refusals : List ℕ
whole_refusals = set_refusals ++ (out_of_limits ∷ too_far ∷ [])

abbrev pub ForwardNumbers : Type 0
ForwardNumbers = (p : Parameters) (φ : Geodetic) (lon : ℤ) → OneOf (0 ∷ whole_refusals) (forward_refusal p φ lon)

abbrev pub InverseNumbers : Type 0
InverseNumbers = (p : Parameters) (E N : ℤ) → OneOf (0 ∷ whole_refusals) (inverse_refusal p E N)

-- The same of the answers: one that is refused carries one of these numbers, so never 0.
abbrev pub ForwardRefused : Type 0
ForwardRefused = (p : Parameters) (φ : Geodetic) (lon : ℤ) (n : ℕ) → forward_of p φ lon ≡ Refused n → OneOf whole_refusals n

abbrev pub InverseRefused : Type 0
InverseRefused = (p : Parameters) (E N : ℤ) (n : ℕ) → inverse_of p E N ≡ NotFound n → OneOf whole_refusals n

-- What is told decides the answer.
abbrev pub ForwardDecided : Type 0
ForwardDecided =
    (p : Parameters) (φ : Geodetic) (lon E N : ℤ) →
    plane_told (forward_of p φ lon) ≡ accepted E N →
    forward_of p φ lon ≡ Plane E N

abbrev pub InverseDecided : Type 0
InverseDecided =
    (p : Parameters) (E N lat lon : ℤ) →
    geodetic_told (inverse_of p E N) ≡ accepted lat lon →
    inverse_of p E N ≡ Position (latitude lat) lon

-- ---- witnesses: each refusal and an accepted answer, in each direction, so that no condition is empty

-- A set with one field wrong is refused by the number of that field, before its position is refused 3. The accepted answers, and forward's 3 and 4, are
-- those of the program's example in document 01.
abbrev pub ForwardWitnesses : Type 0
ForwardWitnesses =
    (plane_told (forward_of etrs_laea (latitude (pos 187_200_000)) (pos 36_000_000)) ≡ accepted (pos 432_100_000) (pos 321_000_000))
    × ((f : Field) → plane_told (forward_of (wrong f) (latitude (pos 324_000_001)) (pos 0)) ≡ refused (number_of f))
    × (plane_told (forward_of etrs_laea (latitude (pos 324_000_001)) (pos 0)) ≡ refused out_of_limits)
    × (plane_told (forward_of etrs_laea (latitude (neg_ℤ (pos 187_200_000))) (neg_ℤ (pos 612_000_000))) ≡ refused too_far)

abbrev pub InverseWitnesses : Type 0
InverseWitnesses =
    (geodetic_told (inverse_of etrs_laea (pos 432_100_000) (pos 321_000_000)) ≡ accepted (pos 187_200_000) (pos 36_000_000))
    × ((f : Field) → geodetic_told (inverse_of (wrong f) (pos 5_000_000_001) (pos 0)) ≡ refused (number_of f))
    × (geodetic_told (inverse_of etrs_laea (pos 5_000_000_001) (pos 0)) ≡ refused out_of_limits)
    × (geodetic_told (inverse_of etrs_laea (pos 5_000_000_000) (pos 0)) ≡ refused too_far)
