-- The refusals of the calls on doubles: which numbers there are, 4 exactly under its own condition, and that what is told of an answer decides it.
-- What `ForwardNumbers` states is proved as `forward_numbers` in proofs/, and so the others. The conditions and the order of the others are
-- promised by the calls themselves.
use Rattle.std.specs.Prelude.{ℕ, ◌≡◌, Bool, true, false, List, [], ◌∷◌, ◌++◌, ◌⊎◌, ◌↔◌, ℤ, pos, ◌-ℤ◌, ◌<ℤ◌, Float}
use Rattle.units.specs.Refusals.{not_finite, out_of_limits, too_far, unequal_lists, long_lists, OneOf}
use Rattle.parameters.specs.declared.Parameters.{Parameters}
use Rattle.parameters.specs.ParameterSet.{set_refusal}
use Rattle.parameters.specs.FieldTheorems.{set_refusals}
use Rattle.constants.specs.declared.Constants.{Constants}
use Rattle.constants.specs.Derived.{constants_of}
use Rattle.azimuthal_forward.specs.Answer.{nearness}
use Rattle.azimuthal_inverse.specs.Steps.{at_origin, on_map, K}
use Rattle.sphere_points.specs.Sphere.{G}
use Rattle.pairs.specs.declared.GeodeticPair.{GeodeticPair}
use Rattle.pairs.specs.declared.PlanePair.{PlanePair}
use Rattle.pairs.specs.Pairs.{Row}
use Rattle.pairs.specs.PlanePairAnswer.{Metres, Refused as PlaneRefused}
use Rattle.pairs.specs.GeodeticPairAnswer.{Degrees, Refused as NotFound}
use Rattle.pairs.specs.Pairs.{degrees, metres, easting_cm, northing_cm, latitude_mas, longitude_mas, are_finite, within_globe, within_plane}
use Rattle.pairs.specs.Pairs.{accepted_row, plane_row, geodetic_row}
use Rattle.points.specs.Points.{forward_pair_refusal, forward_degrees, inverse_pair_refusal, inverse_metres}
use Rattle.point_lists.specs.Lists.{ListAnswer}
use Rattle.point_lists.specs.Lists.{Refused}
use Rattle.row_lists.specs.InnerRows.{row_of}
use Rattle.point_lists.specs.Lists.{list_refusal, ListCall}
use Rattle.points_laws.specs.Theorems.{AtEachIndex}

-- ---- Which numbers there are: of lists 5, 6 and the set's, then of each point 2, 3, 4; of single points the set's, 2, 3, 4. 0 is none.

-- of a point with an accepted set
abbrev pub point_refusals : List ℕ
point_refusals = not_finite ∷ out_of_limits ∷ too_far ∷ []

-- of a single call
abbrev pub pair_refusals : List ℕ
pair_refusals = set_refusals ++ point_refusals

-- of a list call
abbrev pub list_refusals : List ℕ
list_refusals = unequal_lists ∷ long_lists ∷ set_refusals

abbrev pub ForwardNumbers : Type 0
ForwardNumbers = (p : Parameters) (at : GeodeticPair) → OneOf (0 ∷ pair_refusals) (forward_pair_refusal p at)

abbrev pub InverseNumbers : Type 0
InverseNumbers = (p : Parameters) (at : PlanePair) → OneOf (0 ∷ pair_refusals) (inverse_pair_refusal p at)

-- The same of the answers: one that is refused carries one of these numbers, so never 0.
abbrev pub ForwardRefused : Type 0
ForwardRefused = (p : Parameters) (at : GeodeticPair) (n : ℕ) → forward_degrees p at ≡ PlaneRefused n → OneOf pair_refusals n

abbrev pub InverseRefused : Type 0
InverseRefused = (p : Parameters) (at : PlanePair) (n : ℕ) → inverse_metres p at ≡ NotFound n → OneOf pair_refusals n

-- the marks of a list call that is not refused, in both directions
abbrev pub MarkedAt : Parameters → Float → Float → Row → Type 0
MarkedAt p x y written = OneOf (0 ∷ point_refusals) written.mark

abbrev pub MarkNumbers : Type 0
MarkNumbers = (forward : Bool) → AtEachIndex (row_of forward) MarkedAt

abbrev pub ListNumbers : Type 0
ListNumbers =
    (p : Parameters) (xs ys first second : List Float) (mark : List ℕ) → OneOf (0 ∷ list_refusals) (list_refusal p xs ys first second mark)

-- and of the answers of list calls
abbrev pub ListRefusedNumbers : Type 0
ListRefusedNumbers =
    (p : Parameters) (row : Float → Float → Row) (xs ys first first' second second' : List Float) (mark mark' : List ℕ) →
    (answer : ListAnswer) (n : ℕ) →
    ListCall p row xs ys first first' second second' mark mark' answer →
    answer ≡ Refused n →
    OneOf list_refusals n

-- ---- 4 exactly where the steps of the rounded position say so, for an accepted set and a pair that passes the tests for 2 and 3

-- "G below 20,000,000: refused 4."
abbrev pub ForwardFarExactly : Type 0
ForwardFarExactly =
    (p : Parameters) (at : GeodeticPair) →
    set_refusal p ≡ 0 →
    are_finite at.latitude at.longitude ≡ true →
    within_globe at ≡ true →
    (forward_degrees p at ≡ PlaneRefused too_far) ↔ (nearness p (latitude_mas at) (longitude_mas at) <ℤ pos 20_000_000)

-- "Both zero: answer (φ0, lon0). dE beyond ±2·RD or dN beyond ±2·RN: refused 4. .. G = 2U − K; under 20,000,000: refused 4."
abbrev pub FarFromCentre : Constants → ℤ → ℤ → Type 0
FarFromCentre k dE dN = (at_origin dE dN ≡ false) × ((on_map k dE dN ≡ false) ⊎ (G (K k dE dN) <ℤ pos 20_000_000))

abbrev pub InverseFarExactly : Type 0
InverseFarExactly =
    (p : Parameters) (at : PlanePair) →
    set_refusal p ≡ 0 →
    are_finite at.first at.second ≡ true →
    within_plane at ≡ true →
    (inverse_metres p at ≡ NotFound too_far)
    ↔ FarFromCentre (constants_of p) (easting_cm at -ℤ p.false_easting) (northing_cm at -ℤ p.false_northing)

-- ---- What is told of an answer decides it: a mark of 0 stands for an accepted answer alone.

abbrev pub ForwardDecided : Type 0
ForwardDecided =
    (p : Parameters) (at : GeodeticPair) (first second : Float) →
    plane_row (forward_degrees p at) ≡ accepted_row first second →
    forward_degrees p at ≡ Metres (metres first second)

abbrev pub InverseDecided : Type 0
InverseDecided =
    (p : Parameters) (at : PlanePair) (first second : Float) →
    geodetic_row (inverse_metres p at) ≡ accepted_row first second →
    inverse_metres p at ≡ Degrees (degrees first second)
