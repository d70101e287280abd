-- What holds of the single and the list calls, over the definitions that their contracts cite. What `ForwardFinite` states is proved as
-- `forward_finite` in proofs/, and so the others.
use Rattle.std.specs.Prelude.{ℕ, suc, ◌≤◌, ◌<◌, ◌≡◌, true, false, List, [], ℤ, pos, neg_ℤ, nat_abs, Float, length, get_or, replicate}
use Rattle.std.specs.Float.{nan, fin}
use Rattle.units.specs.Units.{right_angle, half_turn, plane_limit}
use Rattle.units.specs.Refusals.{not_finite, out_of_limits, too_far, unequal_lists, long_lists}
use Rattle.floats.specs.Limits.{is_finite}
use Rattle.latitudes.specs.Latitude.{latitude}
use Rattle.parameters.specs.declared.Parameters.{Parameters}
use Rattle.azimuthal_forward.specs.Answer.{Plane}
use Rattle.azimuthal_inverse.specs.Answer.{Position}
use Rattle.parameters.specs.ParameterSet.{set_refusal, etrs_laea}
use Rattle.parameters.specs.FieldTheorems.{Field, number_of, wrong, all_wrong}
use Rattle.azimuthal_forward.specs.Answer.{forward_of}
use Rattle.azimuthal_inverse.specs.Answer.{inverse_of}
use Rattle.pairs.specs.declared.GeodeticPair.{GeodeticPair}
use Rattle.pairs.specs.declared.PlanePair.{PlanePair}
use Rattle.pairs.specs.Pairs.{Row}
use Rattle.pairs.specs.PlanePairAnswer.{Metres, Refused as PlaneRefused}
use Rattle.pairs.specs.GeodeticPairAnswer.{Degrees, Refused as NotFound}
use Rattle.point_lists.specs.Lists.{ListAnswer}
use Rattle.point_lists.specs.Lists.{Count, Refused}
use Rattle.pairs.specs.Pairs.{degrees, metres, latitude_mas, longitude_mas, easting_cm, northing_cm, plane_pair, geodetic_pair, zero_float}
use Rattle.pairs.specs.Pairs.{plane_row, geodetic_row, in_metres, in_degrees}
use Rattle.points.specs.Points.{forward_degrees, inverse_metres}
use Rattle.row_lists.specs.Rows.{forward_at, inverse_at, zeros}
use Rattle.row_lists.specs.InnerRows.{row_at}
use Rattle.point_lists.specs.Lists.{list_refusal, ListCall}

-- ---- accepted answers of single calls

-- Each accepted answer is the whole-unit call's answer converted.
abbrev pub ForwardConverted : Type 0
ForwardConverted =
    (p : Parameters) (at : GeodeticPair) (pair : PlanePair) →
    forward_degrees p at ≡ Metres pair →
    Metres pair ≡ in_metres (forward_of p (latitude_mas at) (longitude_mas at))

abbrev pub InverseConverted : Type 0
InverseConverted =
    (p : Parameters) (at : PlanePair) (pair : GeodeticPair) →
    inverse_metres p at ≡ Degrees pair →
    Degrees pair ≡ in_degrees (inverse_of p (easting_cm at) (northing_cm at))

-- Demand 1: "It answers with finite coordinates".
abbrev pub ForwardFinite : Type 0
ForwardFinite =
    (p : Parameters) (at : GeodeticPair) (pair : PlanePair) →
    forward_degrees p at ≡ Metres pair →
    (is_finite pair.first ≡ true) × (is_finite pair.second ≡ true)

abbrev pub InverseFinite : Type 0
InverseFinite =
    (p : Parameters) (at : PlanePair) (pair : GeodeticPair) →
    inverse_metres p at ≡ Degrees pair →
    (is_finite pair.latitude ≡ true) × (is_finite pair.longitude ≡ true)

-- "Taking an answer's floats back gives its whole numbers again."
abbrev pub ForwardBack : Type 0
ForwardBack =
    (p : Parameters) (at : GeodeticPair) (pair : PlanePair) →
    forward_degrees p at ≡ Metres pair →
    forward_of p (latitude_mas at) (longitude_mas at) ≡ Plane (easting_cm pair) (northing_cm pair)

abbrev pub InverseBack : Type 0
InverseBack =
    (p : Parameters) (at : PlanePair) (pair : GeodeticPair) →
    inverse_metres p at ≡ Degrees pair →
    inverse_of p (easting_cm at) (northing_cm at) ≡ Position (latitude_mas pair) (longitude_mas pair)

-- ---- whole numbers put in as floats

-- Within the limits, the floats of whole numbers have the answer of the whole numbers.
abbrev pub ForwardWhole : Type 0
ForwardWhole =
    (p : Parameters) →
    set_refusal p ≡ 0 →
    (φ lon : ℤ) →
    nat_abs φ ≤ right_angle →
    nat_abs lon ≤ half_turn →
    forward_degrees p (geodetic_pair φ lon) ≡ in_metres (forward_of p (latitude φ) lon)

abbrev pub InverseWhole : Type 0
InverseWhole =
    (p : Parameters) →
    set_refusal p ≡ 0 →
    (E N : ℤ) →
    nat_abs E ≤ plane_limit →
    nat_abs N ≤ plane_limit →
    inverse_metres p (plane_pair E N) ≡ in_degrees (inverse_of p E N)

-- the centre's floats go to the false origin's floats, and back
abbrev pub CentreForward : Type 0
CentreForward =
    (p : Parameters) →
    set_refusal p ≡ 0 →
    forward_degrees p (geodetic_pair p.lat0.0 p.lon0) ≡ Metres (plane_pair p.false_easting p.false_northing)

abbrev pub CentreInverse : Type 0
CentreInverse =
    (p : Parameters) →
    set_refusal p ≡ 0 →
    inverse_metres p (plane_pair p.false_easting p.false_northing) ≡ Degrees (geodetic_pair p.lat0.0 p.lon0)

-- ---- lists

-- What holds at each index of every call that is not refused and works out its points by `row`: of the set, the two floats put in there and the row
-- written there.
abbrev pub AtEachIndex : (Parameters → Float → Float → Row) → (Parameters → Float → Float → Row → Type 0) → Type 0
AtEachIndex row Holds =
    (p : Parameters) (xs ys first first' second second' : List Float) (mark mark' : List ℕ) (answer : ListAnswer) →
    ListCall p (row p) xs ys first first' second second' mark mark' answer →
    list_refusal p xs ys first second mark ≡ 0 →
    (k : ℕ) →
    k < length xs →
    Holds p (get_or xs k nan) (get_or ys k nan) (row_at k first' second' mark')

-- a row that is what the single call tells of the point
abbrev pub ForwardToldAt : Parameters → Float → Float → Row → Type 0
ForwardToldAt p x y written = written ≡ plane_row (forward_degrees p (degrees x y))

abbrev pub InverseToldAt : Parameters → Float → Float → Row → Type 0
InverseToldAt p x y written = written ≡ geodetic_row (inverse_metres p (metres x y))

-- the list call equals the single call at every index
abbrev pub ForwardListed : Type 0
ForwardListed = AtEachIndex forward_at ForwardToldAt

abbrev pub InverseListed : Type 0
InverseListed = AtEachIndex inverse_at InverseToldAt

-- such a call answers the count of the marks that are 0, and its lists keep their length
abbrev pub ListCounted : Type 0
ListCounted =
    (p : Parameters) (row : Float → Float → Row) (xs ys first first' second second' : List Float) (mark mark' : List ℕ) (answer : ListAnswer) →
    ListCall p row xs ys first first' second second' mark mark' answer →
    list_refusal p xs ys first second mark ≡ 0 →
    (answer ≡ Count (zeros mark'))
    × (length first' ≡ length xs)
    × (length second' ≡ length xs)
    × (length mark' ≡ length xs)

-- a refused call leaves every lent element as it was and returns the number
abbrev pub ListRefused : Type 0
ListRefused =
    (p : Parameters) (row : Float → Float → Row) (xs ys first first' second second' : List Float) (mark mark' : List ℕ) →
    (answer : ListAnswer) (n : ℕ) →
    ListCall p row xs ys first first' second second' mark mark' answer →
    list_refusal p xs ys first second mark ≡ suc n →
    (answer ≡ Refused (suc n)) × (first' ≡ first) × (second' ≡ second) × (mark' ≡ mark)

-- ---- witnesses: each refusal at each call that can give it, so that no condition is empty, and each before the next in the order

-- 91, and 50,000,001
abbrev pub past_pole : Float
past_pole = fin false 91 (pos 0)

abbrev pub past_plane : Float
past_plane = fin false 50_000_001 (pos 0)

-- 91 and NaN are refused 2, as "both coordinates are tested for 2 before either for 3"; the point opposite to the centre is refused 4, and what is
-- told of it is its number
abbrev pub ForwardWitnesses : Type 0
ForwardWitnesses =
    ((f : Field) → forward_degrees (wrong f) (degrees past_pole nan) ≡ PlaneRefused (number_of f))
    × (forward_degrees etrs_laea (degrees past_pole nan) ≡ PlaneRefused not_finite)
    × (forward_degrees etrs_laea (degrees past_pole zero_float) ≡ PlaneRefused out_of_limits)
    × ((plane_row (forward_degrees etrs_laea (geodetic_pair (neg_ℤ (pos 187_200_000)) (neg_ℤ (pos 612_000_000))))).mark ≡ too_far)

abbrev pub InverseWitnesses : Type 0
InverseWitnesses =
    ((f : Field) → inverse_metres (wrong f) (metres past_plane nan) ≡ NotFound (number_of f))
    × (inverse_metres etrs_laea (metres past_plane nan) ≡ NotFound not_finite)
    × (inverse_metres etrs_laea (metres past_plane zero_float) ≡ NotFound out_of_limits)
    × ((geodetic_row (inverse_metres etrs_laea (plane_pair (pos 5_000_000_000) (pos 0)))).mark ≡ too_far)

-- lists of 4,097
abbrev pub long : List Float
long = replicate 4_097 zero_float

abbrev pub long_marks : List ℕ
long_marks = replicate 4_097 0

-- 5 before 6, 6 before the set's number, which empty lists are refused by too
abbrev pub ListWitnesses : Type 0
ListWitnesses =
    (list_refusal all_wrong long [] long long long_marks ≡ unequal_lists)
    × (list_refusal all_wrong long long long long long_marks ≡ long_lists)
    × ((f : Field) → list_refusal (wrong f) [] [] [] [] [] ≡ number_of f)
    × (list_refusal etrs_laea [] [] [] [] [] ≡ 0)
