-- Demand 3 over doubles, and demands 2 and 3 at an index of a list call. What `FloatRoundTrip` states is proved as `float_round_trip` in proofs/,
-- and so the others.
use Rattle.std.specs.Prelude.{ℕ, ◌≤◌, ◌<◌, ◌≡◌, List, pos, nat_abs, ◌≤ℤ◌, Float, length, get_or}
use Rattle.std.specs.Float.{nan}
use Rattle.parameters.specs.declared.Parameters.{Parameters}
use Rattle.azimuthal_inverse.specs.Answer.{Position}
use Rattle.azimuthal_forward.specs.Answer.{nearness}
use Rattle.round_trip.specs.RoundTrip.{farthest_latitude, least_nearness, latitude_bound, gap_bound, CloseTo}
use Rattle.pairs.specs.declared.GeodeticPair.{GeodeticPair}
use Rattle.pairs.specs.declared.PlanePair.{PlanePair}
use Rattle.pairs.specs.Pairs.{Row}
use Rattle.pairs.specs.GeodeticPairAnswer.{GeodeticPairAnswer}
use Rattle.pairs.specs.PlanePairAnswer.{Metres}
use Rattle.pairs.specs.GeodeticPairAnswer.{Degrees}
use Rattle.point_lists.specs.Lists.{ListAnswer}
use Rattle.pairs.specs.Pairs.{degrees, metres, latitude_mas, longitude_mas, plane_pair, geodetic_pair}
use Rattle.pairs.specs.Pairs.{plane_row, geodetic_row}
use Rattle.points.specs.Points.{forward_degrees, inverse_metres}
use Rattle.row_lists.specs.Rows.{forward_at, inverse_at}
use Rattle.point_lists.specs.Lists.{list_refusal, ListCall}
use Rattle.points_laws.specs.Theorems.{AtEachIndex}

-- ---- demand 3

-- The conditions on a pair of degrees, by its whole numbers: at most 89 degrees from the Equator, and a nearness G of at least 1,000,000,000.
abbrev pub NearPair : Parameters → GeodeticPair → Type 0
NearPair p at =
    (nat_abs (latitude_mas at).0 ≤ farthest_latitude)
    × (pos least_nearness ≤ℤ nearness p (latitude_mas at) (longitude_mas at))

-- The whole numbers of `back` are within 40 mas of those of `at`, in latitude and in longitude gap.
abbrev pub PairCloseTo : Parameters → GeodeticPair → GeodeticPair → Type 0
PairCloseTo p at back =
    CloseTo latitude_bound gap_bound 1 p (latitude_mas at) (longitude_mas at) (Position (latitude_mas back) (longitude_mas back))

-- An accepted answer that is close.
pub record ComesBack (p : Parameters) (at : GeodeticPair) (answer : GeodeticPairAnswer) : Type 0 where
  pub back : GeodeticPair
  pub answer_is : answer ≡ Degrees back
  pub close : PairCloseTo p at back

-- The inverse of exactly the floats that the forward call answered.
abbrev pub FloatRoundTrip : Type 0
FloatRoundTrip =
    (p : Parameters) (at : GeodeticPair) (pair : PlanePair) →
    NearPair p at →
    forward_degrees p at ≡ Metres pair →
    ComesBack p at (inverse_metres p pair)

-- ---- at an index of a list call

-- a row that has the false origin's floats, where the point is the exact centre
abbrev pub CentreForwardAt : Parameters → Float → Float → Row → Type 0
CentreForwardAt p x y written =
    degrees x y ≡ geodetic_pair p.lat0.0 p.lon0 →
    written ≡ plane_row (Metres (plane_pair p.false_easting p.false_northing))

-- and back
abbrev pub CentreInverseAt : Parameters → Float → Float → Row → Type 0
CentreInverseAt p x y written =
    metres x y ≡ plane_pair p.false_easting p.false_northing →
    written ≡ geodetic_row (Degrees (geodetic_pair p.lat0.0 p.lon0))

abbrev pub CentreForwardListed : Type 0
CentreForwardListed = AtEachIndex forward_at CentreForwardAt

abbrev pub CentreInverseListed : Type 0
CentreInverseListed = AtEachIndex inverse_at CentreInverseAt

-- Demand 3 at an index: a forward list call, then an inverse list call on the two lists that it wrote.
-- A position that meets the conditions and has mark 0 has mark 0 again, and comes back close.
abbrev pub ListRoundTrip : Type 0
ListRoundTrip =
    (p : Parameters) (xs ys first first' second second' : List Float) (mark mark' : List ℕ) (answer : ListAnswer) →
    ListCall p (forward_at p) xs ys first first' second second' mark mark' answer →
    list_refusal p xs ys first second mark ≡ 0 →
    (lat lat' lon lon' : List Float) (again again' : List ℕ) (answer' : ListAnswer) →
    ListCall p (inverse_at p) first' second' lat lat' lon lon' again again' answer' →
    list_refusal p first' second' lat lon again ≡ 0 →
    (k : ℕ) →
    k < length xs →
    get_or mark' k 0 ≡ 0 →
    NearPair p (degrees (get_or xs k nan) (get_or ys k nan)) →
    (get_or again' k 0 ≡ 0)
    × PairCloseTo p (degrees (get_or xs k nan) (get_or ys k nan)) (degrees (get_or lat' k nan) (get_or lon' k nan))
