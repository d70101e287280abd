-- Inner: the inverse steps in stages, with a root between each two: the point of the plane, the point of the sphere, the answer. Together they give
-- `inverse_of` (`proofs/StageLaws.antt`).
use Rattle.std.specs.Prelude.{ℕ, ◌≤◌, ◌≡◌, Bool, true, false, cond, ℤ, pos, nat_abs, ◌-ℤ◌, ◌+ℤ◌, ◌≤ℤ◌, Result, Ok, Err}
use Rattle.units.specs.Spans.{on_plane, wrapped}
use Rattle.units.specs.declared.refusals.Refusal.{Refusal}
use Rattle.units.specs.Refusals.{number, out_of_limits, too_far}
use Rattle.units.specs.Answers.{answered}
use Rattle.parameters.specs.declared.Parameters.{Parameters}
use Rattle.parameters.specs.ParameterSet.{set_refusal}
use Rattle.constants.specs.declared.Constants.{Constants}
use Rattle.constants.specs.Derived.{constants_of}
use Rattle.azimuthal_forward.specs.Steps.{near_enough}
use Rattle.sphere_points.specs.Points.{Point}
use Rattle.sphere_points.specs.Sphere.{G, point_of, latitude_of, longitude_of}
use Rattle.azimuthal_forward.specs.declared.PlanePosition.{PlanePosition}
use Rattle.azimuthal_inverse.specs.declared.Reduced.{Reduced}
use Rattle.azimuthal_inverse.specs.declared.MapPoint.{MapPoint}
use Rattle.azimuthal_inverse.specs.declared.MapPoint.TheVariants.{FalseOrigin, Away}
use Rattle.azimuthal_inverse.specs.Answer.{GeodeticAnswer, Position, Refused, inverse_of}
use Rattle.azimuthal_inverse.specs.Steps.{at_origin, on_map, X, Y, K}
use Rattle.latitudes.specs.declared.AuthalicSeries.{AuthalicSeries}
use Rattle.geodetic_search.specs.Reverse.{geodetic}

-- the position of a point of the sphere
abbrev pub position_of : AuthalicSeries → ℤ → Point → GeodeticAnswer
position_of series lon0 s = Position (geodetic series (latitude_of s)) (wrapped (lon0 +ℤ longitude_of s))

-- The constants of some accepted set.
pub record OfAcceptedSet (k : Constants) : Type 0 where
  pub set : Parameters
  pub set_accepted : set_refusal set ≡ 0
  pub constants : k ≡ constants_of set

-- ---- the point of the plane

-- A point of the plane as the steps take it. The refusal is 3, 4, or 0 for none.
pub record PlanePoint : Type 0 where
  pub refusal : ℕ
  pub origin : Bool
  pub reduced : Reduced

-- a point that is answered without the steps: refused, or the false origin
abbrev pub answered_early : ℕ → Bool → PlanePoint
answered_early number origin = record { refusal = number; origin = origin; reduced = record { x = pos 0; y = pos 0; versed = pos 0 } }

-- what the code gives
abbrev pub point_answer : Result MapPoint Refusal → PlanePoint
point_answer (Ok FalseOrigin) = answered_early 0 true
point_answer (Ok (Away reduced)) = record { refusal = 0; origin = false; reduced = reduced }
point_answer (Err refusal) = answered_early (number refusal) false

-- counted from the false origin
module _ (k : Constants) (dE dN : ℤ) where
  abbrev pub answered_by_steps : PlanePoint
  answered_by_steps = record { refusal = 0; origin = false; reduced = record { x = X k dE; y = Y k dN; versed = K k dE dN } }

  unfoldable pub reduced_of : PlanePoint
  reduced_of =
      cond (at_origin dE dN) (answered_early 0 true)
      (cond (on_map k dE dN) (cond (near_enough (G (K k dE dN))) answered_by_steps (answered_early too_far false)) (answered_early too_far false))

unfoldable pub plane_point_of : Parameters → Constants → ℤ → ℤ → PlanePoint
plane_point_of p k E N =
    cond (on_plane E N) (reduced_of k (E -ℤ p.false_easting) (N -ℤ p.false_northing)) (answered_early out_of_limits false)

-- Every point of the plane is this small, which keeps the code within 64 bits.
pub record SmallReduced (r : Reduced) : Type 0 where
  pub x_size : nat_abs r.x ≤ 2_000_000_000
  pub y_size : nat_abs r.y ≤ 2_000_000_000
  pub versed_least : pos 0 ≤ℤ r.versed
  pub versed_most : nat_abs r.versed ≤ 1_980_000_000

-- ---- the point of the sphere, and the answer

abbrev pub sphere_point_of : Constants → Reduced → Point
sphere_point_of k r = point_of k r.x r.y r.versed

unfoldable pub answer_of : Parameters → Constants → PlanePoint → Point → GeodeticAnswer
answer_of p k q s = answered Refused q.refusal (cond q.origin (Position p.lat0 p.lon0) (position_of k.series p.lon0 s))

-- the inverse answer for a position
abbrev pub inverse_at : Parameters → PlanePosition → GeodeticAnswer
inverse_at p position = inverse_of p position.easting position.northing
