-- Demand 3: the round trip, in whole units, over the definitions that the contracts of `forward` and `inverse` cite.
use Rattle.std.specs.Prelude.{ℕ, ◌-◌, ◌*◌, ◌%◌, ◌≤◌, min, ◌≡◌, ℤ, pos, nat_abs, ◌-ℤ◌, ◌*ℤ◌, ◌≤ℤ◌}
use Rattle.units.specs.Units.{unit, full_turn}
use Rattle.trig.specs.Sine.{cosine}
use Rattle.latitudes.specs.declared.Geodetic.{Geodetic}
use Rattle.latitudes.specs.Latitude.{beta}
use Rattle.parameters.specs.declared.Parameters.{Parameters}
use Rattle.parameters.specs.ParameterSet.{set_refusal}
use Rattle.constants.specs.Derived.{series_of}
use Rattle.azimuthal_forward.specs.Answer.{PlaneAnswer, Plane, Refused, nearness, forward_of}
use Rattle.azimuthal_inverse.specs.Answer.{GeodeticAnswer, Position, Refused as NotFound, inverse_of}

-- ---- the longitude gap

-- "the smallest size, in mas, that their difference plus a whole number of times 360° can have"
unfoldable pub turn_gap : ℤ → ℕ
turn_gap d = min (nat_abs d % full_turn) (full_turn - nat_abs d % full_turn)

-- The longitude gap (a term of document 01) at a geodetic latitude, times U: "times cosine(β)/U, with the set's β of φ .. The product is not rounded."
unfoldable pub longitude_gap : Parameters → Geodetic → ℤ → ℤ → ℤ
longitude_gap p φ lon lon' = pos (turn_gap (lon' -ℤ lon)) *ℤ cosine (beta (series_of p.e2) φ).0

-- ---- the numbers of demand 3

-- "at most 89 degrees from the Equator", in mas
abbrev pub farthest_latitude : ℕ
farthest_latitude = 320_400_000

-- "nearness G in the forward steps is at least 1,000,000,000"
abbrev pub least_nearness : ℕ
least_nearness = 1_000_000_000

-- "at most 200 milliarcseconds", and "at most 200 milliarcseconds as well", with "40 milliarcseconds in place of 200, both times", document 02, g)
abbrev pub latitude_bound : ℕ
latitude_bound = 40

abbrev pub gap_bound : ℕ
gap_bound = 40

-- ---- demand 3

-- "every accepted parameter set", and "every position at most 89 degrees from the Equator whose forward answer is accepted and whose nearness G in the
-- forward steps is at least 1,000,000,000"
pub record Conditions (p : Parameters) (φ : Geodetic) (lon : ℤ) : Type 0 where
  pub easting : ℤ
  pub northing : ℤ
  pub set_accepted : set_refusal p ≡ 0
  pub from_equator : nat_abs φ.0 ≤ farthest_latitude
  pub forward_is : forward_of p φ lon ≡ Plane easting northing
  pub near_centre : pos least_nearness ≤ℤ nearness p φ lon

-- An accepted answer whose latitude differs from φ by at most `latitude` mas, and whose longitude gap from lon, at φ, is at most n/d mas.
pub record CloseTo (latitude n d : ℕ) (p : Parameters) (φ : Geodetic) (lon : ℤ) (answer : GeodeticAnswer) : Type 0 where
  pub φ' : Geodetic
  pub lon' : ℤ
  pub answer_is : answer ≡ Position φ' lon'
  pub latitude_close : nat_abs (φ'.0 -ℤ φ.0) ≤ latitude
  pub longitude_close : (pos d *ℤ longitude_gap p φ lon lon') ≤ℤ pos (n * unit)

-- ---- there and back in one call

-- the inverse of a forward answer, or its refusal
unfoldable pub there_and_back : Parameters → PlaneAnswer → GeodeticAnswer
there_and_back p (Plane E N) = inverse_of p E N
there_and_back p (Refused n) = NotFound n

-- Demand 3 of an answer for the way there and back.
unfoldable pub MeetsDemand3 : Parameters → Geodetic → ℤ → GeodeticAnswer → Type 0
MeetsDemand3 p φ lon answer = Conditions p φ lon → CloseTo latitude_bound gap_bound 1 p φ lon answer
