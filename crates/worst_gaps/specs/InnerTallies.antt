-- What a row prints: how many round trips were made, how many positions were refused, the largest gaps, and whether demand 3 holds of them.
use Rattle.std.specs.Prelude.{ℕ, zero, suc, ◌+◌, ◌*◌, min, max, Bool, cond, ◌&&◌, eqb, leb, ℤ, pos}
use Rattle.std.specs.Int.Signed.{le_z}
use Rattle.latitudes.specs.declared.Geodetic.{Geodetic}
use Rattle.parameters.specs.declared.Parameters.{Parameters}
use Rattle.azimuthal_forward.specs.Answer.{nearness, forward_of}
use Rattle.azimuthal_inverse.specs.Answer.{GeodeticAnswer, Position, Refused}
use Rattle.round_trip.specs.RoundTrip.{least_nearness, latitude_bound, gap_bound, there_and_back}
use Rattle.worst_gaps.specs.declared.tally.Tally.{Tally}
use Rattle.worst_gaps.specs.InnerPositions.{next_of, latitude_at, longitude_at}
use Rattle.worst_gaps.specs.InnerGaps.{latitude_gap, gap_thousandths}

abbrev pub no_trips : Tally
no_trips = record { trips = 0; refused = 0; latitude = 0; longitude = 0 }

-- one more; the count stops at a million
abbrev pub counted : ℕ → ℕ
counted n = min (n + 1) 1_000_000

-- a round trip with these gaps
abbrev pub with_trip : Tally → ℕ → ℕ → Tally
with_trip seen latitude longitude =
    record {
      trips = counted seen.trips;
      refused = seen.refused;
      latitude = max seen.latitude latitude;
      longitude = max seen.longitude longitude;
    }

-- a position that is refused on the way there or back
abbrev pub refused_once : Tally → Tally
refused_once seen =
    record { trips = seen.trips; refused = counted seen.refused; latitude = seen.latitude; longitude = seen.longitude }

-- a position with the answer for the way there and back
abbrev pub compared : Parameters → Geodetic → ℤ → GeodeticAnswer → Tally → Tally
compared p φ lon (Position φ' lon') seen = with_trip seen (latitude_gap φ φ') (gap_thousandths p φ lon lon')
compared p φ lon (Refused n) seen = refused_once seen

unfoldable pub trip_of : Parameters → Geodetic → ℤ → Tally → Tally
trip_of p φ lon seen = compared p φ lon (there_and_back p (forward_of p φ lon)) seen

-- only a position whose nearness is at least 1,000,000,000 counts
unfoldable pub step_of : Parameters → ℕ → Tally → Tally
step_of p s seen =
    cond (le_z (pos least_nearness) (nearness p (latitude_at s) (longitude_at s))) (trip_of p (latitude_at s) (longitude_at s) seen) seen

-- so many positions of the sequence from s on
unfoldable pub run_of : Parameters → ℕ → ℕ → Tally → Tally
run_of p zero s seen = seen
run_of p (suc n) s seen = run_of p n (next_of (next_of s)) (step_of p s seen)

-- the row ends with ok: nothing was refused, and both gaps are within the bounds of demand 3
unfoldable pub is_within : Tally → Bool
is_within seen = eqb seen.refused 0 && leb seen.latitude latitude_bound && leb seen.longitude (1_000 * gap_bound)
