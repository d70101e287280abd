-- Demand 3 for every accepted set and position, the bounds that its proof gives, and what makes the longitude gap the smallest. What `GapLeast` states is
-- proved as `gap_least` in proofs/, and so the others.
use Rattle.std.specs.Prelude.{ℕ, ◌≤◌, ◌≡◌, true, ℤ, pos, nat_abs, ◌+ℤ◌, ◌*ℤ◌}
use Rattle.units.specs.Units.{full_turn}
use Rattle.units.specs.Spans.{on_plane}
use Rattle.latitudes.specs.declared.Geodetic.{Geodetic}
use Rattle.parameters.specs.declared.Parameters.{Parameters}
use Rattle.azimuthal_forward.specs.Answer.{Plane, forward_of}
use Rattle.azimuthal_inverse.specs.Answer.{inverse_of}
use Rattle.round_trip.specs.RoundTrip.{turn_gap, latitude_bound, gap_bound, Conditions, CloseTo}

-- It is the smallest: no whole number of turns gives a smaller size, and some whole number of turns gives this one.
abbrev pub GapLeast : Type 0
GapLeast = (d turns : ℤ) → turn_gap d ≤ nat_abs (d +ℤ turns *ℤ pos full_turn)

abbrev pub GapAttained : Type 0
GapAttained = (d : ℤ) → (turns : ℤ) × (turn_gap d ≡ nat_abs (d +ℤ turns *ℤ pos full_turn))

-- The bounds that the proof gives: 28 mas, and 17, in halves.
abbrev pub sharp_latitude_bound : ℕ
sharp_latitude_bound = 28

abbrev pub sharp_gap_halves : ℕ
sharp_gap_halves = 34

-- "The inverse answer for exactly that easting and northing, with the same set, is accepted" and close to the position.
unfoldable pub RoundTripAt : (latitude n d : ℕ) → Parameters → Geodetic → ℤ → Type 0
RoundTripAt latitude n d p φ lon = (met : Conditions p φ lon) → CloseTo latitude n d p φ lon (inverse_of p met.easting met.northing)

-- Demand 3: for every accepted set and every such position, both bounds hold.
abbrev pub Demand3 : Type 0
Demand3 = (p : Parameters) (φ : Geodetic) (lon : ℤ) → RoundTripAt latitude_bound gap_bound 1 p φ lon

-- What the proof gives.
abbrev pub SharpRoundTrip : Type 0
SharpRoundTrip = (p : Parameters) (φ : Geodetic) (lon : ℤ) → RoundTripAt sharp_latitude_bound sharp_gap_halves 2 p φ lon

-- Every accepted forward answer lies within the limits of refusal 3, so that the inverse takes it.
abbrev pub ForwardOnPlane : Type 0
ForwardOnPlane = (p : Parameters) (φ : Geodetic) (lon E N : ℤ) → forward_of p φ lon ≡ Plane E N → on_plane E N ≡ true
