-- The gap of two longitudes that differ by at most a turn: the remainder by a turn is the difference itself, or 0 for a whole turn, so the smaller of it
-- and what is left of the turn is taken. Its product with the cosine is the longitude gap, as the cosine's size is all that its size needs.
-- Assumes nothing.
use mathlib.Core.Path.{◌≡◌, sym, ap, ◌∙◌}
use Prim.Native.Nat.{◌-◌, ◌*◌, ◌≤◌}
use native.Mathlib.Omega.{arith}
use lib.IntN.{ℤ, pos, nat_abs, ◌-ℤ◌}
use Rattle.proof_kit.proofs.Size.{abs_mul, abs_sub_le}
use Rattle.std.specs.Prelude.{min}
use Rattle.units.specs.Units.{half_turn, full_turn}
use Rattle.trig.specs.Sine.{cosine}
use Rattle.latitudes.specs.declared.Geodetic.{Geodetic}
use Rattle.latitudes.specs.Latitude.{beta}
use Rattle.parameters.specs.declared.Parameters.{Parameters}
use Rattle.constants.specs.declared.Constants.{Constants}
use Rattle.constants.specs.Derived.{series_of, constants_of}
use Rattle.round_trip.specs.RoundTrip.{turn_gap, longitude_gap}

-- the difference of two angles of at most half a turn is at most a turn
pub turn_most : (x y : ℤ) → nat_abs x ≤ half_turn → nat_abs y ≤ half_turn → nat_abs (y -ℤ x) ≤ full_turn
turn_most x y h k = abs_sub_le y x k h

pub shorter_way : (d : ℤ) → nat_abs d ≤ full_turn → min (nat_abs d) (full_turn - nat_abs d) ≡ turn_gap d
unfolding turn_gap
shorter_way d most = omega arith

pub gap_most : (d : ℤ) → turn_gap d ≤ half_turn
unfolding turn_gap
gap_most d = omega arith

-- the longitude gap is the turn gap times a cosine, with the coefficients that the set has
pub weighted : (p : Parameters) (k : Constants) (φ : Geodetic) (lon lon' : ℤ) → k ≡ constants_of p →
    turn_gap (lon' -ℤ lon) * nat_abs (cosine (beta k.series φ).0) ≡ nat_abs (longitude_gap p φ lon lon')
unfolding longitude_gap constants_of
weighted p k φ lon lon' e =
    ap (λ (c : Constants). turn_gap (lon' -ℤ lon) * nat_abs (cosine (beta c.series φ).0)) e
    ∙ sym (abs_mul (pos (turn_gap (lon' -ℤ lon))) (cosine (beta (series_of p.e2) φ).0))
