-- A position that comes back is on the globe: it is an answer of the inverse, and every answer of the inverse is. Assumes nothing.
use mathlib.Core.Path.{◌≡◌}
use Prim.Native.Nat.{◌≤◌}
use lib.IntN.{ℤ, nat_abs}
use Rattle.proof_kit.proofs.Order.{abs_between, <ℤ-≤ℤ}
use Rattle.units.specs.Units.{right_angle, half_turn}
use Rattle.latitudes.specs.declared.Geodetic.{Geodetic}
use Rattle.parameters.specs.declared.Parameters.{Parameters}
use Rattle.azimuthal_forward.specs.Answer.{PlaneAnswer, Plane, Refused}
use Rattle.azimuthal_inverse.specs.Answer.{Position}
use Rattle.projection_laws.proofs.Ranges.{position_in_range}
use Rattle.round_trip.specs.RoundTrip.{there_and_back}

pub back_on_globe : (p : Parameters) (there : PlaneAnswer) (φ : Geodetic) (lon : ℤ) → there_and_back p there ≡ Position φ lon →
    (nat_abs φ.0 ≤ right_angle) × (nat_abs lon ≤ half_turn)
unfolding there_and_back
back_on_globe p (Plane E N) φ lon e =
    let range = position_in_range p E N φ lon e in
    (range.0, abs_between lon (<ℤ-≤ℤ range.1) range.2)
back_on_globe p (Refused n) φ lon e = cc
