-- The conditions of demand 3 are met by each of the examples: whether the set is accepted, the position on the globe and its nearness at least U is computed
-- from the definitions. That decides that the forward answer is accepted; its easting and northing stand as the definitions have them.
-- Assumes nothing.
use mathlib.Core.Path.{◌≡◌, refl}
use mathlib.Core.Bool.{true}
use Prim.Native.Nat.{◌≤◌}
use lib.Dec.{lit≤}
use lib.IntN.{ℤ, pos, nat_abs}
use lib.Signed.{◌≤ℤ◌, le_z}
use Rattle.proof_kit.proofs.Order.{order, ≤ℤ-trans, le_z_true, le_le_z}
use Rattle.integers.specs.Near.{near, nearest}
use Rattle.units.specs.Spans.{within, same}
use Rattle.sine_table.specs.Table.{entry}
use Rattle.trig.specs.Sine.{between, first_quarter, first_half, one_turn, sine, cosine}
use Rattle.latitudes.specs.declared.Geodetic.{Geodetic}
use Rattle.latitudes.specs.Latitude.{terms, rounded, beta}
use Rattle.parameters.specs.declared.Parameters.{Parameters}
use Rattle.parameters.specs.ParameterSet.{polar, accepted_a, accepted_e2, accepted_lat0, accepted_lon0, accepted_false, set_refusal}
use Rattle.constants.specs.Derived.{to_mas, e4, e6, k2, k4, k6, series_of, β0, S0, C0, constants_of}
use Rattle.azimuthal_forward.specs.Steps.{b, c, v, G, near_enough}
use Rattle.azimuthal_forward.specs.Answer.{on_globe, nearness, easting_of, northing_of}
use Rattle.azimuthal_forward.proofs.AnswerLaws.{forward_plane}
use Rattle.round_trip.specs.RoundTrip.{farthest_latitude, least_nearness, Conditions}
use Rattle.round_trip.specs.ConditionTheorems.{AtEach, ConditionsMet}

-- the tests that decide it, but for the latitude's
abbrev Passes : Parameters → Geodetic → ℤ → Type 0
Passes p φ lon = (set_refusal p ≡ 0) × (on_globe φ lon ≡ true) × (le_z (pos least_nearness) (nearness p φ lon) ≡ true)

-- a position on the globe with that nearness has a forward answer
met : (p : Parameters) (φ : Geodetic) (lon : ℤ) → nat_abs φ.0 ≤ farthest_latitude → Passes p φ lon → Conditions p φ lon
unfolding near_enough
met p φ lon equator passes =
    let near_centre : pos least_nearness ≤ℤ nearness p φ lon = le_z_true (pos least_nearness) (nearness p φ lon) passes.2 in
    let enough : pos 20_000_000 ≤ℤ nearness p φ lon = ≤ℤ-trans {y = pos least_nearness} (omega order) near_centre in
    record {
      easting = easting_of p φ lon;
      northing = northing_of p φ lon;
      set_accepted = passes.0;
      from_equator = equator;
      forward_is = forward_plane p φ lon passes.0 passes.1 (le_le_z {x = pos 20_000_000} {y = nearness p φ lon} enough);
      near_centre = near_centre;
    }

-- the examples pass the tests
computed : AtEach Passes
unfolding within same polar accepted_a accepted_e2 accepted_lat0 accepted_lon0 accepted_false set_refusal on_globe nearness G b c v
    constants_of S0 C0 β0 series_of k2 k4 k6 e4 e6 to_mas beta rounded terms
    near nearest entry between first_quarter first_half one_turn sine cosine
computed = ((refl, refl, refl), (refl, refl, refl), (refl, refl, refl), (refl, refl, refl), (refl, refl, refl))

pub conditions_met : ConditionsMet
conditions_met = (
  met _ _ _ (lit≤ tt) computed.0,
  met _ _ _ (lit≤ tt) computed.1,
  met _ _ _ (lit≤ tt) computed.2,
  met _ _ _ (lit≤ tt) computed.3,
  met _ _ _ (lit≤ tt) computed.4,
)
