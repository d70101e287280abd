-- What acceptance says of each field of a set, as bounds: a set that is not refused has passed the test of each field.
-- Assumes nothing.
use mathlib.Core.Path.{◌≡◌}
use mathlib.Core.Bool.{true}
use mathlib.Core.Logic.{◌⊎◌, inl, inr}
use Prim.Native.Nat.{◌≤◌}
use native.Mathlib.Omega.{arith}
use lib.Dec.{lit≤}
use lib.IntN.{pos, neg_ℤ, nat_abs}
use lib.Signed.{◌<ℤ◌, le_z, lt_z}
use Rattle.proof_kit.proofs.Order.{<ℤ-≤ℤ, le_z_true, lt_z_true, abs_between}
use Rattle.integers.proofs.Greatest.{both}
use Rattle.units.specs.Units.{right_angle, half_turn}
use Rattle.units.specs.Spans.{inside, same}
use Rattle.units.proofs.Spans.{either, within_size, same_equal, Between, between}
use Rattle.latitudes.specs.declared.Geodetic.{Geodetic}
use Rattle.parameters.specs.declared.Parameters.{Parameters}
use Rattle.parameters.specs.ParameterSet.{accepted_a, accepted_e2, polar, accepted_lat0, accepted_lon0, accepted_false, set_refusal}
use Rattle.parameters.specs.FieldTheorems.{semi_major_axis, eccentricity_squared, longitude_of_origin, latitude_of_origin}
use Rattle.parameters.specs.FieldTheorems.{false_easting, false_northing}
use Rattle.parameters.proofs.Fields.{set_accepted}

-- φ0 is at most 85° from the Equator, or a pole
pub oblique_or_polar : (φ0 : Geodetic) → accepted_lat0 φ0 ≡ true → (nat_abs φ0.0 ≤ 306_000_000) ⊎ (polar φ0 ≡ true)
unfolding accepted_lat0
oblique_or_polar φ0 e = at (either (inside 306_000_000 φ0.0) (polar φ0) e)
  where
    at : (inside 306_000_000 φ0.0 ≡ true) ⊎ (polar φ0 ≡ true) → (nat_abs φ0.0 ≤ 306_000_000) ⊎ (polar φ0 ≡ true)
    at (inl h) = inl (within_size 306_000_000 φ0.0 h)
    at (inr h) = inr h

pub polar_cases : (φ0 : Geodetic) → polar φ0 ≡ true → (φ0.0 ≡ pos right_angle) ⊎ (φ0.0 ≡ neg_ℤ (pos right_angle))
unfolding polar
polar_cases φ0 e = at (either (same φ0.0 (pos right_angle)) (same φ0.0 (neg_ℤ (pos right_angle))) e)
  where
    at :
        (same φ0.0 (pos right_angle) ≡ true) ⊎ (same φ0.0 (neg_ℤ (pos right_angle)) ≡ true) →
        (φ0.0 ≡ pos right_angle) ⊎ (φ0.0 ≡ neg_ℤ (pos right_angle))
    at (inl h) = inl (same_equal φ0.0 (pos right_angle) h)
    at (inr h) = inr (same_equal φ0.0 (neg_ℤ (pos right_angle)) h)

pub lat0_size : (φ0 : Geodetic) → accepted_lat0 φ0 ≡ true → nat_abs φ0.0 ≤ right_angle
lat0_size φ0 e = at (oblique_or_polar φ0 e)
  where
    pole : (φ0.0 ≡ pos right_angle) ⊎ (φ0.0 ≡ neg_ℤ (pos right_angle)) → nat_abs φ0.0 ≤ right_angle
    pole (inl q) = rw q (lit≤ tt)
    pole (inr q) = rw q (lit≤ tt)

    at : (nat_abs φ0.0 ≤ 306_000_000) ⊎ (polar φ0 ≡ true) → nat_abs φ0.0 ≤ right_angle
    at (inl h) = omega arith
    at (inr h) = pole (polar_cases φ0 h)

pub record Accepted (p : Parameters) : Type 0 where
  pub a_between : Between p.a 100_000_000 1_000_000_000
  pub e2_between : Between p.e2 0 10_000_000
  pub lat0_accepted : accepted_lat0 p.lat0 ≡ true
  pub lon0_above : neg_ℤ (pos half_turn) <ℤ p.lon0
  pub lon0_size : nat_abs p.lon0 ≤ half_turn
  pub easting_size : nat_abs p.false_easting ≤ 1_000_000_000
  pub northing_size : nat_abs p.false_northing ≤ 1_000_000_000

pub accepted_fields : (p : Parameters) → set_refusal p ≡ 0 → Accepted p
unfolding accepted_a accepted_e2 accepted_lon0 accepted_false
accepted_fields p h =
    let passed = (set_accepted p).0 h in
    let lon = both (lt_z (neg_ℤ (pos half_turn)) p.lon0) (le_z p.lon0 (pos half_turn)) (passed longitude_of_origin) in
    let above = lt_z_true (neg_ℤ (pos half_turn)) p.lon0 lon.0 in
    record {
      a_between = between p.a 100_000_000 1_000_000_000 (passed semi_major_axis);
      e2_between = between p.e2 0 10_000_000 (passed eccentricity_squared);
      lat0_accepted = passed latitude_of_origin;
      lon0_above = above;
      lon0_size = abs_between p.lon0 (<ℤ-≤ℤ above) (le_z_true p.lon0 (pos half_turn) lon.1);
      easting_size = within_size 1_000_000_000 p.false_easting (passed false_easting);
      northing_size = within_size 1_000_000_000 p.false_northing (passed false_northing);
    }
