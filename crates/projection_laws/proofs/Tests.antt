-- When the tests of the steps are passed: of sizes, of a position, of a plane point and of nearness. Each is a pair of comparisons, and a comparison that
-- holds gives true.
-- Assumes nothing.
use mathlib.Core.Path.{◌≡◌, refl, ap}
use mathlib.Core.Bool.{Bool, true, false, ◌&&◌}
use Prim.Native.Nat.{◌≤◌}
use lib.IntN.{ℤ, pos, nat_abs}
use lib.Signed.{◌≤ℤ◌, ◌<ℤ◌}
use Rattle.proof_kit.proofs.Order.{le_le_z, lt_le_z}
use Rattle.units.specs.Units.{right_angle, half_turn, plane_limit}
use Rattle.latitudes.specs.declared.Geodetic.{Geodetic}
use Rattle.units.specs.Spans.{on_plane}
use Rattle.units.proofs.Spans.{size_inside}
use Rattle.azimuthal_forward.specs.Steps.{near_enough}
use Rattle.azimuthal_forward.specs.Answer.{on_globe}

-- two tests, of which one fails
pub second_fails : (a : Bool) {b : Bool} → b ≡ false → (a && b) ≡ false
second_fails true e = e
second_fails false e = refl

pub first_fails : {a : Bool} (b : Bool) → a ≡ false → (a && b) ≡ false
first_fails b e = ap (λ (a : Bool). a && b) e

pub on_globe_by : (φ : Geodetic) (lon : ℤ) → nat_abs φ.0 ≤ right_angle → nat_abs lon ≤ half_turn → on_globe φ lon ≡ true
unfolding on_globe
on_globe_by φ lon h l = rw (size_inside right_angle φ.0 h, size_inside half_turn lon l)

pub on_plane_by : (E N : ℤ) → nat_abs E ≤ plane_limit → nat_abs N ≤ plane_limit → on_plane E N ≡ true
unfolding on_plane
on_plane_by E N h l = rw (size_inside plane_limit E h, size_inside plane_limit N l)

pub near_enough_by : {g : ℤ} → pos 20_000_000 ≤ℤ g → near_enough g ≡ true
unfolding near_enough
near_enough_by h = le_le_z h

pub not_near_enough : {g : ℤ} → g <ℤ pos 20_000_000 → near_enough g ≡ false
unfolding near_enough
not_near_enough h = lt_le_z h
