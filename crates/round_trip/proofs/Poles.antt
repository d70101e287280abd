-- A position at most 89° from the Equator keeps away from the poles on the sphere of β as well, so the cosine of its β is not small:
-- β never falls, and rises by more than 59 minutes on the last degree. Assumes nothing.
use mathlib.Core.List.{[], ◌∷◌}
use Prim.Native.Nat.{ℕ, suc, ◌-◌, ◌≤◌}
use lib.Dec.{lit≤}
use lib.IntN.{ℤ, pos, negsuc, nat_abs, ◌-ℤ◌, ◌*ℤ◌}
use lib.Signed.{◌≤ℤ◌}
use Rattle.proof_kit.proofs.Order.{order, le_of, ≤ℤ-trans, negℤ-mono, abs_lower, abs_upper, abs_between}
use Rattle.proof_kit.proofs.Ring.{quote}
use Rattle.units.specs.Units.{right_angle}
use Rattle.trig.specs.Sine.{cosine}
use Rattle.trig.proofs.Interface.{cosine_even, cosine_anti, sine_59_minutes}
use Rattle.latitudes.specs.declared.AuthalicSeries.{AuthalicSeries}
use Rattle.latitudes.proofs.AuthalicLaws.{beta_mas, beta_odd, beta_north_pole, beta_slope, beta-≤}
use Rattle.latitudes.specs.InnerSizes.{SmallSeries}
use Rattle.round_trip.specs.RoundTrip.{farthest_latitude}
use Rattle.round_trip.proofs.Numerals.{least_cosine}

-- 59 minutes from a pole
abbrev far_beta : ℕ
far_beta = 320_460_000

-- ---- the cosine there

-- it is at least 0.017, as the cosine falls on the way to the pole
natural_cosine : (n : ℕ) → n ≤ far_beta → pos least_cosine ≤ℤ cosine (pos n)
unfolding cosine
natural_cosine n h = ≤ℤ-trans sine_59_minutes (cosine_anti n far_beta h (lit≤ tt))

-- on either side of the Equator
cosine_least : (β : ℤ) → nat_abs β ≤ far_beta → pos least_cosine ≤ℤ cosine β
cosine_least (pos n) h = natural_cosine n h
cosine_least (negsuc n) h = rw (cosine_even (pos (suc n))) (natural_cosine (suc n) h)

-- ---- β of 89°

-- from 89° to the pole, β rises by more than 59 minutes, as its slope is near 1
beta_at_89 : (k : AuthalicSeries) → SmallSeries k → beta_mas k (pos farthest_latitude) ≤ℤ pos far_beta
beta_at_89 k small =
    below (beta_mas k (pos farthest_latitude)) (rw (beta_north_pole k) at (beta_slope k small (right_angle - farthest_latitude) (pos farthest_latitude)))
  where
    below : (x : ℤ) → (pos 993 *ℤ pos (right_angle - farthest_latitude) -ℤ pos 1000) ≤ℤ (pos 1000 *ℤ (pos right_angle -ℤ x)) → x ≤ℤ pos far_beta
    below x h = omega (order, le_of (x ∷ []) (search quote depth 40 fits 20000) h)

-- up to 89° on either side β is at least 59 minutes from the poles, as it never falls and is odd
beta_within : (k : AuthalicSeries) → SmallSeries k → (φ : ℤ) → nat_abs φ ≤ farthest_latitude → nat_abs (beta_mas k φ) ≤ far_beta
beta_within k small φ h =
    let north : beta_mas k (pos farthest_latitude) ≤ℤ pos far_beta = beta_at_89 k small in
    abs_between (beta_mas k φ)
    (≤ℤ-trans (rw (← (beta_odd k (pos farthest_latitude))) at (negℤ-mono north)) (beta-≤ k small (abs_lower φ h)))
    (≤ℤ-trans (beta-≤ k small (abs_upper φ h)) north)

-- the cosine of β is at least 0.017
pub cosine_at_89 : (k : AuthalicSeries) → SmallSeries k → (φ : ℤ) → nat_abs φ ≤ farthest_latitude → pos least_cosine ≤ℤ cosine (beta_mas k φ)
cosine_at_89 k small φ h = cosine_least (beta_mas k φ) (beta_within k small φ h)
