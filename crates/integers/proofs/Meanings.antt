-- The definitions are what their words say. The size of near(n/d) is the greatest q with 2·q·d ≤ 2·|n| + d, and every number within a half of
-- n/d has such a size, so none as near is farther from zero; a nearer number would be off the halves, where near(n/d) is the only one. Two
-- numbers of equal size that are both within a half of n/d are less than 2 apart, so they are one. Assumes nothing.
use mathlib.Core.Path.{◌≡◌, sym, ap}
use mathlib.Core.Logic.{◌⊎◌, inl, inr}
use Prim.Native.Nat.{ℕ, suc, ◌+◌, ◌*◌, ◌<◌, ◌≤◌}
use native.Mathlib.Nat.{le-div_iff_mul-le}
use native.Mathlib.Omega.{arith}
use lib.IntN.{ℤ, pos, negsuc, nat_abs, ◌-ℤ◌, ◌*ℤ◌}
use Rattle.proof_kit.proofs.Order.{le_or_lt}
use Rattle.proof_kit.proofs.Size.{abs_sub_sym, abs_from, abs_mul}
use Rattle.integers.specs.Near.{near, nearest}
use Rattle.integers.specs.Theorems.{distance, IsNearest, NearNearest, NearUnique, RootGreatest, RootRounds, GreatestPassing}
use Rattle.integers.proofs.Greatest.{greatest_le, greatest_passes, greatest_ge}
use Rattle.integers.proofs.Squares.{root_low, root_least}
use Rattle.integers.proofs.Digits.{rounds_root}
use Rattle.integers.proofs.Rounding.{near_size, near_close, near_only, apart}

pub root_greatest : RootGreatest
root_greatest n = (root_low n, root_least n)

pub root_rounds : RootRounds
root_rounds n = (λ h. rounds_root _ n (omega arith) (omega arith), λ h. rounds_root _ n (omega arith) (omega arith))

pub greatest_passing : GreatestPassing
greatest_passing test start n = (greatest_le test n, greatest_passes test start n, greatest_ge test n)

-- ---- near

-- numbers of one size and other signs are 2 or more apart; here all of it is multiplied by d
opposite : (a b d : ℕ) → 0 < d → a ≡ suc b → (a + suc b) * d ≤ d → ⊥
opposite a b d some e h = two_apart b d some (rw e at h)
  where
    two_apart : (b d : ℕ) → 0 < d → (suc b + suc b) * d ≤ d → ⊥
    two_apart b d some h = omega arith

one_sign : (q r : ℤ) (d : ℕ) → 0 < d → nat_abs q ≡ nat_abs r → nat_abs (q -ℤ r) * d ≤ d → q ≡ r
one_sign (pos a) (pos b) d some e h = ap pos e
one_sign (pos a) (negsuc b) d some e h = absurd (opposite a b d some e h)
one_sign (negsuc a) (pos b) d some e h = absurd (opposite b a d some (sym e) (rw (abs_sub_sym (negsuc a) (pos b)) at h))
one_sign (negsuc a) (negsuc b) d some e h = let f : a ≡ b = omega arith in ap negsuc f

module _ (n : ℤ) (d : ℕ) (some : 0 < d) where
  -- a number within a half of n/d has no greater size
  size_at_most : (k : ℤ) → 2 * distance n d k ≤ d → nat_abs k ≤ nat_abs (near n d)
  unfolding nearest
  size_at_most k h =
      let positive : 0 < 2 * d = omega arith in
      let reached : nat_abs k * (2 * d) ≤ 2 * nat_abs n + d = omega (arith, abs_from (k *ℤ pos d) n, abs_mul k (pos d)) in
      rw (near_size n d) ((le-div_iff_mul-le positive).1 reached)

  -- a nearer number would be the only one
  none_nearer : (k : ℤ) → distance n d (near n d) ≤ distance n d k
  none_nearer k = at (le_or_lt (distance n d (near n d)) (distance n d k))
    where
      at :
          (distance n d (near n d) ≤ distance n d k) ⊎ (distance n d k < distance n d (near n d)) →
          distance n d (near n d) ≤ distance n d k
      at (inl h) = h
      at (inr h) = omega (arith, ap (distance n d) (near_only n k d (omega (arith, near_close n d some))))

  -- another number that is nearest lies on the same half, as far from zero
  unique : (q : ℤ) → IsNearest n d q → q ≡ near n d
  unique q i = at (le_or_lt d (2 * distance n d q))
    where
      at : (d ≤ 2 * distance n d q) ⊎ (2 * distance n d q < d) → q ≡ near n d
      at (inl h) =
          let close = near_close n d some in
          let alike : distance n d (near n d) ≡ distance n d q = omega (arith, close, i.none_nearer (near n d)) in
          let within : 2 * distance n d q ≤ d = omega (arith, close) in
          let size : nat_abs q ≡ nat_abs (near n d) = omega (arith, i.away_from_zero (near n d) alike, size_at_most q within) in
          one_sign q (near n d) d some size (omega (arith, close, apart n q (near n d) d))
      at (inr h) = sym (near_only n q d h)

pub near_nearest : NearNearest
near_nearest n d some =
    record {
      none_nearer = none_nearer n d some;
      away_from_zero = λ k e. size_at_most n d some k (omega (arith, near_close n d some));
    }

pub near_unique : NearUnique
near_unique n d some q i = unique n d some q i
