-- The constants that e2 alone decides, for every accepted e2: how large they are. Only the size of e2 is used.
-- Assumes nothing.
use mathlib.Core.Path.{◌≡◌, refl, subst}
use mathlib.Core.List.{[], ◌∷◌}
use Prim.Native.Nat.{ℕ, ◌+◌, ◌*◌, ◌≤◌}
use native.Mathlib.Nat.{le_refl, le_trans}
use native.Mathlib.Omega.{arith}
use lib.Dec.{lit<, lit≤}
use lib.IntN.{ℤ, pos, negsuc, nat_abs, ◌+ℤ◌, ◌-ℤ◌, ◌*ℤ◌}
use lib.Signed.{◌≤ℤ◌}
use Rattle.proof_kit.proofs.Laws.{nat_abs_parts, parts--}
use Rattle.proof_kit.proofs.Order.{pos-≤ℤ}
use Rattle.proof_kit.proofs.Ring.{ring, quote}
use Rattle.proof_kit.proofs.Size.{abs_by, sizes, abs_mul, abs_mul_le, abs_add_le, within_upper, within_lower}
use Rattle.integers.specs.Near.{near, nearest}
use Rattle.integers.proofs.Rounding.{near_bound}
use Rattle.integers.proofs.Squares.{root_least, root_most}
use Rattle.units.specs.Units.{unit, U}
use Rattle.latitudes.specs.InnerSizes.{SmallSeries}
use Rattle.constants.specs.Derived.{to_mas, e4, e6, W, J, k2, k4, k6, series_of}

-- a whole number within δ of a, which is at least δ
pub record About (z : ℤ) (a δ : ℕ) : Type 0 where
  pub same : pos (nat_abs z) ≡ z
  pub low : a ≤ nat_abs z + δ
  pub high : nat_abs z ≤ a + δ

pub about : (z : ℤ) (a δ : ℕ) → nat_abs (z -ℤ pos a) ≤ δ → δ ≤ a → About z a δ
about (pos n) a δ h l = record { same = refl; low = within_lower n a h; high = within_upper n a h }
about (negsuc n) a δ h l =
    let e : ⊥ = omega (arith, nat_abs_parts (negsuc n -ℤ pos a), parts-- (negsuc n) (pos a)) in
    absurd e

-- a number that is its own size is at least n where its size is
pub at_least : {z : ℤ} (n : ℕ) → pos (nat_abs z) ≡ z → n ≤ nat_abs z → pos n ≤ℤ z
at_least n e h = subst (λ (x : ℤ). pos n ≤ℤ x) e (pos-≤ℤ h)

module _ (e2 : ℤ) (small : nat_abs e2 ≤ 10_000_000) where
  pub e4_size : nat_abs (e4 e2) ≤ 100_000
  unfolding e4 nearest
  e4_size = near_bound (e2 *ℤ e2) unit {m = 10_000_000 * 10_000_000} (lit< tt) (abs_mul_le e2 e2 small small)

  pub e6_size : nat_abs (e6 e2) ≤ 1_000
  unfolding e6 nearest
  e6_size = near_bound (e4 e2 *ℤ e2) unit {m = 100_000 * 10_000_000} (lit< tt) (abs_mul_le (e4 e2) e2 e4_size small)

  pub third : nat_abs (near e2 3) ≤ 3_333_333
  unfolding nearest
  third = near_bound e2 3 (lit< tt) small

  pub fifteenth : nat_abs (near (e4 e2) 15) ≤ 6_667
  unfolding nearest
  fifteenth = near_bound (e4 e2) 15 (lit< tt) e4_size

  pub thirty_fifth : nat_abs (near (e6 e2) 35) ≤ 29
  unfolding nearest
  thirty_fifth = near_bound (e6 e2) 35 (lit< tt) e6_size

  pub W-about : About (W e2) unit 3_340_029
  unfolding W
  W-about =
      about (U -ℤ near e2 3 -ℤ near (e4 e2) 15 -ℤ near (e6 e2) 35) unit 3_340_029
      (less (near e2 3) (near (e4 e2) 15) (near (e6 e2) 35) third fifteenth thirty_fifth) (lit≤ tt)
    where
      rest : (x y z : ℤ) → pos unit -ℤ x -ℤ y -ℤ z -ℤ pos unit ≡ pos 0 -ℤ x -ℤ y -ℤ z
      rest x y z = ring (x ∷ y ∷ z ∷ []) (search quote depth 40 fits 20000) tt

      less : (x y z : ℤ) → nat_abs x ≤ 3_333_333 → nat_abs y ≤ 6_667 → nat_abs z ≤ 29 → nat_abs (pos unit -ℤ x -ℤ y -ℤ z -ℤ pos unit) ≤ 3_340_029
      less x y z hx hy hz = abs_by (rest x y z) (search sizes depth 40 fits 20000) (lit≤ tt)

  -- J is a number from 0.996 U to 1.002 U
  pub J-low : 996_000_000 ≤ nat_abs (J e2)
  unfolding J
  J-low = root_least (nat_abs (W e2 *ℤ U)) 996_000_000 (rw (abs_mul (W e2) U) (omega (arith, W-about.low)))

  pub J-high : nat_abs (J e2) ≤ 1_002_000_000
  unfolding J
  J-high = root_most (nat_abs (W e2 *ℤ U)) 1_002_000_000 (rw (abs_mul (W e2) U) (omega (arith, W-about.high)))

  -- the coefficients in billionths, k2 after its first two terms, and the coefficients in mas
  pub k2_start_size : nat_abs (near e2 3 +ℤ near (pos 31 *ℤ e4 e2) 180) ≤ 3_350_555
  unfolding nearest
  k2_start_size =
      abs_add_le (near e2 3) (near (pos 31 *ℤ e4 e2) 180) third (near_bound (pos 31 *ℤ e4 e2) 180 (lit< tt) (abs_mul_le (pos 31) (e4 e2) (le_refl 31) e4_size))

  pub k2_size : nat_abs (k2 e2) ≤ 3_350_660
  unfolding k2 nearest
  k2_size =
      abs_add_le (near e2 3 +ℤ near (pos 31 *ℤ e4 e2) 180) (near (pos 59 *ℤ e6 e2) 560) k2_start_size
      (near_bound (pos 59 *ℤ e6 e2) 560 (lit< tt) (abs_mul_le (pos 59) (e6 e2) (le_refl 59) e6_size))

  pub k4_size : nat_abs (k4 e2) ≤ 4_770
  unfolding k4 nearest
  k4_size =
      abs_add_le (near (pos 17 *ℤ e4 e2) 360) (near (pos 61 *ℤ e6 e2) 1260)
      (near_bound (pos 17 *ℤ e4 e2) 360 (lit< tt) (abs_mul_le (pos 17) (e4 e2) (le_refl 17) e4_size))
      (near_bound (pos 61 *ℤ e6 e2) 1260 (lit< tt) (abs_mul_le (pos 61) (e6 e2) (le_refl 61) e6_size))

  pub k6_size : nat_abs (k6 e2) ≤ 8
  unfolding k6 nearest
  k6_size = near_bound (pos 383 *ℤ e6 e2) 45360 (lit< tt) (abs_mul_le (pos 383) (e6 e2) (le_refl 383) e6_size)

  pub series_small : SmallSeries (series_of e2)
  unfolding series_of to_mas nearest
  series_small =
      record {
        k2_size = le_trans (near_bound (k2 e2 *ℤ pos 206_264_806) unit (lit< tt) (abs_mul_le (k2 e2) (pos 206_264_806) k2_size (le_refl 206_264_806)))
            (lit≤ tt);
        k4_size = le_trans (near_bound (k4 e2 *ℤ pos 206_264_806) unit (lit< tt) (abs_mul_le (k4 e2) (pos 206_264_806) k4_size (le_refl 206_264_806)))
            (lit≤ tt);
        k6_size = le_trans (near_bound (k6 e2 *ℤ pos 206_264_806) unit (lit< tt) (abs_mul_le (k6 e2) (pos 206_264_806) k6_size (le_refl 206_264_806)))
            (lit≤ tt);
      }
