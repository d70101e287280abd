-- Inner: what the search for a geodetic latitude stands on. The South Pole passes its test, because its β is −90°, and the test stays false
-- once it is false, because β never falls.
use mathlib.Core.Path.{◌≡◌, sym, ap, ◌∙◌, subst}
use mathlib.Core.Bool.{true}
use mathlib.Core.List.{[], ◌∷◌}
use Prim.Native.Nat.{ℕ, ◌+◌, ◌-◌, ◌≤◌}
use native.Mathlib.Omega.{arith}
use lib.IntN.{ℤ, pos, neg_ℤ, nat_abs, ◌+ℤ◌, ◌-ℤ◌}
use lib.Signed.{◌≤ℤ◌}
use Rattle.proof_kit.proofs.Ring.{ring, quote}
use Rattle.proof_kit.proofs.Order.{≤ℤ-trans, le_z_true, le_le_z, abs_lower}
use Rattle.integers.specs.InnerSearch.{Falls, Threshold}
use Rattle.units.specs.Units.{right_angle, half_turn}
use Rattle.latitudes.specs.declared.AuthalicSeries.{AuthalicSeries}
use Rattle.latitudes.specs.declared.Authalic.{Authalic}
use Rattle.latitudes.specs.Latitude.{beta}
use Rattle.latitudes.specs.InnerSizes.{SmallSeries}
use Rattle.latitudes.proofs.AuthalicLaws.{beta_mas, beta_mono, beta_south_pole}
use Rattle.geodetic_search.specs.Reverse.{from_south_pole, not_above}

pub not_above_pole : (k : AuthalicSeries) (β : Authalic) → nat_abs β.0 ≤ right_angle → not_above k β 0 ≡ true
unfolding not_above from_south_pole
not_above_pole k β h =
    le_le_z {x = beta_mas k (neg_ℤ (pos right_angle))} {y = β.0} (rw (beta_south_pole k) (abs_lower β.0 h))

pub further : (a b : ℕ) → a ≤ b → (from_south_pole b).0 ≡ (from_south_pole a).0 +ℤ pos (b - a)
unfolding from_south_pole
further a b h =
    let e : b ≡ a + (b - a) = omega arith in
    ap (λ (n : ℕ). pos n -ℤ pos right_angle) e ∙ moved (pos a) (pos (b - a)) (pos right_angle)
  where
    moved : (x y r : ℤ) → x +ℤ y -ℤ r ≡ x -ℤ r +ℤ y
    moved x y r = ring (x ∷ y ∷ r ∷ []) (search quote depth 40 fits 20000) tt

pub not_above_falls : (k : AuthalicSeries) → SmallSeries k → (β : Authalic) (n : ℕ) → Falls (not_above k β) n
unfolding not_above
not_above_falls k small β n a b h l t =
    le_le_z {x = (beta k (from_south_pole a)).0} {y = β.0}
    (≤ℤ-trans (rises a b h) (le_z_true (beta k (from_south_pole b)).0 β.0 t))
  where
    rises : (a b : ℕ) → a ≤ b → (beta k (from_south_pole a)).0 ≤ℤ (beta k (from_south_pole b)).0
    rises a b h =
        subst (λ (φ : ℤ). beta_mas k (from_south_pole a).0 ≤ℤ beta_mas k φ) (sym (further a b h)) (beta_mono k small (b - a) (from_south_pole a).0)

pub not_above_threshold : (k : AuthalicSeries) → SmallSeries k → (β : Authalic) → nat_abs β.0 ≤ right_angle → Threshold (not_above k β) half_turn
not_above_threshold k small β size = record { zero_passes = not_above_pole k β size; falls = not_above_falls k small β half_turn }
