-- Laws of the way back from an authalic latitude. Where the terms round to φ − β at φ and at φ + 1, β of φ is the one given and that of φ + 1 is one
-- more, so φ is the greatest latitude that passes; the North Pole is so as soon as it passes. Assumes nothing.
use mathlib.Core.Path.{◌≡◌, sym, ap, ◌∙◌}
use mathlib.Core.Bool.{true, false}
use mathlib.Core.List.{[], ◌∷◌}
use mathlib.Core.Logic.{◌⊎◌, inl, inr}
use Prim.Native.Nat.{ℕ, suc, ◌-◌, ◌<◌, ◌≤◌}
use native.Mathlib.Nat.{eq-or-lt_of_le}
use native.Mathlib.Omega.{arith}
use lib.IntN.{ℤ, pos, nat_abs, ◌+ℤ◌, ◌-ℤ◌}
use lib.Signed.{≤ℤ_refl}
use mir.Syntax.{w64}
use mir.Val.{to_z, of_z}
use Rattle.proof_kit.proofs.Range.{code, read}
use Rattle.proof_kit.proofs.Ring.{ring, quote}
use Rattle.proof_kit.proofs.Size.{within}
use Rattle.proof_kit.proofs.Order.{one-<ℤ, le_le_z, lt_le_z}
use Rattle.integers.specs.Greatest.{greatest}
use Rattle.integers.specs.Near.{near}
use Rattle.integers.proofs.Greatest.{greatest_le, greatest_here, greatest_edge}
use Rattle.units.specs.Units.{unit, right_angle, half_turn}
use Rattle.latitudes.specs.declared.AuthalicSeries.{AuthalicSeries}
use Rattle.latitudes.specs.declared.Authalic.{Authalic}
use Rattle.latitudes.specs.Latitude.{three_terms, terms, rounded, beta}
use Rattle.latitudes.specs.InnerSizes.{SmallSeries}
use Rattle.geodetic_search.specs.Reverse.{from_south_pole, not_above, geodetic}
use Rattle.geodetic_search.specs.InnerThreshold.{further, not_above_falls}
use Rattle.latitudes.proofs.AuthalicLaws.{beta_mas}

-- ---- the latitude that the rounding settles

abbrev φ : ℕ → ℤ
φ n = (from_south_pole n).0

next : (n : ℕ) → φ (suc n) ≡ φ n +ℤ pos 1
next n =
    let e : suc n - n ≡ 1 = omega arith in
    further n (suc n) (omega arith) ∙ ap (λ (m : ℕ). φ n +ℤ pos m) e

-- β where the terms round to y
beta_rounded : (k : AuthalicSeries) (φ y : ℤ) → near (three_terms k.k2 k.k4 k.k6 φ) unit ≡ y → beta_mas k φ ≡ φ -ℤ y
unfolding beta rounded terms
beta_rounded k φ y e = ap (λ (x : ℤ). φ -ℤ x) e

module _ {k : AuthalicSeries} (small : SmallSeries k) (β : Authalic) (n : ℕ) where
  settled_passes : beta_mas k (φ n) ≡ φ n -ℤ (φ n -ℤ β.0) → not_above k β n ≡ true
  unfolding not_above
  settled_passes e =
      le_le_z {x = beta_mas k (φ n)} {y = β.0} (rw (e, here (φ n) β.0) (≤ℤ_refl β.0))
    where
      here : (x b : ℤ) → x -ℤ (x -ℤ b) ≡ b
      here x b = ring (x ∷ b ∷ []) (search quote depth 40 fits 20000) tt

  settled_fails : beta_mas k (φ n +ℤ pos 1) ≡ φ n +ℤ pos 1 -ℤ (φ n -ℤ β.0) → not_above k β (suc n) ≡ false
  unfolding not_above
  settled_fails e =
      lt_le_z {x = beta_mas k (φ (suc n))} {y = β.0}
      (rw (next n, e, there (φ n) β.0) (one-<ℤ (≤ℤ_refl (β.0 +ℤ pos 1))))
    where
      there : (x b : ℤ) → x +ℤ pos 1 -ℤ (x -ℤ b) ≡ b +ℤ pos 1
      there x b = ring (x ∷ b ∷ []) (search quote depth 40 fits 20000) tt

  pub settled_greatest :
      n ≤ half_turn →
      near (three_terms k.k2 k.k4 k.k6 (φ n)) unit ≡ φ n -ℤ β.0 →
      near (three_terms k.k2 k.k4 k.k6 (φ n +ℤ pos 1)) unit ≡ φ n -ℤ β.0 →
      greatest (not_above k β) half_turn ≡ n
  settled_greatest h here there = at (eq-or-lt_of_le h)
    where
      passes : not_above k β n ≡ true
      passes = settled_passes (beta_rounded k (φ n) (φ n -ℤ β.0) here)

      fails : not_above k β (suc n) ≡ false
      fails = settled_fails (beta_rounded k (φ n +ℤ pos 1) (φ n -ℤ β.0) there)

      at : (n ≡ half_turn) ⊎ (n < half_turn) → greatest (not_above k β) half_turn ≡ n
      at (inl e) = ap (greatest (not_above k β)) (sym e) ∙ greatest_here (not_above k β) n passes
      at (inr l) = greatest_edge (not_above k β) half_turn (not_above_falls k small β half_turn) n l passes fails

pub from_south_pole_size : (n : ℕ) → n ≤ half_turn → nat_abs (from_south_pole n).0 ≤ right_angle
unfolding from_south_pole
from_south_pole_size n h = within n right_angle (omega arith) (omega arith)

-- as the code counts it
pub counted : (n : ℕ) → n ≤ half_turn → to_z w64 (of_z w64 (to_z w64 n -ℤ pos right_angle)) ≡ (from_south_pole n).0
unfolding from_south_pole
counted n h = read (search code depth 40 fits 20000) tt

-- a latitude that is found lies from pole to pole
pub geodetic_size : (k : AuthalicSeries) (β : Authalic) → nat_abs (geodetic k β).0 ≤ right_angle
unfolding geodetic
geodetic_size k β = from_south_pole_size _ (greatest_le (not_above k β) half_turn)
