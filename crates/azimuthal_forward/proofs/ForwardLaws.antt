-- Laws of the forward steps: how large each of them is.
-- Assumes nothing.
use mathlib.Core.Path.{◌≡◌, ap, ◌∙◌}
use mathlib.Core.Bool.{true}
use Prim.Native.Nat.{ℕ, ◌<◌, ◌≤◌}
use native.Mathlib.Nat.{le_refl}
use native.Mathlib.Omega.{arith}
use lib.Dec.{lit<}
use lib.IntN.{ℤ, pos, nat_abs, ◌+ℤ◌, ◌-ℤ◌, ◌*ℤ◌}
use lib.Signed.{◌≤ℤ◌}
use mir.Syntax.{w64}
use mir.Val.{SFits}
use mir.Facts.{to_z-of_z}
use Rattle.proof_kit.proofs.Size.{abs_mul, abs_mul_le, abs_add_le, abs_sub_le}
use Rattle.proof_kit.proofs.Order.{order, pos_abs, pos-≤, ≤ℤ-trans}
use Rattle.integers.specs.Near.{near}
use Rattle.integers.specs.Root.{root}
use Rattle.integers.proofs.Rounding.{near_at_most}
use Rattle.integers.proofs.Squares.{root_least, root_most}
use Rattle.integers.proofs.Greatest.{both}
use Rattle.units.specs.Units.{unit, right_angle, half_turn, U}
use Rattle.units.specs.Spans.{inside}
use Rattle.units.proofs.Spans.{within_size}
use Rattle.trig.specs.Sine.{sine, cosine}
use Rattle.trig.proofs.Interface.{sine_size, cosine_size}
use Rattle.latitudes.specs.declared.Geodetic.{Geodetic}
use Rattle.latitudes.specs.Latitude.{beta}
use Rattle.constants.specs.declared.Constants.{Constants}
use Rattle.constants.specs.InnerPrepared.{BoundedCentre}
use Rattle.billionths.proofs.Calls.{back}
use Rattle.azimuthal_forward.specs.Steps.{H, b, c, u, v, w, G}
use Rattle.azimuthal_forward.specs.Answer.{on_globe}

some : 0 < unit
some = lit< tt

-- a rounded product of two numbers of at most one unit, and a sum or difference of two such products
pub product_size : (x y : ℤ) → nat_abs x ≤ unit → nat_abs y ≤ unit → nat_abs (near (x *ℤ y) unit) ≤ unit
product_size x y h l = near_at_most (x *ℤ y) unit unit some (abs_mul_le x y h l)

pub sum_size : (x y z t : ℤ) → nat_abs x ≤ unit → nat_abs y ≤ unit → nat_abs z ≤ unit → nat_abs t ≤ unit → nat_abs (near (x *ℤ y +ℤ z *ℤ t) unit) ≤ 2_000_000_000
sum_size x y z t hx hy hz ht =
    near_at_most (x *ℤ y +ℤ z *ℤ t) unit 2_000_000_000 some (abs_add_le (x *ℤ y) (z *ℤ t) (abs_mul_le x y hx hy) (abs_mul_le z t hz ht))

pub difference_size : (x y z t : ℤ) → nat_abs x ≤ unit → nat_abs y ≤ unit → nat_abs z ≤ unit → nat_abs t ≤ unit →
    nat_abs (near (x *ℤ y -ℤ z *ℤ t) unit) ≤ 2_000_000_000
difference_size x y z t hx hy hz ht =
    near_at_most (x *ℤ y -ℤ z *ℤ t) unit 2_000_000_000 some (abs_sub_le (x *ℤ y) (z *ℤ t) (abs_mul_le x y hx hy) (abs_mul_le z t hz ht))

module _ (k : Constants) (φ : Geodetic) (Δ : ℤ) where
  pub b_size : nat_abs (b k φ Δ) ≤ unit
  unfolding b
  b_size = sine_size (beta k.series φ).0

  pub c_size : nat_abs (c k φ Δ) ≤ unit
  unfolding c
  c_size = cosine_size (beta k.series φ).0

  pub u_size : nat_abs (u k φ Δ) ≤ unit
  unfolding u
  u_size = product_size (c k φ Δ) (sine Δ) c_size (sine_size Δ)

  pub v_size : nat_abs (v k φ Δ) ≤ unit
  unfolding v
  v_size = product_size (c k φ Δ) (cosine Δ) c_size (cosine_size Δ)

module _ (k : Constants) (centre : BoundedCentre k) (φ : Geodetic) (Δ : ℤ) where
  pub w_size : nat_abs (w k φ Δ) ≤ 2_000_000_000
  unfolding w
  w_size = difference_size k.c0 (b k φ Δ) k.s0 (v k φ Δ) centre.c0_size (b_size k φ Δ) centre.s0_size (v_size k φ Δ)

  pub G-size : nat_abs (G k φ Δ) ≤ 3_000_000_000
  unfolding G
  G-size =
      abs_add_le U (near (k.s0 *ℤ b k φ Δ +ℤ k.c0 *ℤ v k φ Δ) unit) (le_refl unit)
      (sum_size k.s0 (b k φ Δ) k.c0 (v k φ Δ) centre.s0_size (b_size k φ Δ) centre.c0_size (v_size k φ Δ))

-- ---- H

-- G at least 20,000,000 gives a divisor H of at least 100,000,000
pub H-least : (g : ℤ) → pos 20_000_000 ≤ℤ g → 100_000_000 ≤ H g
unfolding H
H-least g h =
    let natural : pos (nat_abs g) ≡ g = pos_abs (≤ℤ-trans (omega order) h) in
    let large : 20_000_000 ≤ nat_abs g = pos-≤ (rw natural h) in
    root_least (nat_abs (g *ℤ pos 500_000_000)) 100_000_000 (rw (abs_mul g (pos 500_000_000)) (omega arith))

pub H-most : (g : ℤ) → nat_abs g ≤ 4_000_000_000 → H g ≤ 1_500_000_000
unfolding H
H-most g h = root_most (nat_abs (g *ℤ pos 500_000_000)) 1_500_000_000 (rw (abs_mul g (pos 500_000_000)) (omega arith))

-- in the code: r is the root of the number n that was worked out for g
pub scale_is : {r n : ℕ} {g : ℤ} → r ≡ root n → n ≡ nat_abs (back g *ℤ pos 500_000_000) → SFits w64 g → r ≡ H g
unfolding H
scale_is is number fits = is ∙ ap root (number ∙ ap (λ (z : ℤ). nat_abs (z *ℤ pos 500_000_000)) (to_z-of_z fits))

-- ---- a position within ±90° and ±180°

pub globe_sizes : (φ : Geodetic) (lon : ℤ) → on_globe φ lon ≡ true → (nat_abs φ.0 ≤ right_angle) × (nat_abs lon ≤ half_turn)
unfolding on_globe
globe_sizes φ lon e =
    let t = both (inside right_angle φ.0) (inside half_turn lon) e in
    (within_size right_angle φ.0 t.0, within_size half_turn lon t.1)
