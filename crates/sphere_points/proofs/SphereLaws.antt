-- How large K, G, H and the point of the sphere are. Assumes nothing.
use mathlib.Core.Path.{◌≡◌, refl, ap₂, ◌∙◌, subst}
use Prim.Native.Nat.{ℕ, ◌+◌, ◌*◌, ◌<◌, ◌≤◌}
use native.Mathlib.Omega.{arith}
use lib.Dec.{lit<}
use lib.IntN.{ℤ, pos, nat_abs, ◌+ℤ◌, ◌-ℤ◌, ◌*ℤ◌}
use lib.Signed.{◌≤ℤ◌}
use Rattle.proof_kit.proofs.Laws.{nat_abs_parts, parts--, one_part}
use Rattle.proof_kit.proofs.Size.{abs_mul, abs_mul_le, abs_add_le, abs_sub_le, square_abs}
use Rattle.proof_kit.proofs.Order.{order, pos_abs, pos-≤ℤ}
use Rattle.integers.specs.Near.{near, nearest}
use Rattle.integers.proofs.Rounding.{near_at_most, near_pos}
use Rattle.integers.proofs.Squares.{root_most}
use Rattle.units.specs.Units.{unit}
use Rattle.constants.specs.declared.Constants.{Constants}
use Rattle.constants.specs.InnerPrepared.{BoundedCentre}
use Rattle.azimuthal_forward.specs.Steps.{H}
use Rattle.sphere_points.specs.Sphere.{versine_of, G, up, level, z_of, f_of, point_of}
use Rattle.sphere_points.specs.InnerSizes.{SmallPoint}

some : 0 < unit
some = lit< tt

-- ---- K, and what follows from it

pub versine_natural : (X Y : ℤ) → pos (nat_abs (versine_of X Y)) ≡ versine_of X Y
unfolding versine_of
versine_natural X Y = rw (whole X Y) refl
  where
    whole : (X Y : ℤ) → near (X *ℤ X +ℤ Y *ℤ Y) (2 * unit) ≡ pos (nearest (nat_abs X * nat_abs X + nat_abs Y * nat_abs Y) (2 * unit))
    whole X Y =
        ap₂ (λ (a b : ℤ). near (a +ℤ b) (2 * unit)) (square_abs X) (square_abs Y)
        ∙ near_pos (nat_abs X * nat_abs X + nat_abs Y * nat_abs Y) (2 * unit)

pub versine_size : (X Y : ℤ) → nat_abs X ≤ 2_000_000_000 → nat_abs Y ≤ 2_000_000_000 → nat_abs (versine_of X Y) ≤ 4_000_000_000
unfolding versine_of
versine_size X Y hx hy =
    near_at_most (X *ℤ X +ℤ Y *ℤ Y) (2 * unit) 4_000_000_000 (lit< tt) (abs_add_le (X *ℤ X) (Y *ℤ Y) (abs_mul_le X X hx hx) (abs_mul_le Y Y hy hy))

-- K from 0 to 1.98 U, as it is where the point is not refused
module _ (K : ℤ) (least : pos 0 ≤ℤ K) (most : nat_abs K ≤ 1_980_000_000) where
  natural : pos (nat_abs K) ≡ K
  natural = pos_abs least

  pub G-least : pos 20_000_000 ≤ℤ G K
  unfolding G
  G-least = rw (← natural) (omega (order, parts-- (pos 2_000_000_000) (pos (nat_abs K))))

  pub G-most : nat_abs (G K) ≤ 2_000_000_000
  unfolding G
  G-most =
      rw (← natural) (omega (
        arith,
        nat_abs_parts (pos 2_000_000_000 -ℤ pos (nat_abs K)),
        parts-- (pos 2_000_000_000) (pos (nat_abs K)),
        one_part (pos 2_000_000_000 -ℤ pos (nat_abs K)),
      ))

  pub up_size : nat_abs (up K) ≤ 1_000_000_000
  unfolding up
  up_size =
      rw (← natural) (omega (arith, nat_abs_parts (pos unit -ℤ pos (nat_abs K)), parts-- (pos unit) (pos (nat_abs K)), one_part (pos unit -ℤ pos (nat_abs K))))

  pub H-small : H (G K) ≤ 1_000_000_000
  unfolding H
  H-small =
      root_most (nat_abs (G K *ℤ pos 500_000_000)) 1_000_000_000 (rw (abs_mul (G K) (pos 500_000_000)) (omega (arith, G-most)))

  pub level_size : (X : ℤ) → nat_abs X ≤ 2_000_000_000 → nat_abs (level K X) ≤ 2_000_000_000
  unfolding level
  level_size X h = near_at_most (X *ℤ pos (H (G K))) unit 2_000_000_000 some (abs_mul_le X (pos (H (G K))) h H-small)

  pub point_sized : (c : Constants) → BoundedCentre c → (X Y : ℤ) → nat_abs X ≤ 2_000_000_000 → nat_abs Y ≤ 2_000_000_000 → SmallPoint (point_of c X Y K)
  unfolding point_of z_of f_of
  point_sized c centre X Y hx hy =
      let n = level_size Y hy in
      record {
        east_size = level_size X hx;
        z_size = near_at_most (up K *ℤ c.s0 +ℤ level K Y *ℤ c.c0) unit 3_000_000_000 some
            (abs_add_le (up K *ℤ c.s0) (level K Y *ℤ c.c0) (abs_mul_le (up K) c.s0 up_size centre.s0_size)
            (abs_mul_le (level K Y) c.c0 n centre.c0_size));
        f_size = near_at_most (up K *ℤ c.c0 -ℤ level K Y *ℤ c.s0) unit 3_000_000_000 some
            (abs_sub_le (up K *ℤ c.c0) (level K Y *ℤ c.s0) (abs_mul_le (up K) c.c0 up_size centre.c0_size)
            (abs_mul_le (level K Y) c.s0 n centre.s0_size));
      }

-- a point that is near enough has K from 0 to 1.98 U
pub K-near : (K : ℤ) → pos (nat_abs K) ≡ K → pos 20_000_000 ≤ℤ G K → (pos 0 ≤ℤ K) × (nat_abs K ≤ 1_980_000_000)
unfolding G
K-near K natural-K h =
    let n : ℕ = nat_abs K in
    let l : pos 20_000_000 ≤ℤ (pos 2_000_000_000 -ℤ pos n) = rw (← natural-K) at h in
    (subst (λ (z : ℤ). pos 0 ≤ℤ z) natural-K (pos-≤ℤ (omega arith)), omega (order, l, parts-- (pos 2_000_000_000) (pos n)))
