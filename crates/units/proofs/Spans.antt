-- What the tests of limits say, as bounds; the cases and the range of a longitude brought inside its own. Assumes nothing.
use mathlib.Core.Path.{◌≡◌, refl}
use mathlib.Core.Bool.{Bool, true, false, ◌||◌}
use mathlib.Core.Logic.{◌⊎◌, inl, inr}
use Prim.Native.Nat.{ℕ, ◌*◌, ◌≤◌}
use lib.IntN.{ℤ, pos, negsuc, neg_ℤ, nat_abs, ◌+ℤ◌, ◌-ℤ◌}
use lib.Signed.{◌≤ℤ◌, ◌<ℤ◌, le_z}
use Rattle.proof_kit.proofs.Laws.{nat_abs_parts, parts-+, parts--}
use Rattle.proof_kit.proofs.Order.{order, ≤ℤ-antisym, ≤ℤ-total, le_z_true, abs_between, abs_lower, abs_upper, le_le_z, lt_le_z, le_lt_z, lt_lt_z}
use Rattle.integers.proofs.Greatest.{both}
use Rattle.units.specs.Units.{half_turn, full_turn, plane_limit}
use Rattle.units.specs.Spans.{within, same, inside, on_plane, wrapped}

pub either : (a b : Bool) → (a || b) ≡ true → (a ≡ true) ⊎ (b ≡ true)
either true b e = inl refl
either false b e = inr e

pub within_bounds : (low high z : ℤ) → within low high z ≡ true → (low ≤ℤ z) × (z ≤ℤ high)
unfolding within
within_bounds low high z e =
    let t = both (le_z low z) (le_z z high) e in
    (le_z_true low z t.0, le_z_true z high t.1)

pub within_size : (n : ℕ) (z : ℤ) → within (neg_ℤ (pos n)) (pos n) z ≡ true → nat_abs z ≤ n
within_size n z e =
    let b = within_bounds (neg_ℤ (pos n)) (pos n) z e in
    abs_between z b.0 b.1

pub size_inside : (n : ℕ) (z : ℤ) → nat_abs z ≤ n → inside n z ≡ true
unfolding within
size_inside n z h = rw (le_le_z (abs_lower z h), le_le_z (abs_upper z h))

pub same_equal : (x y : ℤ) → same x y ≡ true → x ≡ y
unfolding same
same_equal x y e =
    let b = within_bounds y y x e in
    ≤ℤ-antisym b.1 b.0

-- a number that is not negative, from low to high
pub record Between (z : ℤ) (low high : ℕ) : Type 0 where
  pub natural : pos (nat_abs z) ≡ z
  pub least : low ≤ nat_abs z
  pub most : nat_abs z ≤ high

pub between : (z : ℤ) (low high : ℕ) → within (pos low) (pos high) z ≡ true → Between z low high
between (pos n) low high e =
    let b = within_bounds (pos low) (pos high) (pos n) e in
    record { natural = refl; least = omega (order, b.0); most = omega (order, b.1) }
between (negsuc n) low high e =
    let b = within_bounds (pos low) (pos high) (negsuc n) e in
    let z : ⊥ = omega (order, b.0) in
    absurd z

-- ---- a position on the plane

pub plane_sizes : (E N : ℤ) → on_plane E N ≡ true → (nat_abs E ≤ plane_limit) × (nat_abs N ≤ plane_limit)
unfolding on_plane
plane_sizes E N e =
    let t = both (inside plane_limit E) (inside plane_limit N) e in
    (within_size plane_limit E t.0, within_size plane_limit N t.1)

-- ---- a wrapped longitude: its three cases, and its range

module _ (lon : ℤ) where
  pub wrapped_low : lon ≤ℤ neg_ℤ (pos half_turn) → wrapped lon ≡ lon +ℤ pos full_turn
  unfolding wrapped
  wrapped_low h = rw (le_le_z h)

  pub wrapped_high : pos half_turn <ℤ lon → wrapped lon ≡ lon -ℤ pos full_turn
  unfolding wrapped
  wrapped_high h =
      let above : neg_ℤ (pos half_turn) <ℤ lon = omega order in
      rw (lt_le_z above, lt_lt_z h)

  pub wrapped_between : neg_ℤ (pos half_turn) <ℤ lon → lon ≤ℤ pos half_turn → wrapped lon ≡ lon
  unfolding wrapped
  wrapped_between h l = rw (lt_le_z h, le_lt_z l)

  pub wrapped_range : nat_abs lon ≤ 2 * half_turn → (neg_ℤ (pos half_turn) <ℤ wrapped lon) × (wrapped lon ≤ℤ pos half_turn)
  wrapped_range size = at (≤ℤ-total lon (neg_ℤ (pos half_turn))) (≤ℤ-total lon (pos half_turn))
    where
      at : (lon ≤ℤ neg_ℤ (pos half_turn)) ⊎ (neg_ℤ (pos half_turn) <ℤ lon) → (lon ≤ℤ pos half_turn) ⊎ (pos half_turn <ℤ lon) →
          (neg_ℤ (pos half_turn) <ℤ wrapped lon) × (wrapped lon ≤ℤ pos half_turn)
      at (inl h) o = rw (wrapped_low h) (omega (order, nat_abs_parts lon, parts-+ lon (pos full_turn)))
      at (inr h) (inl l) = rw (wrapped_between h l) (h, l)
      at (inr h) (inr l) = rw (wrapped_high l) (omega (order, nat_abs_parts lon, parts-- lon (pos full_turn)))
