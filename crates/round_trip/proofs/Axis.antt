-- One axis of the map. The forward steps take the length u by the scale H and the radius R to the shift d; the inverse takes d to X and, by its scale H', to
-- the length e. Each of the three is rounded once, so e is u but for the sum of those errors. East and north are both such an axis: each lemma is proved
-- once and used for the two. Assumes nothing.
use mathlib.Core.Path.{◌≡◌}
use mathlib.Core.List.{[], ◌∷◌}
use Prim.Native.Nat.{ℕ, ◌+◌, ◌*◌, ◌≤◌}
use native.Mathlib.Nat.{le_refl, mul-le-mul}
use native.Mathlib.Omega.{arith}
use lib.IntN.{ℤ, pos, ◌+ℤ◌, ◌-ℤ◌, ◌*ℤ◌, nat_abs}
use Rattle.proof_kit.proofs.Ring.{quote, ring}
use Rattle.round_trip.proofs.Numerals.{unit, half, Λ, E1, H0}
use Rattle.round_trip.proofs.Tools.{Near, parts, abs_over, by_way_of, near_size}

-- the four numbers of an axis, in the order in which they are computed
pub record Axis (H H' R : ℕ) (u d X e : ℤ) : Type 0 where
  pub R-least : unit ≤ 11 * R
  pub near_d : Near H d (pos R *ℤ u)
  pub near_X : Near R X (pos unit *ℤ d)
  pub near_e : Near unit e (X *ℤ pos H')

-- 2 R times the error of H · X, as those of X and d
carry_error : (U H R u d X : ℤ) →
    pos 2 *ℤ R *ℤ (H *ℤ X -ℤ U *ℤ u) ≡ H *ℤ (pos 2 *ℤ (R *ℤ X -ℤ U *ℤ d)) +ℤ U *ℤ (pos 2 *ℤ (H *ℤ d -ℤ R *ℤ u))
carry_error U H R u d X = ring (U ∷ H ∷ R ∷ u ∷ d ∷ X ∷ []) (search quote depth 40 fits 20000) tt

-- U times the error of e, as those of e's rounding, of X and of the scale
return_error : (U H H' u X e : ℤ) → U *ℤ (e -ℤ u) ≡ (U *ℤ e -ℤ X *ℤ H') +ℤ (H *ℤ X -ℤ U *ℤ u) +ℤ X *ℤ (H' -ℤ H)
return_error U H H' u X e = ring (U ∷ H ∷ H' ∷ u ∷ X ∷ e ∷ []) (search quote depth 40 fits 20000) tt

module _ {H H' R : ℕ} {u d X e : ℤ} (a : Axis H H' R u d X e) (H-least : H0 ≤ H) (u_size : nat_abs u ≤ unit + 50) where
  -- H · X is U · u, but for 6 H
  pub carried : nat_abs (pos H *ℤ X -ℤ pos unit *ℤ u) ≤ 6 * H
  carried =
      abs_over (2 * R) (pos H *ℤ X -ℤ pos unit *ℤ u) (carry_error (pos unit) (pos H) (pos R) u d X) (search parts depth 40 fits 20000)
      (omega (arith, mul-le-mul a.R-least (le_refl H)))

  -- X is at most 3/2
  X-size : nat_abs X ≤ 3 * half
  X-size = abs_over H X (by_way_of (pos H *ℤ X) (pos unit *ℤ u)) (search (parts, carried) depth 40 fits 20000) (omega arith)

  -- the shift is at most twice the radius, so the inverse accepts it
  pub shift_size : nat_abs d ≤ 2 * R
  shift_size =
      let twice : unit + 50 ≤ 2 * H = omega arith in
      near_size H d (pos R *ℤ u) (omega arith) a.near_d (search parts depth 40 fits 20000) (omega (arith, mul-le-mul (le_refl R) twice))

  -- the inverse's length is u, but for E1
  pub returned : H ≤ unit + 13 → nat_abs (pos H' -ℤ pos H) ≤ Λ → nat_abs (e -ℤ u) ≤ E1
  returned H-most scale =
      abs_over unit (e -ℤ u) (return_error (pos unit) (pos H) (pos H') u X e) (search (parts, carried, X-size) depth 40 fits 20000) (omega arith)
