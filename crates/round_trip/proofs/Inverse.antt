-- The inverse steps, taken at what the forward steps computed, end close to where those began: this is the vector's half of the round trip.
-- All is said of plain whole numbers. Rounded quotients and roots enter by what rounding promises, and a sine and a cosine by their circle: each error is
-- an identity of what it is made up of, and the size of that. Assumes nothing.
use mathlib.Core.Path.{◌≡◌}
use mathlib.Core.List.{[], ◌∷◌}
use Prim.Native.Nat.{ℕ, suc, ◌+◌, ◌*◌, ◌≤◌, ◌<◌}
use native.Mathlib.Nat.{le_refl, mul-le-mul}
use native.Mathlib.Omega.{arith}
use lib.Dec.{lit≤}
use lib.IntN.{ℤ, pos, ◌+ℤ◌, ◌-ℤ◌, ◌*ℤ◌, neg_ℤ, nat_abs}
use lib.Signed.{◌≤ℤ◌}
use Rattle.proof_kit.proofs.Laws.{nat_abs_parts, parts--}
use Rattle.proof_kit.proofs.Order.{order}
use Rattle.proof_kit.proofs.Ring.{quote, ring}
use Rattle.proof_kit.proofs.Size.{within}
use Rattle.round_trip.proofs.Numerals.{unit, half, A, κ, Λ, E1, Ez, ER, H0}
use Rattle.round_trip.proofs.Tools.{Near, Root, parts, abs_over, abs_close}
use Rattle.round_trip.proofs.Rotation.{turn_back, turn_back_second}
use Rattle.round_trip.proofs.Forward.{Forward, u_size, v_size, parallel, sphere, w_size, p_size, plane}
use Rattle.round_trip.proofs.Scale.{scale_least, scale_most, scale_square, scale_close}
use Rattle.round_trip.proofs.Axis.{Axis, carried, shift_size, returned}
use Rattle.round_trip.proofs.Radius.{radius_close}

-- ---- what is given, and what follows

-- H is the scale of the point (u, w, p), dE and dN its shifts on the map by the radii RE and RN. The rest is what the inverse finds from the shifts:
-- U − K is its height, H' its scale, (east, north) its place in the plane, (z, f) that turned back by the centre, R its distance from the axis
pub record Inverse (S C u w dE dN X Y K east north z f : ℤ) (p H RE RN H' R : ℕ) : Type 0 where
  pub root_H : Root ((unit + p) * half) H
  pub east_axis : Axis H H' RE u dE X east
  pub north_axis : Axis H H' RN w dN Y north
  pub near_K : Near (2 * unit) K (X *ℤ X +ℤ Y *ℤ Y)
  pub root_H' : Root (nat_abs (pos (2 * unit) -ℤ K) * half) H'
  pub near_z : Near unit z ((pos unit -ℤ K) *ℤ S +ℤ north *ℤ C)
  pub near_f : Near unit f ((pos unit -ℤ K) *ℤ C -ℤ north *ℤ S)
  pub root_R : Root (nat_abs east * nat_abs east + nat_abs f * nat_abs f) R

-- the inverse accepts the shifts and the height, and ends close to b, v, u and c
pub record Close (b u v dE dN K east z f : ℤ) (c RE RN R : ℕ) : Type 0 where
  pub z_close : nat_abs (z -ℤ b) ≤ Ez
  pub f_close : nat_abs (f -ℤ v) ≤ Ez
  pub east_close : nat_abs (east -ℤ u) ≤ E1
  pub R-close : nat_abs (pos R -ℤ pos c) ≤ ER
  pub G-least : pos 20_000_000 ≤ℤ (pos (2 * unit) -ℤ K)
  pub d_e_size : nat_abs dE ≤ 2 * RE
  pub d_n_size : nat_abs dN ≤ 2 * RN

-- ---- how the errors are made up

-- 2 U H² times the error of the height, as those of K, X, Y, H and the sphere
height_error : (U H K X Y u w p : ℤ) →
    pos 2 *ℤ U *ℤ (H *ℤ H) *ℤ (U -ℤ K -ℤ p)
    ≡ neg_ℤ (H *ℤ H *ℤ (pos 2 *ℤ U *ℤ K -ℤ (X *ℤ X +ℤ Y *ℤ Y))
    +ℤ (H *ℤ X -ℤ U *ℤ u) *ℤ ((H *ℤ X -ℤ U *ℤ u) +ℤ pos 2 *ℤ U *ℤ u)
    +ℤ (H *ℤ Y -ℤ U *ℤ w) *ℤ ((H *ℤ Y -ℤ U *ℤ w) +ℤ pos 2 *ℤ U *ℤ w)
    +ℤ U *ℤ (U -ℤ p) *ℤ (U *ℤ (U +ℤ p) -ℤ pos 2 *ℤ (H *ℤ H))
    +ℤ U *ℤ U *ℤ (u *ℤ u +ℤ w *ℤ w +ℤ p *ℤ p -ℤ U *ℤ U))
height_error U H K X Y u w p = ring (U ∷ H ∷ K ∷ X ∷ Y ∷ u ∷ w ∷ p ∷ []) (search quote depth 40 fits 20000) tt

-- the sum of those is below 2 U H² (κ + 1), as U is at most √2 H, for which 99/70 is near enough
height_room : (U H : ℕ) → 1000 ≤ U → 70 * U ≤ 99 * H →
    U * (H * H) + 72 * (H * H) + 22 * (U * U * H) + U * U + (3 * A + 4) * (U * U * U) < 2 * U * (H * H) * suc κ
height_room U H h k =
    let a : 70 * U * (U * H) ≤ 99 * H * (U * H) = mul-le-mul k (le_refl (U * H)) in
    let b : 70 * U * (U * U) ≤ 99 * H * (U * U) = mul-le-mul k (le_refl (U * U)) in
    let c : 1000 * (H * H) ≤ U * (H * H) = mul-le-mul h (le_refl (H * H)) in
    let d : 1000 * (U * U) ≤ U * (U * U) = mul-le-mul h (le_refl (U * U)) in
    let e : 1000 * (1000 * 1000) ≤ U * (U * U) = mul-le-mul h (mul-le-mul h h) in
    omega arith

-- the inverse's G, which is 2 U − K, has the error of the height
G-error : (U K p : ℤ) → pos 2 *ℤ U -ℤ K -ℤ (U +ℤ p) ≡ U -ℤ K -ℤ p
G-error U K p = ring (U ∷ K ∷ p ∷ []) (search quote depth 40 fits 20000) tt

-- ---- the bounds

module _ {b S C s t u v w dE dN X Y K east north z f : ℤ} {c p H RE RN H' R : ℕ}
    (F : Forward b S C s t u v w c p) (I : Inverse S C u w dE dN X Y K east north z f p H RE RN H' R) where
  -- the scale is at least U / √2
  H-least : H0 ≤ H
  H-least = scale_least (unit + p) H I.root_H (omega arith)

  -- the scale is at most U, but for 13
  H-most : H ≤ unit + 13
  H-most = scale_most (unit + p) H I.root_H (omega (arith, p_size F))

  -- u too is at most U, but for 50
  u_short : nat_abs u ≤ unit + 50
  u_short = omega (arith, u_size F, F.c_most)

  -- the height is p, but for κ
  pub height_close : nat_abs (pos unit -ℤ K -ℤ pos p) ≤ κ
  height_close =
      let K-off : nat_abs (pos (2 * unit) *ℤ K -ℤ (X *ℤ X +ℤ Y *ℤ Y)) ≤ unit = omega (arith, I.near_K) in
      let p-off : nat_abs (pos unit -ℤ pos p) ≤ unit = within unit p (omega (arith, p_size F)) (omega (arith, p_size F)) in
      let X-off = carried I.east_axis H-least u_short in
      let Y-off = carried I.north_axis H-least (w_size F) in
      let H-off = scale_square (unit + p) H I.root_H in
      abs_over (2 * unit * (H * H)) (pos unit -ℤ K -ℤ pos p) (height_error (pos unit) (pos H) K X Y u w (pos p))
      (search (parts, sphere F, le_refl (nat_abs u), le_refl (nat_abs w)) depth 40 fits 20000)
      (omega (arith, height_room unit H (lit≤ tt) (omega (arith, H-least)), mul-le-mul (le_refl H) (plane F)))

  -- the inverse's G is U + p, but for κ
  pub G-close : nat_abs (pos (2 * unit) -ℤ K -ℤ pos (unit + p)) ≤ κ
  G-close = rw (G-error (pos unit) K (pos p)) height_close

  -- it is far above the least that the inverse accepts
  G-enough : pos 20_000_000 ≤ℤ (pos (2 * unit) -ℤ K)
  G-enough =
      let G = pos (2 * unit) -ℤ K in
      omega (order, G-close, nat_abs_parts (G -ℤ pos (unit + p)), parts-- G (pos (unit + p)))

  -- its scale is H, but for λ
  pub H-close : nat_abs (pos H' -ℤ pos H) ≤ Λ
  H-close =
      let G = pos (2 * unit) -ℤ K in
      scale_close (unit + p) (nat_abs G) H H' (omega arith) (abs_close G (pos (unit + p)) G-close) I.root_H I.root_H'

  -- east is u, but for E1
  east_near : nat_abs (east -ℤ u) ≤ E1
  east_near = returned I.east_axis H-least u_short H-most H-close

  -- north is w, but for E1
  pub north_near : nat_abs (north -ℤ w) ≤ E1
  north_near = returned I.north_axis H-least (w_size F) H-most H-close

  -- z is b, but for Ez
  z_near : nat_abs (z -ℤ b) ≤ Ez
  z_near = turn_back S C b v (pos p) w (pos unit -ℤ K) north z F.centre F.near_p F.near_w height_close north_near F.b_most I.near_z

  -- f is v, but for Ez
  f_near : nat_abs (f -ℤ v) ≤ Ez
  f_near =
      let v-most : nat_abs v ≤ unit = omega (arith, v_size F, F.c_most) in
      turn_back_second S C b v (pos p) w (pos unit -ℤ K) north f F.centre F.near_p F.near_w height_close north_near v-most I.near_f

  -- the inverse accepts, and ends close to where the forward steps began
  pub close : Close b u v dE dN K east z f c RE RN R
  close = record {
    z_close = z_near;
    f_close = f_near;
    east_close = east_near;
    R-close = radius_close c R east f u v east_near f_near (u_size F) (v_size F) F.c_least (parallel F) I.root_R;
    G-least = G-enough;
    d_e_size = shift_size I.east_axis H-least u_short;
    d_n_size = shift_size I.north_axis H-least (w_size F);
  }
