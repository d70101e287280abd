-- The forward steps: a point (b, c) of the meridian is turned by the longitude, then by the centre's latitude, each coordinate rounded to a whole number.
-- What is proved is that the rounded point (u, w, p) still lies on the sphere of radius U, but for a small error, and is no longer than U, but for 50:
-- a turn by a sine and a cosine on the circle keeps the sum of squares, and a rounding adds little. Assumes nothing.
use mathlib.Core.Path.{◌≡◌}
use mathlib.Core.List.{[], ◌∷◌}
use Prim.Native.Nat.{ℕ, suc, ◌+◌, ◌*◌, ◌≤◌, ◌<◌}
use native.Mathlib.Nat.{le_refl, mul-le-mul}
use native.Mathlib.Omega.{arith}
use lib.Dec.{lit<, lit≤}
use lib.IntN.{ℤ, pos, ◌+ℤ◌, ◌-ℤ◌, ◌*ℤ◌, nat_abs}
use Rattle.proof_kit.proofs.Ring.{quote, ring}
use Rattle.proof_kit.proofs.Size.{abs_by, square_abs, square_lt, within_upper}
use Rattle.round_trip.proofs.Numerals.{unit, half, A, least_cosine}
use Rattle.round_trip.proofs.Rotation.{turned, turned_axis, turn}
use Rattle.round_trip.proofs.Tools.{Near, OnCircle, parts, by_way_of, near_size, squares, squares_upper, sum_by_squares}

-- (b, c) is the position's sine and cosine, (S, C) the centre's, (s, t) the longitude's
-- (u, v) is (c, 0), turned by the longitude; (p, w) is (b, v), turned by the centre
pub record Forward (b S C s t u v w : ℤ) (c p : ℕ) : Type 0 where
  pub c_least : least_cosine ≤ c
  pub c_most : c ≤ unit
  pub b_most : nat_abs b ≤ unit
  pub S-most : nat_abs S ≤ unit
  pub C-most : nat_abs C ≤ unit
  pub s_most : nat_abs s ≤ unit
  pub t_most : nat_abs t ≤ unit
  pub position : OnCircle b (pos c)
  pub centre : OnCircle S C
  pub longitude : OnCircle s t
  pub near_u : Near unit u (pos c *ℤ s)
  pub near_v : Near unit v (pos c *ℤ t)
  pub near_w : Near unit w (C *ℤ b -ℤ S *ℤ v)
  pub near_p : Near unit (pos p) (S *ℤ b +ℤ C *ℤ v)

-- the error of the sphere is that of the three circles that it is made of
pub three_circles : (u v w p b c U : ℤ) →
    u *ℤ u +ℤ w *ℤ w +ℤ p *ℤ p -ℤ U *ℤ U
    ≡ (u *ℤ u +ℤ v *ℤ v -ℤ c *ℤ c) +ℤ (p *ℤ p +ℤ w *ℤ w -ℤ (b *ℤ b +ℤ v *ℤ v)) +ℤ (b *ℤ b +ℤ c *ℤ c -ℤ U *ℤ U)
three_circles u v w p b c U = ring (u ∷ v ∷ w ∷ p ∷ b ∷ c ∷ U ∷ []) (search quote depth 40 fits 20000) tt

module _ {b S C s t u v w : ℤ} {c p : ℕ} (F : Forward b S C s t u v w c p) where
  -- the turn by the longitude leaves u within c
  pub u_size : nat_abs u ≤ c
  u_size = near_size unit u (pos c *ℤ s) (lit< tt) F.near_u (search parts depth 40 fits 20000) (omega arith)

  -- it leaves v within c
  pub v_size : nat_abs v ≤ c
  v_size = near_size unit v (pos c *ℤ t) (lit< tt) F.near_v (search parts depth 40 fits 20000) (omega arith)

  -- it keeps the square c², but for (A + 2) · c
  pub parallel : nat_abs (u *ℤ u +ℤ v *ℤ v -ℤ pos c *ℤ pos c) ≤ (A + 2) * c
  parallel =
      turn (s *ℤ s +ℤ t *ℤ t) (pos c *ℤ pos c) (pos c *ℤ s) (pos c *ℤ t) u v (turned_axis s t (pos c)) F.longitude F.near_u F.near_v
      (le_refl (c * c)) u_size v_size (omega (arith, mul-le-mul (le_refl c) F.c_most))

  -- b² + v² is at most U² + A · U
  level : nat_abs (b *ℤ b +ℤ v *ℤ v) ≤ unit * unit + A * unit
  level = rw (squares b v) (omega (arith, squares_upper b (pos c) (unit * unit) F.position, mul-le-mul v_size v_size))

  -- the turn by the centre keeps b² + v², but for k, where bounds of p and w leave room for k
  tilted : {l m k : ℕ} → p ≤ l → nat_abs w ≤ m → (unit * unit + A * unit) * (A * unit) + half * (2 * unit * (l + m) + unit) < unit * unit * suc k →
      nat_abs (pos p *ℤ pos p +ℤ w *ℤ w -ℤ (b *ℤ b +ℤ v *ℤ v)) ≤ k
  tilted =
      turn (S *ℤ S +ℤ C *ℤ C) (b *ℤ b +ℤ v *ℤ v) (S *ℤ b +ℤ C *ℤ v) (C *ℤ b -ℤ S *ℤ v) (pos p) w (turned S C b v) F.centre F.near_p F.near_w level

  -- p + |w| is at most 3/2, from coarse bounds, 2 each
  reach : 2 * (p + nat_abs w) ≤ 3 * unit
  reach =
      let p-most : p ≤ 2 * unit = near_size unit (pos p) (S *ℤ b +ℤ C *ℤ v) (lit< tt) F.near_p (search (parts, v_size) depth 40 fits 20000) (omega arith) in
      let w-most : nat_abs w ≤ 2 * unit = near_size unit w (C *ℤ b -ℤ S *ℤ v) (lit< tt) F.near_w (search (parts, v_size) depth 40 fits 20000) (omega arith) in
      let change : nat_abs (pos p *ℤ pos p +ℤ w *ℤ w -ℤ (b *ℤ b +ℤ v *ℤ v)) ≤ 5 * unit + A * (unit + A) = tilted p-most w-most (lit< tt) in
      let e = by_way_of (pos p *ℤ pos p +ℤ w *ℤ w) (b *ℤ b +ℤ v *ℤ v) in
      let sum : nat_abs (pos p *ℤ pos p +ℤ w *ℤ w) ≤ unit * unit + (2 * A + 6) * unit = abs_by e (search (parts, level) depth 40 fits 20000) (lit≤ tt) in
      sum_by_squares p (nat_abs w) (omega (arith, rw (squares (pos p) w) at sum))

  -- the rounded point lies on the sphere, but for (3 A + 4) · U
  pub sphere : nat_abs (u *ℤ u +ℤ w *ℤ w +ℤ pos p *ℤ pos p -ℤ pos unit *ℤ pos unit) ≤ (3 * A + 4) * unit
  sphere =
      let change : nat_abs (pos p *ℤ pos p +ℤ w *ℤ w -ℤ (b *ℤ b +ℤ v *ℤ v)) ≤ 2 * unit + A * unit =
      tilted (le_refl p) (le_refl (nat_abs w)) (omega (arith, reach)) in
      abs_by (three_circles u v w (pos p) b (pos c) (pos unit)) (search (parts, parallel) depth 40 fits 20000) (omega arith)

  -- the same in sizes, as an upper bound
  ball : nat_abs u * nat_abs u + nat_abs w * nat_abs w + p * p ≤ unit * unit + (3 * A + 4) * unit
  ball = within_upper (nat_abs u * nat_abs u + nat_abs w * nat_abs w + p * p) (unit * unit) (rw (square_abs u, square_abs w) at sphere)

  -- w is at most U, but for 50
  pub w_size : nat_abs w ≤ unit + 50
  w_size = let l : nat_abs w < unit + 51 = square_lt (nat_abs w) (unit + 51) (omega (arith, ball)) in omega arith

  -- p is at most U, but for 50
  pub p_size : p ≤ unit + 50
  p_size = let l : p < unit + 51 = square_lt p (unit + 51) (omega (arith, ball)) in omega arith

  -- |u| + |w| is at most 3/2
  pub plane : 2 * (nat_abs u + nat_abs w) ≤ 3 * unit
  plane = sum_by_squares (nat_abs u) (nat_abs w) (omega (arith, ball))
