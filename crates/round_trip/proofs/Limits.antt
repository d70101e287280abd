-- Every accepted forward answer lies within the plane's limits, so refusal 3 of the inverse never meets one.
-- The rounded point (u, w, G − U) lies near the sphere of radius U, so u² + w² is little more than 2 U G, and H² is U G / 2: u and w are at most 3 H, where
-- 2 H is the truth. A shift is then at most three radii, and with the false origin well within the limits.
-- Assumes nothing.
use mathlib.Core.Path.{◌≡◌, sym, ap₂, subst}
use mathlib.Core.Bool.{true, ◌&&◌}
use mathlib.Core.List.{[], ◌∷◌}
use Prim.Native.Nat.{ℕ, ◌+◌, ◌*◌, ◌<◌, ◌≤◌}
use native.Mathlib.Nat.{le_refl, le_trans, mul-le-mul}
use native.Mathlib.Omega.{arith}
use lib.Dec.{lit<, lit≤}
use lib.IntN.{ℤ, pos, neg_ℤ, nat_abs, ◌+ℤ◌, ◌-ℤ◌, ◌*ℤ◌}
use lib.Signed.{◌≤ℤ◌}
use Rattle.proof_kit.proofs.Certificate.{certify, nonneg}
use Rattle.proof_kit.proofs.Order.{order, pos_abs, pos-≤, ≤ℤ-trans, le_z_true, abs_upper}
use Rattle.proof_kit.proofs.Ring.{quote}
use Rattle.proof_kit.proofs.Size.{abs_by, abs_mul_le, abs_add_le, square_le}
use Rattle.integers.specs.Near.{near}
use Rattle.integers.proofs.Rounding.{near_at_most}
use Rattle.trig.specs.Sine.{sine, cosine}
use Rattle.trig.proofs.Interface.{near_circle}
use Rattle.latitudes.specs.declared.Geodetic.{Geodetic}
use Rattle.parameters.specs.declared.Parameters.{Parameters}
use Rattle.constants.specs.declared.Constants.{Constants}
use Rattle.units.specs.Spans.{within, on_plane}
use Rattle.units.proofs.Spans.{size_inside}
use Rattle.parameters.specs.ParameterSet.{set_refusal}
use Rattle.latitudes.specs.Latitude.{beta}
use Rattle.constants.specs.Derived.{β0, S0, C0, constants_of}
use Rattle.azimuthal_forward.specs.Steps.{H, b, c, u, v, w, G, dE, dN, near_enough}
use Rattle.azimuthal_forward.specs.Answer.{nearness, easting_of, northing_of}
use Rattle.parameters.proofs.AcceptedSet.{accepted_fields}
use Rattle.constants.proofs.ConstantsLaws.{Sound, sound}
use Rattle.azimuthal_forward.proofs.ForwardLaws.{b_size, c_size, u_size, v_size, w_size, sum_size, H-least}
use Rattle.round_trip.specs.Theorems.{ForwardOnPlane}
use Rattle.round_trip.proofs.AcceptedAnswer.{accepted_answer}
use Rattle.round_trip.proofs.Forward.{three_circles}
use Rattle.round_trip.proofs.Numerals.{unit, half}
use Rattle.round_trip.proofs.Rounding.{near_unit, scale_root}
use Rattle.round_trip.proofs.Rotation.{turned, turned_axis, turn}
use Rattle.round_trip.proofs.Tools.{Near, OnCircle, parts, squares}

-- ---- the sphere, for every position

-- (b, c) is turned to (u, v) by the longitude, and (b, v) to (p, w) by the centre
module _ (b c S C s t u v w p : ℤ)
    (b_most : nat_abs b ≤ unit) (c_most : nat_abs c ≤ unit) (u-most : nat_abs u ≤ unit) (v-most : nat_abs v ≤ unit)
    (w-most : nat_abs w ≤ 2 * unit) (p-most : nat_abs p ≤ 2 * unit)
    (position : OnCircle b c) (centre : OnCircle S C) (longitude : OnCircle s t)
    (near_u : Near unit u (c *ℤ s)) (near_v : Near unit v (c *ℤ t))
    (near_w : Near unit w (C *ℤ b -ℤ S *ℤ v)) (near_p : Near unit p (S *ℤ b +ℤ C *ℤ v)) where
  -- from coarse bounds of all coordinates
  coarse_sphere : nat_abs (u *ℤ u +ℤ w *ℤ w +ℤ p *ℤ p -ℤ pos unit *ℤ pos unit) ≤ 200 * unit
  coarse_sphere =
      let parallel : nat_abs (u *ℤ u +ℤ v *ℤ v -ℤ c *ℤ c) ≤ 50 * unit =
      turn (s *ℤ s +ℤ t *ℤ t) (c *ℤ c) (c *ℤ s) (c *ℤ t) u v (turned_axis s t c) longitude near_u near_v
      (abs_mul_le c c c_most c_most) u-most v-most (lit< tt) in
      let level : nat_abs (b *ℤ b +ℤ v *ℤ v) ≤ unit * unit + unit * unit =
      abs_add_le (b *ℤ b) (v *ℤ v) (abs_mul_le b b b_most b_most) (abs_mul_le v v v-most v-most) in
      let tilted : nat_abs (p *ℤ p +ℤ w *ℤ w -ℤ (b *ℤ b +ℤ v *ℤ v)) ≤ 100 * unit =
      turn (S *ℤ S +ℤ C *ℤ C) (b *ℤ b +ℤ v *ℤ v) (S *ℤ b +ℤ C *ℤ v) (C *ℤ b -ℤ S *ℤ v) p w (turned S C b v) centre near_p near_w
      level p-most w-most (lit< tt) in
      abs_by (three_circles u v w p b c (pos unit)) (search parts depth 40 fits 20000) (lit≤ tt)

-- ---- the scale

-- in that sphere u² + w² is at most 2 U (U + p) + 200 U, as the square of U + p is not negative
flat : (U u w p : ℤ) → nat_abs (u *ℤ u +ℤ w *ℤ w +ℤ p *ℤ p -ℤ U *ℤ U) ≤ 200 * unit → (u *ℤ u +ℤ w *ℤ w) ≤ℤ (pos 2 *ℤ U *ℤ (U +ℤ p) +ℤ pos (200 * unit))
flat U u w p h =
    let k : (u *ℤ u +ℤ w *ℤ w +ℤ p *ℤ p -ℤ U *ℤ U) ≤ℤ pos (200 * unit) = abs_upper (u *ℤ u +ℤ w *ℤ w +ℤ p *ℤ p -ℤ U *ℤ U) h in
    certify (U ∷ u ∷ w ∷ p ∷ []) 1 ((pos (200 * unit) -ℤ (u *ℤ u +ℤ w *ℤ w +ℤ p *ℤ p -ℤ U *ℤ U)) +ℤ (U +ℤ p) *ℤ (U +ℤ p))
    (search nonneg depth 40 fits 20000) (search quote depth 40 fits 20000) tt

-- the same of natural numbers
natural : (u w g : ℤ) → pos (nat_abs g) ≡ g → (u *ℤ u +ℤ w *ℤ w) ≤ℤ (pos 2 *ℤ pos unit *ℤ g +ℤ pos (200 * unit)) →
    nat_abs u * nat_abs u + nat_abs w * nat_abs w ≤ 2 * unit * nat_abs g + 200 * unit
natural u w g e h =
    pos-≤ (subst (λ (z : ℤ). pos (nat_abs u * nat_abs u + nat_abs w * nat_abs w) ≤ℤ (pos 2 *ℤ pos unit *ℤ z +ℤ pos (200 * unit))) (sym e) (rw (squares u w) at h))

-- a side of such a square is at most 3 H, where H is the root of U g / 2
side : (x y g H : ℕ) → x * x + y * y ≤ 2 * unit * g + 200 * unit → g * half < (H + 1) * (H + 1) → 100_000_000 ≤ H → x ≤ 3 * H
side x y g H square root H-least = square_le x (3 * H) (omega (arith, mul-le-mul H-least (le_refl H)))

-- a shift on the map, by a radius of an accepted set
shift : (R x : ℤ) (H : ℕ) → 100_000_000 ≤ H → nat_abs R ≤ 1_080_000_000 → nat_abs x ≤ 3 * H → nat_abs (near (R *ℤ x) H) ≤ 3_240_000_000
shift R x H H-least R-most x-most =
    near_at_most (R *ℤ x) H 3_240_000_000 (omega arith) (le_trans (abs_mul_le R x R-most x-most) (omega arith))

-- ---- the forward steps

-- S0 and C0 are the sine and cosine of one angle
pub circle_of : (p : Parameters) → OnCircle (constants_of p).s0 (constants_of p).c0
unfolding constants_of S0 C0
circle_of p = near_circle (β0 p.e2 p.lat0).0

module _ (k : Constants) (sound-k : Sound k) (centre : OnCircle k.s0 k.c0) (φ : Geodetic) (Δ : ℤ) (enough : pos 20_000_000 ≤ℤ G k φ Δ) where
  -- the height above the plane through the sphere's middle
  p : ℤ
  p = near (k.s0 *ℤ b k φ Δ +ℤ k.c0 *ℤ v k φ Δ) unit

  -- the point that the steps compute
  on_sphere : nat_abs (u k φ Δ *ℤ u k φ Δ +ℤ w k φ Δ *ℤ w k φ Δ +ℤ p *ℤ p -ℤ pos unit *ℤ pos unit) ≤ 200 * unit
  unfolding b c u v w p
  on_sphere =
      coarse_sphere (b k φ Δ) (c k φ Δ) k.s0 k.c0 (sine Δ) (cosine Δ) (u k φ Δ) (v k φ Δ) (w k φ Δ) p
      (b_size k φ Δ) (c_size k φ Δ) (u_size k φ Δ) (v_size k φ Δ) (w_size k sound-k.centre φ Δ)
      (sum_size k.s0 (b k φ Δ) k.c0 (v k φ Δ) sound-k.centre.s0_size (b_size k φ Δ) sound-k.centre.c0_size (v_size k φ Δ))
      (near_circle (beta k.series φ).0) centre (near_circle Δ)
      (near_unit (c k φ Δ *ℤ sine Δ)) (near_unit (c k φ Δ *ℤ cosine Δ))
      (near_unit (k.c0 *ℤ b k φ Δ -ℤ k.s0 *ℤ v k φ Δ)) (near_unit (k.s0 *ℤ b k φ Δ +ℤ k.c0 *ℤ v k φ Δ))

  -- G is not negative
  G-natural : pos (nat_abs (G k φ Δ)) ≡ G k φ Δ
  G-natural = pos_abs (≤ℤ-trans (omega order) enough)

  -- u² + w² is at most 2 U G + 200 U
  square : nat_abs (u k φ Δ) * nat_abs (u k φ Δ) + nat_abs (w k φ Δ) * nat_abs (w k φ Δ) ≤ 2 * unit * nat_abs (G k φ Δ) + 200 * unit
  unfolding p G
  square = natural (u k φ Δ) (w k φ Δ) (G k φ Δ) G-natural (flat (pos unit) (u k φ Δ) (w k φ Δ) p on_sphere)

  -- H is the root of G · U / 2
  root_of : nat_abs (G k φ Δ) * half < (H (G k φ Δ) + 1) * (H (G k φ Δ) + 1)
  root_of = (scale_root (G k φ Δ)).1

  -- a shift, by the one or the other of u and w, which are at most 3 H
  shifted : (R x y : ℤ) → nat_abs R ≤ 1_080_000_000 → nat_abs x * nat_abs x + nat_abs y * nat_abs y ≤ 2 * unit * nat_abs (G k φ Δ) + 200 * unit →
      nat_abs (near (R *ℤ x) (H (G k φ Δ))) ≤ 3_240_000_000
  shifted R x y R-most sum =
      let H-large : 100_000_000 ≤ H (G k φ Δ) = H-least (G k φ Δ) enough in
      shift R x (H (G k φ Δ)) H-large R-most (side (nat_abs x) (nat_abs y) (nat_abs (G k φ Δ)) (H (G k φ Δ)) sum root_of H-large)

  -- the shift to the east
  d_e_size : nat_abs (dE k φ Δ) ≤ 3_240_000_000
  unfolding dE
  d_e_size = shifted k.rd (u k φ Δ) (w k φ Δ) sound-k.rd_between.most square

  -- the shift to the north
  d_n_size : nat_abs (dN k φ Δ) ≤ 3_240_000_000
  unfolding dN
  d_n_size = shifted k.rn (w k φ Δ) (u k φ Δ) sound-k.rn_between.most (omega (arith, square))

-- ---- the answer

-- the false origin of an accepted set and such a shift stay within the limits
coordinate : (F d : ℤ) → nat_abs F ≤ 1_000_000_000 → nat_abs d ≤ 3_240_000_000 → within (neg_ℤ (pos 5_000_000_000)) (pos 5_000_000_000) (F +ℤ d) ≡ true
coordinate F d F-most d-most = size_inside 5_000_000_000 (F +ℤ d) (le_trans (abs_add_le F d F-most d-most) (lit≤ tt))

-- the easting and the northing that the steps compute
steps_on_plane : (p : Parameters) (φ : Geodetic) (lon : ℤ) → set_refusal p ≡ 0 → near_enough (nearness p φ lon) ≡ true →
    on_plane (easting_of p φ lon) (northing_of p φ lon) ≡ true
unfolding on_plane near_enough nearness easting_of northing_of
steps_on_plane p φ lon ok enough =
    let k : Constants = constants_of p in
    let Δ : ℤ = lon -ℤ p.lon0 in
    let least : pos 20_000_000 ≤ℤ G k φ Δ = le_z_true (pos 20_000_000) (G k φ Δ) enough in
    ap₂ ◌&&◌
    (coordinate p.false_easting (dE k φ Δ) (accepted_fields p ok).easting_size (d_e_size k (sound p ok) (circle_of p) φ Δ least))
    (coordinate p.false_northing (dN k φ Δ) (accepted_fields p ok).northing_size (d_n_size k (sound p ok) (circle_of p) φ Δ least))

-- every accepted forward answer, of every accepted set, lies within the limits of refusal 3
pub forward_on_plane : ForwardOnPlane
forward_on_plane p φ lon E N e =
    let answer = accepted_answer p φ lon E N e in
    rw (answer.easting, answer.northing) at (steps_on_plane p φ lon answer.set_accepted answer.enough)
