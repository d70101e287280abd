-- The steps of `forward_of` and `inverse_of`, as the records that the vectors' half of the round trip takes.
-- A rounded quotient and a root enter by the laws of rounding, a sine and a cosine by those of the circle. Assumes nothing.
use mathlib.Core.Path.{◌≡◌, sym, ap, subst}
use Prim.Native.Nat.{ℕ, ◌+◌, ◌*◌, ◌<◌, ◌≤◌}
use native.Mathlib.Nat.{le_trans}
use native.Mathlib.Omega.{arith}
use lib.Dec.{lit<}
use lib.IntN.{ℤ, pos, nat_abs, ◌+ℤ◌, ◌-ℤ◌, ◌*ℤ◌, *ℤ_comm}
use lib.Signed.{◌≤ℤ◌}
use Rattle.proof_kit.proofs.Laws.{parts-+}
use Rattle.proof_kit.proofs.Order.{order, pos-≤, pos_abs, ≤ℤ-trans}
use Rattle.integers.specs.Near.{near}
use Rattle.trig.specs.Sine.{sine, cosine}
use Rattle.trig.proofs.Interface.{sine_size, cosine_size, near_circle}
use Rattle.constants.specs.declared.Constants.{Constants}
use Rattle.sphere_points.specs.Points.{Point}
use Rattle.latitudes.specs.declared.Geodetic.{Geodetic}
use Rattle.latitudes.specs.Latitude.{beta}
use Rattle.units.specs.Units.{U}
use Rattle.azimuthal_forward.specs.Steps.{H, b, c, u, v, w, G, dE, dN}
use Rattle.azimuthal_inverse.specs.Steps.{X, Y, K, found}
use Rattle.sphere_points.specs.Sphere.{versine_of, G as G', up, level, z_of, f_of, point_of}
use Rattle.units.proofs.Spans.{Between}
use Rattle.azimuthal_forward.proofs.ForwardLaws.{H-least}
use Rattle.constants.proofs.ConstantsLaws.{Sound}
use Rattle.sphere_points.proofs.AngleLaws.{radius}
use Rattle.round_trip.specs.RoundTrip.{farthest_latitude}
use Rattle.round_trip.proofs.Numerals.{unit, least_cosine}
use Rattle.round_trip.proofs.Tools.{Near, OnCircle}
use Rattle.round_trip.proofs.Rounding.{near_near, near_unit, length_root, scale_root}
use Rattle.round_trip.proofs.Forward.{Forward}
use Rattle.round_trip.proofs.Axis.{Axis}
use Rattle.round_trip.proofs.Inverse.{Inverse, Close, close}
use Rattle.round_trip.proofs.Poles.{cosine_at_89}

-- what is at least U is U and a natural number
above_unit : (x : ℤ) → pos unit ≤ℤ (U +ℤ x) → pos 0 ≤ℤ x
above_unit x h = omega (order, parts-+ U x)

-- ---- the steps

-- sound constants whose S0 and C0 lie on the circle, and a position at most 89° from the Equator whose nearness is at least U
pub record Given (k : Constants) (φ : Geodetic) (Δ : ℤ) : Type 0 where
  pub sound : Sound k
  pub centre : OnCircle k.s0 k.c0
  pub latitude : nat_abs φ.0 ≤ farthest_latitude
  pub near_centre : pos unit ≤ℤ G k φ Δ

module _ {k : Constants} {φ : Geodetic} {Δ : ℤ} (g : Given k φ Δ) where
  -- c is far enough above 0
  c_large : pos least_cosine ≤ℤ c k φ Δ
  unfolding c
  c_large = cosine_at_89 k.series g.sound.small φ.0 g.latitude

  -- c is a natural number
  pub c_natural : pos (nat_abs (c k φ Δ)) ≡ c k φ Δ
  c_natural = pos_abs (≤ℤ-trans (omega order) c_large)

  -- the height p, which is G − U
  pub height : ℤ
  height = near (k.s0 *ℤ b k φ Δ +ℤ k.c0 *ℤ v k φ Δ) unit

  -- it is a natural number
  height_natural : pos (nat_abs height) ≡ height
  unfolding height G
  height_natural = pos_abs (above_unit height g.near_centre)

  -- G is U and the height
  G-size : nat_abs (G k φ Δ) ≡ unit + nat_abs height
  unfolding height G
  G-size = ap (λ (x : ℤ). nat_abs (U +ℤ x)) (sym height_natural)

  -- b and c lie on the circle
  on_sphere : OnCircle (b k φ Δ) (pos (nat_abs (c k φ Δ)))
  unfolding b c
  on_sphere = subst (OnCircle (b k φ Δ)) (sym c_natural) (near_circle (beta k.series φ).0)

  -- u, v and the height are rounded from c, v and b
  u_near : Near unit (u k φ Δ) (pos (nat_abs (c k φ Δ)) *ℤ sine Δ)
  unfolding u
  u_near = rw c_natural (near_unit (c k φ Δ *ℤ sine Δ))

  v_near : Near unit (v k φ Δ) (pos (nat_abs (c k φ Δ)) *ℤ cosine Δ)
  unfolding v
  v_near = rw c_natural (near_unit (c k φ Δ *ℤ cosine Δ))

  p_near : Near unit (pos (nat_abs height)) (k.s0 *ℤ b k φ Δ +ℤ k.c0 *ℤ v k φ Δ)
  unfolding height
  p_near =
      let n : ℤ = k.s0 *ℤ b k φ Δ +ℤ k.c0 *ℤ v k φ Δ in
      subst (λ (x : ℤ). Near unit x n) (sym height_natural) (near_unit n)

  -- the forward steps
  pub forward_steps : Forward (b k φ Δ) k.s0 k.c0 (sine Δ) (cosine Δ) (u k φ Δ) (v k φ Δ) (w k φ Δ) (nat_abs (c k φ Δ)) (nat_abs height)
  unfolding b c w
  forward_steps =
      let β = (beta k.series φ).0 in
      record {
        c_least = pos-≤ (rw c_natural c_large);
        c_most = cosine_size β;
        b_most = sine_size β;
        S-most = g.sound.centre.s0_size;
        C-most = g.sound.centre.c0_size;
        s_most = sine_size Δ;
        t_most = cosine_size Δ;
        position = on_sphere;
        centre = g.centre;
        longitude = near_circle Δ;
        near_u = u_near;
        near_v = v_near;
        near_w = near_unit (k.c0 *ℤ b k φ Δ -ℤ k.s0 *ℤ v k φ Δ);
        near_p = p_near;
      }

  -- ---- the inverse steps, from where those ended

  -- K and the point of the sphere
  abbrev K' : ℤ
  K' = K k (dE k φ Δ) (dN k φ Δ)

  abbrev point : Point
  point = found k (dE k φ Δ) (dN k φ Δ)

  -- H divides
  H-some : 0 < H (G k φ Δ)
  H-some = le_trans (lit< tt) (H-least (G k φ Δ) (≤ℤ-trans (omega order) g.near_centre))

  -- one axis: r is its radius, x the length, X and e what the inverse computes from the shift
  axis : (r x : ℤ) → Between r 90_909_091 1_080_000_000 →
      let d : ℤ = near (r *ℤ x) (H (G k φ Δ)) in
      let X : ℤ = near (d *ℤ U) (nat_abs r) in
      Axis (H (G k φ Δ)) (H (G' K')) (nat_abs r) x d X (near (X *ℤ pos (H (G' K'))) unit)
  axis r x between =
      let h : ℕ = H (G k φ Δ) in
      let d : ℤ = near (r *ℤ x) h in
      let X : ℤ = near (d *ℤ U) (nat_abs r) in
      record {
        R-least = omega (arith, between.least);
        near_d = rw between.natural (near_near (r *ℤ x) h H-some);
        near_X = rw (*ℤ_comm (pos unit) d) (near_near (d *ℤ U) (nat_abs r) (le_trans (lit< tt) between.least));
        near_e = near_unit (X *ℤ pos (H (G' K')));
      }

  -- the inverse steps
  inverse_steps :
      Inverse k.s0 k.c0 (u k φ Δ) (w k φ Δ) (dE k φ Δ) (dN k φ Δ) (X k (dE k φ Δ)) (Y k (dN k φ Δ)) K'
      point.east (level K' (Y k (dN k φ Δ))) point.z point.f
      (nat_abs height) (H (G k φ Δ)) (nat_abs k.rd) (nat_abs k.rn) (H (G' K')) (radius point)
  unfolding dE dN X Y K versine_of level up z_of f_of point_of found G'
  inverse_steps =
      let x : ℤ = X k (dE k φ Δ) in
      let y : ℤ = Y k (dN k φ Δ) in
      record {
        root_H = rw (← G-size) (scale_root (G k φ Δ));
        east_axis = axis k.rd (u k φ Δ) g.sound.rd_between;
        north_axis = axis k.rn (w k φ Δ) g.sound.rn_between;
        near_K = near_near (x *ℤ x +ℤ y *ℤ y) (2 * unit) (lit< tt);
        root_H' = scale_root (G' K');
        near_z = near_unit (up K' *ℤ k.s0 +ℤ level K' y *ℤ k.c0);
        near_f = near_unit (up K' *ℤ k.c0 -ℤ level K' y *ℤ k.s0);
        root_R = length_root point.east point.f;
      }

  -- the inverse accepts, and ends close to where the forward steps began
  pub close_steps :
      Close (b k φ Δ) (u k φ Δ) (v k φ Δ) (dE k φ Δ) (dN k φ Δ) K' point.east point.z point.f
      (nat_abs (c k φ Δ)) (nat_abs k.rd) (nat_abs k.rn) (radius point)
  close_steps = close forward_steps inverse_steps
