-- The centre, the pole of a polar set and the point opposite to the centre.
-- Where u and w are 0 and the position is near enough, it goes to the false origin. At the centre u is 0 as sine(0) is, w is C0·S0 − S0·C0, and G is 2U but
-- for what sine² + cosine² lacks. At a pole C0 is 0, so the longitude falls out. At the opposite point b and v have the other sign, so G is as much below U
-- as it is above it at the centre. The way back from the false origin is an answer of its own.
-- Assumes nothing.
use mathlib.Core.Path.{◌≡◌, refl, ap, ap₂, ◌∙◌}
use mathlib.Core.Bool.{true}
use mathlib.Core.List.{[], ◌∷◌}
use mathlib.Core.Logic.{◌⊎◌, inl, inr}
use Prim.Native.Nat.{ℕ, suc, ◌-◌, ◌*◌, ◌<◌, ◌≤◌}
use native.Mathlib.Nat.{le_trans}
use lib.Dec.{lit<, lit≤}
use lib.IntN.{ℤ, pos, negsuc, neg_ℤ, nat_abs, ◌+ℤ◌, ◌-ℤ◌, ◌*ℤ◌, +ℤ_idr, +ℤ_invr, *ℤ-zero, zero-*ℤ}
use lib.Signed.{◌≤ℤ◌, ◌<ℤ◌}
use Rattle.proof_kit.proofs.Laws.{parts-+, P-neg, N-neg, nat_abs_parts, parts--}
use Rattle.proof_kit.proofs.Ring.{ring, quote}
use Rattle.proof_kit.proofs.Size.{abs_neg}
use Rattle.proof_kit.proofs.Order.{order}
use Rattle.integers.specs.Near.{near}
use Rattle.integers.proofs.Rounding.{near_zero, near_whole, near_mono, near_odd}
use Rattle.units.specs.Units.{unit, right_angle, half_turn, U}
use Rattle.trig.specs.Sine.{sine, cosine}
use Rattle.trig.proofs.Interface.{A, sine_zero, sine_right, sine_odd, cosine_zero, cosine_right, cosine_even, cosine_quarter_turn, near_circle}
use Rattle.latitudes.specs.declared.Geodetic.{Geodetic}
use Rattle.parameters.specs.declared.Parameters.{Parameters}
use Rattle.constants.specs.declared.Constants.{Constants}
use Rattle.azimuthal_forward.specs.Answer.{Plane, Refused, nearness, easting_of, northing_of, forward_of, plane_told}
use Rattle.azimuthal_inverse.specs.Answer.{Position, inverse_of, geodetic_told}
use Rattle.units.specs.Spans.{within, same}
use Rattle.parameters.specs.ParameterSet.{polar, set_refusal}
use Rattle.latitudes.proofs.AuthalicLaws.{beta_mas, beta_odd, beta_north_pole, beta_south_pole}
use Rattle.constants.specs.Derived.{series_of, β0, S0, C0, constants_of}
use Rattle.azimuthal_forward.specs.Steps.{H, b, c, u, v, w, G, dE, dN}
use Rattle.azimuthal_inverse.specs.Steps.{at_origin}
use Rattle.parameters.proofs.AcceptedSet.{accepted_fields, lat0_size, polar_cases}
use Rattle.azimuthal_forward.proofs.ForwardLaws.{H-least}
use Rattle.azimuthal_forward.proofs.AnswerLaws.{forward_too_far, forward_plane}
use Rattle.azimuthal_inverse.proofs.AnswerLaws.{from_origin, inverse_on_plane}
use Rattle.projection_laws.specs.Theorems.{opposite, CentreForward, CentreInverse, PoleForward, OppositeForward}
use Rattle.projection_laws.proofs.Tests.{on_globe_by, on_plane_by, near_enough_by, not_near_enough}

some : 0 < unit
some = lit< tt

none : (z : ℤ) → z -ℤ z ≡ pos 0
none z = +ℤ_invr z

-- ---- u and w 0: the false origin

-- near(r·0/H) is 0, where G is at least 20,000,000
no_distance : (r x g : ℤ) → x ≡ pos 0 → pos 20_000_000 ≤ℤ g → near (r *ℤ x) (H g) ≡ pos 0
no_distance r x g e h =
    ap (λ (z : ℤ). near z (H g)) (ap (λ (y : ℤ). r *ℤ y) e ∙ *ℤ-zero r) ∙ near_zero (H g) (le_trans (lit< tt) (H-least g h))

-- a position whose u and w are 0
module _ (p : Parameters) (ok : set_refusal p ≡ 0) (φ : Geodetic) (lon : ℤ) (φ-size : nat_abs φ.0 ≤ right_angle) (lon-size : nat_abs lon ≤ half_turn) where
  pub to_false_origin :
      u (constants_of p) φ (lon -ℤ p.lon0) ≡ pos 0 →
      w (constants_of p) φ (lon -ℤ p.lon0) ≡ pos 0 →
      pos 20_000_000 ≤ℤ G (constants_of p) φ (lon -ℤ p.lon0) →
      forward_of p φ lon ≡ Plane p.false_easting p.false_northing
  unfolding nearness easting_of northing_of dE dN
  to_false_origin no-u no-w h =
      forward_plane p φ lon ok (on_globe_by φ lon φ-size lon-size) (near_enough_by h)
      ∙ ap₂ (λ (x y : ℤ). Plane (p.false_easting +ℤ x) (p.false_northing +ℤ y))
      (no_distance (constants_of p).rd (u (constants_of p) φ (lon -ℤ p.lon0)) (G (constants_of p) φ (lon -ℤ p.lon0)) no-u h)
      (no_distance (constants_of p).rn (w (constants_of p) φ (lon -ℤ p.lon0)) (G (constants_of p) φ (lon -ℤ p.lon0)) no-w h)
      ∙ ap₂ Plane (+ℤ_idr p.false_easting) (+ℤ_idr p.false_northing)

  pub to_refused_4 : G (constants_of p) φ (lon -ℤ p.lon0) <ℤ pos 20_000_000 → forward_of p φ lon ≡ Refused 4
  unfolding nearness
  to_refused_4 h =
      forward_too_far p φ lon ok (on_globe_by φ lon φ-size lon-size) (not_near_enough h)

-- ---- sine² + cosine², rounded: at least U − A

circle_least : (t : ℤ) → pos (unit - A) ≤ℤ near (sine t *ℤ sine t +ℤ cosine t *ℤ cosine t) unit
circle_least t =
    let squares = sine t *ℤ sine t +ℤ cosine t *ℤ cosine t in
    rw (near_whole (pos (unit - A)) unit some) at (near_mono (pos (unit - A) *ℤ pos unit) squares unit some (least squares (near_circle t)))
  where
    least : (z : ℤ) → nat_abs (z -ℤ pos (unit * unit)) ≤ A * unit → pos ((unit - A) * unit) ≤ℤ z
    least z h = omega (order, nat_abs_parts (z -ℤ pos (unit * unit)), parts-- z (pos (unit * unit)))

-- ---- the centre: φ = φ0 and Δ = 0, for the constants of any set

above : (z : ℤ) → pos (unit - A) ≤ℤ z → pos 20_000_000 ≤ℤ (U +ℤ z)
above z h = omega (order, parts-+ U z)

below : (z : ℤ) → pos (unit - A) ≤ℤ z → (U +ℤ neg_ℤ z) <ℤ pos 20_000_000
below z h = omega (order, parts-+ U (neg_ℤ z), P-neg z, N-neg z)

nothing_left : {z : ℤ} → z ≡ pos 0 → near z unit ≡ pos 0
nothing_left e = ap (λ (z : ℤ). near z unit) e ∙ near_zero unit some

module _ (p : Parameters) where
  k : Constants
  k = constants_of p

  φ0 : Geodetic
  φ0 = p.lat0

  S : ℤ
  S = S0 p.e2 φ0

  C : ℤ
  C = C0 p.e2 φ0

  -- S0² + C0², rounded
  radius_least : pos (unit - A) ≤ℤ near (S *ℤ S +ℤ C *ℤ C) unit
  unfolding S C S0 C0
  radius_least = circle_least (β0 p.e2 φ0).0

  -- at the centre's latitude b and c are S0 and C0; at the opposite one, −S0 and C0
  centre_b : (Δ : ℤ) → b k φ0 Δ ≡ S
  unfolding b k φ0 S constants_of S0 β0
  centre_b Δ = refl

  centre_c : (Δ : ℤ) → c k φ0 Δ ≡ C
  unfolding c k φ0 C constants_of C0 β0
  centre_c Δ = refl

  opposite_b : (Δ : ℤ) → b k (opposite φ0) Δ ≡ neg_ℤ S
  unfolding b k φ0 S constants_of S0 β0
  opposite_b Δ = ap sine (beta_odd (series_of p.e2) p.lat0.0) ∙ sine_odd (beta_mas (series_of p.e2) p.lat0.0)

  opposite_c : (Δ : ℤ) → c k (opposite φ0) Δ ≡ C
  unfolding c k φ0 C constants_of C0 β0
  opposite_c Δ = ap cosine (beta_odd (series_of p.e2) p.lat0.0) ∙ cosine_even (beta_mas (series_of p.e2) p.lat0.0)

  -- w and G, where b and v are known
  w_by : (φ : Geodetic) (Δ : ℤ) {x y : ℤ} → b k φ Δ ≡ x → v k φ Δ ≡ y → w k φ Δ ≡ near (C *ℤ x -ℤ S *ℤ y) unit
  unfolding w k S C φ0 constants_of
  w_by φ Δ e f = ap₂ (λ (x y : ℤ). near (C *ℤ x -ℤ S *ℤ y) unit) e f

  G-by : (φ : Geodetic) (Δ : ℤ) {x y : ℤ} → b k φ Δ ≡ x → v k φ Δ ≡ y → G k φ Δ ≡ U +ℤ near (S *ℤ x +ℤ C *ℤ y) unit
  unfolding G k S C φ0 constants_of
  G-by φ Δ e f = ap₂ (λ (x y : ℤ). U +ℤ near (S *ℤ x +ℤ C *ℤ y) unit) e f

  -- v is c, or −c, where the cosine of Δ is U, or −U
  v_by : (φ : Geodetic) (Δ : ℤ) {x y : ℤ} → c k φ Δ ≡ x → cosine Δ ≡ y → v k φ Δ ≡ near (x *ℤ y) unit
  unfolding v
  v_by φ Δ e f = ap₂ (λ (x y : ℤ). near (x *ℤ y) unit) e f

  u_by : (φ : Geodetic) (Δ : ℤ) {x y : ℤ} → c k φ Δ ≡ x → sine Δ ≡ y → u k φ Δ ≡ near (x *ℤ y) unit
  unfolding u
  u_by φ Δ e f = ap₂ (λ (x y : ℤ). near (x *ℤ y) unit) e f

  centre_u : u k φ0 (pos 0) ≡ pos 0
  centre_u = u_by φ0 (pos 0) (centre_c (pos 0)) sine_zero ∙ nothing_left (*ℤ-zero C)

  centre_v : v k φ0 (pos 0) ≡ C
  centre_v = v_by φ0 (pos 0) (centre_c (pos 0)) cosine_zero ∙ near_whole C unit some

  centre_w : w k φ0 (pos 0) ≡ pos 0
  centre_w = w_by φ0 (pos 0) (centre_b (pos 0)) centre_v ∙ nothing_left (crossed C S)
    where
      crossed : (x y : ℤ) → x *ℤ y -ℤ y *ℤ x ≡ pos 0
      crossed x y = ring (x ∷ y ∷ []) (search quote depth 40 fits 20000) tt

  centre_G : pos 20_000_000 ≤ℤ G k φ0 (pos 0)
  centre_G = rw (G-by φ0 (pos 0) (centre_b (pos 0)) centre_v) (above (near (S *ℤ S +ℤ C *ℤ C) unit) radius_least)

  -- ---- the point opposite to the centre

  opposite_v : (Δ : ℤ) → cosine Δ ≡ neg_ℤ U → v k (opposite φ0) Δ ≡ neg_ℤ C
  opposite_v Δ e = v_by (opposite φ0) Δ (opposite_c Δ) e ∙ ap (λ (z : ℤ). near z unit) (moved C U) ∙ near_whole (neg_ℤ C) unit some
    where
      moved : (x y : ℤ) → x *ℤ neg_ℤ y ≡ neg_ℤ x *ℤ y
      moved x y = ring (x ∷ y ∷ []) (search quote depth 40 fits 20000) tt

  opposite_G : (Δ : ℤ) → cosine Δ ≡ neg_ℤ U → G k (opposite φ0) Δ <ℤ pos 20_000_000
  opposite_G Δ e =
      rw (G-by (opposite φ0) Δ (opposite_b Δ) (opposite_v Δ e), turned S C, near_odd (S *ℤ S +ℤ C *ℤ C) unit some)
      (below (near (S *ℤ S +ℤ C *ℤ C) unit) radius_least)
    where
      turned : (x y : ℤ) → x *ℤ neg_ℤ x +ℤ y *ℤ neg_ℤ y ≡ neg_ℤ (x *ℤ x +ℤ y *ℤ y)
      turned x y = ring (x ∷ y ∷ []) (search quote depth 40 fits 20000) tt

  -- ---- a pole, where C0 = 0 and S0 = ±U: the longitude falls out

  module _ (no-C : C ≡ pos 0) (S-square : near (S *ℤ S) unit ≡ U) (Δ : ℤ) where
    pole_u : u k φ0 Δ ≡ pos 0
    pole_u = u_by φ0 Δ (centre_c Δ ∙ no-C) refl ∙ nothing_left (zero-*ℤ (sine Δ))

    pole_v : v k φ0 Δ ≡ pos 0
    pole_v = v_by φ0 Δ (centre_c Δ ∙ no-C) refl ∙ nothing_left (zero-*ℤ (cosine Δ))

    pole_w : w k φ0 Δ ≡ pos 0
    pole_w =
        w_by φ0 Δ (centre_b Δ) pole_v ∙ nothing_left (ap (λ (z : ℤ). z *ℤ S -ℤ S *ℤ pos 0) no-C ∙ gone S)
      where
        gone : (x : ℤ) → pos 0 *ℤ x -ℤ x *ℤ pos 0 ≡ pos 0
        gone x = ring (x ∷ []) (search quote depth 40 fits 20000) tt

    pole_G : pos 20_000_000 ≤ℤ G k φ0 Δ
    pole_G =
        rw (G-by φ0 Δ (centre_b Δ) pole_v, *ℤ-zero C, +ℤ_idr (S *ℤ S), S-square) (above U (omega order))

-- C0 and S0 of a pole
pole_C : (p : Parameters) → (p.lat0.0 ≡ pos right_angle) ⊎ (p.lat0.0 ≡ neg_ℤ (pos right_angle)) → C p ≡ pos 0
unfolding C C0 β0 φ0
pole_C p (inl e) = ap (λ (z : ℤ). cosine (beta_mas (series_of p.e2) z)) e ∙ ap cosine (beta_north_pole (series_of p.e2)) ∙ cosine_right
pole_C p (inr e) =
    ap (λ (z : ℤ). cosine (beta_mas (series_of p.e2) z)) e ∙ ap cosine (beta_south_pole (series_of p.e2)) ∙ cosine_even (pos right_angle) ∙ cosine_right

pole_S : (p : Parameters) → (p.lat0.0 ≡ pos right_angle) ⊎ (p.lat0.0 ≡ neg_ℤ (pos right_angle)) → near (S p *ℤ S p) unit ≡ U
unfolding S S0 β0 φ0
pole_S p (inl e) =
    ap (λ (z : ℤ). near (z *ℤ z) unit) (ap (λ (z : ℤ). sine (beta_mas (series_of p.e2) z)) e ∙ ap sine (beta_north_pole (series_of p.e2)) ∙ sine_right)
    ∙ near_whole U unit some
pole_S p (inr e) =
    ap (λ (z : ℤ). near (z *ℤ z) unit)
    (ap (λ (z : ℤ). sine (beta_mas (series_of p.e2) z)) e ∙ ap sine (beta_south_pole (series_of p.e2)) ∙ sine_odd (pos right_angle) ∙ ap neg_ℤ sine_right)
    ∙ near_whole U unit some

-- ---- the answers

module _ (p : Parameters) (ok : set_refusal p ≡ 0) where
  φ0_size : nat_abs p.lat0.0 ≤ right_angle
  φ0_size = lat0_size p.lat0 (accepted_fields p ok).lat0_accepted

  pub centre_plane : forward_of p p.lat0 p.lon0 ≡ Plane p.false_easting p.false_northing
  unfolding k φ0
  centre_plane =
      to_false_origin p ok p.lat0 p.lon0 φ0_size (accepted_fields p ok).lon0_size
      (rw (none p.lon0) (centre_u p)) (rw (none p.lon0) (centre_w p)) (rw (none p.lon0) (centre_G p))

  pub centre_position : inverse_of p p.false_easting p.false_northing ≡ Position p.lat0 p.lon0
  unfolding at_origin same within
  centre_position =
      let E = p.false_easting in
      let N = p.false_northing in
      let fields = accepted_fields p ok in
      inverse_on_plane p E N ok (on_plane_by E N (le_trans fields.easting_size (lit≤ tt)) (le_trans fields.northing_size (lit≤ tt)))
      ∙ from_origin p (constants_of p) (E -ℤ E) (N -ℤ N) (rw (none E, none N) refl)

  pub pole_plane : polar p.lat0 ≡ true → (lon : ℤ) → nat_abs lon ≤ half_turn → forward_of p p.lat0 lon ≡ Plane p.false_easting p.false_northing
  unfolding k φ0
  pole_plane is-pole lon size =
      let cases = polar_cases p.lat0 is-pole in
      let no-C = pole_C p cases in
      let S-square = pole_S p cases in
      to_false_origin p ok p.lat0 lon φ0_size size
      (pole_u p no-C S-square (lon -ℤ p.lon0)) (pole_w p no-C S-square (lon -ℤ p.lon0)) (pole_G p no-C S-square (lon -ℤ p.lon0))

  pub opposite_refused : (lon : ℤ) → nat_abs lon ≤ half_turn → nat_abs (lon -ℤ p.lon0) ≡ half_turn → forward_of p (opposite p.lat0) lon ≡ Refused 4
  unfolding k φ0
  opposite_refused lon size half =
      to_refused_4 p ok (opposite p.lat0) lon (rw (abs_neg p.lat0.0) φ0_size) size
      (opposite_G p (lon -ℤ p.lon0) (half_cosine (lon -ℤ p.lon0) half))
    where
      cosine_half : cosine (pos half_turn) ≡ neg_ℤ U
      cosine_half = cosine_quarter_turn (pos right_angle) ∙ ap neg_ℤ sine_right

      half_cosine : (Δ : ℤ) → nat_abs Δ ≡ half_turn → cosine Δ ≡ neg_ℤ U
      half_cosine (pos n) e = ap (λ (m : ℕ). cosine (pos m)) e ∙ cosine_half
      half_cosine (negsuc n) e = cosine_even (pos (suc n)) ∙ ap (λ (m : ℕ). cosine (pos m)) e ∙ cosine_half

-- ---- as told

pub centre_forward : CentreForward
centre_forward p ok = ap plane_told (centre_plane p ok)

pub centre_inverse : CentreInverse
centre_inverse p ok = ap geodetic_told (centre_position p ok)

pub pole_forward : PoleForward
pole_forward p ok is-pole lon size = ap plane_told (pole_plane p ok is-pole lon size)

pub opposite_forward : OppositeForward
opposite_forward p ok lon size half = ap plane_told (opposite_refused p ok lon size half)
