-- The marked case of the sphere, step by step. On the sphere β is φ, so J, D and the cosine of the Equator are U and RD is a; 90° east u and G are U and
-- H is U/√2. No root is computed, each is shown to be its number by two squares.
-- Assumes nothing.
use mathlib.Core.Path.{◌≡◌, refl, ap, ap₂, ◌∙◌}
use mathlib.Core.Bool.{true}
use mathlib.Core.List.{[], ◌∷◌}
use Prim.Native.Nat.{◌*◌, ◌<◌}
use lib.Dec.{lit<, lit≤}
use lib.IntN.{ℤ, pos, nat_abs, ◌+ℤ◌, ◌-ℤ◌, ◌*ℤ◌, +ℤ_idr, zero-*ℤ}
use lib.Signed.{le_z}
use Rattle.proof_kit.proofs.Ring.{ring, quote}
use Rattle.integers.specs.Near.{near, nearest}
use Rattle.integers.specs.Root.{root}
use Rattle.integers.proofs.Rounding.{near_zero, near_whole}
use Rattle.integers.proofs.Squares.{root_is}
use Rattle.units.specs.Units.{unit, U, right_angle}
use Rattle.trig.specs.Sine.{sine, cosine}
use Rattle.trig.proofs.Interface.{sine_zero, sine_right, cosine_zero, cosine_right}
use Rattle.latitudes.specs.declared.Geodetic.{Geodetic}
use Rattle.latitudes.specs.declared.AuthalicSeries.{AuthalicSeries}
use Rattle.constants.specs.declared.Constants.{Constants}
use Rattle.azimuthal_forward.specs.Answer.{Plane, on_globe, nearness, easting_of, northing_of, forward_of}
use Rattle.units.specs.Spans.{within, same}
use Rattle.parameters.specs.ParameterSet.{polar, accepted_a, accepted_e2, accepted_lat0, accepted_lon0, accepted_false, set_refusal}
use Rattle.latitudes.specs.Latitude.{coefficients, terms, rounded, beta}
use Rattle.constants.specs.Derived.{to_mas, e4, e6, W, J, k2, k4, k6, series_of, β0, S0, C0, «V», m, D, Rq, RD, RN, constants_of}
use Rattle.azimuthal_forward.specs.Steps.{H, b, c, u, v, w, G, dE, dN, near_enough}
use Rattle.azimuthal_forward.proofs.AnswerLaws.{forward_plane}
use Rattle.marked_cases.specs.CaseTheorems.{sphere}

abbrev equator : Geodetic
equator = record { 0 = pos 0 }

some : 0 < unit
some = lit< tt

-- ---- roots

root_unit : root (unit * unit) ≡ unit
root_unit = root_is (unit * unit) unit (lit≤ tt) (lit< tt)

-- U/√2
root_half : root (unit * 500_000_000) ≡ 707_106_781
root_half = root_is (unit * 500_000_000) 707_106_781 (lit≤ tt) (lit< tt)

-- ---- the constants: J and D are U, RD and RN are a

sphere_accepted : set_refusal sphere ≡ 0
unfolding set_refusal accepted_a accepted_e2 accepted_lat0 polar same accepted_lon0 accepted_false within
sphere_accepted = refl

sphere_series : series_of (pos 0) ≡ coefficients (pos 0) (pos 0) (pos 0)
unfolding series_of k2 k4 k6 e4 e6 to_mas near nearest
sphere_series = refl

-- on the sphere β is φ
sphere_beta : (φ : ℤ) → (beta (series_of (pos 0)) (record { 0 = φ })).0 ≡ φ
unfolding beta rounded terms
sphere_beta φ =
    ap (λ (k : AuthalicSeries). φ -ℤ near (k.k2 *ℤ sine (pos 2 *ℤ φ) -ℤ k.k4 *ℤ sine (pos 4 *ℤ φ) +ℤ k.k6 *ℤ sine (pos 6 *ℤ φ)) unit) sphere_series
    ∙ ap (λ (z : ℤ). φ -ℤ near z unit) (none (sine (pos 2 *ℤ φ)) (sine (pos 4 *ℤ φ)) (sine (pos 6 *ℤ φ)))
    ∙ ap (λ (z : ℤ). φ -ℤ z) (near_zero unit some)
    ∙ +ℤ_idr φ
  where
    none : (x y z : ℤ) → pos 0 *ℤ x -ℤ pos 0 *ℤ y +ℤ pos 0 *ℤ z ≡ pos 0
    none x y z = ring (x ∷ y ∷ z ∷ []) (search quote depth 40 fits 20000) tt

sphere_S0 : S0 (pos 0) equator ≡ pos 0
unfolding S0 β0
sphere_S0 = ap sine (sphere_beta (pos 0)) ∙ sine_zero

sphere_C0 : C0 (pos 0) equator ≡ U
unfolding C0 β0
sphere_C0 = ap cosine (sphere_beta (pos 0)) ∙ cosine_zero

sphere_J : J (pos 0) ≡ U
unfolding J W e4 e6 near nearest
sphere_J = ap pos root_unit

sphere_V : «V» (pos 0) equator ≡ U
unfolding «V»
sphere_V = rw (zero-*ℤ (near (sine (pos 0) *ℤ sine (pos 0)) unit), near_zero unit some) refl

sphere_m : m (pos 0) equator ≡ U
unfolding m
sphere_m =
    ap₂ (λ (x y : ℤ). near (x *ℤ U) (root (nat_abs (y *ℤ U)))) cosine_zero sphere_V ∙ ap (near (U *ℤ U)) root_unit ∙ near_whole U unit some

sphere_D : D (pos 0) equator ≡ U
unfolding D polar same within
sphere_D =
    ap₂ (λ (x y : ℤ). near (x *ℤ U) (nat_abs y)) sphere_m (ap₂ (λ (x y : ℤ). near (x *ℤ y) unit) sphere_J sphere_C0 ∙ near_whole U unit some)
    ∙ near_whole U unit some

sphere_Rq : Rq sphere ≡ pos 600_000_000
unfolding Rq
sphere_Rq = ap (λ (x : ℤ). near (pos 600_000_000 *ℤ x) unit) sphere_J ∙ near_whole (pos 600_000_000) unit some

sphere_RD : RD sphere ≡ pos 600_000_000
unfolding RD
sphere_RD = ap₂ (λ (x y : ℤ). near (x *ℤ y) unit) sphere_Rq sphere_D ∙ near_whole (pos 600_000_000) unit some

sphere_RN : RN sphere ≡ pos 600_000_000
unfolding RN
sphere_RN =
    ap₂ (λ (x y : ℤ). near (x *ℤ U) (nat_abs y)) sphere_Rq sphere_D ∙ near_whole (pos 600_000_000) unit some

-- ---- the steps for φ = 0 and Δ = 90°: u = U, v = 0, w = 0, G = U and H = U/√2

k : Constants
k = constants_of sphere

fields : (k.s0 ≡ pos 0) × (k.c0 ≡ U) × (k.rd ≡ pos 600_000_000) × (k.rn ≡ pos 600_000_000)
unfolding k constants_of
fields = (sphere_S0, sphere_C0, sphere_RD, sphere_RN)

quarter : ℤ
quarter = pos right_angle

quarter_b : b k equator quarter ≡ pos 0
unfolding b k constants_of
quarter_b = ap sine (sphere_beta (pos 0)) ∙ sine_zero

quarter_c : c k equator quarter ≡ U
unfolding c k constants_of
quarter_c = ap cosine (sphere_beta (pos 0)) ∙ cosine_zero

quarter_u : u k equator quarter ≡ U
unfolding u quarter
quarter_u = ap₂ (λ (x y : ℤ). near (x *ℤ y) unit) quarter_c sine_right ∙ near_whole U unit some

quarter_v : v k equator quarter ≡ pos 0
unfolding v quarter
quarter_v = ap₂ (λ (x y : ℤ). near (x *ℤ y) unit) quarter_c cosine_right ∙ near_zero unit some

quarter_w : w k equator quarter ≡ pos 0
unfolding w
quarter_w = rw (quarter_b, quarter_v, fields.0, fields.1) (near_zero unit some)

quarter_G : G k equator quarter ≡ U
unfolding G
quarter_G = rw (quarter_b, quarter_v, fields.0, fields.1, near_zero unit some) refl

quarter_H : H (G k equator quarter) ≡ 707_106_781
unfolding H
quarter_H = ap (λ (g : ℤ). root (nat_abs (g *ℤ pos 500_000_000))) quarter_G ∙ root_half

quarter_d_e : dE k equator quarter ≡ pos 848_528_138
unfolding dE near nearest
quarter_d_e = rw (quarter_u, quarter_H, fields.2) refl

quarter_d_n : dN k equator quarter ≡ pos 0
unfolding dN near nearest
quarter_d_n = rw (quarter_w, quarter_H, fields.3) refl

-- ---- the answer

quarter_on_globe : on_globe equator quarter ≡ true
unfolding on_globe within quarter
quarter_on_globe = refl

quarter_near : near_enough (nearness sphere equator quarter) ≡ true
unfolding near_enough nearness k quarter
quarter_near = ap (le_z (pos 20_000_000)) quarter_G

pub sphere_quarter : forward_of sphere equator (pos right_angle) ≡ Plane (pos 848_528_138) (pos 0)
unfolding k quarter easting_of northing_of
sphere_quarter =
    forward_plane sphere equator quarter sphere_accepted quarter_on_globe quarter_near
    ∙ ap₂ (λ (x y : ℤ). Plane (pos 0 +ℤ x) (pos 0 +ℤ y)) quarter_d_e quarter_d_n
