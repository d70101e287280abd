-- The edge of the map: at dE = 2·RD and dN = 0, X is 2U and K is 2U, so G is 0 and the point is too far, though it passes the test of the map.
-- Assumes nothing.
use mathlib.Core.Path.{◌≡◌, refl, sym, ap, ap₂, ◌∙◌, subst}
use mathlib.Core.Bool.{true, false}
use mathlib.Core.List.{[], ◌∷◌}
use Prim.Native.Nat.{◌*◌, ◌<◌, ◌≤◌}
use native.Mathlib.Nat.{le_refl, le_trans}
use native.Mathlib.Omega.{arith}
use lib.Dec.{lit<, lit≤}
use lib.IntN.{ℤ, pos, neg_ℤ, nat_abs, ◌+ℤ◌, ◌-ℤ◌, ◌*ℤ◌, +ℤ_invr}
use lib.Signed.{◌<ℤ◌, le_z}
use Rattle.proof_kit.proofs.Ring.{ring, quote}
use Rattle.proof_kit.proofs.Size.{abs_mul_le, abs_add_le}
use Rattle.proof_kit.proofs.Order.{order, lt_le_z}
use Rattle.integers.specs.Near.{near}
use Rattle.integers.proofs.Rounding.{near_zero, near_whole}
use Rattle.units.specs.Units.{unit, U, plane_limit}
use Rattle.parameters.specs.declared.Parameters.{Parameters}
use Rattle.constants.specs.declared.Constants.{Constants}
use Rattle.azimuthal_inverse.specs.Answer.{Refused, answer_from, inverse_of, geodetic_told}
use Rattle.units.specs.Spans.{within, same}
use Rattle.parameters.specs.ParameterSet.{set_refusal}
use Rattle.constants.specs.Derived.{RD, constants_of}
use Rattle.azimuthal_forward.specs.Steps.{near_enough}
use Rattle.azimuthal_inverse.specs.Steps.{K, X, Y, at_origin, on_map}
use Rattle.sphere_points.specs.Sphere.{G, versine_of}
use Rattle.parameters.proofs.AcceptedSet.{accepted_fields}
use Rattle.constants.proofs.ConstantsLaws.{Sound, sound}
use Rattle.azimuthal_inverse.proofs.AnswerLaws.{from_too_far, inverse_on_plane}
use Rattle.projection_laws.specs.Theorems.{EdgeInverse}
use Rattle.units.proofs.Spans.{size_inside}
use Rattle.projection_laws.proofs.Tests.{first_fails, second_fails, on_plane_by}

-- constants with radii that are not 0
module _ (k : Constants) (ok : Sound k) where
  some_rd : 0 < nat_abs k.rd
  some_rd = le_trans (lit< tt) ok.rd_between.least

  some_rn : 0 < nat_abs k.rn
  some_rn = le_trans (lit< tt) ok.rn_between.least

  -- 2·RD is within ±2·RD, and 0 within ±2·RN
  twice : (r z : ℤ) → pos (nat_abs r) ≡ r → nat_abs z ≤ 2 * nat_abs r → within (neg_ℤ (pos 2 *ℤ r)) (pos 2 *ℤ r) z ≡ true
  twice r z e h = subst (λ (x : ℤ). within (neg_ℤ (pos 2 *ℤ x)) (pos 2 *ℤ x) z ≡ true) e (size_inside (2 * nat_abs r) z h)

  edge_on_map : on_map k (pos 2 *ℤ k.rd) (pos 0) ≡ true
  unfolding on_map
  edge_on_map =
      let east = abs_mul_le (pos 2) k.rd (le_refl 2) (le_refl (nat_abs k.rd)) in
      rw (twice k.rd (pos 2 *ℤ k.rd) ok.rd_between.natural east, twice k.rn (pos 0) ok.rn_between.natural (omega arith)) refl

  edge_X : X k (pos 2 *ℤ k.rd) ≡ pos 2 *ℤ U
  unfolding X
  edge_X =
      ap (λ (z : ℤ). near z (nat_abs k.rd)) (moved k.rd U ∙ ap (λ (z : ℤ). (pos 2 *ℤ U) *ℤ z) (sym ok.rd_between.natural))
      ∙ near_whole (pos 2 *ℤ U) (nat_abs k.rd) some_rd
    where
      moved : (x y : ℤ) → (pos 2 *ℤ x) *ℤ y ≡ (pos 2 *ℤ y) *ℤ x
      moved x y = ring (x ∷ y ∷ []) (search quote depth 40 fits 20000) tt

  edge_Y : Y k (pos 0) ≡ pos 0
  unfolding Y
  edge_Y = near_zero (nat_abs k.rn) some_rn

  edge_K : K k (pos 2 *ℤ k.rd) (pos 0) ≡ pos 2 *ℤ U
  unfolding K versine_of
  edge_K =
      ap₂ (λ (x y : ℤ). near (x *ℤ x +ℤ y *ℤ y) (2 * unit)) edge_X edge_Y ∙ near_whole (pos 2 *ℤ U) (2 * unit) (lit< tt)

  edge_too_far : near_enough (G (K k (pos 2 *ℤ k.rd) (pos 0))) ≡ false
  unfolding G near_enough
  edge_too_far = rw edge_K refl

  edge_not_origin : at_origin (pos 2 *ℤ k.rd) (pos 0) ≡ false
  unfolding at_origin same within
  edge_not_origin =
      let far : pos 0 <ℤ pos (2 * nat_abs k.rd) = omega (order, some_rd) in
      let east : pos 0 <ℤ (pos 2 *ℤ k.rd) = subst (λ (x : ℤ). pos 0 <ℤ (pos 2 *ℤ x)) ok.rd_between.natural far in
      first_fails true (second_fails (le_z (pos 0) (pos 2 *ℤ k.rd)) (lt_le_z east))

-- E is within ±50,000,000 m: FE is at most 10,000,000 m and RD at most 10,800,000 m
module _ (p : Parameters) (ok : set_refusal p ≡ 0) where
  E : ℤ
  E = p.false_easting +ℤ pos 2 *ℤ RD p

  E-size : nat_abs E ≤ plane_limit
  unfolding E constants_of
  E-size =
      let east = abs_mul_le (pos 2) (RD p) (le_refl 2) (sound p ok).rd_between.most in
      le_trans (abs_add_le p.false_easting (pos 2 *ℤ RD p) (accepted_fields p ok).easting_size east) (lit≤ tt)

  N-size : nat_abs p.false_northing ≤ plane_limit
  N-size = le_trans (accepted_fields p ok).northing_size (lit≤ tt)

  edge_d_e : E -ℤ p.false_easting ≡ pos 2 *ℤ RD p
  unfolding E
  edge_d_e = ring (p.false_easting ∷ RD p ∷ []) (search quote depth 40 fits 20000) tt

  edge_refused : inverse_of p E p.false_northing ≡ Refused 4
  unfolding constants_of
  edge_refused =
      let k = constants_of p in
      let radii = sound p ok in
      inverse_on_plane p E p.false_northing ok (on_plane_by E p.false_northing E-size N-size)
      ∙ ap₂ (answer_from p k) edge_d_e (+ℤ_invr p.false_northing)
      ∙ from_too_far p k (pos 2 *ℤ RD p) (pos 0) (edge_not_origin k radii) (edge_on_map k radii) (edge_too_far k radii)

pub edge_inverse : EdgeInverse
unfolding constants_of E
edge_inverse p ok = (edge_on_map (constants_of p) (sound p ok), ap geodetic_told (edge_refused p ok))
