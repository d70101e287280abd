-- The witnesses: a concrete set and input for each refusal and for an accepted answer, in each direction. The tests that decide them are computed, but for
-- the one of the map: what is beyond it is beyond twice the greatest RD of any set, so no root is computed.
-- Assumes nothing.
use mathlib.Core.Path.{◌≡◌, refl, ap, ◌∙◌, subst}
use mathlib.Core.Bool.{false}
use Prim.Native.Nat.{ℕ, ◌*◌}
use lib.Dec.{lit≤}
use lib.IntN.{ℤ, pos, neg_ℤ, nat_abs, ◌*ℤ◌}
use lib.Signed.{◌<ℤ◌, le_z}
use Rattle.proof_kit.proofs.Order.{order, lt_le_z}
use Rattle.units.specs.Spans.{within, same, on_plane}
use Rattle.parameters.specs.ParameterSet.{etrs_laea}
use Rattle.parameters.specs.FieldTheorems.{number_of, wrong}
use Rattle.parameters.proofs.Fields.{not_none, etrs_accepted, wrong_refused}
use Rattle.constants.specs.Derived.{constants_of}
use Rattle.azimuthal_forward.specs.Answer.{on_globe, plane_told}
use Rattle.azimuthal_inverse.specs.Steps.{at_origin, on_map}
use Rattle.units.proofs.Spans.{Between}
use Rattle.constants.proofs.ConstantsLaws.{sound}
use Rattle.azimuthal_forward.proofs.AnswerLaws.{forward_set_refused, forward_off_globe}
use Rattle.azimuthal_inverse.proofs.AnswerLaws.{from_off_map, inverse_set_refused, inverse_off_plane, inverse_on_plane}
use Rattle.azimuthal_inverse.specs.Answer.{geodetic_told}
use Rattle.latitudes.specs.Latitude.{latitude}
use Rattle.projection_laws.specs.Theorems.{ForwardWitnesses, InverseWitnesses}
use Rattle.projection_laws.proofs.Centre.{centre_forward, centre_inverse, opposite_forward}
use Rattle.projection_laws.proofs.Tests.{first_fails, second_fails, on_plane_by}

-- ---- forward

beyond_pole : on_globe (latitude (pos 324_000_001)) (pos 0) ≡ false
unfolding on_globe within
beyond_pole = refl

pub forward_witnesses : ForwardWitnesses
forward_witnesses = (
  centre_forward etrs_laea etrs_accepted,
  λ f. ap plane_told (forward_set_refused (wrong f) (latitude (pos 324_000_001)) (pos 0) (number_of f) (not_none f) (wrong_refused f)),
  ap plane_told (forward_off_globe etrs_laea (latitude (pos 324_000_001)) (pos 0) etrs_accepted beyond_pole),
  opposite_forward etrs_laea etrs_accepted (neg_ℤ (pos 612_000_000)) (lit≤ tt) refl,
)

-- ---- inverse

beyond_plane : on_plane (pos 5_000_000_001) (pos 0) ≡ false
unfolding on_plane within
beyond_plane = refl

-- RD is at most 1,080,000,000, so dE of 4,567,900,000 is beyond twice RD
beyond : (r : ℤ) {low : ℕ} → Between r low 1_080_000_000 → within (neg_ℤ (pos 2 *ℤ r)) (pos 2 *ℤ r) (pos 4_567_900_000) ≡ false
unfolding within
beyond r h =
    let far : pos (2 * nat_abs r) <ℤ pos 4_567_900_000 = omega (order, h.most) in
    second_fails (le_z (neg_ℤ (pos 2 *ℤ r)) (pos 4_567_900_000)) (lt_le_z (subst (λ (x : ℤ). (pos 2 *ℤ x) <ℤ pos 4_567_900_000) h.natural far))

off_map : (dN : ℤ) → on_map (constants_of etrs_laea) (pos 4_567_900_000) dN ≡ false
unfolding on_map
off_map dN =
    let k = constants_of etrs_laea in
    first_fails (within (neg_ℤ (pos 2 *ℤ k.rn)) (pos 2 *ℤ k.rn) dN) (beyond k.rd (sound etrs_laea etrs_accepted).rd_between)

not_origin : at_origin (pos 4_567_900_000) (neg_ℤ (pos 321_000_000)) ≡ false
unfolding at_origin same within
not_origin = refl

pub inverse_witnesses : InverseWitnesses
inverse_witnesses = (
  centre_inverse etrs_laea etrs_accepted,
  λ f. ap geodetic_told (inverse_set_refused (wrong f) (pos 5_000_000_001) (pos 0) (number_of f) (not_none f) (wrong_refused f)),
  ap geodetic_told (inverse_off_plane etrs_laea (pos 5_000_000_001) (pos 0) etrs_accepted beyond_plane),
  ap geodetic_told
      (inverse_on_plane etrs_laea (pos 5_000_000_000) (pos 0) etrs_accepted (on_plane_by (pos 5_000_000_000) (pos 0) (lit≤ tt) (lit≤ tt))
      ∙ from_off_map etrs_laea (constants_of etrs_laea) (pos 4_567_900_000) (neg_ℤ (pos 321_000_000)) not_origin (off_map (neg_ℤ (pos 321_000_000)))),
)
