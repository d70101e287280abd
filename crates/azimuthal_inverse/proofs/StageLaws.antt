-- The stages of the inverse steps: each way out of the tests gives a point of the plane that is small, and the answer of its stages is the inverse
-- answer. Assumes nothing.
use mathlib.Core.Path.{◌≡◌, refl, sym, ◌∙◌, subst}
use mathlib.Core.Bool.{Bool, true, false}
use Prim.Native.Nat.{ℕ, ◌≤◌, zero-le}
use native.Mathlib.Nat.{le_trans}
use lib.Dec.{lit≤}
use lib.IntN.{ℤ, pos, nat_abs, ◌-ℤ◌}
use lib.Signed.{◌≤ℤ◌}
use Rattle.proof_kit.proofs.Order.{le_z_true, ≤ℤ-trans, pos-≤ℤ}
use Rattle.units.specs.Spans.{on_plane}
use Rattle.parameters.specs.declared.Parameters.{Parameters}
use Rattle.parameters.specs.ParameterSet.{set_refusal}
use Rattle.constants.specs.declared.Constants.{Constants}
use Rattle.constants.specs.Derived.{constants_of}
use Rattle.constants.specs.InnerPrepared.{BoundedCentre}
use Rattle.constants.proofs.ConstantsLaws.{Sound, sound, sound_as}
use Rattle.azimuthal_forward.specs.Steps.{near_enough}
use Rattle.sphere_points.specs.Points.{Point}
use Rattle.sphere_points.specs.Sphere.{G}
use Rattle.sphere_points.proofs.SphereLaws.{K-near, G-least, G-most}
use Rattle.azimuthal_inverse.specs.declared.Reduced.{Reduced}
use Rattle.azimuthal_inverse.specs.Answer.{GeodeticAnswer}
use Rattle.azimuthal_inverse.specs.InnerStages.{PlanePoint}
use Rattle.azimuthal_inverse.specs.Steps.{at_origin, on_map, K, found}
use Rattle.azimuthal_inverse.specs.Answer.{answer_from, inverse_of}
use Rattle.azimuthal_inverse.specs.InnerStages.{answered_early, answered_by_steps, reduced_of, plane_point_of, SmallReduced, sphere_point_of, answer_of}
use Rattle.azimuthal_inverse.proofs.InverseLaws.{K-natural, map_sizes}
use Rattle.azimuthal_inverse.proofs.AnswerLaws.{from_origin, from_off_map, from_too_far, from_position, inverse_off_plane, inverse_on_plane}

-- ---- the ways out of the tests

-- a point of the plane with the tests that lead to it
pub data Outcome (k : Constants) (dE dN : ℤ) : PlanePoint → Type 0 where
  origin : at_origin dE dN ≡ true → Outcome k dE dN (answered_early 0 true)
  off_map : at_origin dE dN ≡ false → on_map k dE dN ≡ false → Outcome k dE dN (answered_early 4 false)
  too_far : at_origin dE dN ≡ false → on_map k dE dN ≡ true → near_enough (G (K k dE dN)) ≡ false → Outcome k dE dN (answered_early 4 false)
  stepped : at_origin dE dN ≡ false → on_map k dE dN ≡ true → near_enough (G (K k dE dN)) ≡ true → Outcome k dE dN (answered_by_steps k dE dN)

module _ (k : Constants) (dE dN : ℤ) where
  pub outcome_is : {q : PlanePoint} → Outcome k dE dN q → q ≡ reduced_of k dE dN
  unfolding reduced_of
  outcome_is (origin e) = rw e
  outcome_is (off_map e f) = rw (e, f)
  outcome_is (too_far e f g) = rw (e, f, g)
  outcome_is (stepped e f g) = rw (e, f, g)

  outcome : Outcome k dE dN (reduced_of k dE dN)
  outcome = at (at_origin dE dN) refl (on_map k dE dN) refl (near_enough (G (K k dE dN))) refl
    where
      reached : {q : PlanePoint} → Outcome k dE dN q → Outcome k dE dN (reduced_of k dE dN)
      reached o = subst (Outcome k dE dN) (outcome_is o) o

      at :
          (o : Bool) → at_origin dE dN ≡ o →
          (m : Bool) → on_map k dE dN ≡ m →
          (n : Bool) → near_enough (G (K k dE dN)) ≡ n →
          Outcome k dE dN (reduced_of k dE dN)
      at true e m f n g = reached (origin e)
      at false e false f n g = reached (off_map e f)
      at false e true f false g = reached (too_far e f g)
      at false e true f true g = reached (stepped e f g)

-- ---- sizes

early_small : (number : ℕ) (here : Bool) → SmallReduced (answered_early number here).reduced
early_small number here = record { x_size = zero-le; y_size = zero-le; versed_least = pos-≤ℤ zero-le; versed_most = zero-le }

enough : (g : ℤ) → near_enough g ≡ true → pos 20_000_000 ≤ℤ g
unfolding near_enough
enough g e = le_z_true (pos 20_000_000) g e

outcome_small : (k : Constants) → Sound k → (dE dN : ℤ) {q : PlanePoint} → Outcome k dE dN q → SmallReduced q.reduced
outcome_small k sound dE dN (origin e) = early_small 0 true
outcome_small k sound dE dN (off_map e f) = early_small 4 false
outcome_small k sound dE dN (too_far e f g) = early_small 4 false
outcome_small k sound dE dN (stepped e f g) =
    let sizes = map_sizes k sound dE dN f in
    let versed = K-near (K k dE dN) (K-natural k dE dN) (enough (G (K k dE dN)) g) in
    record { x_size = sizes.X-size; y_size = sizes.Y-size; versed_least = versed.0; versed_most = versed.1 }

-- ---- the answer of a point counted from the false origin

outcome_answer : (p : Parameters) (k : Constants) (dE dN : ℤ) {q : PlanePoint} → Outcome k dE dN q →
    answer_of p k q (sphere_point_of k q.reduced) ≡ answer_from p k dE dN
unfolding answer_of found
outcome_answer p k dE dN (origin e) = sym (from_origin p k dE dN e)
outcome_answer p k dE dN (off_map e f) = sym (from_off_map p k dE dN e f)
outcome_answer p k dE dN (too_far e f g) = sym (from_too_far p k dE dN e f g)
outcome_answer p k dE dN (stepped e f g) = sym (from_position p k dE dN e f g)

-- ---- a point of the plane

module _ (p : Parameters) (k : Constants) (E N : ℤ) where
  pub point_off_plane : on_plane E N ≡ false → answered_early 3 false ≡ plane_point_of p k E N
  unfolding plane_point_of
  point_off_plane e = rw e

  pub point_on_plane : on_plane E N ≡ true → reduced_of k (E -ℤ p.false_easting) (N -ℤ p.false_northing) ≡ plane_point_of p k E N
  unfolding plane_point_of
  point_on_plane e = rw e

module _ (p : Parameters) (ok : set_refusal p ≡ 0) (E N : ℤ) where
  abbrev k : Constants
  k = constants_of p

  abbrev dE : ℤ
  dE = E -ℤ p.false_easting

  abbrev dN : ℤ
  dN = N -ℤ p.false_northing

  every_small : (b : Bool) → on_plane E N ≡ b → SmallReduced (plane_point_of p k E N).reduced
  every_small true e = rw (← point_on_plane p k E N e) (outcome_small k (sound p ok) dE dN (outcome k dE dN))
  every_small false e = rw (← point_off_plane p k E N e) (early_small 3 false)

  every_answer : (b : Bool) → on_plane E N ≡ b → answer_of p k (plane_point_of p k E N) (sphere_point_of k (plane_point_of p k E N).reduced) ≡ inverse_of p E N
  unfolding answer_of
  every_answer true e = rw (← point_on_plane p k E N e) (outcome_answer p k dE dN (outcome k dE dN) ∙ sym (inverse_on_plane p E N ok e))
  every_answer false e = rw (← point_off_plane p k E N e) (sym (inverse_off_plane p E N ok e))

-- ---- what a caller of the stages knows

module _ (p : Parameters) {k : Constants} (ok : set_refusal p ≡ 0) (own : k ≡ constants_of p) where
  pub centre_bounded : BoundedCentre k
  centre_bounded = (sound_as p k ok own).centre

  pub reduced_small : (E N : ℤ) {q : PlanePoint} {r : Reduced} → q ≡ plane_point_of p k E N → r ≡ q.reduced → SmallReduced r
  reduced_small E N at is = rw (is, at, own) (every_small p ok E N (on_plane E N) refl)

  -- the answer a, of the point of the plane q for E and N and of its point of the sphere s
  pub stages_are :
      (E N : ℤ) {q : PlanePoint} {r : Reduced} {s : Point} {a : GeodeticAnswer} →
      q ≡ plane_point_of p k E N →
      r ≡ q.reduced →
      s ≡ sphere_point_of k r →
      a ≡ answer_of p k q s →
      a ≡ inverse_of p E N
  stages_are E N at is at-s given = given ∙ rw (at-s, is, at, own) (every_answer p ok E N (on_plane E N) refl)

-- small X, Y and K
module _ {r : Reduced} (small : SmallReduced r) where
  -- the nearness is as a scale requires it
  pub nearness_given : {g : ℤ} → g ≡ G r.versed → (pos 0 ≤ℤ g) × (nat_abs g ≤ 4_000_000_000)
  nearness_given e =
      let least = small.versed_least in
      let most = small.versed_most in
      rw e (≤ℤ-trans (pos-≤ℤ zero-le) (G-least r.versed least most), le_trans (G-most r.versed least most) (lit≤ tt))
