-- The two stages of the forward steps together are the forward answer. Each law is by the refusal number: with 0 the direction is the position's
-- own, whose nearness is at least 20,000,000, and with any other number it is that of the centre. Assumes nothing.
use mathlib.Core.Path.{◌≡◌, refl, sym, ◌∙◌}
use native.Mathlib.Omega.{arith}
use mathlib.Core.Bool.{Bool, true, false}
use mathlib.Core.List.{List, [], ◌∷◌, map}
use Rattle.std.proofs.Common.{length, get_or}
use Prim.Native.Nat.{ℕ, zero, suc, ◌≤◌}
use native.Mathlib.Nat.{le_trans}
use lib.Dec.{lit≤}
use lib.IntN.{ℤ, pos, nat_abs, ◌-ℤ◌}
use lib.Signed.{◌≤ℤ◌}
use Rattle.proof_kit.proofs.Order.{≤ℤ-trans, pos-≤ℤ, le_z_true}
use Rattle.std.proofs.Common.{Err}
use Rattle.units.specs.declared.refusals.Refusal.{Refusal}
use Rattle.units.specs.Refusals.{number, out_of_limits, too_far, unless}
use Rattle.units.specs.Answers.{answered}
use Rattle.units.proofs.AnswerLaws.{is_refused_lem, number_some}
use Rattle.latitudes.specs.declared.Geodetic.{Geodetic}
use Rattle.parameters.specs.declared.Parameters.{Parameters}
use Rattle.parameters.specs.ParameterSet.{set_refusal}
use Rattle.constants.specs.declared.Constants.{Constants}
use Rattle.constants.specs.Derived.{constants_of}
use Rattle.constants.proofs.ConstantsLaws.{sound}
use Rattle.azimuthal_forward.specs.declared.Direction.{Direction}
use Rattle.azimuthal_forward.specs.Steps.{H, dE, dN, near_enough, direction_of}
use Rattle.azimuthal_forward.specs.Answer.{PlaneAnswer, Plane, Refused}
use Rattle.azimuthal_forward.specs.Answer.{on_globe, nearness, forward_far, forward_refusal, easting_of, northing_of, forward_of}
use Rattle.azimuthal_forward.specs.InnerStages.{BeforeRoot, before_answer, refused_before, before_root, AfterRoot, after_root}
use Rattle.azimuthal_forward.proofs.ForwardLaws.{u_size, w_size, G-size, H-least, H-most}

-- what the root and the steps after it ask of a direction
record Bounded (d : Direction) : Type 0 where
  pub u_size : nat_abs d.u ≤ 2_000_000_000
  pub w_size : nat_abs d.w ≤ 2_000_000_000
  pub g_least : pos 20_000_000 ≤ℤ d.g
  pub g_size : nat_abs d.g ≤ 3_000_000_000

centre_bounded : (n : ℕ) → Bounded (refused_before n).direction
centre_bounded n = record { u_size = lit≤ tt; w_size = lit≤ tt; g_least = pos-≤ℤ (lit≤ tt); g_size = lit≤ tt }

-- ---- the steps before the root by the tests that decide them

-- an accepted position
abbrev pub accepted_before : Parameters → Geodetic → ℤ → BeforeRoot
accepted_before p φ lon = record { refusal = 0; direction = direction_of (constants_of p) φ (lon -ℤ p.lon0) }

-- a test that is passed, and one that gives r is not
pub passed : (b : Bool) (n : ℕ) → 0 ≡ unless b (suc n) 0 → b ≡ true
passed true n e = refl
passed false n e = absurd (omega arith)

pub failed : (b : Bool) (n : ℕ) (r : Refusal) → number r ≡ unless b n 0 → (b ≡ false) × (number r ≡ n)
failed true n r e = absurd (number_some r e)
failed false n r e = (refl, e)

module _ (p : Parameters) (φ : Geodetic) (lon : ℤ) where
  pub before_off_globe : (r : Refusal) → number r ≡ unless (on_globe φ lon) out_of_limits 0 → refused_before (number r) ≡ before_root p φ lon
  unfolding before_root
  before_off_globe r e = let f = failed (on_globe φ lon) out_of_limits r e in rw (f.0, f.1)

  pub before_too_far : (r : Refusal) → on_globe φ lon ≡ true → number r ≡ unless (near_enough (nearness p φ lon)) too_far 0 →
      refused_before (number r) ≡ before_root p φ lon
  unfolding before_root forward_far
  before_too_far r on e = let f = failed (near_enough (nearness p φ lon)) too_far r e in rw (on, f.0, f.1)

  pub before_accepted : on_globe φ lon ≡ true → near_enough (nearness p φ lon) ≡ true → accepted_before p φ lon ≡ before_root p φ lon
  unfolding before_root forward_far
  before_accepted e f = rw (e, f)

-- ---- the two stages

module _ (p : Parameters) (φ : Geodetic) (lon : ℤ) (ok : set_refusal p ≡ 0) where
  accepted_bounded : near_enough (nearness p φ lon) ≡ true → Bounded (accepted_before p φ lon).direction
  unfolding near_enough nearness direction_of
  accepted_bounded e =
      let centre = (sound p ok).centre in
      record {
        u_size = le_trans (u_size _ _ _) (lit≤ tt);
        w_size = w_size _ centre _ _;
        g_least = le_z_true _ _ e;
        g_size = G-size _ centre _ _;
      }

  direction_bounded : Bounded (before_root p φ lon).direction
  unfolding before_root forward_far
  direction_bounded = at (on_globe φ lon) (near_enough (nearness p φ lon)) refl
    where
      at :
          (on enough : Bool) →
          near_enough (nearness p φ lon) ≡ enough →
          Bounded (answered refused_before (unless on out_of_limits (unless enough too_far 0)) (accepted_before p φ lon)).direction
      at false enough e = centre_bounded 3
      at true false e = centre_bounded 4
      at true true e = accepted_bounded e

  after_before : after_root p (constants_of p) (before_root p φ lon) (H (before_root p φ lon).direction.g) ≡ forward_of p φ lon
  unfolding before_root after_root forward_of forward_refusal easting_of northing_of dE dN direction_of
  after_before = rw ok (at (unless (on_globe φ lon) out_of_limits (forward_far p φ lon)))
    where
      at :
          (n : ℕ) →
          let before = answered refused_before n (accepted_before p φ lon) in
          after_root p (constants_of p) before (H before.direction.g) ≡ answered Refused n (Plane (easting_of p φ lon) (northing_of p φ lon))
      at zero = refl
      at (suc n) = refl

-- ---- in the code: what the steps before the root gave of a position, and the root h that was taken of it

module _ (p : Parameters) (φ : Geodetic) (lon : ℤ) {before : BeforeRoot} (ok : set_refusal p ≡ 0) (is : before ≡ before_root p φ lon) where
  bounded : Bounded before.direction
  bounded = rw is (direction_bounded p φ lon ok)

  pub root_asked : (pos 0 ≤ℤ before.direction.g) × (nat_abs before.direction.g ≤ 4_000_000_000)
  root_asked = (≤ℤ-trans (pos-≤ℤ (lit≤ tt)) bounded.g_least, le_trans bounded.g_size (lit≤ tt))

  module _ {h : ℕ} (h_is : h ≡ H before.direction.g) where
    pub after_asked : AfterRoot before.direction h
    after_asked =
        record {
          u_size = bounded.u_size;
          w_size = bounded.w_size;
          h_least = rw h_is (H-least _ bounded.g_least);
          h_most = rw h_is (H-most _ (le_trans bounded.g_size (lit≤ tt)));
        }

    pub after_is : {k : Constants} {r : PlaneAnswer} → k ≡ constants_of p → r ≡ after_root p k before h → r ≡ forward_of p φ lon
    after_is own e = e ∙ rw (h_is, own, is) (after_before p φ lon ok)

-- a refused position
pub after_refused : (p : Parameters) (k : Constants) (r : Refusal) (h : ℕ) → Refused (number r) ≡ after_root p k (before_answer (Err r)) h
unfolding after_root
after_refused p k r h = sym (is_refused_lem Refused _ (number r) (number_some r))

-- a list of two
pub both : {A B : Type 0} (f : A → B) (d : A) (xs : List A) → length xs ≡ 2 → map f xs ≡ f (get_or xs 0 d) ∷ f (get_or xs 1 d) ∷ []
both f d (x ∷ y ∷ []) e = refl
both f d [] e = absurd (omega arith)
both f d (x ∷ []) e = absurd (omega arith)
both f d (x ∷ y ∷ z ∷ xs) e = absurd (omega arith)
