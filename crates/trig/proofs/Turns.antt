-- What holds from 0 to 90° and is kept by a quarter turn, either way, holds at every angle: every angle is a number of quarter turns away
-- from one of these, up or down. Assumes nothing.
use mathlib.Core.Path.{◌≡◌, sym, ap, ◌∙◌, subst}
use Prim.Native.Nat.{ℕ, zero, suc, ◌+◌, ◌-◌, ◌*◌, ◌/◌, ◌%◌, ◌<◌, ◌≤◌}
use native.Mathlib.Nat.{div-add-mod', mod-lt}
use native.Mathlib.Omega.{arith}
use lib.Dec.{lit<}
use lib.IntN.{ℤ, pos, negsuc, ◌+ℤ◌, +ℤ_idr, +ℤ_assoc}
use Rattle.proof_kit.proofs.Laws.{by_parts, parts-+}
use Rattle.units.specs.Units.{right_angle}

module _
    (Holds : ℤ → Type 0)
    (base : (θ : ℕ) → θ < right_angle → Holds (pos θ))
    (up : (t : ℤ) → Holds t → Holds (t +ℤ pos right_angle))
    (down : (t : ℤ) → Holds (t +ℤ pos right_angle) → Holds t) where
  ups : (j θ : ℕ) → θ < right_angle → Holds (pos (j * right_angle + θ))
  ups zero θ h = let e : 0 * right_angle + θ ≡ θ = omega arith in rw e (base θ h)
  ups (suc j) θ h =
      let e : suc j * right_angle + θ ≡ j * right_angle + θ + right_angle = omega arith in
      rw e (up (pos (j * right_angle + θ)) (ups j θ h))

  downs : (j : ℕ) (t : ℤ) → Holds (t +ℤ pos (j * right_angle)) → Holds t
  downs zero t h = subst Holds (+ℤ_idr t) h
  downs (suc j) t h =
      let e : suc j * right_angle ≡ j * right_angle + right_angle = omega arith in
      let more : t +ℤ pos (suc j * right_angle) ≡ t +ℤ pos (j * right_angle) +ℤ pos right_angle =
      ap (λ (n : ℕ). t +ℤ pos n) e ∙ sym (+ℤ_assoc t (pos (j * right_angle)) (pos right_angle)) in
      downs j t (down (t +ℤ pos (j * right_angle)) (subst Holds more h))

  not_negative : (n : ℕ) → Holds (pos n)
  not_negative n =
      subst (λ (m : ℕ). Holds (pos m)) (div-add-mod' n right_angle)
      (ups (n / right_angle) (n % right_angle) (mod-lt n (lit< tt)))

  pub every_angle : (t : ℤ) → Holds t
  every_angle (pos n) = not_negative n
  every_angle (negsuc n) =
      let e : negsuc n +ℤ pos (suc n * right_angle) ≡ pos (suc n * right_angle - suc n) =
      by_parts _ _ (omega (arith, parts-+ (negsuc n) (pos (suc n * right_angle)))) in
      downs (suc n) (negsuc n) (rw e (not_negative (suc n * right_angle - suc n)))

-- two sizes that a quarter turn exchanges, bounded from 0 to 90°, are bounded at every angle
pub bounded :
    (f g : ℤ → ℕ) (n : ℕ) →
    ((θ : ℕ) → θ < right_angle → (f (pos θ) ≤ n) × (g (pos θ) ≤ n)) →
    ((t : ℤ) → f (t +ℤ pos right_angle) ≡ g t) →
    ((t : ℤ) → g (t +ℤ pos right_angle) ≡ f t) →
    (t : ℤ) →
    (f t ≤ n) × (g t ≤ n)
bounded f g n base turn-f turn-g =
    every_angle (λ t. (f t ≤ n) × (g t ≤ n)) base
    (λ t h. (rw (turn-f t) h.1, rw (turn-g t) h.0))
    (λ t h. (rw (turn-g t) at h.1, rw (turn-f t) at h.0))
