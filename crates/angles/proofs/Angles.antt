-- Laws of angle(p, q): the sizes of its products, its exception and its rule. Assumes nothing.
use mathlib.Core.Path.{◌≡◌, refl, ap, ◌∙◌}
use mathlib.Core.Bool.{Bool, true, false, ◌&&◌}
use Prim.Native.Nat.{ℕ, zero, suc, ◌+◌, ◌*◌, ◌<◌, ◌≤◌}
use native.Mathlib.Nat.{mul-le-mul}
use native.Mathlib.Omega.{arith}
use lib.Dec.{eqb}
use borrow.Author.Tests.{eq-eqb, ne_eqb}
use Rattle.integers.specs.Greatest.{greatest}
use Rattle.integers.proofs.Greatest.{greatest_edge}
use Rattle.units.specs.Units.{unit, right_angle}
use Rattle.sine_table.specs.Table.{entry}
use Rattle.sine_table.proofs.Laws.{entry_at_most}
use Rattle.trig.specs.Sine.{quarter_minutes, first_quarter}
use Rattle.angles.specs.Angle.{under, angle}
use Rattle.angles.specs.InnerSearch.{angle_limit}
use Rattle.angles.specs.InnerThreshold.{under_falls}
use Rattle.trig.proofs.Quarter.{quarter_at_most}

-- a sine is at most U, so its product with p or q is within 64 bits
pub product_small : (s θ p : ℕ) → s ≡ first_quarter θ → θ ≤ right_angle → p ≤ angle_limit → s * p ≤ unit * angle_limit
product_small s θ p e h l =
    let small : s ≤ unit = omega (arith, quarter_at_most h) in
    mul-le-mul small l

-- nor with the sine of a whole minute
pub minute_product : (s k p : ℕ) → s ≡ entry k → k ≤ quarter_minutes → p ≤ angle_limit → s * p ≤ unit * angle_limit
minute_product s k p e h l =
    let small : s ≤ unit = omega (arith, entry_at_most k h) in
    mul-le-mul small l

-- ---- the angle

both_zero : (p q : ℕ) → p + q ≡ 0 → (eqb p 0 && eqb q 0) ≡ true
both_zero p q e =
    let f : p ≡ 0 = omega arith in
    let g : q ≡ 0 = omega arith in
    rw (eq-eqb p 0 f, eq-eqb q 0 g)

not_both_zero : (p q : ℕ) → (p + q ≡ 0 → ⊥) → (eqb p 0 && eqb q 0) ≡ false
not_both_zero zero zero e = absurd (e refl)
not_both_zero zero (suc q) e = ne_eqb (suc q) 0 (λ f. let z : ⊥ = omega arith in z)
not_both_zero (suc p) q e = ap (λ (b : Bool). b && eqb q 0) (ne_eqb (suc p) 0 (λ f. let z : ⊥ = omega arith in z))

-- the exception, and the rule
pub angle_none : (p q : ℕ) → p + q ≡ 0 → angle p q ≡ 0
unfolding angle
angle_none p q e = rw (both_zero p q e)

pub angle_some : (p q : ℕ) → (p + q ≡ 0 → ⊥) → angle p q ≡ greatest (under p q) right_angle
unfolding angle
angle_some p q e = rw (not_both_zero p q e)

-- θ is under and θ + 1 is not
pub angle_edge : (p q θ : ℕ) → (p + q ≡ 0 → ⊥) → θ < right_angle → under p q θ ≡ true → under p q (suc θ) ≡ false → angle p q ≡ θ
angle_edge p q θ e h pass fail = angle_some p q e ∙ greatest_edge (under p q) right_angle (under_falls p q) θ h pass fail
