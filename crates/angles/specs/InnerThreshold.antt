-- Inner: what the search for an angle stands on. Its test is passed by 0, whose sine is 0, and stays false once it is false, because from 0 to
-- 90° the sine never falls and the cosine never rises.
use mathlib.Core.Path.{◌≡◌, sym, ap₂, ◌∙◌}
use mathlib.Core.Bool.{true}
use Prim.Native.Nat.{ℕ, ◌-◌, ◌*◌, ◌≤◌, zero-le}
use native.Mathlib.Nat.{le_trans, mul-le-mul_right}
use native.Mathlib.Omega.{arith}
use lib.Dec.{leb}
use lib.IntN.{ℤ, pos, ◌*ℤ◌}
use lib.Signed.{le_z}
use borrow.Author.Tests.{le-leb, leb-true}
use Rattle.integers.specs.InnerSearch.{Falls, Threshold}
use Rattle.units.specs.Units.{right_angle}
use Rattle.trig.specs.Sine.{first_quarter}
use Rattle.trig.proofs.Quarter.{quarter_mono, quarter_zero}
use Rattle.trig.proofs.Symmetry.{sine_first, cosine_first}
use Rattle.angles.specs.Angle.{under}

pub under_is : (p q θ : ℕ) → θ ≤ right_angle → under p q θ ≡ leb (first_quarter θ * p) (first_quarter (right_angle - θ) * q)
unfolding under
under_is p q θ h = ap₂ (λ (s c : ℤ). le_z (s *ℤ pos p) (c *ℤ pos q)) (sine_first θ h) (cosine_first θ h)

pub under_zero : (p q : ℕ) → under p q 0 ≡ true
under_zero p q =
    let e : 0 * p ≡ 0 = omega arith in
    under_is p q 0 (omega arith) ∙ le-leb (first_quarter 0 * p) (first_quarter right_angle * q) (rw (quarter_zero, e) zero-le)

pub under_falls : (p q : ℕ) → Falls (under p q) right_angle
under_falls p q a b h l t =
    let under-b : s b ≤ c b = leb-true (s b) (c b) (sym (under_is p q b l) ∙ t) in
    let sine_rises : s a ≤ s b = mul-le-mul_right p (quarter_mono h l) in
    let cosine-falls : c b ≤ c a =
    mul-le-mul_right q (quarter_mono {a = right_angle - b} {b = right_angle - a} (omega arith) (omega arith)) in
    under_is p q a (le_trans h l) ∙ le-leb (s a) (c a) (le_trans sine_rises (le_trans under-b cosine-falls))
  where
    s : ℕ → ℕ
    s θ = first_quarter θ * p

    c : ℕ → ℕ
    c θ = first_quarter (right_angle - θ) * q

pub under_threshold : (p q : ℕ) → Threshold (under p q) right_angle
under_threshold p q = record { zero_passes = under_zero p q; falls = under_falls p q }
