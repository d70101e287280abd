-- Nonlinear inequalities of ℤ, by a certificate: some multiple of y − x is a sum of products of numbers that are known not to be negative.
-- You write that sum; `search nonneg` shows that it is not negative, from the hypotheses, and the ring normaliser that it is the multiple.
-- Use: `certify r k sum (search nonneg depth 40 fits 20000) (search quote depth 40 fits 20000) tt : x ≤ℤ y`, where k · (y − x) is the sum.
-- Assumes nothing.
use mathlib.Core.Path.{◌≡◌, sym, ap, ◌∙◌, subst}
use mathlib.Core.Bool.{◌&&◌}
use mathlib.Core.List.{List}
use Prim.Native.Nat.{ℕ, ◌*◌, ◌≤◌, ◌<◌}
use native.Mathlib.Nat.{le_of_mul-le-mul_left}
use lib.Dec.{T, ltb, ltb→lt}
use lib.IntN.{ℤ, pos, ◌+ℤ◌, ◌-ℤ◌, ◌*ℤ◌, +ℤ_invr, *ℤ-zero, zero-*ℤ}
use lib.Signed.{◌≤ℤ◌, ◌<ℤ◌, ≤ℤ_refl}
use mir.Facts.{and_yes}
use Rattle.proof_kit.proofs.Laws.{P, N, parts-+, parts--, P-*, N-*}
use Rattle.proof_kit.proofs.Order.{order, *ℤ-mono, square_nonneg}
use Rattle.proof_kit.proofs.Ring.{Term, poly, all_zero, ring}

-- ---- what is not negative

pub nonneg_gap : {x y : ℤ} → x ≤ℤ y → pos 0 ≤ℤ (y -ℤ x)
nonneg_gap {x} {y} h = omega (order, parts-- y x)

pub nonneg_gap< : {x y : ℤ} → x <ℤ y → pos 0 ≤ℤ (y -ℤ x -ℤ pos 1)
nonneg_gap< {x} {y} h = omega (order, parts-- y x, parts-- (y -ℤ x) (pos 1))

-- the two sides of an equation, times anything
pub nonneg_equal : (k : ℤ) {x y : ℤ} → x ≡ y → pos 0 ≤ℤ (k *ℤ (y -ℤ x))
nonneg_equal k {x} {y} e =
    subst (λ (z : ℤ). pos 0 ≤ℤ z) (sym (ap (λ (z : ℤ). k *ℤ (y -ℤ z)) e ∙ ap (λ (z : ℤ). k *ℤ z) (+ℤ_invr y) ∙ *ℤ-zero k)) (≤ℤ_refl (pos 0))

pub nonneg-+ : {x y : ℤ} → pos 0 ≤ℤ x → pos 0 ≤ℤ y → pos 0 ≤ℤ (x +ℤ y)
nonneg-+ {x} {y} h k = omega (order, parts-+ x y)

pub nonneg-* : {x y : ℤ} → pos 0 ≤ℤ x → pos 0 ≤ℤ y → pos 0 ≤ℤ (x *ℤ y)
nonneg-* {x} {y} h k = subst (λ (z : ℤ). z ≤ℤ (x *ℤ y)) (zero-*ℤ y) (*ℤ-mono k h)

pub nonneg_num : (n : ℕ) → pos 0 ≤ℤ pos n
nonneg_num n = omega order

pub ruleset nonneg = (nonneg_gap, nonneg_gap<, nonneg_equal, nonneg-+, nonneg-*, nonneg_num, square_nonneg)

-- ---- the tool

-- a factor that is not 0 goes away
cancel : (k : ℕ) → 0 < k → (x y : ℤ) → pos 0 ≤ℤ (pos k *ℤ (y -ℤ x)) → x ≤ℤ y
cancel k p x y h =
    let l : k * N (y -ℤ x) ≤ k * P (y -ℤ x) = omega (order, P-* (pos k) (y -ℤ x), N-* (pos k) (y -ℤ x)) in
    let m : N (y -ℤ x) ≤ P (y -ℤ x) = le_of_mul-le-mul_left l p in
    omega (order, parts-- y x)

-- x ≤ y, where k · (y − x) is w, which is not negative
pub certify : (r : List ℤ) (k : ℕ) (w : ℤ) {x y : ℤ} → pos 0 ≤ℤ w → (t : Term r (pos k *ℤ (y -ℤ x) -ℤ w)) → T (ltb 0 k && all_zero (poly t)) → x ≤ℤ y
certify r k w {x} {y} h t z =
    let b = and_yes (ltb 0 k) (all_zero (poly t)) z in
    cancel k (ltb→lt 0 k b.0) x y (subst (λ (v : ℤ). pos 0 ≤ℤ v) (sym (ring r t b.1)) h)
