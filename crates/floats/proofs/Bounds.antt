-- The tests of a coordinate as bounds: a double passes the test of a limit exactly if it is finite and its size is at most the limit. A
-- comparison of two finite doubles compares their values as fractions, and a NaN fails every comparison. Assumes nothing.
use Rattle.std.proofs.Common.{◌≡◌, ℕ, ◌*◌, ◌^◌, ◌<◌, ◌≤◌, Bool, true, false, not, T, ltb, ℤ, pos, sym, refl, ap, ◌∙◌, le_trans, mul-le-mul_right, le_of_mul-le-mul_right, arith, ltb-false, le-ltb}
use mathlib.Core.Bool.{or-false, false≢true}
use lib.Ieee.{Float, nan, inf, fin, up, down, lt, neg, is_nan}
use lib.Ieee.Exact.{HasValue}
use lib.Ieee.Fits.{down_pos}
use borrow.Author.Tests.{not-true}
use Rattle.std.specs.Float.{float_is_finite}
use Rattle.floats.specs.Limits.{is_finite, beyond, within_limit}

-- x is finite, and at most `most` in size
abbrev pub AtMost : ℕ → Float → Type 0
AtMost most nan = ⊥
AtMost most (inf s) = ⊥
AtMost most (fin s m e) = m * up e ≤ most * down e

pub at_most_finite : (most : ℕ) (x : Float) → AtMost most x → is_finite x ≡ true
unfolding is_finite
at_most_finite most nan h = absurd h
at_most_finite most (inf s) h = absurd h
at_most_finite most (fin s m e) h = refl

pub finite_number : (x : Float) → is_finite x ≡ true → T (not (is_nan x))
unfolding is_finite is_nan
finite_number nan h = absurd (false≢true h)
finite_number (inf s) h = tt
finite_number (fin s m e) h = tt

at_most_more : (less more : ℕ) (x : Float) → less ≤ more → AtMost less x → AtMost more x
at_most_more less more nan l h = h
at_most_more less more (inf s) l h = h
at_most_more less more (fin s m e) l h = le_trans h (mul-le-mul_right (down e) l)

-- x = ±a/c, and c counts the steps in one
pub value_at_most : (most : ℕ) (x : Float) (s : Bool) (a c : ℕ) → HasValue x s a c → AtMost most x → a ≤ most * c
value_at_most most nan s a c v h = absurd h
value_at_most most (inf t) s a c v h = absurd h
value_at_most most (fin t m e) s a c v h =
    let both : a * down e ≤ most * c * down e = omega (arith, v.1, mul-le-mul_right c h) in
    le_of_mul-le-mul_right both (down_pos e)

pub at_most_value : (most : ℕ) (x : Float) (s : Bool) (a c : ℕ) → 0 < c → HasValue x s a c → a ≤ most * c → AtMost most x
at_most_value most nan s a c C v h = v
at_most_value most (inf t) s a c C v h = v
at_most_value most (fin t m e) s a c C v h =
    let both : m * up e * c ≤ most * down e * c = omega (arith, v.1, mul-le-mul_right (down e) h) in
    le_of_mul-le-mul_right both C

-- ---- the limit l · 2^p

beyond_is : (l p : ℕ) (s : Bool) (m : ℕ) (e : ℤ) → beyond (fin false l (pos p)) (fin s m e) ≡ ltb (l * 2 ^ p * down e) (m * up e * 1)
unfolding beyond lt neg
beyond_is l p false m e = refl
beyond_is l p true m e = or-false (ltb (l * 2 ^ p * down e) (m * up e * 1))

pub within_at_most : (l p : ℕ) (x : Float) → within_limit (fin false l (pos p)) x ≡ true → AtMost (l * 2 ^ p) x
unfolding within_limit is_finite
within_at_most l p nan h = absurd (false≢true h)
within_at_most l p (inf s) h = absurd (false≢true h)
within_at_most l p (fin s m e) h =
    let test : ltb (l * 2 ^ p * down e) (m * up e * 1) ≡ false = sym (beyond_is l p s m e) ∙ not-true (beyond (fin false l (pos p)) (fin s m e)) h in
    omega (arith, ltb-false (l * 2 ^ p * down e) (m * up e * 1) test)

pub at_most_within : (l p : ℕ) (x : Float) → AtMost (l * 2 ^ p) x → within_limit (fin false l (pos p)) x ≡ true
unfolding within_limit is_finite
at_most_within l p nan h = absurd h
at_most_within l p (inf s) h = absurd h
at_most_within l p (fin s m e) h =
    let size : m * up e * 1 ≤ l * 2 ^ p * down e = omega arith in
    ap not (beyond_is l p s m e ∙ le-ltb (l * 2 ^ p * down e) (m * up e * 1) size)

-- a test with a higher limit passes too
pub within_more : (l p m q : ℕ) (x : Float) → l * 2 ^ p ≤ m * 2 ^ q → within_limit (fin false l (pos p)) x ≡ true → within_limit (fin false m (pos q)) x ≡ true
within_more l p m q x more h = at_most_within m q x (at_most_more (l * 2 ^ p) (m * 2 ^ q) x more (within_at_most l p x h))

-- std's word for the same test
pub finite_by_std : (x : Float) → float_is_finite x ≡ is_finite x
unfolding is_finite float_is_finite
finite_by_std nan = refl
finite_by_std (inf s) = refl
finite_by_std (fin s m e) = refl
