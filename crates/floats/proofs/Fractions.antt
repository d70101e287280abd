-- Laws of `nearest` on fractions, from its two bounds, which leave one number. Equal fractions have the same bounds, multiplied through. Where
-- half the divisor is a multiple of p, so is what the numerator is compared with, and the numerator may be cut to one. Assumes nothing.
use Rattle.std.proofs.Common.{◌≡◌, ℕ, ◌+◌, ◌*◌, ◌/◌, ◌%◌, ◌<◌, ◌≤◌, sym, ap, ◌∙◌, mul-le-mul_right, lt_of_mul-lt-mul_right, mul-lt-mul_of_pos_right, div-add-mod', div-mul-le_self, le_of_mul-le-mul_right, arith}
use native.Mathlib.Nat.{mul-add-div_right, lt-div-mul-add}
use Rattle.integers.specs.Near.{nearest}
use Rattle.integers.proofs.Rounding.{nearest_low, nearest_high, nearest_only}

pub nearest_same : (a b c d : ℕ) → 0 < b → 0 < d → a * d ≡ c * b → nearest a b ≡ nearest c d
nearest_same a b c d B D e =
    let q : ℕ = nearest c d in
    let low : 2 * (q * b) * d ≤ (2 * a + b) * d = omega (arith, mul-le-mul_right b (nearest_low c D)) in
    let high : 2 * a * d < (2 * (q * b) + b) * d = omega (arith, mul-lt-mul_of_pos_right (nearest_high c D) B) in
    nearest_only a b q (le_of_mul-le-mul_right low D) (lt_of_mul-lt-mul_right d high)

-- less than a half
pub nearest_none : (a b : ℕ) → 2 * a < b → nearest a b ≡ 0
nearest_none a b h = nearest_only a b 0 (omega arith) (omega arith)

-- a is cut to a multiple of p, and half the divisor is one
pub nearest_cut : (a p h : ℕ) → 0 < p → 0 < h → nearest a (p * (2 * h)) ≡ nearest (a / p) (2 * h)
nearest_cut a p h A H =
    let q : ℕ = nearest (a / p) (2 * h) in
    let D : 0 < 2 * h = omega arith in
    let low : 2 * (q * h) ≤ a / p + h = omega (arith, nearest_low (a / p) D) in
    let high : a / p + 1 ≤ 2 * (q * h) + h = omega (arith, nearest_high (a / p) D) in
    nearest_only a (p * (2 * h)) q
    (omega (arith, mul-le-mul_right p low, div-mul-le_self a p))
    (omega (arith, mul-le-mul_right p high, lt-div-mul-add {a = a} A))

-- the product with k, cut, from the two parts of a
pub product_parts : (a k p : ℕ) → 0 < p → a / p * k + a % p * k / p ≡ a * k / p
product_parts a k p A =
    let split : a / p * k * p + a % p * k ≡ a * k = omega (arith, ap (λ (x : ℕ). x * k) (div-add-mod' a p)) in
    sym (mul-add-div_right A (a / p * k) (a % p * k)) ∙ ap (λ (x : ℕ). x / p) split
