-- The steps of `whole_units`: the product of a double's digits with the unit, cut by 24 bits, has the nearest whole number of the exact
-- product, since half the divisor is a multiple of 2^24, so that the bits cut off do not decide.
-- `field` and t are the exponent's field and the fraction of the bit pattern. Assumes nothing.
use Rattle.std.proofs.Common.{◌≡◌, ℕ, zero, suc, ◌+◌, ◌-◌, ◌*◌, ◌/◌, ◌%◌, ◌^◌, ◌<◌, ◌≤◌, sym, ap, ◌∙◌, ap₂, zero-le, le_trans, lt_of_lt_of_le, le-add_right, mul-le-mul_right, mul-le-mul, mul-le-mul_left, mul-pos, one-mul, not-le_of_lt, arith, lit<, lit≤, pow_pos, pow_mono, pow-add, shl_lt, shl_exact}
use native.Mathlib.Decide.{dec_le}
use native.Mathlib.Nat.{pow-succ'}
use Rattle.integers.specs.Near.{nearest}
use Rattle.units.specs.Units.{degree}
use Rattle.floats.proofs.Fractions.{nearest_same, nearest_none, nearest_cut, product_parts}
use Rattle.floats.proofs.Pattern.{size_of}

-- ---- the range of the exponent's field

-- up to 50,000,000
pub field_high : (field t : ℕ) → size_of field t ≤ 50_000_000 * 2 ^ 1074 → field ≤ 1050
field_high zero t h = zero-le
field_high (suc f) t h = go (dec_le (suc f) 1050)
  where
    go : Dec (suc f ≤ 1050) → suc f ≤ 1050
    go (yes k) = k
    go (no k) =
        let large : 2 ^ 52 * 2 ^ 1050 ≤ size_of (suc f) t = mul-le-mul (le-add_right (2 ^ 52) t) (pow_mono {i = 1050} {j = f} (omega arith)) in
        absurd (not-le_of_lt (lit< tt) (le_trans large h))

-- below 2^−23
field_low : (field t : ℕ) → t < 2 ^ 52 → field < 1000 → size_of field t < 2 ^ 1051
field_low zero t d h = lt_of_lt_of_le (small t d) (lit≤ tt)
  where
    small : (t : ℕ) → t < 2 ^ 52 → t * 1 < 2 ^ 52
    small t d = omega arith
field_low (suc f) t d h = lt_of_lt_of_le (shl_lt 53 f (omega arith)) (pow_mono {i = 53 + f} {j = 1051} (omega arith))

pub nearest_low_field : (unit field t : ℕ) → unit ≤ degree → t < 2 ^ 52 → field < 1000 → nearest (size_of field t * unit) (2 ^ 1074) ≡ 0
nearest_low_field unit field t u d h =
    nearest_none (size_of field t * unit) (2 ^ 1074) (lt_of_lt_of_le (below (2 ^ 1051) (size_of field t) (field_low field t d h)) (lit≤ tt))
  where
    below : (most a : ℕ) → a < most → 2 * (a * unit) < 2 * (most * degree)
    below most a l = omega (arith, mul-le-mul_left a u, mul-le-mul_right degree l)

-- ---- the product

abbrev pub cut : ℕ → ℕ → ℕ
cut digits unit = digits / 2 ^ 24 * unit + digits % 2 ^ 24 * unit / 2 ^ 24

abbrev pub shift : ℕ → ℕ
shift field = (1 * 2 ^ (1051 - field)) % 2 ^ 64

shift_is : (field : ℕ) → 1000 ≤ field → field ≤ 1050 → shift field ≡ 2 * 2 ^ (1050 - field)
shift_is field low high =
    let next : 1051 - field ≡ suc (1050 - field) = omega arith in
    shl_exact {a = 1} 1 (1051 - field) 64 (lit< tt) (omega arith)
    ∙ one-mul (2 ^ (1051 - field))
    ∙ ap (λ (i : ℕ). 2 ^ i) next
    ∙ pow-succ' 2 (1050 - field)

-- the divisor is 2^24 · 2^(1051 − field), and the size is digits · 2^(field − 1)
pub nearest_product : (unit field t : ℕ) → 1000 ≤ field → field ≤ 1050
    → nearest (cut (t + 2 ^ 52) unit) (shift field) ≡ nearest (size_of field t * unit) (2 ^ 1074)
nearest_product unit zero t low high = absurd (none low)
  where
    none : 1000 ≤ 0 → ⊥
    none h = omega arith
nearest_product unit (suc f) t low high =
    let h : ℕ = 2 ^ (1050 - suc f) in
    let sum : f + (1050 - suc f) ≡ 1049 = omega arith in
    let powers : 2 ^ f * h ≡ 2 ^ 1049 = sym (pow-add 2 f (1050 - suc f)) ∙ ap (λ (i : ℕ). 2 ^ i) sum in
    let some : 0 < h = pow_pos (1050 - suc f) in
    let whole : ℕ = (t + 2 ^ 52) * unit in
    let exact : whole * 2 ^ 1074 ≡ size_of (suc f) t * unit * (2 ^ 24 * (2 * h)) =
    ap (λ (x : ℕ). whole * (2 ^ 25 * x)) (sym powers) ∙ regroup t unit (2 ^ f) h in
    ap₂ nearest (product_parts (t + 2 ^ 52) unit (2 ^ 24) (lit< tt)) (shift_is (suc f) low high)
    ∙ sym (nearest_cut whole (2 ^ 24) h (lit< tt) some)
    ∙ nearest_same whole (2 ^ 24 * (2 * h)) (size_of (suc f) t * unit) (2 ^ 1074) (positive h some) (pow_pos 1074) exact
  where
    regroup : (t unit p h : ℕ) → (t + 2 ^ 52) * unit * (2 ^ 25 * (p * h)) ≡ (2 ^ 52 + t) * p * unit * (2 ^ 24 * (2 * h))
    regroup t unit p h = omega arith

    positive : (h : ℕ) → 0 < h → 0 < 2 ^ 24 * (2 * h)
    positive h H = omega arith

-- ---- nothing passes 64 bits

pub high_part : (digits unit : ℕ) → digits < 2 ^ 53 → unit ≤ degree → digits / 2 ^ 24 * unit ≤ 2 ^ 29 * degree
high_part digits unit d u = let part : digits / 2 ^ 24 ≤ 2 ^ 29 = omega arith in mul-le-mul part u

pub low_part : (digits unit : ℕ) → unit ≤ degree → digits % 2 ^ 24 * unit ≤ 2 ^ 24 * degree
low_part digits unit u = let part : digits % 2 ^ 24 ≤ 2 ^ 24 = omega arith in mul-le-mul part u

pub shift_some : (field : ℕ) → 1000 ≤ field → field ≤ 1050 → 0 < shift field
shift_some field low high = rw (shift_is field low high) (mul-pos (lit< tt) (pow_pos (1050 - field)))

pub shift_le : (field : ℕ) → 1000 ≤ field → field ≤ 1050 → shift field ≤ 2 ^ 51
shift_le field low high = rw (shift_is field low high) (mul-le-mul_left 2 (pow_mono {i = 1050 - field} {j = 50} (omega arith)))
