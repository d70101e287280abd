-- The value of a double from its bit pattern, and the whole number of units that the value is nearest to. A double that fits its format is
-- read from the sign, the exponent's field and the fraction of its pattern, and equal values have one nearest whole number.
-- All sizes are counted in 2^−1074, the smallest positive double. Assumes nothing.
use Rattle.std.proofs.Common.{◌≡◌, ℕ, zero, suc, ◌+◌, ◌*◌, ◌/◌, ◌%◌, ◌^◌, ◌<◌, Bool, true, false, cond, T, eqb, leb, ap, ◌∙◌, subst, ap₂, arith}
use mathlib.Core.Bool.{false≢true}
use lib.Ieee.{Float, nan, inf, fin, binary64, up, down, odd, fits, of_fields, of_bits, to_bits}
use lib.Ieee.Bits.{of_bits-to_bits}
use lib.Ieee.Exact.{HasValue, odd_sign}
use lib.Ieee.Fits.{down_pos}
use Rattle.integers.specs.Near.{nearest, signed}
use Rattle.floats.specs.Conversion.{whole_of}
use Rattle.floats.specs.Limits.{is_finite}
use Rattle.floats.proofs.Fractions.{nearest_same}

-- the parts of a bit pattern: the sign, the exponent's field, and the digits below the leading one
abbrev pub sign_of : ℕ → Bool
sign_of bits = leb (2 ^ 63) bits

abbrev pub field_of : ℕ → ℕ
field_of bits = bits % 2 ^ 63 / 2 ^ 52

abbrev pub fraction_of : ℕ → ℕ
fraction_of bits = bits % 2 ^ 52

-- the size of the double; a field of 0 has no leading digit
abbrev pub size_of : ℕ → ℕ → ℕ
size_of zero t = t * 1
size_of (suc f) t = (2 ^ 52 + t) * 2 ^ f

-- what `of_fields` reads where the field is not 0; `top` and `clear` say that the field is the largest and that the fraction is 0
abbrev read : Bool → ℕ → ℕ → Bool → Bool → Float
read s f t top clear = cond top (cond clear (inf s) nan) (odd 53 s (2 ^ 52 + t) f 1074)

fields_value : (s : Bool) (field t : ℕ) → is_finite (of_fields binary64 s field t) ≡ true → HasValue (of_fields binary64 s field t) s (size_of field t) (2 ^ 1074)
unfolding of_fields
fields_value s zero t h = odd_sign 53 s t 0 1074
fields_value s (suc f) t h = go (eqb (suc f) 2047) (eqb t 0) h
  where
    go : (a b : Bool) → is_finite (read s f t a b) ≡ true → HasValue (read s f t a b) s (size_of (suc f) t) (2 ^ 1074)
    go true true h = absurd (false≢true (unfold is_finite in h))
    go true false h = absurd (false≢true (unfold is_finite in h))
    go false b h = odd_sign 53 s (2 ^ 52 + t) f 1074

pub pattern_value : (x : Float) → T (fits binary64 x) → is_finite x ≡ true →
    let b = to_bits binary64 x in
    HasValue x (sign_of b) (size_of (field_of b) (fraction_of b)) (2 ^ 1074)
unfolding of_bits
pattern_value x f h =
    let b = to_bits binary64 x in
    let same : of_bits binary64 b ≡ x = of_bits-to_bits binary64 x f in
    subst (λ (y : Float). HasValue y (sign_of b) (size_of (field_of b) (fraction_of b)) (2 ^ 1074)) same
    (fields_value (sign_of b) (field_of b) (fraction_of b) (ap is_finite same ∙ h))

-- a double of the value ±a/c
pub whole_of_value : (unit : ℕ) (x : Float) (s : Bool) (a c : ℕ) → 0 < c → HasValue x s a c → whole_of unit x ≡ signed s (nearest (a * unit) c)
unfolding whole_of
whole_of_value unit nan s a c C v = absurd v
whole_of_value unit (inf t) s a c C v = absurd v
whole_of_value unit (fin t m e) s a c C v =
    let cross : m * up e * unit * c ≡ a * unit * down e = omega (arith, ap (λ (z : ℕ). z * unit) v.1) in
    ap₂ signed v.0 (nearest_same (m * up e * unit) (down e) (a * unit) c (down_pos e) C cross)
