-- The double's value is read from its bit pattern, and the product with the last 24 bits cut off has the nearest whole number of the exact
-- product. The limit keeps the exponent's field at 1050 or below, so nothing passes 64 bits.
use Rattle.std.proofs.Common.{◌≡◌, ℕ, pos, ◌+◌, ◌*◌, ◌^◌, ◌<◌, ◌≤◌, Bool, true, T, Float, sym, ap, ◌∙◌, subst, arith, pow_pos, to_z-of_z, w64}
use lib.Ieee.{binary64, to_bits, fits}
use lib.Ieee.Exact.{HasValue}
use Rattle.integers.specs.Near.{nearest, signed}
use Rattle.integers.proofs.Rounding.{nearest_le}
use Rattle.units.specs.Units.{degree}
use Rattle.floats.specs.Conversion.{whole_of}
use Rattle.floats.specs.Limits.{is_finite, within_limit, plane_limit_float}
use Rattle.floats.proofs.Signs.{signed_zero}
use Rattle.floats.proofs.Bounds.{AtMost, at_most_finite, finite_number, value_at_most, within_at_most}
use Rattle.floats.proofs.Pattern.{sign_of, field_of, fraction_of, size_of, pattern_value, whole_of_value}
use Rattle.floats.proofs.Product.{cut, shift, field_high, nearest_low_field, nearest_product, high_part, low_part, shift_some, shift_le}
use Rattle.floats.proofs.whole_units.Goals as goal

abbrev sign : Float → Bool
sign x = sign_of (to_bits binary64 x)

abbrev field : Float → ℕ
field x = field_of (to_bits binary64 x)

abbrev fraction : Float → ℕ
fraction x = fraction_of (to_bits binary64 x)

abbrev product : ℕ → Float → ℕ
product unit x = cut (fraction x + 2 ^ 52) unit

module _ (unit : ℕ) (x : Float) (small : unit ≤ degree) (within : within_limit plane_limit_float x ≡ true) where
  at_most : AtMost 50_000_000 x
  at_most = within_at_most 390_625 7 x within

  finite : is_finite x ≡ true
  finite = at_most_finite 50_000_000 x at_most

  product_lt : product unit x < 2 ^ 62
  product_lt =
      omega (arith, high_part (fraction x + 2 ^ 52) unit (omega arith) small, low_part (fraction x + 2 ^ 52) unit small)

  module _ (double : fits binary64 x ≡ true) where
    value : HasValue x (sign x) (size_of (field x) (fraction x)) (2 ^ 1074)
    value = pattern_value x (subst T (sym double) tt) finite

    exact : whole_of unit x ≡ signed (sign x) (nearest (size_of (field x) (fraction x) * unit) (2 ^ 1074))
    exact = whole_of_value unit x (sign x) (size_of (field x) (fraction x)) (2 ^ 1074) (pow_pos 1074) value

    field_le : field x ≤ 1050
    field_le =
        field_high (field x) (fraction x) (value_at_most 50_000_000 x (sign x) (size_of (field x) (fraction x)) (2 ^ 1074) value at_most)

    -- below 2^−23
    none : field x < 1000 → whole_of unit x ≡ pos 0
    none low =
        exact
        ∙ ap (signed (sign x)) (nearest_low_field unit (field x) (fraction x) small (omega arith) low)
        ∙ signed_zero (sign x)

    some : 1000 ≤ field x → whole_of unit x ≡ signed (sign x) (nearest (product unit x) (shift (field x)))
    some high = exact ∙ ap (signed (sign x)) (sym (nearest_product unit (field x) (fraction x) high field_le))

    -- the size of the answer fits an i64
    size_lt : 1000 ≤ field x → nearest (product unit x) (shift (field x)) < 2 ^ 63
    size_lt high =
        let divisor = shift_some (field x) high field_le in
        omega (arith, nearest_le (product unit x) (shift (field x)) divisor, product_lt, shift_le (field x) high field_le)

pub float_to_bits-bits : goal.float_to_bits-bits
float_to_bits-bits c = finite_number c.args.x (finite c.args.unit c.args.x c.requires.0 c.requires.1)

pub returns-then-field-lt-LEAST_FIELD : goal.returns-then-field-lt-LEAST_FIELD
returns-then-field-lt-LEAST_FIELD c =
    sym (none c.args.unit c.args.x c.requires.0 c.requires.1 c.well_formed.1.0.1 c.if-field-lt-LEAST_FIELD.true)

pub overflow_sub-field : goal.overflow_sub-field
overflow_sub-field c = omega (arith, field_le c.args.unit c.args.x c.requires.0 c.requires.1 c.well_formed.1.0.1)

pub signed-requires : goal.signed-requires
signed-requires c =
    rw c.nearest-size.ensures
    (size_lt c.args.unit c.args.x c.requires.0 c.requires.1 c.well_formed.1.0.1 c.if-field-lt-LEAST_FIELD.false)

pub returns : goal.returns
returns c =
    to_z-of_z {w = w64} (record { sfits = c.signed.type_inv })
    ∙ c.signed.ensures
    ∙ ap (signed (sign c.args.x)) c.nearest-size.ensures
    ∙ sym (some c.args.unit c.args.x c.requires.0 c.requires.1 c.well_formed.1.0.1 c.if-field-lt-LEAST_FIELD.false)
