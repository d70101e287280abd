-- The laws of degrees and metres, each proved once for every kind of coordinate. A whole number of units up to the limit is a double that
-- passes the limit's test, since one rounding does not pass a whole number; taking it back gives the number again, since the rounding misses
-- the quotient by less than half a unit. A double that passes is a whole number up to the limit, since rounding never falls.
-- Assumes nothing.
use Rattle.std.proofs.Common.{◌≡◌, ℕ, ◌*◌, ◌^◌, ◌<◌, ◌≤◌, Bool, true, false, not, ◌&&◌, ℤ, pos, nat_abs, sym, refl, ap, ◌∙◌, subst, lt_of_le_of_lt, le_of_lt, mul-le-mul, mul-le-mul_right, zero-mul, arith, lit<, lit≤, pow_pos}
use lib.Ieee.{Float, nan, inf, fin, up, down}
use lib.Ieee.Fits.{down_pos}
use Rattle.integers.specs.Near.{nearest, signed}
use Rattle.integers.proofs.Rounding.{nearest_only, nearest_mono, nearest_whole, nearest_zero}
use Rattle.floats.specs.Conversion.{whole_of, float_of}
use Rattle.floats.specs.InnerKinds.{Coordinate}
use Rattle.floats.specs.Limits.{is_finite, beyond, within_limit, latitude_limit, longitude_limit, plane_limit_float}
use Rattle.floats.proofs.Signs.{negative, signed_again, signed_size, signed_zero}
use Rattle.floats.proofs.Bounds.{AtMost, at_most_finite, at_most_value, within_at_most, at_most_within, within_more}
use Rattle.floats.proofs.Pattern.{whole_of_value}
use Rattle.floats.proofs.Quotient.{Rounded, float_rounded}

module _ {unit : ℕ} {limit : Float} {most : ℕ} (kind : Coordinate unit limit most) where
  -- a limit in units is a number of 51 binary digits
  most_small : most < 2 ^ 51
  most_small = omega (arith, kind.most_is, mul-le-mul kind.limit_small kind.unit_small)

  unit_small : unit ≤ 2 ^ 53
  unit_small = omega (arith, kind.unit_small)

  -- the limit of easting and northing in metres is the highest of all
  pub within_highest : (x : Float) → within_limit limit x ≡ true → within_limit plane_limit_float x ≡ true
  within_highest x h =
      within_more kind.digits kind.twos 390_625 7 x kind.limit_small
      (subst (λ (l : Float). within_limit l x ≡ true) kind.limit_is h)

-- ---- out: a whole number of units as a double

module _ {unit : ℕ} {limit : Float} {most : ℕ} (kind : Coordinate unit limit most) (n : ℤ) (h : nat_abs n ≤ most) where
  out : Rounded (float_of unit n) (negative n) (nat_abs n) unit
  out = float_rounded unit n kind.unit_some (unit_small kind) (lt_of_le_of_lt h (most_small kind))

  at_most : AtMost (kind.digits * 2 ^ kind.twos) (float_of unit n)
  at_most =
      let whole : ℕ = kind.digits * 2 ^ kind.twos in
      at_most_value whole (float_of unit n) (negative n) out.steps (2 ^ 1074) (pow_pos 1074) out.value
      (out.at_most whole (subst (λ (m : ℕ). nat_abs n ≤ m) kind.most_is h))

  pub float_finite : is_finite (float_of unit n) ≡ true
  float_finite = at_most_finite (kind.digits * 2 ^ kind.twos) (float_of unit n) at_most

  pub float_within : within_limit limit (float_of unit n) ≡ true
  float_within =
      ap (λ (l : Float). within_limit l (float_of unit n)) kind.limit_is
      ∙ at_most_within kind.digits kind.twos (float_of unit n) at_most

  -- "Taking an answer's floats back gives its whole numbers again."
  pub float_back : whole_of unit (float_of unit n) ≡ n
  float_back =
      whole_of_value unit (float_of unit n) (negative n) out.steps (2 ^ 1074) (pow_pos 1074) out.value
      ∙ ap (signed (negative n)) (nearest_only (out.steps * unit) (2 ^ 1074) (nat_abs n) (le_of_lt out.low) out.high)
      ∙ signed_again n

-- ---- in: a double as a whole number of units

pub whole_at_most : (unit most : ℕ) (x : Float) → AtMost most x → nat_abs (whole_of unit x) ≤ most * unit
unfolding whole_of
whole_at_most unit most nan h = absurd h
whole_at_most unit most (inf s) h = absurd h
whole_at_most unit most (fin s m e) h =
    let scaled : m * up e * unit ≤ most * unit * down e = omega (arith, mul-le-mul_right unit h) in
    rw (signed_size s (nearest (m * up e * unit) (down e)))
    (rw (nearest_whole (most * unit) (down e) (down_pos e)) at (nearest_mono (down e) (down_pos e) scaled))

pub whole_within :
    {unit : ℕ} {limit : Float} {most : ℕ} →
    Coordinate unit limit most →
    (x : Float) →
    within_limit limit x ≡ true →
    nat_abs (whole_of unit x) ≤ most
whole_within {unit} kind x h =
    let inside = within_at_most kind.digits kind.twos x (ap (λ (l : Float). within_limit l x) (sym kind.limit_is) ∙ h) in
    subst (λ (m : ℕ). nat_abs (whole_of unit x) ≤ m) (sym kind.most_is) (whole_at_most unit (kind.digits * 2 ^ kind.twos) x inside)

-- 0.0 and −0.0
pub whole_zero : (unit : ℕ) (s : Bool) → whole_of unit (fin s 0 (pos 0)) ≡ pos 0
unfolding whole_of
whole_zero unit s = rw (zero-mul unit, nearest_zero 1 (lit< tt)) (signed_zero s)

-- ---- the tests

pub within_finite : (limit x : Float) → within_limit limit x ≡ true → is_finite x ≡ true
unfolding within_limit
within_finite limit x h = first (is_finite x) (not (beyond limit x)) h
  where
    first : (a b : Bool) → (a && b) ≡ true → a ≡ true
    first true b h = refl
    first false b h = h

-- once refusal 2 is ruled out, the test is that of refusal 3
pub finite_within : (limit x : Float) → is_finite x ≡ true → within_limit limit x ≡ not (beyond limit x)
unfolding within_limit
finite_within limit x h = rw h

pub latitude_is_longitude : (x : Float) → within_limit latitude_limit x ≡ true → within_limit longitude_limit x ≡ true
latitude_is_longitude x h = within_more 45 1 45 2 x (lit≤ tt) h
