-- The coefficients and the sines are small, so every product and sum is within 64 bits, and the sum differs from that of the sines themselves by no
-- more than each of them differs, times its coefficient.
use Rattle.std.proofs.Common.{◌≡◌, ℕ, ◌+◌, ◌≤◌, refl, arith}
use lib.IntN.{ℤ, nat_abs, ◌-ℤ◌}
use Rattle.proof_kit.proofs.Range.{code, fits, read}
use Rattle.proof_kit.proofs.Size.{abs_from}
use Rattle.units.specs.Units.{unit}
use Rattle.trig.specs.Sine.{sine}
use Rattle.trig.specs.InnerLines.{line_error, minute_error}
use Rattle.trig.proofs.Interface.{sine_size}
use Rattle.latitudes.specs.Latitude.{three_terms}
use Rattle.latitudes.proofs.RoundingLaws.{terms_apart}
use Rattle.latitudes.proofs.SineSeries.three_lines.Goals as goal

-- what is within e of a sine is not much above U
small : (r θ : ℤ) {e : ℕ} → nat_abs (r -ℤ sine θ) ≤ e → nat_abs r ≤ unit + e
small r θ h = omega (arith, abs_from r (sine θ), sine_size θ)

-- a call gave that of the multiple of x
near_sine : (r θ : ℤ) {z : ℤ} {e : ℕ} → nat_abs (r -ℤ sine θ) ≤ e → θ ≡ z → nat_abs (r -ℤ sine z) ≤ e
near_sine r θ h f = rw f at h

-- the distance from s under a name that stays closed, so that `search` can be told which number it is of
gap : ℤ → ℤ → ℕ
gap s r = nat_abs (r -ℤ s)

as-gap : (s r : ℤ) → nat_abs (r -ℤ s) ≡ gap s r
unfolding gap
as-gap s r = refl

gap_by : (s : ℤ) {r v : ℤ} {e : ℕ} → r ≡ v → nat_abs (v -ℤ s) ≤ e → gap s r ≤ e
unfolding gap
gap_by s f h = rw f h

pub overflow_mul-result : goal.overflow_mul-result
overflow_mul-result c =
    let two = small _ _ {e = line_error} c.sine_by_line-two.ensures in
    fits (search (code, c.args.self.small.k2_size) depth 40 fits 20000) tt

pub overflow_mul-result-2 : goal.overflow_mul-result-2
overflow_mul-result-2 c =
    let four = small _ _ {e = line_error} c.sine_by_line-four.ensures in
    fits (search (code, c.args.self.small.k4_size) depth 40 fits 20000) tt

pub overflow_sub-result : goal.overflow_sub-result
overflow_sub-result c =
    let k = c.args.self.small in
    let two = small _ _ {e = line_error} c.sine_by_line-two.ensures in
    let four = small _ _ {e = line_error} c.sine_by_line-four.ensures in
    fits (search (code, k.k2_size, k.k4_size) depth 40 fits 20000) tt

pub overflow_mul-result-3 : goal.overflow_mul-result-3
overflow_mul-result-3 c =
    let six = small _ _ {e = minute_error} c.sine_by_minute-six.ensures in
    fits (search (code, c.args.self.small.k6_size) depth 40 fits 20000) tt

pub overflow_add-result : goal.overflow_add-result
overflow_add-result c =
    let k = c.args.self.small in
    let two = small _ _ {e = line_error} c.sine_by_line-two.ensures in
    let four = small _ _ {e = line_error} c.sine_by_line-four.ensures in
    let six = small _ _ {e = minute_error} c.sine_by_minute-six.ensures in
    fits (search (code, k.k2_size, k.k4_size, k.k6_size) depth 40 fits 20000) tt

pub returns : goal.returns
returns c =
    let k = c.args.self in
    let exact = three_terms k.k2 k.k4 k.k6 c.args.x in
    let two = small _ _ {e = line_error} c.sine_by_line-two.ensures in
    let four = small _ _ {e = line_error} c.sine_by_line-four.ensures in
    let six = small _ _ {e = minute_error} c.sine_by_minute-six.ensures in
    rw (as-gap exact)
    (gap_by exact
    (read (search (code, k.small.k2_size, k.small.k4_size, k.small.k6_size, two, four, six) depth 40 fits 20000) tt)
    (terms_apart k.k2 k.k4 k.k6 _ _ _ _ _ _
    (near_sine _ _ {e = line_error} c.sine_by_line-two.ensures (read (search (code, c.requires) depth 40 fits 20000) tt))
    (near_sine _ _ {e = line_error} c.sine_by_line-four.ensures (read (search (code, c.requires) depth 40 fits 20000) tt))
    (near_sine _ _ {e = minute_error} c.sine_by_minute-six.ensures (read (search (code, c.requires) depth 40 fits 20000) tt))))
