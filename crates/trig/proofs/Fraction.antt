-- The sine in a minute as the code works it out: two divisions of whole numbers, rounded down, are the paper's one rounding; and how far the
-- sine is from the straight line and from the minute before. Assumes nothing.
use mathlib.Core.Path.{◌≡◌, sym, ap, ap₂, ◌∙◌, subst}
use mathlib.Core.Logic.{◌⊎◌, inl, inr}
use Prim.Native.Nat.{ℕ, suc, ◌+◌, ◌-◌, ◌*◌, ◌/◌, ◌%◌, ◌<◌, ◌≤◌}
use native.Mathlib.Nat.{le_of_lt, mul-le-mul, min-eq_right, eq-or-lt_of_le, div-add-mod'}
use native.Mathlib.Omega.{arith}
use lib.Arith.{digits_div, digits_mod}
use borrow.Author.Tests.{eq-eqb, ne_eqb}
use Rattle.proof_kit.proofs.Order.{le_or_lt}
use Rattle.integers.specs.Near.{nearest}
use Rattle.integers.proofs.Rounding.{nearest_only}
use Rattle.integers.proofs.Squares.{mean}
use Rattle.units.specs.Units.{unit, minute, right_angle}
use Rattle.sine_table.specs.Table.{entry}
use Rattle.sine_table.proofs.Laws.{rises, step, entry_at_most}
use Rattle.trig.specs.Sine.{fraction_numerator, fraction_denominator, between, first_quarter}
use Rattle.trig.specs.InnerCorrection.{most_rise, most_product, whole_correction, rise_of}
use Rattle.trig.specs.InnerLines.{line_error, minute_error}
use Rattle.trig.proofs.Minute.{at_most_next}
use Rattle.trig.proofs.Quarter.{quarter_minute, quarter_mono}

-- the correction's division, in two steps
pub two_steps : (w : ℕ) → (w / 32_768 * 10_577 + w % 32_768 * 10_577 / 32_768) / 457_763_671_875 ≡ w * 84_616 / (2_000_000_000_000 * minute)
two_steps w = omega arith

-- what the code's numbers are at most
pub rise_small : (k : ℕ) → k < 5400 → rise_of k ≤ most_rise
unfolding rise_of
rise_small k h = omega (arith, step k h)

pub rise_product : (r k x m : ℕ) → r ≡ rise_of k → k < 5400 → x ≤ m → r * x ≤ most_rise * m
rise_product r k x m e h l =
    let small : r ≤ most_rise = rw e (rise_small k h) in
    mul-le-mul small l

pub product_small : (r : ℕ) → r ≤ minute → r * (minute - r) ≤ most_product
product_small r h =
    let whole : r + (minute - r) ≡ minute = omega arith in
    omega (arith, rw whole at (mean r (minute - r)))

pub correction_small : (low product : ℕ) → low ≤ unit → product ≤ most_product → whole_correction low product ≤ 634_620
unfolding whole_correction
correction_small low product l p = omega (arith, mul-le-mul l p)

-- the correction, rounded down, and the division by a minute are near of the fraction
one_rounding :
    (n w y x : ℕ) →
    15_000_000_000_000_000 * y ≤ 10_577 * w →
    10_577 * w < 15_000_000_000_000_000 * y + 15_000_000_000_000_000 →
    minute * x ≤ n + 30_000 + y →
    n + 30_000 + y < minute * x + minute →
    nearest (n * (8 * 15_000_000_000_000_000) + 84_616 * w) fraction_denominator ≡ x
one_rounding n w y x y-low y-high x-low x-high =
    nearest_only (n * (8 * 15_000_000_000_000_000) + 84_616 * w) fraction_denominator x (omega arith) (omega arith)

-- the fraction's terms: the straight line, and the product that the correction is a part of
terms :
    (e s r q : ℕ) →
    e * r * (2_000_000_000_000 * minute) + s * 84_616 * r * q ≡ e * r * (8 * 15_000_000_000_000_000) + 84_616 * (s * (r * q))
terms e s r q = omega arith

-- the sine r mas past minute k, as the code works it out
unfoldable pub in_minute : ℕ → ℕ → ℕ
in_minute k r = entry k + (rise_of k * r + 30_000 + whole_correction (entry k) (r * (minute - r))) / minute

-- the two cases of the definition
pub on_minute : (k r : ℕ) → r ≡ 0 → between k r ≡ entry k
unfolding between
on_minute k r e = rw (eq-eqb r 0 e)

pub past_minute :
    (k r : ℕ) →
    (r ≡ 0 → ⊥) →
    k < 5400 →
    r < minute →
    between k r ≡ in_minute k r
unfolding between fraction_numerator whole_correction in_minute rise_of
past_minute k r later below early =
    let n : ℕ = (entry (suc k) - entry k) * r in
    let w : ℕ = entry k * (r * (minute - r)) in
    let y : ℕ = w * 84_616 / (2_000_000_000_000 * minute) in
    rw (ne_eqb r 0 later)
    (min-eq_right (at_most_next k r below early)
    ∙ ap (λ (x : ℕ). entry k + nearest x fraction_denominator) (terms (entry (suc k) - entry k) (entry k) r (minute - r))
    ∙ ap (λ (x : ℕ). entry k + x) (one_rounding n w y ((n + 30_000 + y) / minute) (omega arith) (omega arith) (omega arith) (omega arith)))

-- It is the sine at both ends of the minute too.
at_start : (k r : ℕ) → r ≡ 0 → in_minute k r ≡ entry k
unfolding in_minute whole_correction
at_start k r e = rw e (omega arith)

at_end : (k r : ℕ) → k < 5400 → r ≡ minute → in_minute k r ≡ entry (suc k)
unfolding in_minute whole_correction rise_of
at_end k r below e = rw e (omega (arith, rises k below))

inner : (k r : ℕ) → k < 5400 → (r ≡ 0 → ⊥) → r < minute → first_quarter (k * minute + r) ≡ in_minute k r
unfolding first_quarter
inner k r below later early = ap₂ between (digits_div k early) (digits_mod k early) ∙ past_minute k r later below early

pub quarter_in_minute : (k r : ℕ) → k < 5400 → r ≤ minute → first_quarter (k * minute + r) ≡ in_minute k r
quarter_in_minute k r below h = at (eq-or-lt_of_le h) (le_or_lt r 0)
  where
    at : (r ≡ minute) ⊎ (r < minute) → (r ≤ 0) ⊎ (0 < r) → first_quarter (k * minute + r) ≡ in_minute k r
    at (inl e) z =
        let next : k * minute + r ≡ suc k * minute = omega arith in
        ap first_quarter next ∙ quarter_minute (suc k) ∙ sym (at_end k r below e)
    at (inr l) (inl z) =
        let start : k * minute + r ≡ k * minute = omega arith in
        ap first_quarter start ∙ quarter_minute k ∙ sym (at_start k r (omega arith))
    at (inr l) (inr p) = inner k r below (λ e. omega arith) l

-- ---- lines: how far the sine is from the straight line, and from the minute before

line_below : (s x y : ℕ) → y ≤ 634_620 → s + x / minute ≤ s + (x + 30_000 + y) / minute
line_below s x y h = omega arith

line_above : (s x y : ℕ) → y ≤ 634_620 → s + (x + 30_000 + y) / minute ≤ s + x / minute + line_error
line_above s x y h = omega arith

-- the place of an angle below 90°
split : (θ : ℕ) → θ / minute * minute + θ % minute ≡ θ
split θ = div-add-mod' θ minute

pub near_line : (θ : ℕ) → θ < right_angle → let line = entry (θ / minute) + rise_of (θ / minute) * (θ % minute) / minute in
    (line ≤ first_quarter θ) × (first_quarter θ ≤ line + line_error)
unfolding in_minute
near_line θ h =
    let k : ℕ = θ / minute in
    let r : ℕ = θ % minute in
    let below : k < 5400 = omega arith in
    let early : r ≤ minute = omega arith in
    let small = correction_small (entry k) (r * (minute - r)) (entry_at_most k (le_of_lt below)) (product_small r early) in
    subst (λ (x : ℕ). (entry k + rise_of k * r / minute ≤ x) × (x ≤ entry k + rise_of k * r / minute + line_error))
    (sym (ap first_quarter (sym (split θ)) ∙ quarter_in_minute k r below early))
    (bounds k r small)
  where
    bounds : (k r : ℕ) → whole_correction (entry k) (r * (minute - r)) ≤ 634_620 →
        (entry k + rise_of k * r / minute ≤ in_minute k r) × (in_minute k r ≤ entry k + rise_of k * r / minute + line_error)
    bounds k r small = (line_below _ _ _ small, line_above _ _ _ small)

-- 90° is a whole minute itself
pub near_minute : (θ : ℕ) → θ ≤ right_angle → (entry (θ / minute) ≤ first_quarter θ) × (first_quarter θ ≤ entry (θ / minute) + minute_error)
unfolding rise_of
near_minute θ h = at (eq-or-lt_of_le h)
  where
    at : (θ ≡ right_angle) ⊎ (θ < right_angle) → (entry (θ / minute) ≤ first_quarter θ) × (first_quarter θ ≤ entry (θ / minute) + minute_error)
    at (inl e) = rw (e, quarter_minute 5400) (omega arith, omega arith)
    at (inr l) =
        let k : ℕ = θ / minute in
        let from = quarter_mono {a = k * minute} {b = θ} (omega arith) h in
        let to = quarter_mono {a = θ} {b = suc k * minute} (omega arith) (omega arith) in
        (rw (quarter_minute k) at from, omega (arith, rw (quarter_minute (suc k)) at to, rise_small k (omega arith), rises k (omega arith)))
