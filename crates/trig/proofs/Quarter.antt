-- The sine from 0 to 90°, on natural numbers: never falling, its most and its least step, its slope from below, and sine² + cosine². Each follows from what is known
-- of one minute (Minute.antt), of the arc over it (Arc.antt) and of the table. Assumes nothing.
use mathlib.Core.Path.{◌≡◌, refl, sym, ap, ap₂, ◌∙◌, subst₂}
use mathlib.Core.Logic.{◌⊎◌, inl, inr}
use Prim.Native.Nat.{ℕ, zero, suc, ◌+◌, ◌-◌, ◌*◌, ◌/◌, ◌%◌, ◌<◌, ◌≤◌}
use native.Mathlib.Nat.{le_refl, le_trans, le_of_lt, mul-le-mul, mul-le-mul_left, div-add-mod', mod-lt, eq-or-lt_of_le}
use native.Mathlib.Omega.{arith}
use lib.Dec.{lit<, lit≤}
use lib.Arith.{digits_div, digits_mod}
use Rattle.integers.specs.Near.{nearest}
use Rattle.integers.proofs.Rounding.{nearest_low, nearest_high}
use Rattle.units.specs.Units.{unit, minute, right_angle}
use Rattle.sine_table.specs.Table.{entry}
use Rattle.sine_table.proofs.Laws.{curve, rises, step, slope, Arc, arc, OnCircle, circle, entry_at_most, entry_zero, entry_last}
use Rattle.trig.specs.Sine.{between, first_quarter}
use Rattle.trig.specs.InnerCorrection.{rise_of}
use Rattle.trig.proofs.Minute.{scale, per_mas, some_scale, rise, node, Inside, between_near, node_end, node_step, rounded_rise}
use Rattle.trig.proofs.Arc.{NearCircle, Rounded, across, up, move, near_radius, rounded_circle}

some : 0 < minute
some = lit< tt

-- the numerator of the sine of θ, by the minute that θ lies in
numerator : ℕ → ℕ
numerator θ = node (θ / minute) (minute - θ % minute) (θ % minute)

quarter_near : (θ : ℕ) → θ ≤ right_angle → first_quarter θ ≡ nearest (numerator θ) scale
unfolding first_quarter numerator
quarter_near θ h = between_near (θ / minute) (θ % minute) (mod-lt θ some) (λ later. inner later)
  where
    inner : (θ % minute ≡ 0 → ⊥) → θ / minute < 5400
    inner later = elim (eq-or-lt_of_le h) [ inl e ↦ absurd (later (ap (λ (n : ℕ). n % minute) e)) | inr l ↦ omega arith ]

numerator_at : (k r : ℕ) → r < minute → numerator (k * minute + r) ≡ node k (minute - r) r
unfolding numerator
numerator_at k r h = ap₂ (λ (x y : ℕ). node x (minute - y) y) (digits_div k h) (digits_mod k h)

-- also where r is a whole minute
numerator_to : (k q r : ℕ) → Inside k q r → numerator (k * minute + r) ≡ node k q r
numerator_to k q r i = at (eq-or-lt_of_le early)
  where
    early : r ≤ minute
    early = omega (arith, i.whole)

    at : (r ≡ minute) ⊎ (r < minute) → numerator (k * minute + r) ≡ node k q r
    at (inl e) =
        let next : k * minute + r ≡ suc k * minute + 0 = omega arith in
        let none : q ≡ 0 = omega (arith, i.whole) in
        ap numerator next ∙ numerator_at (suc k) 0 some ∙ sym (node_end k i.below) ∙ ap₂ (node k) (sym none) (sym e)
    at (inr l) = numerator_at k r l ∙ ap (λ (x : ℕ). node k x r) (omega (arith, i.whole))

-- where an angle below 90° lies: r mas past minute k, and one more than q before the next
pub record Place (θ : ℕ) : Type 0 where
  pub k : ℕ
  pub q : ℕ
  pub r : ℕ
  pub is : θ ≡ k * minute + r
  pub whole : q + suc r ≡ minute
  pub inside : k < 5400

pub place : (θ : ℕ) → θ < right_angle → Place θ
place θ h =
    record {
      k = θ / minute;
      q = minute - suc (θ % minute);
      r = θ % minute;
      is = sym (div-add-mod' θ minute);
      whole = omega (arith, mod-lt θ some);
      inside = omega arith;
    }

-- the numerator there and one mas on
here : (θ : ℕ) (p : Place θ) → numerator θ ≡ node p.k (suc p.q) p.r
here θ p = ap numerator p.is ∙ numerator_to p.k (suc p.q) p.r (record { whole = omega (arith, p.whole); below = p.inside })

after : (θ : ℕ) (p : Place θ) → numerator (suc θ) ≡ node p.k p.q (suc p.r)
after θ p =
    let next : suc θ ≡ p.k * minute + suc p.r = omega (arith, p.is) in
    ap numerator next ∙ numerator_to p.k p.q (suc p.r) (record { whole = p.whole; below = p.inside })

-- ---- never falling

quarter_rise : (θ : ℕ) → θ < right_angle → first_quarter θ ≤ first_quarter (suc θ)
quarter_rise θ h =
    let p = place θ h in
    rw (quarter_near θ (omega arith), quarter_near (suc θ) h, here θ p, after θ p) (rounded_rise p.k p.q p.r p.whole p.inside)

quarter_climb : (n θ : ℕ) → n + θ ≤ right_angle → first_quarter θ ≤ first_quarter (n + θ)
quarter_climb zero θ h = let e : 0 + θ ≡ θ = omega arith in rw e (le_refl (first_quarter θ))
quarter_climb (suc n) θ h =
    let e : suc n + θ ≡ suc (n + θ) = omega arith in
    rw e (le_trans (quarter_climb n θ (omega arith)) (quarter_rise (n + θ) (omega arith)))

pub quarter_mono : {a b : ℕ} → a ≤ b → b ≤ right_angle → first_quarter a ≤ first_quarter b
quarter_mono {a} {b} h l =
    let e : b - a + a ≡ b = omega arith in
    rw e at (quarter_climb (b - a) a (omega arith))

-- ---- the step

-- the numerator's step is at most that at the start of its minute
step_most : (θ : ℕ) → θ < right_angle → numerator (suc θ) ≤ numerator θ + per_mas * 295_000
unfolding rise_of
step_most θ h =
    let p = place θ h in
    omega (arith, here θ p, after θ p, node_step p.k p.q p.r p.whole, step p.k p.inside)

pub quarter_step : (θ : ℕ) → θ < right_angle → first_quarter (suc θ) ≤ first_quarter θ + 5
quarter_step θ h =
    rw (quarter_near θ (omega arith), quarter_near (suc θ) h)
    (omega (arith, step_most θ h, nearest_low (numerator (suc θ)) some_scale, nearest_high (numerator θ) some_scale))

-- The numerator's step is at least that at the end of its minute, and the roundings take 1 away: the sine rises by the rise of its minute over
-- 60,000, less 1 and a little.
step_by_rise : (θ : ℕ) → θ < right_angle → (p : Place θ) → minute * first_quarter θ + rise_of p.k ≤ minute * first_quarter (suc θ) + 60_042
step_by_rise θ h p =
    let late : 2 * p.r + 1 ≤ minute + (minute - 1) = omega (arith, p.whole) in
    rw (quarter_near θ (omega arith), quarter_near (suc θ) h)
    (omega (
      arith,
      here θ p,
      after θ p,
      node_step p.k p.q p.r p.whole,
      mul-le-mul_left (curve * entry p.k) late,
      entry_at_most p.k (le_of_lt p.inside),
      nearest_low (numerator θ) some_scale,
      nearest_high (numerator (suc θ)) some_scale,
    ))

pub quarter_step_least : (θ : ℕ) → θ < right_angle → minute * first_quarter θ + rise_of (θ / minute) ≤ minute * first_quarter (suc θ) + 60_042
unfolding place
quarter_step_least θ h = step_by_rise θ h (place θ h)

-- ---- the slope from below

pub quarter_minute : (k : ℕ) → first_quarter (k * minute) ≡ entry k
unfolding first_quarter between
quarter_minute k =
    let e : k * minute ≡ k * minute + 0 = omega arith in
    rw (e, digits_div k some, digits_mod k some)

-- the numerator's step is at least that at the end of its minute, which is nearly as much as the cosine at its start asks for
step_least : (θ : ℕ) (p : Place θ) →
    unit * numerator θ + per_mas * 290_000 * entry (5400 - p.k) ≤ unit * numerator (suc θ) + per_mas * 290_000 * 600_000
unfolding rise_of
step_least θ p =
    let late : 2 * p.r + 1 ≤ 2 * minute = omega (arith, p.whole) in
    omega (
      arith,
      here θ p,
      after θ p,
      node_step p.k p.q p.r p.whole,
      mul-le-mul_left (curve * entry p.k) late,
      slope p.k p.inside,
    )

-- c is at most the cosine of each angle up to t + n
climb :
    (n t c : ℕ) →
    n + t ≤ right_angle →
    c ≤ first_quarter (right_angle - (n + t)) →
    unit * numerator t + per_mas * 290_000 * (n * c) ≤ unit * numerator (n + t) + n * (per_mas * 290_000 * 600_000)
climb zero t c h low = let e : 0 + t ≡ t = omega arith in rw e (omega arith)
climb (suc n) t c h low =
    let i : ℕ = n + t in
    let e : suc n + t ≡ suc i = omega arith in
    let p = place i (omega arith) in
    let before : c ≤ first_quarter (right_angle - i) =
    le_trans low (quarter_mono {a = right_angle - (suc n + t)} {b = right_angle - i} (omega arith) (omega arith)) in
    let start : right_angle - i ≤ (5400 - p.k) * minute = omega (arith, p.is, p.inside) in
    let on_minute = quarter_mono {a = right_angle - i} {b = (5400 - p.k) * minute} start (omega arith) in
    let minute-cosine : c ≤ entry (5400 - p.k) = le_trans before (rw (quarter_minute (5400 - p.k)) at on_minute) in
    rw e (omega (arith, climb n t c (omega arith) before, step_least i p))

pub quarter_slope :
    (n t : ℕ) →
    n + t ≤ right_angle →
    6 * unit * first_quarter t + 29 * (n * first_quarter (right_angle - (n + t))) ≤ 6 * unit * first_quarter (n + t) + n * 17_400_000 + 6 * unit
quarter_slope n t h =
    let c : ℕ = first_quarter (right_angle - (n + t)) in
    let early : t ≤ right_angle = omega arith in
    let lower : 2 * (first_quarter t * scale) ≤ 2 * numerator t + scale = rw (quarter_near t early) (nearest_low (numerator t) some_scale) in
    let upper : 2 * numerator (n + t) < 2 * (first_quarter (n + t) * scale) + scale = rw (quarter_near (n + t) h) (nearest_high (numerator (n + t)) some_scale) in
    omega (arith, climb n t c h (le_refl c))

-- ---- sine² + cosine²

-- a sine in the minute from k, as its numerator rounded
within : (θ k q r : ℕ) → θ ≤ right_angle → θ ≡ k * minute + r → Inside k q r → Rounded per_mas (first_quarter θ) (node k q r)
within θ k q r h is i =
    let n = node k q r in
    rw (quarter_near θ h, is, numerator_to k q r i)
    (record { low = omega (arith, nearest_low n some_scale); high = omega (arith, nearest_high n some_scale) })

pub quarter_at_most : {θ : ℕ} → θ ≤ right_angle → first_quarter θ ≤ unit
quarter_at_most {θ} h =
    let last : first_quarter right_angle ≡ unit = quarter_minute 5400 ∙ entry_last in
    rw last at (quarter_mono h (le_refl right_angle))

rise_up : (k : ℕ) → k < 5400 → entry k + rise_of k ≡ entry (suc k)
unfolding rise_of
rise_up k h = omega (arith, rises k h)

-- a numerator as a point of the arc, seen from either end
from_start : (q r s e : ℕ) → q + r ≡ minute → s * scale + (e * r * per_mas + curve * (s * (r * q))) ≡ per_mas * (q * s + r * (s + e)) + curve * (q * r) * s
from_start q r s e whole = omega (arith, ap (λ (n : ℕ). s * n) whole)

from_end : (q r c d : ℕ) → q + r ≡ minute → c * scale + (d * q * per_mas + curve * (c * (q * r))) ≡ per_mas * (q * (c + d) + r * c) + curve * (q * r) * c
from_end q r c d whole = omega (arith, ap (λ (n : ℕ). c * n) whole)

-- r mas past minute k, and as many before 90° as q mas past minute j
module _ (k r j q : ℕ) (both : k + j ≡ 5399) (whole : q + r ≡ minute) where
  k_inside : k < 5400
  k_inside = omega arith

  j_inside : j < 5400
  j_inside = omega arith

  before : 5400 - k ≡ suc j
  before = omega arith

  start_on_circle : OnCircle (entry k) (entry j + rise_of j)
  start_on_circle = rw (rise_up j j_inside) (rw before at (circle k (le_of_lt k_inside)))

  end_on_circle : OnCircle (entry k + rise_of k) (entry j)
  end_on_circle =
      let e : 5400 - suc k ≡ j = omega arith in
      rw (rise_up k k_inside) (rw e at (circle (suc k) k_inside))

  bent : Arc (entry k) (entry k + rise_of k) (rise_of k) (entry j + rise_of j) (entry j) (rise_of j)
  unfolding rise_of
  bent =
      let f : 5399 - k ≡ j = omega arith in
      rw (rise_up k k_inside, rise_up j j_inside) (rw f at (rw before at (arc k k_inside)))

  small : entry k * entry k + entry j * entry j ≤ 2 * (unit * unit)
  small =
      let s = entry_at_most k (le_of_lt k_inside) in
      let c = entry_at_most j (le_of_lt j_inside) in
      omega (arith, mul-le-mul s s, mul-le-mul c c)

  inner_circle : NearCircle (first_quarter (k * minute + r)) (first_quarter (j * minute + q))
  unfolding node rise across up move
  inner_circle =
      rounded_circle per_mas _ _ (first_quarter (k * minute + r)) (first_quarter (j * minute + q)) (lit< tt)
      (near_radius q r (entry k) (rise_of k) (entry j) (rise_of j) whole start_on_circle end_on_circle bent small per_mas refl)
      (rw (from_start q r (entry k) (rise_of k) whole) at
      (within (k * minute + r) k q r (omega arith) refl (record { whole = whole; below = k_inside })))
      (rw (from_end q r (entry j) (rise_of j) whole) at
      (within (j * minute + q) j r q (omega arith) refl (record { whole = omega arith; below = j_inside })))

pub quarter_circle : (θ : ℕ) → θ ≤ right_angle → NearCircle (first_quarter θ) (first_quarter (right_angle - θ))
quarter_circle θ h = at (eq-or-lt_of_le h)
  where
    at : (θ ≡ right_angle) ⊎ (θ < right_angle) → NearCircle (first_quarter θ) (first_quarter (right_angle - θ))
    at (inl e) =
        rw (e, quarter_minute 5400, quarter_minute 0, entry_last, entry_zero)
        (record { not_outside = lit≤ tt; not_inside = lit≤ tt })
    at (inr l) =
        let p = place θ l in
        let other : right_angle - θ ≡ (5399 - p.k) * minute + suc p.q = omega (arith, p.is, p.whole, p.inside) in
        subst₂ NearCircle (ap first_quarter (sym p.is)) (ap first_quarter (sym other))
        (inner_circle p.k p.r (5399 - p.k) (suc p.q) (omega (arith, p.inside)) (omega (arith, p.whole)))

pub quarter_zero : first_quarter 0 ≡ 0
quarter_zero = quarter_minute 0 ∙ entry_zero

pub quarter_right : first_quarter right_angle ≡ unit
quarter_right = quarter_minute 5400 ∙ entry_last
