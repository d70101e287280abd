-- Laws of the entries of table T. What holds at each minute is tested once over all minutes, and `at` carries the test to each:
-- a law takes its part out by its place in `orders`. So one more law is one more line there, and one more `at`.
-- Assumes nothing.
use Prim.Native.Nat.{ℕ, zero, suc, ◌+◌, ◌-◌, ◌*◌, ◌<◌, ◌≤◌}
use native.Mathlib.Nat.{add-zero, zero-add, add-suc, suc-add, le_refl, le_trans, le_of_lt, eq-or-lt_of_le}
use native.Mathlib.Omega.{arith}
use mathlib.Core.Logic.{inl, inr}
use mathlib.Core.Path.{◌≡◌, refl}
use mathlib.Core.Bool.{Bool, true, ◌&&◌}
use mathlib.Core.List.{List, [], ◌∷◌}
use lib.Dec.{T, lit≤}
use lib.ListN.{get_or}
use lib.Ieee.Fits.{and_l, and_r}
use Rattle.units.specs.Units.{unit}
use Rattle.sine_table.specs.Table.{entry, StrictlyRising}
use Rattle.sine_table.proofs.Orders.{Order, ◌≤?◌, Holds, pass, nth}

-- The correction between two minutes, T[k]·84,616·f·(1 − f)/(2·10^12), is T[k]·curve·f·(1 − f)/fine: both are an eighth of the paper's.
abbrev pub curve : ℕ
curve = 10_577

abbrev pub fine : ℕ
fine = 250_000_000_000

abbrev pub half_fine : ℕ
half_fine = 125_000_000_000

-- The square of a chord, from the rise of the sine and the fall of the cosine.
abbrev pub chord : ℕ → ℕ → ℕ
chord e d = e * e + d * d

-- How far the correction may be from what the circle asks for.
abbrev pub arc_error : ℕ
arc_error = 2_500_000_000_000_000_000

-- What is tested at minute k: s and s' are the entries of k and k + 1, c and c' those of 5400 - k and 5399 - k.
abbrev orders : ℕ → ℕ → ℕ → ℕ → List Order
orders s s' c c' =
    (suc s ≤? s')
    ∷ (fine * (s' - s) + curve * s ≤? fine * 295_000)
    ∷ (fine * 290_000 * c + unit * (curve * s) ≤? unit * (fine * (s' - s)) + fine * 290_000 * 600_000)
    ∷ (2 * (curve * s) ≤? 2 * (fine * (s' - s)) + fine)
    ∷ (curve * (s * s + c * c') ≤? half_fine * chord (s' - s) (c - c') + arc_error)
    ∷ (half_fine * chord (s' - s) (c - c') ≤? curve * (s * s + c * c') + arc_error)
    ∷ (curve * (s * s' + c' * c') ≤? half_fine * chord (s' - s) (c - c') + arc_error)
    ∷ (half_fine * chord (s' - s) (c - c') ≤? curve * (s * s' + c' * c') + arc_error)
    ∷ (5 * (s * s + c * c) ≤? 5 * (unit * unit) + 7 * unit)
    ∷ (5 * (unit * unit) ≤? 5 * (s * s + c * c) + 7 * unit)
    ∷ []

-- The test of minute k, where j is 5399 - k.
passes : ℕ → ℕ → Bool
passes k j = pass (orders (entry k) (entry (suc k)) (entry (suc j)) (entry j))

-- The test of all minutes below n, where m is 5400 - n. It counts m up as it counts n down, so that `entry` is called at numerals only:
-- antt keeps the value of such a call, and computes each entry once.
tested : ℕ → ℕ → Bool
tested zero m = true
tested (suc n) m = passes n m && tested n (suc m)

all_tested : T (tested 5400 0)
unfolding entry passes tested
all_tested = tt

-- What passes for all minutes below d + k + 1 passes for minute k.
carry : (d k m : ℕ) → T (tested (suc (d + k)) m) → T (passes k (d + m))
unfolding tested
carry zero k m t = rw zero-add (and_l (passes k m) (tested k (suc m)) (rw zero-add at t))
carry (suc d) k m t =
    rw (suc-add, ← add-suc)
    (carry d k (suc m) (and_r (passes (suc (d + k)) m) (tested (suc (d + k)) (suc m)) (rw suc-add at t)))

abbrev orders_at : ℕ → List Order
orders_at k = orders (entry k) (entry (suc k)) (entry (5400 - k)) (entry (5399 - k))

-- The i-th of the orders holds at minute k.
at : (k : ℕ) → k < 5400 → (i : ℕ) → Holds (get_or (orders_at k) i (0 ≤? 0))
unfolding passes
at k h i =
    let all-minutes : 5400 ≡ suc (5399 - k + k) = omega arith in
    let next : suc (5399 - k) ≡ 5400 - k = omega arith in
    nth (orders_at k) (rw (add-zero, next) at (carry (5399 - k) k 0 (rw all-minutes at all_tested))) i

pub rises : StrictlyRising
rises k h = at k h 0

-- The rise over a minute and the correction's part of it: at the start of a minute the sine rises by at most 295,000 to the minute.
pub step : (k : ℕ) → k < 5400 → fine * (entry (suc k) - entry k) + curve * entry k ≤ fine * 295_000
step k h = at k h 1

-- At the end of a minute the sine rises by at least 0.00029 times the cosine, less 174, to the minute; here all of it is multiplied by U.
pub slope :
    (k : ℕ) →
    k < 5400 →
    fine * 290_000 * entry (5400 - k) + unit * (curve * entry k) ≤ unit * (fine * (entry (suc k) - entry k)) + fine * 290_000 * 600_000
slope k h = at k h 2

-- At the end of a minute the sine falls by at most a half to the minute.
pub bent_back : (k : ℕ) → k < 5400 → 2 * (curve * entry k) ≤ 2 * (fine * (entry (suc k) - entry k)) + fine
bent_back k h = at k h 3

-- The correction makes up for the distance of a chord from its arc. The chord goes from sine s and cosine c to s' and c', over e and d.
pub record Arc (s s' e c c' d : ℕ) : Type 0 where
  pub first_high : curve * (s * s + c * c') ≤ half_fine * chord e d + arc_error
  pub first_low : half_fine * chord e d ≤ curve * (s * s + c * c') + arc_error
  pub last_high : curve * (s * s' + c' * c') ≤ half_fine * chord e d + arc_error
  pub last_low : half_fine * chord e d ≤ curve * (s * s' + c' * c') + arc_error

pub arc :
    (k : ℕ) →
    k < 5400 →
    Arc (entry k) (entry (suc k)) (entry (suc k) - entry k) (entry (5400 - k)) (entry (5399 - k)) (entry (5400 - k) - entry (5399 - k))
arc k h = record { first_high = at k h 4; first_low = at k h 5; last_high = at k h 6; last_low = at k h 7 }

-- Single entries, computed.
pub entry_zero : entry 0 ≡ 0
unfolding entry
entry_zero = refl

pub entry_1 : entry 1 ≡ 290_888
unfolding entry
entry_1 = refl

pub entry_59 : 17_000_000 ≤ entry 59
unfolding entry
entry_59 = lit≤ tt

pub entry_300 : 87_000_000 ≤ entry 300
unfolding entry
entry_300 = lit≤ tt

pub entry_1800 : entry 1800 ≡ 500_000_000
unfolding entry
entry_1800 = refl

pub entry_2700 : entry 2700 ≡ 707_106_781
unfolding entry
entry_2700 = refl

pub entry_5399 : entry 5399 ≡ 999_999_958
unfolding entry
entry_5399 = refl

pub entry_last : entry 5400 ≡ unit
unfolding entry
entry_last = refl

-- The sine s and the cosine c of one angle lie on the circle of radius U, but for their rounding.
pub record OnCircle (s c : ℕ) : Type 0 where
  pub not_outside : 5 * (s * s + c * c) ≤ 5 * (unit * unit) + 7 * unit
  pub not_inside : 5 * (unit * unit) ≤ 5 * (s * s + c * c) + 7 * unit

-- The last minute has no next one, so `at` does not reach it.
circle_last : OnCircle (entry 5400) (entry 0)
circle_last = rw (entry_last, entry_zero) (record { not_outside = lit≤ tt; not_inside = lit≤ tt })

pub circle : (k : ℕ) → k ≤ 5400 → OnCircle (entry k) (entry (5400 - k))
circle k h =
    elim (eq-or-lt_of_le h) [ inl e ↦ rw e circle_last | inr l ↦ record { not_outside = at k l 8; not_inside = at k l 9 } ]

rises_by : (d i : ℕ) → d + i ≤ 5400 → entry i ≤ entry (d + i)
rises_by zero i h = rw zero-add (le_refl (entry i))
rises_by (suc d) i h = rw suc-add (le_trans (rises_by d i (omega arith)) (le_of_lt (rises (d + i) (omega arith))))

-- As T rises from each minute to the next, no later entry is below an earlier one, and none is above the last.
pub entry_mono : {i j : ℕ} → i ≤ j → j ≤ 5400 → entry i ≤ entry j
entry_mono {i} {j} h b =
    let sum : j - i + i ≡ j = omega arith in
    rw sum at (rises_by (j - i) i (omega arith))

pub entry_at_most : (k : ℕ) → k ≤ 5400 → entry k ≤ unit
entry_at_most k h = rw entry_last at (entry_mono h (le_refl 5400))
