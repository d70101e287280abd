-- One test at an angle. From each mas of a minute to the next the sine rises, and the cosine falls, by at least a 60,000th of what it does over the
-- minute, less 1 for the roundings and a little for the bend (quarter-step-least). So cosine(θ)·q − sine(θ)·p falls by a known amount at
-- least, and where it is nearer to 0 than that, its sign changes from theta to the next mas, or from the one before to theta. Assumes nothing.
use mathlib.Core.Path.{◌≡◌, ap, ◌∙◌}
use Prim.Native.Nat.{ℕ, suc, ◌+◌, ◌-◌, ◌*◌, ◌/◌, ◌%◌, ◌<◌, ◌≤◌}
use native.Mathlib.Nat.{mul-le-mul_left, div-add-mod'}
use native.Mathlib.Omega.{arith}
use borrow.Author.Tests.{le-leb, lt-leb}
use Rattle.integers.specs.Greatest.{greatest}
use Rattle.integers.proofs.Greatest.{greatest_edge}
use Rattle.units.specs.Units.{minute, right_angle}
use Rattle.trig.specs.Sine.{first_quarter}
use Rattle.trig.specs.InnerCorrection.{rise_of}
use Rattle.trig.proofs.Quarter.{quarter_step_least}
use Rattle.angles.specs.Angle.{under}
use Rattle.angles.specs.InnerThreshold.{under_is, under_falls}

-- what the roundings and the bend may take of the fall
abbrev pub slack : ℕ → ℕ
slack n = n + n / 1_024

-- a·p rises to a'·p and b·q falls to b'·q; b·q is at most d above a·p before, and below a'·p after
passes :
    (p q a a' b b' D E d : ℕ) →
    minute * a + D ≤ minute * a' + 60_042 →
    minute * b' + E ≤ minute * b + 60_042 →
    b * q ≤ a * p + d →
    d + slack (p + q) < (D * p + E * q) / minute →
    b' * q < a' * p
passes p q a a' b b' D E d up down near far = omega (arith, mul-le-mul_left p up, mul-le-mul_left q down)

-- the sine from one mas of minute n to the next
rises : (n x y : ℕ) → x < right_angle → x / minute ≡ n → y ≡ suc x → minute * first_quarter x + rise_of n ≤ minute * first_quarter y + 60_042
rises n x y h e f = rw (← e, f) (quarter_step_least x h)

-- the two sides of the test at an angle
abbrev pub left : ℕ → ℕ → ℕ
left p θ = first_quarter θ * p

abbrev pub right : ℕ → ℕ → ℕ
right q θ = first_quarter (right_angle - θ) * q

module _ (p q θ : ℕ) (later : 0 < θ % minute) (inside : θ ≤ right_angle) where
  abbrev k : ℕ
  k = θ / minute

  -- the minute that lies as far from 90°
  abbrev j : ℕ
  j = 5400 - 1 - k

  abbrev s : ℕ
  s = left p θ

  abbrev c : ℕ
  c = right q θ

  abbrev pub fall : ℕ
  fall = (rise_of k * p + rise_of j * q) / minute

  -- where theta is under, the next mas is not
  next : s ≤ c → c - s + slack (p + q) < fall → right q (suc θ) < left p (suc θ)
  next here far =
      passes p q (first_quarter θ) (first_quarter (suc θ)) (first_quarter (right_angle - θ)) (first_quarter (right_angle - suc θ))
      (rise_of k) (rise_of j) (c - s)
      (rises k θ (suc θ) (omega arith) (omega arith) (omega arith))
      (rises j (right_angle - suc θ) (right_angle - θ) (omega arith) (omega arith) (omega arith))
      (omega arith) far

  -- where it is not, the mas before is: the same with sine and cosine, p and q exchanged
  before : c < s → s - c + slack (p + q) < fall → left p (θ - 1) < right q (θ - 1)
  before past far =
      passes q p (first_quarter (right_angle - θ)) (first_quarter (right_angle - (θ - 1))) (first_quarter θ) (first_quarter (θ - 1))
      (rise_of j) (rise_of k) (s - c)
      (rises j (right_angle - θ) (right_angle - (θ - 1)) (omega arith) (omega arith) (omega arith))
      (rises k (θ - 1) θ (omega arith) (omega arith) (omega arith))
      (omega arith) (omega arith)

  -- where theta is under and settled, it is the greatest that is
  pub settled_here : s ≤ c → c - s + slack (p + q) < fall → greatest (under p q) right_angle ≡ θ
  settled_here here far =
      greatest_edge (under p q) right_angle (under_falls p q) θ (omega arith)
      (under_is p q θ inside ∙ le-leb s c here)
      (under_is p q (suc θ) (omega arith) ∙ lt-leb (left p (suc θ)) (right q (suc θ)) (next here far))

  -- and where it is not, the mas before
  pub settled_before : c < s → s - c + slack (p + q) < fall → greatest (under p q) right_angle ≡ θ - 1
  settled_before past far =
      let one_on : suc (θ - 1) ≡ θ = omega arith in
      let passed : left p (θ - 1) < right q (θ - 1) = before past far in
      greatest_edge (under p q) right_angle (under_falls p q) (θ - 1) (omega arith)
      (under_is p q (θ - 1) (omega arith) ∙ le-leb (left p (θ - 1)) (right q (θ - 1)) (omega arith))
      (ap (under p q) one_on ∙ under_is p q θ inside ∙ lt-leb s c past)

-- ---- as the code works it out: s and c are the sine and the cosine, d and e the rises, and the two sides are at most `gap` apart

module _ (p q θ : ℕ) (inside : θ ≤ right_angle) (later : θ % minute ≡ 0 → ⊥) where
  abbrev angle_again : ℕ
  angle_again = θ / minute * minute + θ % minute

  module _
      (s c d e gap : ℕ)
      (s_is : s ≡ first_quarter angle_again)
      (c_is : c ≡ first_quarter (right_angle - angle_again))
      (d_is : d ≡ rise_of (θ / minute))
      (e_is : e ≡ rise_of (5400 - 1 - θ / minute))
      (far : gap + slack (p + q) < (d * p + e * q) / minute) where
    left_is : s * p ≡ left p θ
    left_is = ap (λ (x : ℕ). x * p) (s_is ∙ ap first_quarter (div-add-mod' θ minute))

    right_is : c * q ≡ right q θ
    right_is = ap (λ (x : ℕ). x * q) (c_is ∙ ap (λ (x : ℕ). first_quarter (right_angle - x)) (div-add-mod' θ minute))

    some_later : 0 < θ % minute
    some_later = omega (arith, later)

    falls_more : gap + slack (p + q) < fall p q θ some_later inside
    falls_more = omega (arith, far, ap (λ (x : ℕ). x * p) d_is, ap (λ (x : ℕ). x * q) e_is)

    pub tried_here : s * p ≤ c * q → c * q - s * p ≤ gap → greatest (under p q) right_angle ≡ θ
    tried_here h near = settled_here p q θ some_later inside (omega (arith, h, left_is, right_is)) (omega (arith, near, falls_more, left_is, right_is))

    pub tried_before : c * q < s * p → s * p - c * q ≤ gap → greatest (under p q) right_angle ≡ θ - 1
    tried_before h near = settled_before p q θ some_later inside (omega (arith, h, left_is, right_is)) (omega (arith, near, falls_more, left_is, right_is))
