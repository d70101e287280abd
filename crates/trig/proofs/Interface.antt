-- The laws of sine and cosine, for every integer angle: what the other crates know of them. Each is true from 0 to 90° by the laws of the
-- first quarter, and at every angle because a quarter turn exchanges sine and cosine but for a sign. Nothing above this file looks into the
-- table or between its minutes, but for `angles`, whose search is from 0 to 90° and whose test takes the rises over a minute. Assumes nothing.
use mathlib.Core.Path.{◌≡◌, refl, sym, ap, ◌∙◌}
use mathlib.Core.List.{[], ◌∷◌}
use Prim.Native.Nat.{ℕ, zero, suc, ◌+◌, ◌-◌, ◌*◌, ◌<◌, ◌≤◌}
use native.Mathlib.Nat.{le_trans}
use native.Mathlib.Numerals.{add-one}
use native.Mathlib.Omega.{arith}
use lib.Signed.{◌≤ℤ◌}
use lib.IntN.{ℤ, pos, negsuc, neg_ℤ, nat_abs, ◌+ℤ◌, ◌-ℤ◌, ◌*ℤ◌, +ℤ_idr, +ℤ_invr, +ℤ_assoc}
use Rattle.proof_kit.proofs.Ring.{ring, quote}
use Rattle.proof_kit.proofs.Order.{pos-≤ℤ, le_by}
use Rattle.proof_kit.proofs.Size.{within, abs_neg, abs_via, abs_sub_sym}
use Rattle.units.specs.Units.{unit, right_angle, half_turn}
use Rattle.sine_table.proofs.Laws.{entry_59, entry_300}
use Rattle.trig.specs.Sine.{first_quarter, sine, cosine}
use Rattle.trig.specs.Theorems.{NeverFalls}
use Rattle.trig.proofs.Quarter.{quarter_mono, quarter_step, quarter_slope, quarter_circle, quarter_at_most, quarter_minute}
use Rattle.trig.proofs.Quarter.{quarter_zero, quarter_right}
use Rattle.trig.proofs.Symmetry.{sine_first, cosine_first, sine_upper}
pub use Rattle.trig.proofs.Symmetry.{sine_odd, sine_supplement, sine_half_turn, sine_full_turn, sine_quarter_turn}
pub use Rattle.trig.proofs.Symmetry.{cosine_quarter_turn, cosine_even, cosine_complement}
use Rattle.trig.proofs.Folding.{neg_gap}
use Rattle.trig.proofs.Turns.{bounded}

-- ---- range

within_unit : (t : ℤ) → (nat_abs (sine t) ≤ unit) × (nat_abs (cosine t) ≤ unit)
within_unit =
    bounded (λ t. nat_abs (sine t)) (λ t. nat_abs (cosine t)) unit
    (λ θ h. (rw (sine_first θ (omega arith)) (quarter_at_most (omega arith)), rw (cosine_first θ (omega arith)) (quarter_at_most (omega arith))))
    (λ t. ap nat_abs (sine_quarter_turn t))
    (λ t. ap nat_abs (cosine_quarter_turn t) ∙ abs_neg (sine t))

pub sine_size : (t : ℤ) → nat_abs (sine t) ≤ unit
sine_size t = (within_unit t).0

pub cosine_size : (t : ℤ) → nat_abs (cosine t) ≤ unit
cosine_size t = (within_unit t).1

-- ---- step: at most 5 for each mas

close : (θ : ℕ) → θ < right_angle → nat_abs (pos (first_quarter (suc θ)) -ℤ pos (first_quarter θ)) ≤ 5
close θ h =
    within (first_quarter (suc θ)) (first_quarter θ) (quarter_step θ h)
    (le_trans (quarter_mono {a = θ} {b = suc θ} (omega arith) h) (omega arith))

steps_base :
    (θ : ℕ) →
    θ < right_angle →
    (nat_abs (sine (pos θ +ℤ pos 1) -ℤ sine (pos θ)) ≤ 5) × (nat_abs (cosine (pos θ +ℤ pos 1) -ℤ cosine (pos θ)) ≤ 5)
steps_base θ h =
    let next : θ + 1 ≡ suc θ = omega arith in
    let before : ℕ = right_angle - suc θ in
    let back : right_angle - θ ≡ suc before = omega arith in (
      rw (next, sine_first (suc θ) h, sine_first θ (omega arith)) (close θ h),
      rw (next, cosine_first (suc θ) h, cosine_first θ (omega arith), back, abs_sub_sym (pos (first_quarter before)) (pos (first_quarter (suc before))))
          (close before (omega arith)),
    )

swap : (t : ℤ) → t +ℤ pos right_angle +ℤ pos 1 ≡ t +ℤ pos 1 +ℤ pos right_angle
swap t = ring (t ∷ []) (search quote depth 40 fits 20000) tt

steps : (t : ℤ) → (nat_abs (sine (t +ℤ pos 1) -ℤ sine t) ≤ 5) × (nat_abs (cosine (t +ℤ pos 1) -ℤ cosine t) ≤ 5)
steps =
    bounded (λ t. nat_abs (sine (t +ℤ pos 1) -ℤ sine t)) (λ t. nat_abs (cosine (t +ℤ pos 1) -ℤ cosine t)) 5 steps_base
    (λ t. rw (swap t, sine_quarter_turn (t +ℤ pos 1), sine_quarter_turn t))
    (λ t. rw (swap t, cosine_quarter_turn (t +ℤ pos 1), cosine_quarter_turn t) (neg_gap (sine (t +ℤ pos 1)) (sine t)))

pub sine_step : (t : ℤ) → nat_abs (sine (t +ℤ pos 1) -ℤ sine t) ≤ 5
sine_step t = (steps t).0

-- by n mas the sine changes by at most 5n
pub sine_change : (n : ℕ) (t : ℤ) → nat_abs (sine (t +ℤ pos n) -ℤ sine t) ≤ 5 * n
sine_change zero t =
    let none : sine t -ℤ sine t ≡ pos 0 = +ℤ_invr (sine t) in
    rw (+ℤ_idr t, none) (omega arith)
sine_change (suc n) t =
    let more : t +ℤ pos (suc n) ≡ t +ℤ pos n +ℤ pos 1 = ap (λ (m : ℕ). t +ℤ pos m) (sym (add-one n)) ∙ sym (+ℤ_assoc t (pos n) (pos 1)) in
    rw more
    (omega (arith, abs_via (sine (t +ℤ pos n +ℤ pos 1)) (sine (t +ℤ pos n)) (sine t), sine_step (t +ℤ pos n), sine_change n t))

-- between any two angles
pub sine_apart : (x y : ℤ) → nat_abs (sine x -ℤ sine y) ≤ 5 * nat_abs (x -ℤ y)
sine_apart x y = at (x -ℤ y) refl
  where
    back : (x y : ℤ) → x ≡ y +ℤ (x -ℤ y)
    back x y = ring (x ∷ y ∷ []) (search quote depth 40 fits 20000) tt

    forth : (x y : ℤ) → y ≡ x +ℤ neg_ℤ (x -ℤ y)
    forth x y = ring (x ∷ y ∷ []) (search quote depth 40 fits 20000) tt

    at : (z : ℤ) → x -ℤ y ≡ z → nat_abs (sine x -ℤ sine y) ≤ 5 * nat_abs z
    at (pos n) e = rw (back x y ∙ ap (λ (w : ℤ). y +ℤ w) e) (sine_change n y)
    at (negsuc n) e =
        rw (abs_sub_sym (sine x) (sine y), forth x y ∙ ap (λ (w : ℤ). x +ℤ neg_ℤ w) e) (sine_change (suc n) x)

pub cosine_apart : (x y : ℤ) → nat_abs (cosine x -ℤ cosine y) ≤ 5 * nat_abs (x -ℤ y)
cosine_apart x y =
    rw (shifted x y (pos right_angle), ← (sine_quarter_turn x), ← (sine_quarter_turn y)) (sine_apart (x +ℤ pos right_angle) (y +ℤ pos right_angle))
  where
    shifted : (x y r : ℤ) → x -ℤ y ≡ (x +ℤ r) -ℤ (y +ℤ r)
    shifted x y r = ring (x ∷ y ∷ r ∷ []) (search quote depth 40 fits 20000) tt

-- ---- sine² + cosine²

-- A: sine² + cosine² differs from U² by at most A·U
abbrev pub A : ℕ
A = 3

radius_gap : ℤ → ℕ
radius_gap t = nat_abs (sine t *ℤ sine t +ℤ cosine t *ℤ cosine t -ℤ pos unit *ℤ pos unit)

turned : (s c : ℤ) → c *ℤ c +ℤ neg_ℤ s *ℤ neg_ℤ s -ℤ pos unit *ℤ pos unit ≡ s *ℤ s +ℤ c *ℤ c -ℤ pos unit *ℤ pos unit
turned s c = ring (s ∷ c ∷ []) (search quote depth 40 fits 20000) tt

radius_turn : (t : ℤ) → radius_gap (t +ℤ pos right_angle) ≡ radius_gap t
unfolding radius_gap
radius_turn t =
    rw (sine_quarter_turn t, cosine_quarter_turn t) (ap nat_abs (turned (sine t) (cosine t)))

radius_base : (θ : ℕ) → θ < right_angle → radius_gap (pos θ) ≤ A * unit
unfolding radius_gap
radius_base θ h =
    let c = quarter_circle θ (omega arith) in
    rw (sine_first θ (omega arith), cosine_first θ (omega arith))
    (within _ (unit * unit) c.not_outside c.not_inside)

pub near_circle : (t : ℤ) → nat_abs (sine t *ℤ sine t +ℤ cosine t *ℤ cosine t -ℤ pos unit *ℤ pos unit) ≤ A * unit
unfolding radius_gap
near_circle t = (bounded radius_gap radius_gap (A * unit) (λ θ h. (radius_base θ h, radius_base θ h)) radius_turn radius_turn t).0

-- ---- values

pub sine_zero : sine (pos 0) ≡ pos 0
sine_zero = sine_first 0 (omega arith) ∙ ap pos quarter_zero

pub sine_right : sine (pos right_angle) ≡ pos unit
sine_right = sine_first right_angle (omega arith) ∙ ap pos quarter_right

pub cosine_zero : cosine (pos 0) ≡ pos unit
cosine_zero = cosine_first 0 (omega arith) ∙ ap pos quarter_right

pub cosine_right : cosine (pos right_angle) ≡ pos 0
cosine_right = cosine_first right_angle (omega arith) ∙ ap pos quarter_zero

-- 59 minutes and 5°
pub sine_59_minutes : pos 17_000_000 ≤ℤ sine (pos 3_540_000)
sine_59_minutes = rw (sine_first 3_540_000 (omega arith), quarter_minute 59) (pos-≤ℤ entry_59)

pub sine_5_degrees : pos 87_000_000 ≤ℤ sine (pos 18_000_000)
sine_5_degrees = rw (sine_first 18_000_000 (omega arith), quarter_minute 300) (pos-≤ℤ entry_300)

-- ---- signs

pub sine_nonneg : (θ : ℕ) → θ ≤ half_turn → pos 0 ≤ℤ sine (pos θ)
sine_nonneg θ h = rw (sine_upper θ h) (pos-≤ℤ (omega arith))

pub cosine_nonneg : (t : ℤ) → nat_abs t ≤ right_angle → pos 0 ≤ℤ cosine t
cosine_nonneg (pos θ) h = rw (cosine_first θ h) (pos-≤ℤ (omega arith))
cosine_nonneg (negsuc θ) h = rw (cosine_even (pos (suc θ)), cosine_first (suc θ) h) (pos-≤ℤ (omega arith))

-- ---- never falling from 0 to 90°

pub sine_mono : (a b : ℕ) → a ≤ b → b ≤ right_angle → sine (pos a) ≤ℤ sine (pos b)
sine_mono a b h l = rw (sine_first a (le_trans h l), sine_first b l) (pos-≤ℤ (quarter_mono h l))

pub never_falls : NeverFalls
never_falls = sine_mono

pub cosine_anti : (a b : ℕ) → a ≤ b → b ≤ right_angle → cosine (pos b) ≤ℤ cosine (pos a)
cosine_anti a b h l =
    rw (cosine_first a (le_trans h l), cosine_first b l)
    (pos-≤ℤ (quarter_mono {a = right_angle - b} {b = right_angle - a} (omega arith) (omega arith)))

-- ---- the slope from below: from t to t + n the sine rises by nearly n·cosine(t + n) at least

as_integers :
    (n c s s' : ℕ) →
    6 * unit * s + 29 * (n * c) ≤ 6 * unit * s' + n * 17_400_000 + 6 * unit →
    (pos 29 *ℤ (pos n *ℤ (pos c -ℤ pos 600_000)) -ℤ pos (6 * unit)) ≤ℤ (pos (6 * unit) *ℤ (pos s' -ℤ pos s))
as_integers n c s s' h =
    le_by (pos n ∷ pos c ∷ pos s ∷ pos s' ∷ []) (search quote depth 40 fits 20000) (omega arith)

pub sine_slope :
    (n t : ℕ) →
    n + t ≤ right_angle →
    (pos 29 *ℤ (pos n *ℤ (cosine (pos (n + t)) -ℤ pos 600_000)) -ℤ pos (6 * unit)) ≤ℤ (pos (6 * unit) *ℤ (sine (pos (n + t)) -ℤ sine (pos t)))
sine_slope n t h =
    rw (cosine_first (n + t) h, sine_first (n + t) h, sine_first t (omega arith))
    (as_integers n (first_quarter (right_angle - (n + t))) (first_quarter t) (first_quarter (n + t)) (quarter_slope n t h))
