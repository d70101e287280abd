-- The cross law. The cross product of two angles t and θ, sine(θ)·cosine(t) − cosine(θ)·sine(t), says how far apart they are: from t to t + n, at most a
-- minute further, it is at least (24n − 10)/5 · U. In the first quadrant that follows from how fast the sine rises and the cosine falls there; it holds at
-- every angle, because a quarter turn keeps the cross product. Assumes nothing.
use mathlib.Core.Path.{◌≡◌}
use mathlib.Core.List.{[], ◌∷◌}
use Prim.Native.Nat.{ℕ, ◌+◌, ◌-◌, ◌*◌, ◌<◌, ◌≤◌}
use native.Mathlib.Decide.{dec_le}
use native.Mathlib.Omega.{arith}
use lib.Signed.{◌≤ℤ◌}
use lib.IntN.{ℤ, pos, neg_ℤ, ◌+ℤ◌, ◌-ℤ◌, ◌*ℤ◌, +ℤ_idr}
use Rattle.proof_kit.proofs.Ring.{ring, quote}
use Rattle.proof_kit.proofs.Order.{abs_upper}
use Rattle.proof_kit.proofs.Certificate.{certify, nonneg, nonneg_num}
use Rattle.units.specs.Units.{unit, minute, right_angle}
use Rattle.trig.specs.Sine.{sine, cosine}
use Rattle.trig.proofs.Interface.{A, sine_quarter_turn, cosine_quarter_turn, sine_slope, cosine_size, sine_zero, cosine_zero, sine_nonneg, cosine_nonneg}
use Rattle.trig.proofs.Turns.{every_angle}
use Rattle.round_trip.proofs.Circle.{swap_turn, sine_before, cosine_before, cosine_near, outside_circle, sine_plus_cosine}

unfoldable pub cross : ℤ → ℤ → ℤ
cross t θ = sine θ *ℤ cosine t -ℤ cosine θ *ℤ sine t

-- a quarter turn of both angles keeps it
cross_turn : (t θ : ℤ) → cross (t +ℤ pos right_angle) (θ +ℤ pos right_angle) ≡ cross t θ
unfolding cross
cross_turn t θ =
    rw (sine_quarter_turn t, cosine_quarter_turn t, sine_quarter_turn θ, cosine_quarter_turn θ)
    (ring (sine t ∷ cosine t ∷ sine θ ∷ cosine θ ∷ []) (search quote depth 40 fits 20000) tt)

-- of t and t + 90° it is sine² + cosine²
pub cross_right : (t : ℤ) → cross t (t +ℤ pos right_angle) ≡ sine t *ℤ sine t +ℤ cosine t *ℤ cosine t
unfolding cross
cross_right t =
    rw (sine_quarter_turn t, cosine_quarter_turn t)
    (ring (sine t ∷ cosine t ∷ []) (search quote depth 40 fits 20000) tt)

-- ---- two inequalities, each by a sum that is 6U times the difference of its sides

-- 6U times the rise of the sine over n mas, at least: c is the cosine at their end
abbrev rise : ℤ → ℤ → ℤ
rise n c = pos 29 *ℤ (n *ℤ (c -ℤ pos 600_000)) -ℤ pos (6 * unit)

-- s, c and s', c' are sine and cosine at two angles from 0 to 90°, n apart
within_quarter :
    (n s c s' c' : ℤ) →
    pos 0 ≤ℤ n →
    pos 0 ≤ℤ s →
    pos 0 ≤ℤ c →
    c ≤ℤ pos unit →
    c ≤ℤ (c' +ℤ pos 300_000) →
    (pos 2 *ℤ (s +ℤ c)) ≤ℤ pos (3 * unit) →
    (pos unit *ℤ pos unit) ≤ℤ (s *ℤ s +ℤ c *ℤ c +ℤ pos (A * unit)) →
    rise n c' ≤ℤ (pos (6 * unit) *ℤ (s' -ℤ s)) →
    rise n s ≤ℤ (pos (6 * unit) *ℤ (c -ℤ c')) →
    ((pos 24 *ℤ n -ℤ pos 10) *ℤ pos unit) ≤ℤ (pos 5 *ℤ (s' *ℤ c -ℤ c' *ℤ s))
within_quarter n s c s' c' n0 s0 c0 c1 near sum circle sine_rises cosine-falls =
    certify (n ∷ s ∷ c ∷ s' ∷ c' ∷ []) (6 * unit)
    (pos 5 *ℤ c *ℤ (pos (6 * unit) *ℤ (s' -ℤ s) -ℤ rise n c')
    +ℤ pos 5 *ℤ s *ℤ (pos (6 * unit) *ℤ (c -ℤ c') -ℤ rise n s)
    +ℤ pos 145 *ℤ n *ℤ (s *ℤ s +ℤ c *ℤ c +ℤ pos (A * unit) -ℤ pos unit *ℤ pos unit)
    +ℤ pos 145 *ℤ n *ℤ c *ℤ (c' +ℤ pos 300_000 -ℤ c)
    +ℤ pos (145 * 300_000) *ℤ n *ℤ (pos unit -ℤ c)
    +ℤ (pos (145 * 300_000) *ℤ n +ℤ pos (15 * unit)) *ℤ (pos (3 * unit) -ℤ pos 2 *ℤ (s +ℤ c))
    +ℤ pos (unit * (unit - 145 * (A + 1_200_000))) *ℤ n
    +ℤ pos (15 * unit * unit))
    (search nonneg depth 40 fits 20000) (search quote depth 40 fits 20000) tt

-- s and c are sine and cosine of an angle a of at most a minute
record Small (a s c : ℤ) : Type 0 where
  angle_nonneg : pos 0 ≤ℤ a
  cosine_nonneg : pos 0 ≤ℤ c
  cosine_below : c ≤ℤ pos unit
  cosine_near : pos unit ≤ℤ (c +ℤ pos 300_000)
  sine_rises : rise a c ≤ℤ (pos (6 * unit) *ℤ s)

-- one angle is a before 90°, the other b after it
across_right :
    (a b sa ca sb cb : ℤ) →
    Small a sa ca →
    Small b sb cb →
    ((pos 24 *ℤ (a +ℤ b) -ℤ pos 10) *ℤ pos unit) ≤ℤ (pos 5 *ℤ (cb *ℤ sa -ℤ neg_ℤ sb *ℤ ca))
across_right a b sa ca sb cb before after =
    certify (a ∷ b ∷ sa ∷ ca ∷ sb ∷ cb ∷ []) (6 * unit)
    (pos 5 *ℤ cb *ℤ (pos (6 * unit) *ℤ sa -ℤ rise a ca)
    +ℤ pos 5 *ℤ ca *ℤ (pos (6 * unit) *ℤ sb -ℤ rise b cb)
    +ℤ pos (145 * unit) *ℤ (a +ℤ b) *ℤ ((ca +ℤ pos 300_000 -ℤ pos unit) +ℤ (cb +ℤ pos 300_000 -ℤ pos unit))
    +ℤ pos 145 *ℤ (a +ℤ b) *ℤ ((pos unit -ℤ ca) *ℤ (pos unit -ℤ cb))
    +ℤ pos (145 * 600_000) *ℤ (a *ℤ (pos unit -ℤ cb) +ℤ b *ℤ (pos unit -ℤ ca))
    +ℤ pos (30 * unit) *ℤ ((pos unit -ℤ ca) +ℤ (pos unit -ℤ cb))
    +ℤ pos (unit * (unit - 145 * 1_200_000)) *ℤ (a +ℤ b))
    (search nonneg depth 40 fits 20000) (search quote depth 40 fits 20000) tt

-- ---- the law

-- from t to t + n the cross product is at least (24n − 10)/5 U
abbrev Apart : ℤ → ℕ → Type 0
Apart t n = ((pos 24 *ℤ pos n -ℤ pos 10) *ℤ pos unit) ≤ℤ (pos 5 *ℤ cross t (t +ℤ pos n))

-- t and t + n are both from 0 to 90°
apart_within : (θ n : ℕ) → n ≤ minute → n + θ ≤ right_angle → Apart (pos θ) n
unfolding cross
apart_within θ n m h =
    let e : n + θ ≡ θ + n = omega arith in
    let f : n + (right_angle - (θ + n)) ≡ right_angle - θ = omega arith in
    within_quarter (pos n) (sine (pos θ)) (cosine (pos θ)) (sine (pos (θ + n))) (cosine (pos (θ + n)))
    (nonneg_num n)
    (sine_nonneg θ (omega arith))
    (cosine_nonneg (pos θ) (omega arith))
    (abs_upper (cosine (pos θ)) (cosine_size (pos θ)))
    (cosine_near n (pos θ) m)
    (sine_plus_cosine (pos θ))
    (outside_circle (pos θ))
    (rw e at (sine_slope n θ h))
    (rw (f, cosine_before θ (omega arith), sine_before θ (omega arith), sine_before (θ + n) (omega arith)) at
    (sine_slope n (right_angle - (θ + n)) (omega arith)))

-- it holds of the angles up to a minute
small : (a : ℕ) → a ≤ minute → Small (pos a) (sine (pos a)) (cosine (pos a))
small a h =
    let e : a + 0 ≡ a = omega arith in
    let f : 0 + a ≡ a = omega arith in
    record {
      angle_nonneg = nonneg_num a;
      cosine_nonneg = cosine_nonneg (pos a) (omega arith);
      cosine_below = abs_upper (cosine (pos a)) (cosine_size (pos a));
      cosine_near = rw (f, cosine_zero) at (cosine_near a (pos 0) h);
      sine_rises = rw (e, sine_zero, +ℤ_idr (sine (pos a))) at (sine_slope a 0 (omega arith));
    }

-- t is before 90° and t + n after it
apart_across : (a b : ℕ) → a + b ≤ minute → Apart (pos (right_angle - a)) (a + b)
unfolding cross
apart_across a b m =
    let e : right_angle - a + (a + b) ≡ b + right_angle = omega arith in
    rw (e, sine_quarter_turn (pos b), cosine_quarter_turn (pos b), sine_before a (omega arith), cosine_before a (omega arith))
    (across_right (pos a) (pos b) (sine (pos a)) (cosine (pos a)) (sine (pos b)) (cosine (pos b)) (small a (omega arith)) (small b (omega arith)))

-- t is from 0 to 90°
apart_quarter : (θ : ℕ) → θ < right_angle → (n : ℕ) → n ≤ minute → Apart (pos θ) n
apart_quarter θ l n m = go (dec_le (n + θ) right_angle)
  where
    go : Dec (n + θ ≤ right_angle) → Apart (pos θ) n
    go (yes h) = apart_within θ n m h
    go (no h) =
        let a : ℕ = right_angle - θ in
        let b : ℕ = n - a in
        let e : right_angle - a ≡ θ = omega arith in
        let f : a + b ≡ n = omega arith in
        rw (e, f) at (apart_across a b (omega arith))

-- t is any angle
pub cross_law : (t : ℤ) (n : ℕ) → n ≤ minute → ((pos 24 *ℤ pos n -ℤ pos 10) *ℤ pos unit) ≤ℤ (pos 5 *ℤ cross t (t +ℤ pos n))
cross_law =
    every_angle (λ t. (n : ℕ) → n ≤ minute → Apart t n) apart_quarter
    (λ t h n m. rw (swap_turn t n, cross_turn t (t +ℤ pos n)) (h n m))
    (λ t h n m. rw (swap_turn t n, cross_turn t (t +ℤ pos n)) at (h n m))
