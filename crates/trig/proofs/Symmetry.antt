-- Symmetries of sine and cosine for every integer angle. All follow from two: sine is odd, and sine(180° − t) = sine(t).
-- Assumes nothing.
use mathlib.Core.Path.{◌≡◌, refl, sym, ap, ◌∙◌}
use mathlib.Core.Bool.{Bool, cond}
use mathlib.Core.Logic.{◌⊎◌, inl, inr}
use mathlib.Core.List.{[], ◌∷◌}
use Prim.Native.Nat.{ℕ, zero, suc, ◌+◌, ◌-◌, ◌%◌, ◌<◌, ◌≤◌}
use native.Mathlib.Omega.{arith}
use lib.IntN.{ℤ, pos, negsuc, neg_ℤ, ◌+ℤ◌, ◌-ℤ◌, neg_ℤ-neg_ℤ}
use borrow.Author.Tests.{le-leb, lt-leb}
use Rattle.proof_kit.proofs.Laws.{by_parts, parts--}
use Rattle.proof_kit.proofs.Order.{le_or_lt}
use Rattle.proof_kit.proofs.Ring.{ring, quote}
use Rattle.units.specs.Units.{unit, right_angle, half_turn, full_turn}
use Rattle.trig.specs.Sine.{first_quarter, first_half, one_turn, sine, cosine}
use Rattle.trig.proofs.Quarter.{quarter_zero, quarter_at_most}

pub half_low : {θ : ℕ} → θ ≤ right_angle → first_half θ ≡ first_quarter θ
unfolding first_half
half_low {θ} h = ap (λ (b : Bool). cond b (first_quarter θ) (first_quarter (half_turn - θ))) (le-leb θ right_angle h)

pub half_high : {θ : ℕ} → right_angle < θ → first_half θ ≡ first_quarter (half_turn - θ)
unfolding first_half
half_high {θ} h = ap (λ (b : Bool). cond b (first_quarter θ) (first_quarter (half_turn - θ))) (lt-leb θ right_angle h)

pub turn_low : {θ : ℕ} → θ ≤ half_turn → one_turn θ ≡ pos (first_half θ)
unfolding one_turn
turn_low {θ} h = ap (λ (b : Bool). cond b (pos (first_half θ)) (neg_ℤ (pos (first_half (full_turn - θ))))) (le-leb θ half_turn h)

pub turn_high : {θ : ℕ} → half_turn < θ → one_turn θ ≡ neg_ℤ (pos (first_half (full_turn - θ)))
unfolding one_turn
turn_high {θ} h = ap (λ (b : Bool). cond b (pos (first_half θ)) (neg_ℤ (pos (first_half (full_turn - θ))))) (lt-leb θ half_turn h)

pub half_at_most : (θ : ℕ) → θ ≤ half_turn → first_half θ ≤ unit
half_at_most θ h = at (le_or_lt θ right_angle)
  where
    at : (θ ≤ right_angle) ⊎ (right_angle < θ) → first_half θ ≤ unit
    at (inl l) = rw (half_low l) (quarter_at_most l)
    at (inr l) = rw (half_high l) (quarter_at_most (omega arith))

half_mirror : (m : ℕ) → m ≤ half_turn → first_half (half_turn - m) ≡ first_half m
half_mirror m h = at (le_or_lt m right_angle) (le_or_lt (half_turn - m) right_angle)
  where
    at : (m ≤ right_angle) ⊎ (right_angle < m) → (half_turn - m ≤ right_angle) ⊎ (right_angle < half_turn - m) → first_half (half_turn - m) ≡ first_half m
    at (inl a) (inl b) = let e : half_turn - m ≡ m = omega arith in ap first_half e
    at (inl a) (inr b) = let e : half_turn - (half_turn - m) ≡ m = omega arith in half_high b ∙ ap first_quarter e ∙ sym (half_low a)
    at (inr a) (inl b) = half_low b ∙ sym (half_high a)
    at (inr a) (inr b) = let e : ⊥ = omega arith in absurd e

pub turn_zero : one_turn 0 ≡ pos 0
turn_zero = turn_low (omega arith) ∙ ap pos (half_low (omega arith) ∙ quarter_zero)

-- 180° more turns the sign
turn_opposite : (m : ℕ) → m < half_turn → one_turn (half_turn + m) ≡ neg_ℤ (one_turn m)
turn_opposite zero h =
    turn_low (omega arith) ∙ ap pos (half_high (omega arith) ∙ quarter_zero) ∙ ap neg_ℤ (sym turn_zero)
turn_opposite (suc m) h =
    let e : full_turn - (half_turn + suc m) ≡ half_turn - suc m = omega arith in
    turn_high (omega arith)
    ∙ ap (λ (n : ℕ). neg_ℤ (pos n)) (ap first_half e ∙ half_mirror (suc m) (omega arith))
    ∙ ap neg_ℤ (sym (turn_low (omega arith)))

-- the sine of an angle that is not negative
wave : ℕ → ℤ
wave m = one_turn (m % full_turn)

wave_low : (m : ℕ) → m ≤ half_turn → wave m ≡ pos (first_half m)
unfolding wave
wave_low m h =
    let e : m % full_turn ≡ m = omega arith in
    ap one_turn e ∙ turn_low h

wave_opposite : (m : ℕ) → wave (half_turn + m) ≡ neg_ℤ (wave m)
unfolding wave
wave_opposite m = at (le_or_lt half_turn (m % full_turn))
  where
    at : (half_turn ≤ m % full_turn) ⊎ (m % full_turn < half_turn) → one_turn ((half_turn + m) % full_turn) ≡ neg_ℤ (one_turn (m % full_turn))
    at (inl h) =
        let x : ℕ = m % full_turn - half_turn in
        let small : x < half_turn = omega arith in
        let e : (half_turn + m) % full_turn ≡ x = omega arith in
        let f : m % full_turn ≡ half_turn + x = omega arith in
        ap one_turn e ∙ sym (neg_ℤ-neg_ℤ (one_turn x)) ∙ ap neg_ℤ (sym (turn_opposite x small)) ∙ ap (λ (n : ℕ). neg_ℤ (one_turn n)) (sym f)
    at (inr h) =
        let e : (half_turn + m) % full_turn ≡ half_turn + m % full_turn = omega arith in
        ap one_turn e ∙ turn_opposite (m % full_turn) h

wave_mirror : (m : ℕ) → m ≤ half_turn → wave (half_turn - m) ≡ wave m
wave_mirror m h = wave_low (half_turn - m) (omega arith) ∙ ap pos (half_mirror m h) ∙ sym (wave_low m h)

-- ---- every integer angle

pos_minus : (a b : ℕ) → b ≤ a → pos a -ℤ pos b ≡ pos (a - b)
pos_minus a b h = by_parts (pos a -ℤ pos b) (pos (a - b)) (omega (arith, parts-- (pos a) (pos b)))

sine_pos : (n : ℕ) → sine (pos n) ≡ wave n
unfolding sine wave
sine_pos n = refl

sine_neg : (n : ℕ) → sine (neg_ℤ (pos n)) ≡ neg_ℤ (wave n)
unfolding sine wave
sine_neg zero = turn_zero ∙ ap neg_ℤ (sym turn_zero)
sine_neg (suc n) = refl

pub sine_odd : (t : ℤ) → sine (neg_ℤ t) ≡ neg_ℤ (sine t)
sine_odd (pos n) = sine_neg n ∙ ap neg_ℤ (sym (sine_pos n))
sine_odd (negsuc n) = sine_pos (suc n) ∙ sym (neg_ℤ-neg_ℤ (wave (suc n))) ∙ ap neg_ℤ (sym (sine_neg (suc n)))

pub sine_supplement : (t : ℤ) → sine (pos half_turn -ℤ t) ≡ sine t
sine_supplement (pos n) = at (le_or_lt n half_turn)
  where
    at : (n ≤ half_turn) ⊎ (half_turn < n) → sine (pos half_turn -ℤ pos n) ≡ sine (pos n)
    at (inl h) = ap sine (pos_minus half_turn n h) ∙ sine_pos (half_turn - n) ∙ wave_mirror n h ∙ sym (sine_pos n)
    at (inr h) =
        let x : ℕ = n - half_turn in
        let f : half_turn + x ≡ n = omega arith in
        let turned : pos half_turn -ℤ pos n ≡ neg_ℤ (pos n -ℤ pos half_turn) = ring (pos n ∷ []) (search quote depth 40 fits 20000) tt in
        ap sine (turned ∙ ap neg_ℤ (pos_minus n half_turn (omega arith)))
        ∙ sine_neg x
        ∙ sym (wave_opposite x)
        ∙ ap wave f
        ∙ sym (sine_pos n)
sine_supplement (negsuc n) = sine_pos (half_turn + suc n) ∙ wave_opposite (suc n) ∙ sym (sine_neg (suc n))

pub sine_half_turn : (t : ℤ) → sine (t +ℤ pos half_turn) ≡ neg_ℤ (sine t)
sine_half_turn t =
    let e : pos half_turn -ℤ (t +ℤ pos half_turn) ≡ neg_ℤ t = ring (t ∷ []) (search quote depth 40 fits 20000) tt in
    sym (sine_supplement (t +ℤ pos half_turn)) ∙ ap sine e ∙ sine_odd t

pub sine_full_turn : (t : ℤ) → sine (t +ℤ pos full_turn) ≡ sine t
sine_full_turn t =
    let e : t +ℤ pos full_turn ≡ t +ℤ pos half_turn +ℤ pos half_turn = ring (t ∷ []) (search quote depth 40 fits 20000) tt in
    ap sine e ∙ sine_half_turn (t +ℤ pos half_turn) ∙ ap neg_ℤ (sine_half_turn t) ∙ neg_ℤ-neg_ℤ (sine t)

pub sine_quarter_turn : (t : ℤ) → sine (t +ℤ pos right_angle) ≡ cosine t
unfolding cosine
sine_quarter_turn t =
    let e : pos half_turn -ℤ (t +ℤ pos right_angle) ≡ pos right_angle -ℤ t = ring (t ∷ []) (search quote depth 40 fits 20000) tt in
    sym (sine_supplement (t +ℤ pos right_angle)) ∙ ap sine e

pub cosine_quarter_turn : (t : ℤ) → cosine (t +ℤ pos right_angle) ≡ neg_ℤ (sine t)
unfolding cosine
cosine_quarter_turn t =
    let e : pos right_angle -ℤ (t +ℤ pos right_angle) ≡ neg_ℤ t = ring (t ∷ []) (search quote depth 40 fits 20000) tt in
    ap sine e ∙ sine_odd t

pub cosine_even : (t : ℤ) → cosine (neg_ℤ t) ≡ cosine t
unfolding cosine
cosine_even t =
    let e : pos right_angle -ℤ neg_ℤ t ≡ t +ℤ pos right_angle = ring (t ∷ []) (search quote depth 40 fits 20000) tt in
    ap sine e ∙ sine_quarter_turn t

pub cosine_complement : (t : ℤ) → cosine (pos right_angle -ℤ t) ≡ sine t
unfolding cosine
cosine_complement t =
    let e : pos right_angle -ℤ (pos right_angle -ℤ t) ≡ t = ring (t ∷ []) (search quote depth 40 fits 20000) tt in
    ap sine e

-- ---- from 0 to 180°

pub sine_upper : (θ : ℕ) → θ ≤ half_turn → sine (pos θ) ≡ pos (first_half θ)
sine_upper θ h = sine_pos θ ∙ wave_low θ h

-- ---- from 0 to 90°

pub sine_first : (θ : ℕ) → θ ≤ right_angle → sine (pos θ) ≡ pos (first_quarter θ)
sine_first θ h = sine_upper θ (omega arith) ∙ ap pos (half_low h)

pub cosine_first : (θ : ℕ) → θ ≤ right_angle → cosine (pos θ) ≡ pos (first_quarter (right_angle - θ))
unfolding cosine
cosine_first θ h = ap sine (pos_minus right_angle θ h) ∙ sine_first (right_angle - θ) (omega arith)
