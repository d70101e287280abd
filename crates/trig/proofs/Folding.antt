-- Any angle has the sine and the cosine of one from 0 to 90°, but for their signs: only its size below 360° counts, with the sine's sign turned where
-- the angle is negative; past 180° that size is taken from 360°, which turns the sine's sign; past 90° from 180°, which turns the cosine's.
-- Assumes nothing.
use mathlib.Core.Path.{◌≡◌, refl, sym, ap, ◌∙◌}
use mathlib.Core.Bool.{Bool, true, false, not, beq}
use mathlib.Core.List.{[], ◌∷◌}
use mathlib.Core.Logic.{◌⊎◌, inl, inr}
use Prim.Native.Nat.{ℕ, suc, ◌+◌, ◌-◌, ◌%◌, ◌<◌, ◌≤◌}
use native.Mathlib.Nat.{mod-lt}
use native.Mathlib.Omega.{arith}
use lib.Dec.{ltb, lit<, leb-suc-zero}
use lib.IntN.{ℤ, pos, negsuc, neg_ℤ, nat_abs, ◌+ℤ◌, ◌-ℤ◌, neg_ℤ-neg_ℤ}
use lib.Signed.{lt_z}
use borrow.Author.Tests.{le-ltb, lt-ltb}
use Rattle.proof_kit.proofs.Order.{le_or_lt}
use Rattle.proof_kit.proofs.Ring.{ring, quote}
use Rattle.proof_kit.proofs.Size.{within, abs_neg}
use Rattle.integers.specs.Near.{signed}
use Rattle.units.specs.Units.{right_angle, half_turn, full_turn}
use Rattle.trig.specs.Sine.{first_quarter, first_half, one_turn, sine, cosine}
use Rattle.trig.specs.InnerFolding.{Folds}
use Rattle.trig.proofs.Symmetry.{half_low, half_high, turn_low, turn_high, sine_first, cosine_first}
use Rattle.trig.proofs.Symmetry.{sine_full_turn, sine_quarter_turn, cosine_quarter_turn, cosine_even}

-- the smaller of x and what x leaves of n
abbrev pub folding : ℕ → ℕ → ℕ
folding n x = x - (x - (n - x))

-- ---- from 0 to 180°

half_folds : (h : ℕ) → h ≤ half_turn → first_half h ≡ first_quarter (folding half_turn h)
half_folds h l = at (le_or_lt h right_angle)
  where
    at : (h ≤ right_angle) ⊎ (right_angle < h) → first_half h ≡ first_quarter (folding half_turn h)
    at (inl e) = half_low e ∙ ap first_quarter (omega arith)
    at (inr e) = half_high e ∙ ap first_quarter (omega arith)

cosine_folds : (h : ℕ) → h ≤ half_turn → cosine (pos h) ≡ signed (ltb right_angle h) (first_quarter (right_angle - folding half_turn h))
cosine_folds h l = at (le_or_lt h right_angle)
  where
    at : (h ≤ right_angle) ⊎ (right_angle < h) → cosine (pos h) ≡ signed (ltb right_angle h) (first_quarter (right_angle - folding half_turn h))
    at (inl e) = rw (le-ltb right_angle h e) (cosine_first h e ∙ ap (λ (x : ℕ). pos (first_quarter x)) (omega arith))
    at (inr e) =
        let past : h ≡ h - right_angle + right_angle = omega arith in
        rw (lt-ltb right_angle h e)
        (ap (λ (x : ℕ). cosine (pos x)) past
        ∙ cosine_quarter_turn (pos (h - right_angle))
        ∙ ap neg_ℤ (sine_first (h - right_angle) (omega arith))
        ∙ ap (λ (x : ℕ). neg_ℤ (pos (first_quarter x))) (omega arith))

-- ---- from 0 to 360°

turn_folds : (n : ℕ) → n < full_turn → one_turn n ≡ signed (ltb half_turn n) (first_quarter (folding half_turn (folding full_turn n)))
turn_folds n l = at (le_or_lt n half_turn)
  where
    at : (n ≤ half_turn) ⊎ (half_turn < n) → one_turn n ≡ signed (ltb half_turn n) (first_quarter (folding half_turn (folding full_turn n)))
    at (inl e) =
        let same : n ≡ folding full_turn n = omega arith in
        rw (le-ltb half_turn n e) (turn_low e ∙ ap pos (half_folds n e ∙ ap (λ (x : ℕ). first_quarter (folding half_turn x)) same))
    at (inr e) =
        let rest : full_turn - n ≡ folding full_turn n = omega arith in
        rw (lt-ltb half_turn n e)
        (turn_high e ∙ ap (λ (x : ℕ). neg_ℤ (pos x)) (half_folds (full_turn - n) (omega arith) ∙ ap (λ (x : ℕ). first_quarter (folding half_turn x)) rest))

cosine_full_turn : (t : ℤ) → cosine (t +ℤ pos full_turn) ≡ cosine t
cosine_full_turn t =
    let swap : t +ℤ pos full_turn +ℤ pos right_angle ≡ t +ℤ pos right_angle +ℤ pos full_turn = ring (t ∷ []) (search quote depth 40 fits 20000) tt in
    sym (sine_quarter_turn (t +ℤ pos full_turn)) ∙ ap sine swap ∙ sine_full_turn (t +ℤ pos right_angle) ∙ sine_quarter_turn t

cosine_rest : (n : ℕ) → n ≤ full_turn → cosine (pos (full_turn - n)) ≡ cosine (pos n)
cosine_rest n l =
    let sum : full_turn - n + n ≡ full_turn = omega arith in
    let back : pos (full_turn - n) ≡ neg_ℤ (pos n) +ℤ pos (full_turn - n + n) = opposite (pos n) (pos (full_turn - n)) in
    ap cosine (back ∙ ap (λ (x : ℕ). neg_ℤ (pos n) +ℤ pos x) sum) ∙ cosine_full_turn (neg_ℤ (pos n)) ∙ cosine_even (pos n)
  where
    opposite : (x y : ℤ) → y ≡ neg_ℤ x +ℤ (y +ℤ x)
    opposite x y = ring (x ∷ y ∷ []) (search quote depth 40 fits 20000) tt

cosine_smaller : (n : ℕ) → n < full_turn → cosine (pos (folding full_turn n)) ≡ cosine (pos n)
cosine_smaller n l = at (le_or_lt n half_turn)
  where
    at : (n ≤ half_turn) ⊎ (half_turn < n) → cosine (pos (folding full_turn n)) ≡ cosine (pos n)
    at (inl e) = ap (λ (x : ℕ). cosine (pos x)) (omega arith)
    at (inr e) = ap (λ (x : ℕ). cosine (pos x)) (omega arith) ∙ cosine_rest n (omega arith)

-- ---- every angle

cosine_mod : (m : ℕ) → cosine (pos m) ≡ cosine (pos (m % full_turn))
unfolding sine
cosine_mod m =
    sym (sine_quarter_turn (pos m)) ∙ ap one_turn (omega arith) ∙ sine_quarter_turn (pos (m % full_turn))

cosine_size : (z : ℤ) → cosine z ≡ cosine (pos (nat_abs z % full_turn))
cosine_size (pos m) = cosine_mod m
cosine_size (negsuc m) = cosine_even (pos (suc m)) ∙ cosine_mod (suc m)

turned : (b : Bool) (x : ℕ) → neg_ℤ (signed b x) ≡ signed (not b) x
turned true x = neg_ℤ-neg_ℤ (pos x)
turned false x = refl

-- what the sine of the size is, with the angle's sign
sine_signed : (z : ℤ) (b : Bool) (x : ℕ) → one_turn (nat_abs z % full_turn) ≡ signed b x → sine z ≡ signed (not (beq (lt_z z (pos 0)) b)) x
unfolding sine
sine_signed (pos m) true x e = rw (leb-suc-zero m) e
sine_signed (pos m) false x e = rw (leb-suc-zero m) e
sine_signed (negsuc m) true x e = ap neg_ℤ e ∙ turned true x
sine_signed (negsuc m) false x e = ap neg_ℤ e ∙ turned false x

pub folds :
    (z : ℤ) →
    let size = nat_abs z % full_turn in
    let half = folding full_turn size in
    Folds z (folding half_turn half) (not (beq (lt_z z (pos 0)) (ltb half_turn size))) (ltb right_angle half)
folds z =
    let size : ℕ = nat_abs z % full_turn in
    let below : size < full_turn = mod-lt (nat_abs z) (lit< tt) in
    record {
      inside = omega arith;
      sine_is = sine_signed z (ltb half_turn size) _ (turn_folds size below);
      cosine_is = cosine_size z ∙ sym (cosine_smaller size below) ∙ cosine_folds (folding full_turn size) (omega arith);
    }

-- ---- close numbers stay as close with a sign

pub neg_gap : (x y : ℤ) → nat_abs (neg_ℤ x -ℤ neg_ℤ y) ≡ nat_abs (x -ℤ y)
neg_gap x y =
    let e : neg_ℤ x -ℤ neg_ℤ y ≡ neg_ℤ (x -ℤ y) = ring (x ∷ y ∷ []) (search quote depth 40 fits 20000) tt in
    ap nat_abs e ∙ abs_neg (x -ℤ y)

pub signed_near : (b : Bool) {x y e : ℕ} → x ≤ y → y ≤ x + e → nat_abs (signed b x -ℤ signed b y) ≤ e
signed_near false {x} {y} low high = within x y (omega arith) high
signed_near true {x} {y} low high = rw (neg_gap (pos x) (pos y)) (within x y (omega arith) high)
