-- The root by its binary digits from the highest on. Where the digits taken so far are worth z and those that are left are worth less than w, the
-- root lies from z to z + w − 1, and the next digit is worth w/2. It is taken where the square of z + w/2, which is z² + z·w + w²/4, is at
-- most n. Assumes nothing.
use mathlib.Core.Path.{◌≡◌, refl, sym, ap, subst}
use mathlib.Core.Bool.{Bool, true, false, cond}
use Prim.Native.Nat.{ℕ, zero, suc, ◌+◌, ◌*◌, ◌/◌, ◌^◌, ◌<◌, ◌≤◌, zero-le}
use native.Mathlib.Nat.{mul-pos, one-le-pow, pow-succ', zero-add}
use native.Mathlib.Omega.{arith}
use lib.Dec.{leb}
use lib.Pow.{pow_pos, pow_mono}
use borrow.Author.Tests.{leb-true, leb-false}
use Rattle.integers.specs.declared.TakenDigits.{TakenDigits}
use Rattle.integers.specs.Root.{root}
use Rattle.integers.specs.Rounds.{next_digit, rounds, none_taken}
use Rattle.integers.proofs.Squares.{root_is, square_mono}

-- What the code holds of z and w: `bit` is the square of w/2, and 0 once w is 1 and no digit is left; `trial` is the square of z + w/2 till then.
pub record Digits (n w z bit square r trial : ℕ) : Type 0 where
  pub bit_is : bit ≡ w * w / 4
  pub square_is : square ≡ z * z
  pub r_is : r ≡ z * w
  pub trial_is : trial ≡ z * z + z * w + w * w / 4
  pub low : z * z ≤ n
  pub high : n < (z + w) * (z + w)
  pub within : z + w ≤ 2 ^ 32

-- what a round makes of it, with w = 2·v
digit_not_taken :
    (n v z bit square r trial : ℕ) →
    Digits n (2 * v) z bit square r trial →
    n < trial →
    Digits n v z (bit / 4) square (r / 2) (square + r / 2 + bit / 4)
digit_not_taken n v z bit square r trial d h =
    record {
      bit_is = omega (arith, d.bit_is);
      square_is = d.square_is;
      r_is = omega (arith, d.r_is);
      trial_is = omega (arith, d.bit_is, d.square_is, d.r_is);
      low = d.low;
      high = omega (arith, d.trial_is);
      within = omega (arith, d.within);
    }

digit_taken :
    (n v z bit square r trial : ℕ) →
    Digits n (2 * v) z bit square r trial →
    trial ≤ n →
    Digits n v (z + v) (bit / 4) trial (r / 2 + bit) (trial + bit + r / 2 + bit / 4)
digit_taken n v z bit square r trial d h =
    record {
      bit_is = omega (arith, d.bit_is);
      square_is = omega (arith, d.trial_is);
      r_is = omega (arith, d.r_is, d.bit_is);
      trial_is = omega (arith, d.bit_is, d.r_is, d.trial_is);
      low = omega (arith, d.trial_is);
      high = omega (arith, d.high);
      within = omega (arith, d.within);
    }

-- The loop's invariant: `left` digits are still to be tried, or none, and w is 2 to the power of `left`.
pub record Tried (n bit square r trial : ℕ) : Type 0 where
  pub left : ℕ
  pub z : ℕ
  pub digits : Digits n (2 ^ left) z bit square r trial

-- none has been tried
pub none_tried : (n k bit : ℕ) → bit ≡ 2 ^ k * 2 ^ k / 4 → n < 2 ^ k * 2 ^ k → 2 ^ k ≤ 2 ^ 32 → Tried n bit 0 0 bit
none_tried n k bit b h small =
    record {
      left = k;
      z = 0;
      digits =
          record {
            bit_is = b;
            square_is = omega arith;
            r_is = omega arith;
            trial_is = omega (arith, b);
            low = omega arith;
            high = omega (arith, h);
            within = omega (arith, small);
          };
    }

module _ (n bit square r trial : ℕ) where
  -- a digit is left where `bit` is not 0
  left_or_none :
      {A : Type 0} →
      Tried n bit square r trial →
      ((z : ℕ) → bit ≡ 0 → Digits n 1 z bit square r trial → A) →
      ((k z : ℕ) → 0 < bit → Digits n (2 * 2 ^ k) z bit square r trial → A) →
      A
  left_or_none {A} t none some = at t.left t.digits
    where
      at : (k : ℕ) → Digits n (2 ^ k) t.z bit square r trial → A
      at zero d = none t.z d.bit_is d
      at (suc k) d =
          let e : Digits n (2 * 2 ^ k) t.z bit square r trial = rw (sym (pow-succ' 2 k)) d in
          let one : 0 < 2 ^ k * 2 ^ k = mul-pos (pow_pos k) (pow_pos k) in
          some k t.z (omega (arith, e.bit_is, one)) e

  pub next_not_taken : 0 < bit → n < trial → Tried n bit square r trial → Tried n (bit / 4) square (r / 2) (square + r / 2 + bit / 4)
  next_not_taken some h t =
      left_or_none t (λ z e d. absurd (omega arith))
      (λ k z p d. record { left = k; z = z; digits = digit_not_taken n (2 ^ k) z bit square r trial d h })

  pub next_taken :
      0 < bit → trial ≤ n → Tried n bit square r trial → Tried n (bit / 4) trial (r / 2 + bit) (trial + bit + r / 2 + bit / 4)
  next_taken some h t =
      left_or_none t (λ z e d. absurd (omega arith))
      (λ k z p d. record { left = k; z = z + 2 ^ k; digits = digit_taken n (2 ^ k) z bit square r trial d h })

  -- a trial square is below that of z + w, which is at most 2^64
  pub trial_fits : Tried n bit square r trial → trial < 2 ^ 64
  trial_fits t = at (2 ^ t.left) (pow_pos t.left) t.digits
    where
      at : (w : ℕ) → 0 < w → Digits n w t.z bit square r trial → trial < 2 ^ 64
      at w p d =
          let big : (t.z + w) * (t.z + w) ≤ 2 ^ 32 * 2 ^ 32 = square_mono d.within in
          omega (arith, big, d.trial_is, mul-pos p p)

  pub all_tried : bit ≤ 0 → Tried n bit square r trial → r ≡ root n
  all_tried none t =
      left_or_none t (λ z e d. sym (root_is n r (rw (is_z z d) d.low) (rw (is_z z d) d.high))) (λ k z p d. absurd (omega arith))
    where
      is_z : (z : ℕ) → Digits n 1 z bit square r trial → r ≡ z
      is_z z d = omega (arith, d.r_is)

-- ---- where the trial square is worked out in each round

abbrev pub DigitsTried : ℕ → ℕ → TakenDigits → Type 0
DigitsTried n bit d = Tried n bit d.square d.r (d.square + d.r + bit)

pub no_digits_tried : (n k bit : ℕ) → bit ≡ 2 ^ k * 2 ^ k / 4 → n < 2 ^ k * 2 ^ k → 2 ^ k ≤ 2 ^ 32 → DigitsTried n bit none_taken
no_digits_tried n k bit b h small = rw (zero-add bit) (none_tried n k bit b h small)

pub next_tried : (n bit : ℕ) (d : TakenDigits) → 0 < bit → DigitsTried n bit d → DigitsTried n (bit / 4) (next_digit n bit d)
unfolding next_digit
next_tried n bit d some t = at (leb trial n) refl
  where
    trial : ℕ
    trial = d.square + d.r + bit

    at :
        (b : Bool) →
        leb trial n ≡ b →
        DigitsTried n (bit / 4) (cond b (record { square = trial; r = d.r / 2 + bit }) (record { square = d.square; r = d.r / 2 }))
    at true e =
        let same : trial + bit + d.r / 2 + bit / 4 ≡ trial + (d.r / 2 + bit) + bit / 4 = omega arith in
        subst (λ (x : ℕ). Tried n (bit / 4) trial (d.r / 2 + bit) x) same
        (next_taken n bit d.square d.r trial some (leb-true trial n e) t)
    at false e = next_not_taken n bit d.square d.r trial some (leb-false trial n e) t

-- ---- the rounds of request d)

four_is : (k : ℕ) → 4 ^ k ≡ 2 ^ k * 2 ^ k
four_is zero = refl
four_is (suc k) = rw (pow-succ' 4 k, pow-succ' 2 k) (omega (arith, four_is k))

-- where as many digits are left as rounds
rounds_left : (k n : ℕ) (d : TakenDigits) → DigitsTried n (4 ^ k / 4) d → (rounds k n d).r ≡ root n
unfolding rounds
rounds_left zero n d t = all_tried n 0 d.square d.r (d.square + d.r + 0) zero-le t
rounds_left (suc k) n d t = rounds_left k n _ (step _ (omega arith))
  where
    step : (bit : ℕ) → bit ≡ 4 ^ k → DigitsTried n (4 ^ k / 4) (next_digit n bit d)
    step bit e =
        let first : 4 ^ suc k / 4 ≡ bit = omega (arith, pow-succ' 4 k) in
        rw (sym e) (next_tried n bit d (rw e (one-le-pow k 4 (omega arith))) (rw first at t))

-- k rounds find the root of each number below 4^k
pub rounds_root : (k n : ℕ) → k ≤ 32 → n < 4 ^ k → (rounds k n none_taken).r ≡ root n
rounds_root k n h small =
    rounds_left k n none_taken
    (no_digits_tried n k (4 ^ k / 4) (ap (λ (x : ℕ). x / 4) (four_is k)) (rw (four_is k) at small) (pow_mono h))
