-- A whole number of units as a double: one rounding of the quotient n/unit to 53 binary digits. A size below 2^51 leaves the last digit worth
-- less than half a unit, so the rounding misses the quotient by less than that. A whole number is a multiple of the last digit, so the
-- rounding does not pass one that the quotient does not pass. Assumes nothing.
use Rattle.std.proofs.Common.{◌≡◌, ℕ, zero, suc, ◌+◌, ◌-◌, ◌*◌, ◌/◌, ◌%◌, ◌^◌, ◌<◌, ◌≤◌, Bool, true, false, cond, eqb, ℤ, pos, negsuc, nat_abs, sym, refl, ap, ◌∙◌, subst, true≢false, le_trans, lt_trans, lt_of_le_of_lt, le_of_lt, mul-le-mul_right, zero-lt-suc, mul-le-mul_left, mul-pos, div-le_self, le-mul_of_pos_right, div-mul-le_self, div-one, arith, lit<, lit≤, pow_pos, pow-add, shl_lt, to_z-of_z, w64, SFits, to_z, of_z}
use Prim.Native.Nat.{compare}
use native.Mathlib.Nat.{lt-div-mul-add, mod-one}
use lib.Dec.{eqb-suc-zero}
use lib.Ieee.{Float, nan, inf, fin, binary64, unlike, up, down, size, round, div, of_int}
use lib.Ieee.Digits.{back, size-le, size_reaches}
use lib.Ieee.Exact.{HasValue, units_val}
use lib.Ieee.Fits.{down_pos, up_pos, nearest-le, round_is}
use lib.Ieee.Nearest.{closest, closest_mono, nearest-ge}
use lib.Ieee.Order.{drop, kept}
use lib.Ieee.Scale.{round_same}
use lib.Ieee.Back.{round_whole}
use Rattle.floats.specs.Conversion.{float_of}
use Rattle.floats.proofs.Signs.{negative}

-- ---- the rounding of n/k, counted in 2^−l, to 53 binary digits

-- how many digits are dropped, and what is left of the others
abbrev dropped : ℕ → ℕ → ℕ → ℕ
dropped n k l = drop 53 (n * 2 ^ l) k

abbrev left : ℕ → ℕ → ℕ → ℕ
left n k l = kept 53 (n * 2 ^ l) k

closest_one : (c : ℕ) → closest c 1 ≡ c
closest_one c = rw (div-one c, mod-one c)

module _ (n k l : ℕ) (K : 0 < k) (N : n < 2 ^ 51) where
  abbrev j : ℕ
  j = dropped n k l

  abbrev q : ℕ
  q = left n k l

  dropped_le : j ≤ l
  dropped_le =
      omega (arith, size-le (n * 2 ^ l / k) (51 + l) (lt_of_le_of_lt (div-le_self (n * 2 ^ l) k) (shl_lt 51 l N)))

  -- the last digit that is left is worth less than half a unit
  last_digit : 2 * k < 2 ^ l → 2 * (k * 2 ^ j) < 2 ^ l
  last_digit small = go (size whole - 53) refl
    where
      whole : ℕ
      whole = n * 2 ^ l / k

      go : (i : ℕ) → size whole - 53 ≡ i → 2 * (k * 2 ^ i) < 2 ^ l
      go zero e = omega arith
      go (suc i) e =
          let reach : 2 ^ (52 + suc i) ≤ whole = size_reaches whole (52 + suc i) (omega arith) in
          let first : 2 ^ 52 * 2 ^ suc i ≤ whole = rw (pow-add 2 52 (suc i)) at reach in
          omega (arith, mul-le-mul_right k first, div-mul-le_self (n * 2 ^ l) k, mul-le-mul_right (2 ^ l) N, pow_pos l)

  -- so the rounded quotient misses n/k by less than half a unit
  left_low : 2 * k < 2 ^ l → 2 * (n * 2 ^ l) < 2 * (q * 2 ^ j * k) + 2 ^ l
  left_low small =
      let a : ℕ = n * 2 ^ l in
      let u : ℕ = k * 2 ^ j in
      let next = mul-le-mul_right u (nearest-ge (a / u) (compare (a % u * 2) u)) in
      omega (arith, last_digit small, next, lt-div-mul-add {a = a} {b = u} (mul-pos K (pow_pos j)))

  left_high : 2 * k < 2 ^ l → 2 * (q * 2 ^ j * k) < 2 * (n * 2 ^ l) + 2 ^ l
  left_high small =
      let a : ℕ = n * 2 ^ l in
      let u : ℕ = k * 2 ^ j in
      let next = mul-le-mul_right u (nearest-le (a / u) (compare (a % u * 2) u)) in
      omega (arith, last_digit small, next, div-mul-le_self a u)

  -- a whole number is a multiple of the last digit, and rounding does not pass it
  left_at_most : (most : ℕ) → n ≤ most * k → q * 2 ^ j ≤ most * 2 ^ l
  left_at_most most h =
      let p : ℕ = 2 ^ (l - j) in
      let split : p * 2 ^ j ≡ 2 ^ l = sym (pow-add 2 (l - j) j) ∙ ap (λ (i : ℕ). 2 ^ i) (back l j dropped_le) in
      let below : n * 2 ^ l ≤ most * k * (p * 2 ^ j) = rw split (mul-le-mul_right (2 ^ l) h) in
      let cross : n * 2 ^ l * 1 ≤ most * p * (k * 2 ^ j) = omega arith in
      let rounds = closest_mono (n * 2 ^ l) (k * 2 ^ j) (most * p) 1 (mul-pos K (pow_pos j)) (lit< tt) cross in
      let at : q ≤ most * p = rw (closest_one (most * p)) at rounds in
      let scaled : q * 2 ^ j ≤ most * (p * 2 ^ j) = omega (arith, mul-le-mul_right (2 ^ j) at) in
      rw split at scaled

-- x is ±n/k rounded once; `steps` counts it in 2^−1074
pub record Rounded (x : Float) (s : Bool) (n k : ℕ) : Type 0 where
  pub steps : ℕ
  pub value : HasValue x s steps (2 ^ 1074)
  pub low : 2 * (n * 2 ^ 1074) < 2 * (steps * k) + 2 ^ 1074
  pub high : 2 * (steps * k) < 2 * (n * 2 ^ 1074) + 2 ^ 1074
  pub at_most : (most : ℕ) → n ≤ most * k → steps ≤ most * 2 ^ 1074

rounded : (s : Bool) (n k : ℕ) → 0 < k → k ≤ 2 ^ 53 → n < 2 ^ 51 → Rounded (round binary64 s n k) s n k
rounded s n k K small N =
    let q = left n k 1074 in
    let j = dropped n k 1074 in
    let apart : 2 * k < 2 ^ 1074 = lt_of_le_of_lt (mul-le-mul_left 2 small) (lit< tt) in
    let under = left_at_most n k 1074 K N n (le-mul_of_pos_right n K) in
    let finite = lt_of_le_of_lt under (lt_trans (shl_lt 51 1074 N) (lit< tt)) in
    record {
      steps = q * 2 ^ j;
      value = subst (λ (x : Float). HasValue x s (q * 2 ^ j) (2 ^ 1074)) (sym (round_is binary64 s n k)) (units_val binary64 s q j finite);
      low = left_low n k 1074 K N apart;
      high = left_high n k 1074 K N apart;
      at_most = left_at_most n k 1074 K N;
    }

-- ---- one division is one rounding of the quotient

plus : (t : Bool) → unlike t false ≡ t
plus true = refl
plus false = refl

div_is : (x y : Float) (s : Bool) (n k : ℕ) → 0 < k → HasValue x s n 1 → HasValue y false k 1 → div binary64 x y ≡ round binary64 s n k
unfolding div
div_is nan y s n k K v w = absurd v
div_is (inf t) y s n k K v w = absurd v
div_is (fin t m e) nan s n k K v w = absurd w
div_is (fin t m e) (inf u) s n k K v w = absurd w
div_is (fin t m e) (fin true b d) s n k K v w = absurd (true≢false w.0)
div_is (fin t m e) (fin false zero d) s n k K v w = absurd (none (up d) (k * down d) (mul-pos K (down_pos d)) w.1)
  where
    none : (a b : ℕ) → 0 < b → zero * a * 1 ≡ b → ⊥
    none a b h e = omega arith
div_is (fin t m e) (fin false (suc b) d) s n k K v w =
    let top : ℕ = m * up e * down d in
    let bottom : ℕ = suc b * up d * down e in
    let rounds : Bool → Float = λ z. round binary64 z top bottom in
    let some : 0 < bottom = mul-pos (mul-pos (zero-lt-suc b) (up_pos d)) (down_pos e) in
    let cross : top * k ≡ n * bottom = omega (arith, ap (λ (z : ℕ). z * (down d * k)) v.1, ap (λ (z : ℕ). z * (n * down e)) w.1) in
    ap (λ (z : Bool). cond z (cond (eqb m 0) nan (inf (unlike t false))) (rounds (unlike t false))) (eqb-suc-zero b)
    ∙ ap rounds (plus t ∙ v.0)
    ∙ round_same binary64 s top bottom n k some K cross

int_value : (n : ℤ) → nat_abs n ≤ 2 ^ 53 → HasValue (of_int binary64 n) (negative n) (nat_abs n) 1
unfolding of_int
int_value (pos n) h = round_whole binary64 false n h
int_value (negsuc n) h = round_whole binary64 true (suc n) h

pub float_rounded : (unit : ℕ) (n : ℤ) → 0 < unit → unit ≤ 2 ^ 53 → nat_abs n < 2 ^ 51 → Rounded (float_of unit n) (negative n) (nat_abs n) unit
unfolding float_of
float_rounded unit n U small h =
    let number = int_value n (le_trans (le_of_lt h) (lit≤ tt)) in
    let is = div_is (of_int binary64 n) (of_int binary64 (pos unit)) (negative n) (nat_abs n) unit U number (int_value (pos unit) small) in
    subst (λ (x : Float). Rounded x (negative n) (nat_abs n) unit) (sym is) (rounded (negative n) (nat_abs n) unit U small h)

-- as the code has it: the double nearest to an i64, which is read back from its bits
pub out_is : (unit : ℕ) {x : Float} {n : ℤ} → SFits w64 n → x ≡ of_int binary64 (to_z w64 (of_z w64 n))
    → div binary64 x (of_int binary64 (pos unit)) ≡ float_of unit n
unfolding float_of
out_is unit f e = ap (λ (x : Float). div binary64 x (of_int binary64 (pos unit))) (e ∙ ap (of_int binary64) (to_z-of_z f))
