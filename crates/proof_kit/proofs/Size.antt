-- Sizes: the laws of `nat_abs`, by which an error or a range is one bound in ℕ, and squares of ℕ. A size is the sum of a number's two parts,
-- one of which is 0, so a law of sizes is one of ℕ.
-- State a bound as `nat_abs z ≤ A`, split z by `ring`, bound each part here, and let `omega` add the bounds up. Assumes nothing.
use mathlib.Core.Path.{◌≡◌, refl}
use Prim.Native.Nat.{ℕ, zero, suc, ◌+◌, ◌*◌, ◌/◌, ◌%◌, ◌≤◌, ◌<◌, zero-le}
use native.Mathlib.Decide.{dec_le}
use native.Mathlib.Nat.{le_refl, le_trans, mul-le-mul, lt_of_mul-lt-mul_left, div-zero, div-mul-le_self, le-div_iff_mul-le}
use native.Mathlib.Omega.{arith}
use lib.IntN.{ℤ, pos, negsuc, ◌+ℤ◌, ◌-ℤ◌, ◌*ℤ◌, neg_ℤ, nat_abs}
use lib.Signed.{quot_z, rem_z}
use Rattle.proof_kit.proofs.Laws.{one_part, nat_abs_parts, parts-+, parts--, P-neg, N-neg, P-*, N-*}

-- ---- sums and differences

pub abs_neg : (x : ℤ) → nat_abs (neg_ℤ x) ≡ nat_abs x
abs_neg x = simp (nat_abs_parts, P-neg, N-neg) (omega arith)

pub abs_add : (x y : ℤ) → nat_abs (x +ℤ y) ≤ nat_abs x + nat_abs y
abs_add x y = simp nat_abs_parts (omega (arith, parts-+ x y, one_part (x +ℤ y)))

pub abs_sub : (x y : ℤ) → nat_abs (x -ℤ y) ≤ nat_abs x + nat_abs y
abs_sub x y = simp nat_abs_parts (omega (arith, parts-- x y, one_part (x -ℤ y)))

pub abs_sub_sym : (x y : ℤ) → nat_abs (x -ℤ y) ≡ nat_abs (y -ℤ x)
abs_sub_sym x y = simp nat_abs_parts (omega (arith, parts-- x y, parts-- y x, one_part (x -ℤ y), one_part (y -ℤ x)))

-- the same, from bounds on the parts
pub abs_add_le : (x y : ℤ) {m n : ℕ} → nat_abs x ≤ m → nat_abs y ≤ n → nat_abs (x +ℤ y) ≤ m + n
abs_add_le x y h k = omega (arith, abs_add x y)

pub abs_sub_le : (x y : ℤ) {m n : ℕ} → nat_abs x ≤ m → nat_abs y ≤ n → nat_abs (x -ℤ y) ≤ m + n
abs_sub_le x y h k = omega (arith, abs_sub x y)

-- two numbers near a third are near each other
pub abs_via : (x y z : ℤ) → nat_abs (x -ℤ z) ≤ nat_abs (x -ℤ y) + nat_abs (y -ℤ z)
abs_via x y z =
    simp nat_abs_parts (omega (arith, parts-- x y, parts-- y z, parts-- x z, one_part (x -ℤ z)))

-- a number from another and their difference
pub abs_from : (x y : ℤ) → nat_abs x ≤ nat_abs (x -ℤ y) + nat_abs y
abs_from x y = simp nat_abs_parts (omega (arith, parts-- x y, one_part x))

-- ---- products

pub abs_mul : (x y : ℤ) → nat_abs (x *ℤ y) ≡ nat_abs x * nat_abs y
abs_mul x y = simp (nat_abs_parts, P-*, N-*) (omega arith)

pub abs_mul_le : (x y : ℤ) {m n : ℕ} → nat_abs x ≤ m → nat_abs y ≤ n → nat_abs (x *ℤ y) ≤ m * n
abs_mul_le x y h k = rw (abs_mul x y) (mul-le-mul h k)

pub square_abs : (x : ℤ) → x *ℤ x ≡ pos (nat_abs x * nat_abs x)
square_abs (pos n) = refl
square_abs (negsuc n) = refl

-- a bound on a multiple is a bound on the number
pub abs_cancel : (k : ℕ) (x : ℤ) {y n : ℕ} → nat_abs (pos k *ℤ x) ≤ y → y < k * suc n → nat_abs x ≤ n
abs_cancel k x {y} {n} h l =
    let below : k * nat_abs x < k * suc n = omega (arith, abs_mul (pos k) x) in
    let lt : nat_abs x < suc n = lt_of_mul-lt-mul_left k below in
    omega arith

-- ---- quotients and remainders, as `i64` has them

pub abs_quot : (x y : ℤ) → nat_abs (quot_z x y) ≡ nat_abs x / nat_abs y
abs_quot (pos a) (pos b) = refl
abs_quot (pos a) (negsuc b) = abs_neg (pos (a / suc b))
abs_quot (negsuc a) (pos b) = abs_neg (pos (suc a / b))
abs_quot (negsuc a) (negsuc b) = refl

pub abs_rem : (x y : ℤ) → nat_abs (rem_z x y) ≡ nat_abs x % nat_abs y
abs_rem (pos a) y = refl
abs_rem (negsuc a) y = abs_neg (pos (suc a % nat_abs y))

pub div_mono : (k : ℕ) {m n : ℕ} → m ≤ n → m / k ≤ n / k
div_mono zero {m} {n} h = rw (div-zero m, div-zero n) zero-le
div_mono (suc k) {m} {n} h =
    let p : 0 < suc k = omega arith in
    (le-div_iff_mul-le {k = suc k} {x = m / suc k} {y = n} p).1 (le_trans (div-mul-le_self m (suc k)) h)

-- ---- a size as two bounds, of two naturals that are at most d apart

pub within_upper : (a b : ℕ) {d : ℕ} → nat_abs (pos a -ℤ pos b) ≤ d → a ≤ b + d
within_upper a b h = omega (arith, nat_abs_parts (pos a -ℤ pos b), parts-- (pos a) (pos b))

pub within_lower : (a b : ℕ) {d : ℕ} → nat_abs (pos a -ℤ pos b) ≤ d → b ≤ a + d
within_lower a b h = omega (arith, nat_abs_parts (pos a -ℤ pos b), parts-- (pos a) (pos b))

pub within : (a b : ℕ) {d : ℕ} → a ≤ b + d → b ≤ a + d → nat_abs (pos a -ℤ pos b) ≤ d
within a b h k =
    omega (arith, nat_abs_parts (pos a -ℤ pos b), parts-- (pos a) (pos b), one_part (pos a -ℤ pos b))

-- ---- squares of ℕ

pub square_le : (x y : ℕ) → x * x ≤ y * y → x ≤ y
square_le x y h = go (dec_le x y)
  where
    go : Dec (x ≤ y) → x ≤ y
    go (yes k) = k
    go (no k) =
        let l : suc y ≤ x = omega arith in
        omega (arith, mul-le-mul l l)

pub square_lt : (x y : ℕ) → x * x < y * y → x < y
square_lt x y h = go (dec_le y x)
  where
    go : Dec (y ≤ x) → x < y
    go (yes k) = omega (arith, mul-le-mul k k)
    go (no k) = omega arith

-- ---- the size of a whole expression

-- how the number is built from numbers whose sizes are known; `x -ℤ y` is `x +ℤ neg_ℤ y`
pub data Sized : ℤ → Type 0 where
  plus : {x y : ℤ} → Sized x → Sized y → Sized (x +ℤ y)
  times : {x y : ℤ} → Sized x → Sized y → Sized (x *ℤ y)
  neg : {x : ℤ} → Sized x → Sized (neg_ℤ x)
  num : (n : ℕ) → Sized (pos n)
  num⁻ : (n : ℕ) → Sized (negsuc n)
  given : {x : ℤ} {n : ℕ} → nat_abs x ≤ n → Sized x

pub ruleset sizes = (plus, times, neg, num, num⁻, given)

-- the bound that follows for it
abbrev pub most : {z : ℤ} → Sized z → ℕ
most (plus a b) = most a + most b
most (times a b) = most a * most b
most (neg a) = most a
most (num n) = n
most (num⁻ n) = suc n
most (given {x} {n} h) = n

at_most : {z : ℤ} (s : Sized z) → nat_abs z ≤ most s
at_most (plus {x} {y} a b) = abs_add_le x y (at_most a) (at_most b)
at_most (times {x} {y} a b) = abs_mul_le x y (at_most a) (at_most b)
at_most (neg {x} a) = rw abs_neg (at_most a)
at_most (num n) = le_refl n
at_most (num⁻ n) = le_refl (suc n)
at_most (given h) = h

-- `nat_abs` under a name that stays closed: antt finds the number of a goal `size z ≤ B`, and not that of `nat_abs z ≤ B`
unfoldable pub size : ℤ → ℕ
size z = nat_abs z

pub as_size : (z : ℤ) → nat_abs z ≡ size z
unfolding size
as_size z = refl

-- a bound on an expression: `rw as_size (abs_le (search sizes depth 40 fits 20000) (omega arith)) : nat_abs (..) ≤ B`
pub abs_le : {z : ℤ} {B : ℕ} (s : Sized z) → most s ≤ B → size z ≤ B
unfolding size
abs_le s h = le_trans (at_most s) h

-- and on a number that equals one, most often by `ring`: `abs_by e (search sizes depth 40 fits 20000) (omega arith)`
pub abs_by : {z w : ℤ} {B : ℕ} → z ≡ w → (s : Sized w) → most s ≤ B → nat_abs z ≤ B
abs_by e s h = rw e (le_trans (at_most s) h)
