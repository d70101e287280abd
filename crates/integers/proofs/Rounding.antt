-- Laws of near, each proved once over n and d. For n ≥ 0 the quotient q of 2·n + d by 2·d lies between two bounds, 2·q·d ≤ 2·n + d and
-- 2·n < 2·q·d + d, which leave one number; every law follows from these. A negative n has the opposite of what its size has.
-- Assumes nothing.
use mathlib.Core.Path.{◌≡◌, refl, sym, ap, ◌∙◌, subst}
use mathlib.Core.Bool.{Bool}
use mathlib.Core.List.{[], ◌∷◌}
use Prim.Native.Nat.{ℕ, zero, suc, ◌+◌, ◌*◌, ◌/◌, ◌<◌, ◌≤◌}
use native.Mathlib.Nat.{div-eq_of_lt-le, div-mul-le_self, lt-div-mul-add, le-div_iff_mul-le, le_trans, div-le_self}
use native.Mathlib.Omega.{arith}
use lib.Dec.{leb-suc-zero}
use lib.IntN.{ℤ, pos, negsuc, neg_ℤ, nat_abs, ◌+ℤ◌, ◌-ℤ◌, ◌*ℤ◌, neg_ℤ-neg_ℤ}
use lib.Signed.{◌≤ℤ◌}
use Rattle.proof_kit.proofs.Laws.{nat_abs_parts, parts--, one_part, P-neg, N-neg, diff_zero}
use Rattle.proof_kit.proofs.Ring.{ring, quote}
use Rattle.proof_kit.proofs.Size.{abs_neg, abs_add, abs_sub, abs_sub_sym, abs_via, abs_mul}
use Rattle.proof_kit.proofs.Order.{order}
use Rattle.integers.specs.Near.{near, nearest, signed}

double_pos : {d : ℕ} → 0 < d → 0 < 2 * d
double_pos h = omega arith

-- ---- n ≥ 0

-- twice the distance to n/d is at most d; a half goes up
pub nearest_low : (n : ℕ) {d : ℕ} → 0 < d → 2 * (nearest n d * d) ≤ 2 * n + d
unfolding nearest
nearest_low n {d} h = omega (arith, div-mul-le_self (2 * n + d) (2 * d))

pub nearest_high : (n : ℕ) {d : ℕ} → 0 < d → 2 * n < 2 * (nearest n d * d) + d
unfolding nearest
nearest_high n {d} h = omega (arith, lt-div-mul-add {a = 2 * n + d} (double_pos h))

-- the two bounds leave one number
pub nearest_only : (n d q : ℕ) → 2 * (q * d) ≤ 2 * n + d → 2 * n < 2 * (q * d) + d → nearest n d ≡ q
unfolding nearest
nearest_only n d q low high = div-eq_of_lt-le (2 * d) (omega arith) (omega arith)

pub nearest_mono : {m n : ℕ} (d : ℕ) → 0 < d → m ≤ n → nearest m d ≤ nearest n d
unfolding nearest
nearest_mono {m} {n} d h l =
    (le-div_iff_mul-le (double_pos h)).1 (le_trans (div-mul-le_self (2 * m + d) (2 * d)) (omega arith))

-- whole multiples of d pass through
pub nearest_shift : (n k d : ℕ) → 0 < d → nearest (n + k * d) d ≡ nearest n d + k
nearest_shift n k d h =
    nearest_only (n + k * d) d (nearest n d + k) (omega (arith, nearest_low n h)) (omega (arith, nearest_high n h))

pub nearest_whole : (k d : ℕ) → 0 < d → nearest (k * d) d ≡ k
nearest_whole k d h = nearest_only (k * d) d k (omega arith) (omega arith)

pub nearest_zero : (d : ℕ) → 0 < d → nearest 0 d ≡ 0
nearest_zero d h = nearest_only 0 d 0 (omega arith) (omega arith)

-- as the code works it out, where doubling n could pass 64 bits
pub nearest_halved : (n d : ℕ) → 0 < d → (n + d / 2) / d ≡ nearest n d
nearest_halved n d h =
    sym (nearest_only n d ((n + d / 2) / d)
    (omega (arith, div-mul-le_self (n + d / 2) d))
    (omega (arith, lt-div-mul-add {a = n + d / 2} h)))

pub nearest_le : (n d : ℕ) → 0 < d → nearest n d ≤ n + d / 2
nearest_le n d h = subst (λ (q : ℕ). q ≤ n + d / 2) (nearest_halved n d h) (div-le_self (n + d / 2) d)

-- ---- every n

pub near_pos : (n d : ℕ) → near (pos n) d ≡ pos (nearest n d)
unfolding near
near_pos n d = ap (λ (b : Bool). signed b (nearest n d)) (leb-suc-zero n)

pub near_zero : (d : ℕ) → 0 < d → near (pos 0) d ≡ pos 0
near_zero d h = near_pos 0 d ∙ ap pos (nearest_zero d h)

pub near_neg : (n d : ℕ) → 0 < d → near (neg_ℤ (pos n)) d ≡ neg_ℤ (pos (nearest n d))
unfolding near
near_neg zero d h = near_zero d h ∙ ap (λ (q : ℕ). neg_ℤ (pos q)) (sym (nearest_zero d h))
near_neg (suc n) d h = refl

pub near_odd : (n : ℤ) (d : ℕ) → 0 < d → near (neg_ℤ n) d ≡ neg_ℤ (near n d)
near_odd (pos n) d h = near_neg n d h ∙ ap neg_ℤ (sym (near_pos n d))
near_odd (negsuc n) d h =
    near_pos (suc n) d ∙ sym (neg_ℤ-neg_ℤ (pos (nearest (suc n) d))) ∙ ap neg_ℤ (sym (near_neg (suc n) d h))

pub near_size : (n : ℤ) (d : ℕ) → nat_abs (near n d) ≡ nearest (nat_abs n) d
unfolding near
near_size (pos n) d = ap nat_abs (near_pos n d)
near_size (negsuc n) d = abs_neg (pos (nearest (suc n) d))

turned : (q d n : ℤ) → neg_ℤ q *ℤ d -ℤ neg_ℤ n ≡ neg_ℤ (q *ℤ d -ℤ n)
turned q d n = ring (q ∷ d ∷ n ∷ []) (search quote depth 40 fits 20000) tt

-- twice the distance from n/d is at most d
nearest_close : (n d : ℕ) → 0 < d → 2 * nat_abs (pos (nearest n d * d) -ℤ pos n) ≤ d
nearest_close n d h =
    let gap : ℤ = pos (nearest n d * d) -ℤ pos n in
    omega (arith, nat_abs_parts gap, parts-- (pos (nearest n d * d)) (pos n), one_part gap, nearest_low n h, nearest_high n h)

pub near_close : (n : ℤ) (d : ℕ) → 0 < d → 2 * nat_abs (near n d *ℤ pos d -ℤ n) ≤ d
near_close (pos n) d h = rw (near_pos n d) (nearest_close n d h)
near_close (negsuc n) d h =
    let q : ℕ = nearest (suc n) d in
    rw (near_neg (suc n) d h, turned (pos q) (pos d) (pos (suc n)), abs_neg (pos (q * d) -ℤ pos (suc n)))
    (nearest_close (suc n) d h)

pub near_mono : (m n : ℤ) (d : ℕ) → 0 < d → m ≤ℤ n → near m d ≤ℤ near n d
near_mono (pos m) (pos n) d h l =
    let k : m ≤ n = omega order in
    rw (near_pos m d, near_pos n d) (omega (order, nearest_mono d h k))
near_mono (pos m) (negsuc n) d h l = let e : ⊥ = omega order in absurd e
near_mono (negsuc m) (pos n) d h l =
    let q : ℤ = pos (nearest (suc m) d) in
    rw (near_neg (suc m) d h, near_pos n d) (omega (order, P-neg q, N-neg q))
near_mono (negsuc m) (negsuc n) d h l =
    let k : suc n ≤ suc m = omega order in
    let q : ℤ = pos (nearest (suc m) d) in
    let r : ℤ = pos (nearest (suc n) d) in
    rw (near_neg (suc m) d h, near_neg (suc n) d h) (omega (order, P-neg q, N-neg q, P-neg r, N-neg r, nearest_mono d h k))

pub near_whole : (k : ℤ) (d : ℕ) → 0 < d → near (k *ℤ pos d) d ≡ k
near_whole (pos k) d h = near_pos (k * d) d ∙ ap pos (nearest_whole k d h)
near_whole (negsuc k) d h = near_neg (suc k * d) d h ∙ ap (λ (q : ℕ). neg_ℤ (pos q)) (nearest_whole (suc k) d h)

-- two numbers are no farther apart than their distances from n/d together; here all of it is multiplied by d
pub apart : (n q r : ℤ) (d : ℕ) → nat_abs (q -ℤ r) * d ≤ nat_abs (q *ℤ pos d -ℤ n) + nat_abs (r *ℤ pos d -ℤ n)
apart n q r d =
    let product : nat_abs (q *ℤ pos d -ℤ r *ℤ pos d) ≡ nat_abs (q -ℤ r) * d = rw (factored q r (pos d)) (abs_mul (q -ℤ r) (pos d)) in
    omega (arith, product, abs_via (q *ℤ pos d) n (r *ℤ pos d), abs_sub_sym n (r *ℤ pos d))
  where
    factored : (q r d : ℤ) → q *ℤ d -ℤ r *ℤ d ≡ (q -ℤ r) *ℤ d
    factored q r d = ring (q ∷ r ∷ d ∷ []) (search quote depth 40 fits 20000) tt

-- off the halves it is the only such number
pub near_only : (n q : ℤ) (d : ℕ) → 2 * nat_abs (q *ℤ pos d -ℤ n) < d → near n d ≡ q
near_only n q d h =
    let r : ℤ = near n d in
    let some : 0 < d = omega arith in
    let product : nat_abs (r -ℤ q) * d < d = omega (arith, apart n r q d, near_close n d some) in
    diff_zero r q (no_size (r -ℤ q) (below_one (nat_abs (r -ℤ q)) d product))
  where
    below_one : (a d : ℕ) → a * d < d → a ≡ 0
    below_one zero d h = refl
    below_one (suc a) d h = let e : ⊥ = omega arith in absurd e

    no_size : (z : ℤ) → nat_abs z ≡ 0 → z ≡ pos 0
    no_size (pos a) e = ap pos e
    no_size (negsuc a) e = let f : ⊥ = omega arith in absurd f

-- a bound on n is rounded with it
pub near_bound : (n : ℤ) (d : ℕ) {m : ℕ} → 0 < d → nat_abs n ≤ m → nat_abs (near n d) ≤ nearest m d
near_bound n d h l = rw (near_size n d) (nearest_mono d h l)

-- a bound on n as a multiple of d
pub near_at_most : (n : ℤ) (d m : ℕ) → 0 < d → nat_abs n ≤ m * d → nat_abs (near n d) ≤ m
near_at_most n d m h l = rw (nearest_whole m d h) at (near_bound n d h l)

-- two rounded quotients differ by one more than the quotients, at most
pub near_apart : (m n : ℤ) (d : ℕ) → 0 < d → nat_abs (pos d *ℤ (near m d -ℤ near n d)) ≤ nat_abs (m -ℤ n) + d
near_apart m n d h =
    let x : ℤ = near m d *ℤ pos d -ℤ m in
    let y : ℤ = near n d *ℤ pos d -ℤ n in
    rw (spread (near m d) (near n d) (pos d) m n)
    (omega (arith, abs_add (x -ℤ y) (m -ℤ n), abs_sub x y, near_close m d h, near_close n d h))
  where
    spread : (q r d m n : ℤ) → d *ℤ (q -ℤ r) ≡ (q *ℤ d -ℤ m) -ℤ (r *ℤ d -ℤ n) +ℤ (m -ℤ n)
    spread q r d m n = ring (q ∷ r ∷ d ∷ m ∷ n ∷ []) (search quote depth 40 fits 20000) tt
