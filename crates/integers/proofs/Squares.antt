-- Laws of root, from those of the greatest number that passes a test; and of the sum of two numbers, by their product and by their squares.
-- Assumes nothing.
use mathlib.Core.Path.{◌≡◌, subst}
use mathlib.Core.Logic.{◌⊎◌, inl, inr}
use Prim.Native.Nat.{ℕ, zero, suc, ◌+◌, ◌*◌, ◌-◌, ◌<◌, ◌≤◌, zero-le}
use native.Mathlib.Nat.{le_trans, le_of_lt, lt_of_lt_of_le, lt_of_le_of_lt, add-sub_of_le, mul-le-mul}
use native.Mathlib.Omega.{arith}
use lib.Dec.{leb}
use borrow.Author.Tests.{le-leb, lt-leb, leb-true}
use Rattle.proof_kit.proofs.Order.{le_or_lt}
use Rattle.proof_kit.proofs.Size.{square_lt, square_le}
use Rattle.integers.specs.Root.{root}
use Rattle.integers.proofs.Greatest.{greatest_is, greatest_passes, greatest_ge}

pub square_mono : {a b : ℕ} → a ≤ b → a * a ≤ b * b
square_mono h = mul-le-mul h h

self_le_square : (a : ℕ) → a ≤ a * a
self_le_square zero = zero-le
self_le_square (suc a) = omega arith

-- the only number whose square is at most n and whose successor's square is above n
pub root_is : (n r : ℕ) → r * r ≤ n → n < (r + 1) * (r + 1) → root n ≡ r
unfolding root
root_is n r low high =
    greatest_is (λ k. leb (k * k) n) n r (le_trans (self_le_square r) low) (le-leb (r * r) n low)
    (λ k a b. lt-leb (k * k) n (lt_of_lt_of_le high (square_mono (omega arith))))

pub root_low : (n : ℕ) → root n * root n ≤ n
unfolding root
root_low n = leb-true (root n * root n) n (greatest_passes (λ k. leb (k * k) n) (le-leb 0 n zero-le) n)

-- a number whose square is at most n is at most the root
pub root_least : (n a : ℕ) → a * a ≤ n → a ≤ root n
unfolding root
root_least n a h = greatest_ge (λ k. leb (k * k) n) n a (le_trans (self_le_square a) h) (le-leb (a * a) n h)

-- so the next square is above n
pub root_high : (n : ℕ) → n < (root n + 1) * (root n + 1)
root_high n = at (le_or_lt ((root n + 1) * (root n + 1)) n)
  where
    at : ((root n + 1) * (root n + 1) ≤ n) ⊎ (n < (root n + 1) * (root n + 1)) → n < (root n + 1) * (root n + 1)
    at (inl h) = let e : ⊥ = omega (arith, root_least n (root n + 1) h) in absurd e
    at (inr h) = h

pub root_most : (n a : ℕ) → n < (a + 1) * (a + 1) → root n ≤ a
root_most n a h =
    let l : root n < a + 1 = square_lt (root n) (a + 1) (lt_of_le_of_lt (root_low n) h) in
    omega arith

-- the geometric mean is at most the arithmetic one
pub mean : (a b : ℕ) → 4 * (a * b) ≤ (a + b) * (a + b)
mean a b = at (le_or_lt a b)
  where
    apart : (a d : ℕ) → 4 * (a * (a + d)) ≤ (a + (a + d)) * (a + (a + d))
    apart a d = omega arith

    other : (b d : ℕ) → 4 * ((b + d) * b) ≤ ((b + d) + b) * ((b + d) + b)
    other b d = omega arith

    at : (a ≤ b) ⊎ (b < a) → 4 * (a * b) ≤ (a + b) * (a + b)
    at (inl h) = subst (λ (x : ℕ). 4 * (a * x) ≤ (a + x) * (a + x)) (add-sub_of_le h) (apart a (b - a))
    at (inr h) = subst (λ (x : ℕ). 4 * (x * b) ≤ (x + b) * (x + b)) (add-sub_of_le (le_of_lt h)) (other b (a - b))

-- the sum of two numbers, where the sum of their squares is at most 9/8 of a square
pub sum_by_squares : (a b n : ℕ) → 8 * (a * a + b * b) ≤ 9 * (n * n) → 2 * (a + b) ≤ 3 * n
sum_by_squares a b n h = square_le (2 * (a + b)) (3 * n) (omega (arith, mean a b))
