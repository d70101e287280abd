-- What the proof says of rounded quotients, of roots and of squares, whatever they stand for.
-- A rounded quotient enters by how far it is from the exact one (`Near`), a root by the two squares that hold its number (`Root`): no rounding is computed
-- here. A bound on a k-fold is one on the number itself, and a bound on a sum of squares is one on the sum. Assumes nothing.
use mathlib.Core.Path.{◌≡◌, refl, sym}
use Prim.Native.Nat.{ℕ, suc, ◌+◌, ◌*◌, ◌≤◌, ◌<◌}
use native.Mathlib.Nat.{le_refl}
use native.Mathlib.Omega.{arith}
use lib.IntN.{ℤ, pos, ◌+ℤ◌, ◌-ℤ◌, ◌*ℤ◌, nat_abs, -ℤ-+ℤ_cancel}
use Rattle.proof_kit.proofs.Laws.{nat_abs_parts, parts--, one_part}
use Rattle.proof_kit.proofs.Size.{Sized, plus, given, sizes, most, abs_mul, abs_by, abs_cancel, square_abs, within_upper, within_lower}
use Rattle.integers.proofs.Squares.{sum_by_squares as by-squares}
use Rattle.round_trip.proofs.Numerals.{unit, half, A}

-- ---- what is given

-- q is n / d, rounded to the nearest
abbrev pub Near : ℕ → ℤ → ℤ → Type 0
Near d q n = 2 * nat_abs (pos d *ℤ q -ℤ n) ≤ d

-- r is the root of n, rounded down
abbrev pub Root : ℕ → ℕ → Type 0
Root n r = (r * r ≤ n) × (n < (r + 1) * (r + 1))

-- (x, y) lies on the circle around 0 of radius U, as well as a sine and a cosine do
abbrev pub OnCircle : ℤ → ℤ → Type 0
OnCircle x y = nat_abs (x *ℤ x +ℤ y *ℤ y -ℤ pos unit *ℤ pos unit) ≤ A * unit

-- ---- sizes of expressions

-- what a quotient by U is off
abbrev pub rounded : {z : ℤ} → 2 * nat_abs z ≤ unit → Sized z
rounded {z} h = let k : nat_abs z ≤ half = omega arith in given k

-- and what another quotient is off, doubled
abbrev pub doubled : (z : ℤ) {n : ℕ} → 2 * nat_abs z ≤ n → Sized (pos 2 *ℤ z)
doubled z {n} h = given {x = pos 2 *ℤ z} {n = n} (rw (abs_mul (pos 2) z) h)

-- the kit's `sizes`, which stops at each part that a hypothesis bounds
pub ruleset parts = (given, rounded, doubled, sizes)

-- a number is at most n if its k-fold is an expression of a size below k · (n + 1)
pub abs_over : (k : ℕ) (x : ℤ) {w : ℤ} {n : ℕ} → pos k *ℤ x ≡ w → (s : Sized w) → most s < k * suc n → nat_abs x ≤ n
abs_over k x e s h = abs_cancel k x (abs_by e s (le_refl _)) h

-- a number is another one and what lies between them
pub by_way_of : (x y : ℤ) → x ≡ (x -ℤ y) +ℤ y
by_way_of x y = sym (-ℤ-+ℤ_cancel x y)

-- a rounded quotient stays within a whole bound of the exact one
pub near_size : (d : ℕ) (q n : ℤ) {k : ℕ} → 0 < d → Near d q n → (s : Sized n) → most s ≤ d * k → nat_abs q ≤ k
near_size d q n z r s h =
    abs_over d q (by_way_of (pos d *ℤ q) n) (plus (given {x = pos d *ℤ q -ℤ n} (le_refl _)) s) (omega arith)

-- numbers that are near each other have sizes that are
pub abs_close : (x y : ℤ) {d : ℕ} → nat_abs (x -ℤ y) ≤ d → (nat_abs x ≤ nat_abs y + d) × (nat_abs y ≤ nat_abs x + d)
abs_close x y h =
    omega (arith, nat_abs_parts x, nat_abs_parts y, nat_abs_parts (x -ℤ y), parts-- x y, one_part x, one_part y)

-- ---- squares

-- a sum of two squares, by the sizes of the numbers
pub squares : (x y : ℤ) → x *ℤ x +ℤ y *ℤ y ≡ pos (nat_abs x * nat_abs x + nat_abs y * nat_abs y)
squares x y = rw (square_abs x, square_abs y) refl

-- a sum of two squares that is near a number is bounded by it
pub squares_upper : (x y : ℤ) (n : ℕ) {d : ℕ} → nat_abs (x *ℤ x +ℤ y *ℤ y -ℤ pos n) ≤ d → nat_abs x * nat_abs x + nat_abs y * nat_abs y ≤ n + d
squares_upper x y n h = within_upper (nat_abs x * nat_abs x + nat_abs y * nat_abs y) n (rw (squares x y) at h)

-- and bounds it
pub squares_lower : (x y : ℤ) (n : ℕ) {d : ℕ} → nat_abs (x *ℤ x +ℤ y *ℤ y -ℤ pos n) ≤ d → n ≤ nat_abs x * nat_abs x + nat_abs y * nat_abs y + d
squares_lower x y n h = within_lower (nat_abs x * nat_abs x + nat_abs y * nat_abs y) n (rw (squares x y) at h)

-- if x² + y² is at most 9/8, then x + y is at most 3/2
pub sum_by_squares : (x y : ℕ) → 8 * (x * x + y * y) ≤ 9 * (unit * unit) → 2 * (x + y) ≤ 3 * unit
sum_by_squares x y = by-squares x y unit
