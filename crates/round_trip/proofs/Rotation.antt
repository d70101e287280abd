-- A turn by an angle of sine S and cosine C takes (m, n) to (S m + C n, C m − S n), each coordinate divided by U and rounded.
-- The turn back takes (up, north) to (up S + north C, up C − north S), divided and rounded likewise.
-- A rounded turn keeps the sum of squares, and a turn back leads to (m, n), but for small errors: S² + C² is U² but for A · U, and a rounding is off by at
-- most one half. Assumes nothing.
use mathlib.Core.Path.{◌≡◌}
use mathlib.Core.List.{[], ◌∷◌}
use Prim.Native.Nat.{ℕ, suc, ◌+◌, ◌*◌, ◌≤◌, ◌<◌}
use native.Mathlib.Nat.{le_refl}
use native.Mathlib.Omega.{arith}
use lib.IntN.{ℤ, pos, ◌+ℤ◌, ◌-ℤ◌, ◌*ℤ◌, neg_ℤ, nat_abs}
use Rattle.proof_kit.proofs.Laws.{negℤ-*ʳ}
use Rattle.proof_kit.proofs.Ring.{quote, ring, ring_from}
use Rattle.round_trip.proofs.Numerals.{unit, half, A, κ, E1, Ez}
use Rattle.round_trip.proofs.Tools.{Near, OnCircle, parts, abs_over, squares_upper, sum_by_squares}

-- ---- the sum of squares

-- a turn multiplies the sum of squares by that of (S, C)
pub turned : (S C m n : ℤ) →
    (S *ℤ m +ℤ C *ℤ n) *ℤ (S *ℤ m +ℤ C *ℤ n) +ℤ (C *ℤ m -ℤ S *ℤ n) *ℤ (C *ℤ m -ℤ S *ℤ n) ≡ (m *ℤ m +ℤ n *ℤ n) *ℤ (S *ℤ S +ℤ C *ℤ C)
turned S C m n = ring (S ∷ C ∷ m ∷ n ∷ []) (search quote depth 40 fits 20000) tt

-- and so does a turn of (m, 0), which has no second summands
pub turned_axis : (S C m : ℤ) → (m *ℤ S) *ℤ (m *ℤ S) +ℤ (m *ℤ C) *ℤ (m *ℤ C) ≡ (m *ℤ m) *ℤ (S *ℤ S +ℤ C *ℤ C)
turned_axis S C m = ring (S ∷ C ∷ m ∷ []) (search quote depth 40 fits 20000) tt

-- a point of square q is turned to (g, h) by one of square N. U² times the error of x² + y², as those of N and of the roundings x and y
turn_error : (U N q g h x y : ℤ) → g *ℤ g +ℤ h *ℤ h ≡ q *ℤ N →
    U *ℤ U *ℤ (x *ℤ x +ℤ y *ℤ y -ℤ q)
    ≡ q *ℤ (N -ℤ U *ℤ U) +ℤ pos 2 *ℤ U *ℤ (x *ℤ (U *ℤ x -ℤ g) +ℤ y *ℤ (U *ℤ y -ℤ h))
    -ℤ ((U *ℤ x -ℤ g) *ℤ (U *ℤ x -ℤ g) +ℤ (U *ℤ y -ℤ h) *ℤ (U *ℤ y -ℤ h))
turn_error U N q g h x y e = ring_from (U ∷ N ∷ q ∷ g ∷ h ∷ x ∷ y ∷ []) (pos 1) e (search quote depth 40 fits 20000) tt

-- x² + y² is q, but for k, where the sizes of q, x and y leave room for k
pub turn : (N q g h x y : ℤ) {Q a b k : ℕ} → g *ℤ g +ℤ h *ℤ h ≡ q *ℤ N → nat_abs (N -ℤ pos unit *ℤ pos unit) ≤ A * unit →
    Near unit x g → Near unit y h → nat_abs q ≤ Q → nat_abs x ≤ a → nat_abs y ≤ b →
    Q * (A * unit) + half * (2 * unit * (a + b) + unit) < unit * unit * suc k → nat_abs (x *ℤ x +ℤ y *ℤ y -ℤ q) ≤ k
turn N q g h x y e circle near-x near-y q_size x_size y_size room =
    abs_over (unit * unit) (x *ℤ x +ℤ y *ℤ y -ℤ q) (turn_error (pos unit) N q g h x y e) (search parts depth 40 fits 20000) (omega arith)

-- ---- the turn back

-- (m, n) was turned to (x, y), and z is the first coordinate of (up, north) turned back.
-- U² times the error of z, as those of z's rounding, of up and north, of the circle of (S, C), and of the roundings x and y
back_error : (U S C m n x y up north z : ℤ) →
    U *ℤ U *ℤ (z -ℤ m)
    ≡ U *ℤ (U *ℤ z -ℤ (up *ℤ S +ℤ north *ℤ C)) +ℤ U *ℤ ((up -ℤ x) *ℤ S +ℤ (north -ℤ y) *ℤ C) +ℤ m *ℤ (S *ℤ S +ℤ C *ℤ C -ℤ U *ℤ U)
    +ℤ ((U *ℤ x -ℤ (S *ℤ m +ℤ C *ℤ n)) *ℤ S +ℤ (U *ℤ y -ℤ (C *ℤ m -ℤ S *ℤ n)) *ℤ C)
back_error U S C m n x y up north z = ring (U ∷ S ∷ C ∷ m ∷ n ∷ x ∷ y ∷ up ∷ north ∷ z ∷ []) (search quote depth 40 fits 20000) tt

-- z is m, but for Ez
pub turn_back : (S C m n x y up north z : ℤ) → OnCircle S C → Near unit x (S *ℤ m +ℤ C *ℤ n) → Near unit y (C *ℤ m -ℤ S *ℤ n) →
    nat_abs (up -ℤ x) ≤ κ → nat_abs (north -ℤ y) ≤ E1 → nat_abs m ≤ unit → Near unit z (up *ℤ S +ℤ north *ℤ C) → nat_abs (z -ℤ m) ≤ Ez
turn_back S C m n x y up north z circle near-x near-y up-close north-close m_size near_z =
    let sum : 2 * (nat_abs S + nat_abs C) ≤ 3 * unit = sum_by_squares (nat_abs S) (nat_abs C) (omega (arith, squares_upper S C (unit * unit) circle)) in
    abs_over (unit * unit) (z -ℤ m) (back_error (pos unit) S C m n x y up north z)
    (search (parts, le_refl (nat_abs S), le_refl (nat_abs C)) depth 40 fits 20000) (omega arith)

-- (C, −S) turns (n, −m) to where (S, C) turns (m, n), and has the same circle
quarter : (S C m n : ℤ) →
    (C *ℤ C +ℤ neg_ℤ S *ℤ neg_ℤ S ≡ S *ℤ S +ℤ C *ℤ C)
    × (C *ℤ n +ℤ neg_ℤ S *ℤ neg_ℤ m ≡ S *ℤ m +ℤ C *ℤ n)
    × (neg_ℤ S *ℤ n -ℤ C *ℤ neg_ℤ m ≡ C *ℤ m -ℤ S *ℤ n)
quarter S C m n =
    let r = S ∷ C ∷ m ∷ n ∷ [] in (
      ring r (search quote depth 40 fits 20000) tt,
      ring r (search quote depth 40 fits 20000) tt,
      ring r (search quote depth 40 fits 20000) tt,
    )

-- so the second coordinate f of (up, north) turned back is n, but for Ez
pub turn_back_second : (S C m n x y up north f : ℤ) → OnCircle S C → Near unit x (S *ℤ m +ℤ C *ℤ n) → Near unit y (C *ℤ m -ℤ S *ℤ n) →
    nat_abs (up -ℤ x) ≤ κ → nat_abs (north -ℤ y) ≤ E1 → nat_abs n ≤ unit → Near unit f (up *ℤ C -ℤ north *ℤ S) → nat_abs (f -ℤ n) ≤ Ez
turn_back_second S C m n x y up north f circle near-x near-y up-close north-close n-size near_f =
    let q = quarter S C m n in
    turn_back C (neg_ℤ S) n (neg_ℤ m) x y up north f (rw q.0 circle) (rw q.1 near-x) (rw q.2 near-y) up-close north-close n-size (rw negℤ-*ʳ near_f)
