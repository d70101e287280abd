-- The distance from the axis, as the inverse finds it: the root of e² + f², where (e, f) is close to a point (a, d) that is close to the circle of radius c.
-- It is c, but for ER, as the squares of c and of a number further off differ by more than the errors make up. Assumes nothing.
use mathlib.Core.Path.{◌≡◌, ap}
use Prim.Native.Nat.{ℕ, ◌+◌, ◌*◌, ◌-◌, ◌≤◌}
use native.Mathlib.Decide.{dec_le}
use native.Mathlib.Nat.{mul-le-mul}
use native.Mathlib.Omega.{arith}
use lib.IntN.{ℤ, pos, ◌+ℤ◌, ◌-ℤ◌, ◌*ℤ◌, nat_abs}
use Rattle.proof_kit.proofs.Size.{square_le, within}
use Rattle.round_trip.proofs.Numerals.{A, E1, Ez, ER, least_cosine}
use Rattle.round_trip.proofs.Tools.{Root, abs_close, squares_upper, squares_lower}

module _ (c e f a d R : ℕ) (e-close : (e ≤ a + E1) × (a ≤ e + E1)) (f_close : (f ≤ d + Ez) × (d ≤ f + Ez))
    (a-size : a ≤ c) (d-size : d ≤ c) (c_least : least_cosine ≤ c) (root : Root (e * e + f * f) R) where
  -- it is at most c + ER
  radius_most : a * a + d * d ≤ c * c + (A + 2) * c → R ≤ c + ER
  radius_most circle =
      square_le R (c + ER) (omega (arith, mul-le-mul e-close.0 e-close.0, mul-le-mul f_close.0 f_close.0))

  -- it is not below t, where t is c − ER
  radius_not : (t : ℕ) → c ≡ t + ER → R + 1 ≤ t → c * c ≤ a * a + d * d + (A + 2) * c → ⊥
  radius_not t split below circle =
      omega (arith, ap (λ (n : ℕ). n * n) split, mul-le-mul below below, mul-le-mul e-close.1 e-close.1, mul-le-mul f_close.1 f_close.1)

  -- so it is at least c − ER
  radius_least : c * c ≤ a * a + d * d + (A + 2) * c → c ≤ R + ER
  radius_least circle = go (dec_le (R + 1 + ER) c)
    where
      go : Dec (R + 1 + ER ≤ c) → c ≤ R + ER
      go (yes h) = absurd (radius_not (c - ER) (omega arith) (omega arith) circle)
      go (no h) = omega arith

-- it is c, but for ER: the same of integers
pub radius_close : (c R : ℕ) (e f a d : ℤ) → nat_abs (e -ℤ a) ≤ E1 → nat_abs (f -ℤ d) ≤ Ez → nat_abs a ≤ c → nat_abs d ≤ c → least_cosine ≤ c →
    nat_abs (a *ℤ a +ℤ d *ℤ d -ℤ pos c *ℤ pos c) ≤ (A + 2) * c → Root (nat_abs e * nat_abs e + nat_abs f * nat_abs f) R → nat_abs (pos R -ℤ pos c) ≤ ER
radius_close c R e f a d e-close f_close a-size d-size c_least circle root =
    let e-near = abs_close e a e-close in
    let f_near = abs_close f d f_close in
    within R c
    (radius_most c (nat_abs e) (nat_abs f) (nat_abs a) (nat_abs d) R e-near f_near a-size d-size c_least root (squares_upper a d (c * c) circle))
    (radius_least c (nat_abs e) (nat_abs f) (nat_abs a) (nat_abs d) R e-near f_near a-size d-size c_least root (squares_lower a d (c * c) circle))
