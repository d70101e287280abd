-- The kit at work: an example or two of each tool, which are also its tests. Each holds by its tool. Assumes nothing.
use mathlib.Core.Path.{◌≡◌}
use mathlib.Core.List.{[], ◌∷◌}
use Prim.Native.Nat.{ℕ, ◌+◌, ◌*◌, ◌≤◌}
use native.Mathlib.Omega.{arith}
use lib.Dec.{lit≤}
use lib.IntN.{ℤ, pos, negsuc, ◌+ℤ◌, ◌-ℤ◌, ◌*ℤ◌, nat_abs}
use lib.Signed.{◌≤ℤ◌, ◌<ℤ◌}
use Rattle.proof_kit.proofs.Certificate.{certify, nonneg}
use Rattle.proof_kit.proofs.Order.{order, le_of, lt_by}
use Rattle.proof_kit.proofs.Ring.{quote, ring, ring_from}
use Rattle.proof_kit.proofs.Size.{sizes, as_size, abs_le, abs_by}

-- ---- Ring

-- a turn multiplies the sum of squares
rotation :
    (S C b v : ℤ) →
    (S *ℤ b +ℤ C *ℤ v) *ℤ (S *ℤ b +ℤ C *ℤ v) +ℤ (C *ℤ b -ℤ S *ℤ v) *ℤ (C *ℤ b -ℤ S *ℤ v) ≡ (S *ℤ S +ℤ C *ℤ C) *ℤ (b *ℤ b +ℤ v *ℤ v)
rotation S C b v = ring (S ∷ C ∷ b ∷ v ∷ []) (search quote depth 40 fits 20000) tt

-- Euler's four squares: eight variables, degree 4
four_squares : (a b c d e f g h : ℤ) →
    let p = a *ℤ e +ℤ b *ℤ f +ℤ c *ℤ g +ℤ d *ℤ h in
    let q = a *ℤ f -ℤ b *ℤ e +ℤ c *ℤ h -ℤ d *ℤ g in
    let r = a *ℤ g -ℤ b *ℤ h -ℤ c *ℤ e +ℤ d *ℤ f in
    let s = a *ℤ h +ℤ b *ℤ g -ℤ c *ℤ f -ℤ d *ℤ e in
    (a *ℤ a +ℤ b *ℤ b +ℤ c *ℤ c +ℤ d *ℤ d) *ℤ (e *ℤ e +ℤ f *ℤ f +ℤ g *ℤ g +ℤ h *ℤ h) ≡ p *ℤ p +ℤ q *ℤ q +ℤ r *ℤ r +ℤ s *ℤ s
four_squares a b c d e f g h = ring (a ∷ b ∷ c ∷ d ∷ e ∷ f ∷ g ∷ h ∷ []) (search quote depth 40 fits 20000) tt

-- numerals, and a natural number as a variable
numerals : (n : ℕ) (x : ℤ) → (pos 2 *ℤ x -ℤ pos n) *ℤ (x +ℤ negsuc 4) ≡ pos 2 *ℤ x *ℤ x -ℤ (pos n +ℤ pos 10) *ℤ x +ℤ pos 5 *ℤ pos n
numerals n x = ring (pos n ∷ x ∷ []) (search quote depth 40 fits 20000) tt

-- under an equation: on the unit circle, the turn keeps the sum of squares
on_circle :
    (S C b v R : ℤ) →
    S *ℤ S +ℤ C *ℤ C ≡ R →
    (S *ℤ b +ℤ C *ℤ v) *ℤ (S *ℤ b +ℤ C *ℤ v) +ℤ (C *ℤ b -ℤ S *ℤ v) *ℤ (C *ℤ b -ℤ S *ℤ v) ≡ R *ℤ (b *ℤ b +ℤ v *ℤ v)
on_circle S C b v R e = ring_from (S ∷ C ∷ b ∷ v ∷ R ∷ []) (b *ℤ b +ℤ v *ℤ v) e (search quote depth 40 fits 20000) tt

-- ---- Size

-- a bound on an expression, from bounds on its variables
expression : (x y z : ℤ) (m : ℕ) → nat_abs x ≤ m → nat_abs y ≤ 7 → nat_abs z ≤ 9 → nat_abs (x *ℤ y -ℤ (z +ℤ pos 5)) ≤ 7 * m + 14
expression x y z m h k l = rw as_size (abs_le (search sizes depth 40 fits 20000) (omega arith))

-- the error of a product, from the errors of its factors
product_error : (a b c d : ℤ) → nat_abs a ≤ 1000 → nat_abs d ≤ 1000 → nat_abs (a -ℤ c) ≤ 3 → nat_abs (b -ℤ d) ≤ 5 → nat_abs (a *ℤ b -ℤ c *ℤ d) ≤ 8000
product_error a b c d h k l m = abs_by split (search sizes depth 40 fits 20000) (lit≤ tt)
  where
    split : a *ℤ b -ℤ c *ℤ d ≡ a *ℤ (b -ℤ d) +ℤ (a -ℤ c) *ℤ d
    split = ring (a ∷ b ∷ c ∷ d ∷ []) (search quote depth 40 fits 20000) tt

-- ---- Order

-- sides that are variables: `omega order` alone
between : (a b c : ℤ) → a ≤ℤ b → b <ℤ c → c ≤ℤ pos 5 → a <ℤ pos 5
between a b c h k l = omega order

-- sides that are expressions
linear : (a b c d : ℤ) → a ≤ℤ b → (c +ℤ pos 3) ≤ℤ (pos 2 *ℤ d) → (a -ℤ pos 2 *ℤ d) <ℤ (b -ℤ c)
linear a b c d h k =
    let r = a ∷ b ∷ c ∷ d ∷ [] in
    lt_by r (search quote depth 40 fits 20000) (omega (order, le_of r (search quote depth 40 fits 20000) k))

-- ---- Certificate

means : (q r : ℤ) → (pos 4 *ℤ q *ℤ r) ≤ℤ ((q +ℤ r) *ℤ (q +ℤ r))
means q r =
    certify (q ∷ r ∷ []) 1 ((q -ℤ r) *ℤ (q -ℤ r)) (search nonneg depth 40 fits 20000) (search quote depth 40 fits 20000) tt

cauchy_schwarz : (a b c d : ℤ) → ((a *ℤ c +ℤ b *ℤ d) *ℤ (a *ℤ c +ℤ b *ℤ d)) ≤ℤ ((a *ℤ a +ℤ b *ℤ b) *ℤ (c *ℤ c +ℤ d *ℤ d))
cauchy_schwarz a b c d =
    let gap = (a *ℤ d -ℤ b *ℤ c) *ℤ (a *ℤ d -ℤ b *ℤ c) in
    certify (a ∷ b ∷ c ∷ d ∷ []) 1 gap (search nonneg depth 40 fits 20000) (search quote depth 40 fits 20000) tt

-- products of numbers in a box
box : (a b c d : ℤ) → pos 0 ≤ℤ a → a ≤ℤ b → pos 0 ≤ℤ c → c ≤ℤ d → (a *ℤ c) ≤ℤ (b *ℤ d)
box a b c d h k l m =
    let gap = (b -ℤ a) *ℤ (d -ℤ c) +ℤ a *ℤ (d -ℤ c) +ℤ c *ℤ (b -ℤ a) in
    certify (a ∷ b ∷ c ∷ d ∷ []) 1 gap (search nonneg depth 40 fits 20000) (search quote depth 40 fits 20000) tt

-- an equation in the certificate: a coordinate is at most the radius
radius : (s c x : ℤ) → s *ℤ s +ℤ c *ℤ c ≡ pos 100 → (s *ℤ s *ℤ x *ℤ x) ≤ℤ (pos 100 *ℤ x *ℤ x)
radius s c x e =
    let gap = x *ℤ x *ℤ (pos 100 -ℤ (s *ℤ s +ℤ c *ℤ c)) +ℤ (c *ℤ x) *ℤ (c *ℤ x) in
    certify (s ∷ c ∷ x ∷ []) 1 gap (search nonneg depth 40 fits 20000) (search quote depth 40 fits 20000) tt
