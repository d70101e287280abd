-- The ring laws of ℤ that `lib.IntN` lacks: associativity of the product, distributivity, and negation. Each number is read as the
-- difference of two naturals, `P z` and `N z`, one of which is 0; a law of ℤ is then an equation of ℕ. Assumes nothing.
use mathlib.Core.Path.{◌≡◌, refl, sym, ap, ap₂, ◌∙◌}
use mathlib.Core.Bool.{Bool, true, false, not, cond}
use Prim.Native.Nat.{ℕ, zero, suc, ◌+◌, ◌*◌, ◌-◌, ◌≤◌, ◌<◌, min}
use native.Mathlib.Omega.{arith}
use lib.Dec.{T, ltb, ltb→lt, nltb→le}
use lib.IntN.{ℤ, pos, negsuc, ◌+ℤ◌, ◌-ℤ◌, ◌*ℤ◌, neg_ℤ, sub_ℕ, nat_abs, *ℤ_comm, -ℤ-+ℤ_cancel, +ℤ_idl}

-- how far z is above 0, and how far below
abbrev pub P : ℤ → ℕ
P (pos n) = n
P (negsuc n) = 0

abbrev pub N : ℤ → ℕ
N (pos n) = 0
N (negsuc n) = suc n

-- one of the two parts is 0: for `omega`, where it believes both positive
pub one_part : (z : ℤ) → min (P z) (N z) ≡ 0
one_part (pos n) = omega arith
one_part (negsuc n) = omega arith

pub nat_abs_parts : (z : ℤ) → nat_abs z ≡ P z + N z
nat_abs_parts (pos n) = omega arith
nat_abs_parts (negsuc n) = omega arith

-- two numbers with one difference are one number
pub by_parts : (x y : ℤ) → P x + N y ≡ P y + N x → x ≡ y
by_parts (pos a) (pos b) h = let e : a ≡ b = omega arith in ap pos e
by_parts (pos a) (negsuc b) h = let e : ⊥ = omega arith in absurd e
by_parts (negsuc a) (pos b) h = let e : ⊥ = omega arith in absurd e
by_parts (negsuc a) (negsuc b) h = let e : a ≡ b = omega arith in ap negsuc e

-- ---- the parts of each operation

sub_parts : (a b : ℕ) → P (sub_ℕ a b) + b ≡ a + N (sub_ℕ a b)
sub_parts a b = go (ltb a b) (ltb→lt a b) (nltb→le a b)
  where
    go :
        (t : Bool) →
        (T t → a < b) →
        (T (not t) → b ≤ a) →
        P (cond t (negsuc (b - suc a)) (pos (a - b))) + b ≡ a + N (cond t (negsuc (b - suc a)) (pos (a - b)))
    go true f g = let h : a < b = f tt in omega arith
    go false f g = let h : b ≤ a = g tt in omega arith

pub parts-+ : (x y : ℤ) → P (x +ℤ y) + (N x + N y) ≡ P x + P y + N (x +ℤ y)
parts-+ (pos a) (pos b) = omega arith
parts-+ (pos a) (negsuc b) = omega (arith, sub_parts a (suc b))
parts-+ (negsuc a) (pos b) = omega (arith, sub_parts b (suc a))
parts-+ (negsuc a) (negsuc b) = omega arith

pub P-neg : (x : ℤ) → P (neg_ℤ x) ≡ N x
P-neg (pos zero) = refl
P-neg (pos (suc n)) = refl
P-neg (negsuc n) = refl

pub N-neg : (x : ℤ) → N (neg_ℤ x) ≡ P x
N-neg (pos zero) = refl
N-neg (pos (suc n)) = refl
N-neg (negsuc n) = refl

pub parts-- : (x y : ℤ) → P (x -ℤ y) + (N x + P y) ≡ P x + N y + N (x -ℤ y)
parts-- x y = omega (arith, parts-+ x (neg_ℤ y), P-neg y, N-neg y)

pub P-* : (x y : ℤ) → P (x *ℤ y) ≡ P x * P y + N x * N y
P-* (pos a) (pos b) = omega arith
P-* (pos a) (negsuc b) = omega (arith, P-neg (pos (a * suc b)))
P-* (negsuc a) (pos b) = omega (arith, P-neg (pos (suc a * b)))
P-* (negsuc a) (negsuc b) = omega arith

pub N-* : (x y : ℤ) → N (x *ℤ y) ≡ P x * N y + N x * P y
N-* (pos a) (pos b) = omega arith
N-* (pos a) (negsuc b) = omega (arith, N-neg (pos (a * suc b)))
N-* (negsuc a) (pos b) = omega (arith, N-neg (pos (suc a * b)))
N-* (negsuc a) (negsuc b) = omega arith

-- ---- the laws

pub *ℤ-assoc : (x y z : ℤ) → (x *ℤ y) *ℤ z ≡ x *ℤ (y *ℤ z)
*ℤ-assoc x y z = by_parts _ _ (simp (P-*, N-*) (omega arith))

pub *ℤ-distribˡ : (x y z : ℤ) → x *ℤ (y +ℤ z) ≡ x *ℤ y +ℤ x *ℤ z
*ℤ-distribˡ x y z =
    let p = ap (λ (n : ℕ). P x * n) (parts-+ y z) in
    let q = ap (λ (n : ℕ). N x * n) (parts-+ y z) in
    let s = parts-+ (x *ℤ y) (x *ℤ z) in
    by_parts _ _ (omega (arith, p, q, s, P-* x (y +ℤ z), N-* x (y +ℤ z), P-* x y, N-* x y, P-* x z, N-* x z))

pub *ℤ-distribʳ : (x y z : ℤ) → (x +ℤ y) *ℤ z ≡ x *ℤ z +ℤ y *ℤ z
*ℤ-distribʳ x y z = *ℤ_comm (x +ℤ y) z ∙ *ℤ-distribˡ z x y ∙ ap₂ ◌+ℤ◌ (*ℤ_comm z x) (*ℤ_comm z y)

pub negℤ-*ˡ : (x y : ℤ) → neg_ℤ x *ℤ y ≡ neg_ℤ (x *ℤ y)
negℤ-*ˡ x y = by_parts _ _ (simp (P-neg, N-neg, P-*, N-*) (omega arith))

pub negℤ-*ʳ : (x y : ℤ) → x *ℤ neg_ℤ y ≡ neg_ℤ (x *ℤ y)
negℤ-*ʳ x y = by_parts _ _ (simp (P-neg, N-neg, P-*, N-*) (omega arith))

-- two sums added place by place
pub +ℤ-pairs : (a b c d : ℤ) → (a +ℤ b) +ℤ (c +ℤ d) ≡ (a +ℤ c) +ℤ (b +ℤ d)
+ℤ-pairs a b c d =
    by_parts _ _ (omega (arith, parts-+ (a +ℤ b) (c +ℤ d), parts-+ a b, parts-+ c d, parts-+ (a +ℤ c) (b +ℤ d), parts-+ a c, parts-+ b d))

-- numbers whose difference is 0 are equal
pub diff_zero : (x y : ℤ) → x -ℤ y ≡ pos 0 → x ≡ y
diff_zero x y e = sym (-ℤ-+ℤ_cancel x y) ∙ ap (λ (z : ℤ). z +ℤ y) e ∙ +ℤ_idl y
