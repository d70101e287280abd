-- The order of ℤ: its laws, its tests, and a bridge by which `omega`, which knows only ℕ, proves linear facts of integers. Each is true because
-- `x ≤ℤ y` is `P x + N y ≤ P y + N x` for the parts of `Laws.antt`, an order of ℕ.
-- `omega order` reads the hypotheses whose sides are variables; `le_of` hands it any other, and `le_by` turns the goal. Assumes nothing.
use mathlib.Core.Path.{◌≡◌, refl, sym, ap, subst}
use mathlib.Core.Bool.{Bool, true, false}
use mathlib.Core.List.{List}
use mathlib.Core.Logic.{◌⊎◌, inl, inr}
use Prim.Native.Nat.{ℕ, suc, ◌+◌, ◌*◌, ◌≤◌, ◌<◌}
use native.Mathlib.Decide.{dec_le}
use native.Mathlib.Nat.{mul-le-mul_right}
use native.Mathlib.Omega.{arith}
use lib.Dec.{T, leb, leb→le, le→leb, ltb→lt, lt→ltb}
use borrow.Author.Tests.{leb-true, leb-false}
use lib.IntN.{ℤ, pos, negsuc, ◌+ℤ◌, ◌-ℤ◌, ◌*ℤ◌, neg_ℤ, nat_abs}
use lib.Signed.{◌≤ℤ◌, ◌<ℤ◌, le_z, lt_z, le_z_yes, lt_z_yes, yes_non_neg, pos-nat_abs}
use Rattle.proof_kit.proofs.Laws.{P, N, by_parts, one_part, nat_abs_parts, parts-+, parts--, P-neg, N-neg, P-*, N-*}
use Rattle.proof_kit.proofs.Ring.{Term, plus, times, neg, var, num, num⁻}
use Rattle.proof_kit.proofs.Size.{square_abs, square_le}

-- ---- the order of ℕ

-- not above, or above: the two cases of a test
pub le_or_lt : (a b : ℕ) → (a ≤ b) ⊎ (b < a)
le_or_lt a b = at (leb a b) refl
  where
    at : (t : Bool) → leb a b ≡ t → (a ≤ b) ⊎ (b < a)
    at true e = inl (leb-true a b e)
    at false e = inr (leb-false a b e)

-- ---- the order by parts

test_parts : (x y : ℤ) → T (le_z x y) → P x + N y ≤ P y + N x
test_parts (pos a) (pos b) t = omega (arith, leb→le a b t)
test_parts (pos a) (negsuc b) t = absurd t
test_parts (negsuc a) (pos b) t = omega arith
test_parts (negsuc a) (negsuc b) t = omega (arith, leb→le b a t)

parts_test : (x y : ℤ) → P x + N y ≤ P y + N x → T (le_z x y)
parts_test (pos a) (pos b) h = le→leb a b (omega arith)
parts_test (pos a) (negsuc b) h = let e : ⊥ = omega arith in absurd e
parts_test (negsuc a) (pos b) h = tt
parts_test (negsuc a) (negsuc b) h = le→leb b a (omega arith)

test_parts< : (x y : ℤ) → T (lt_z x y) → P x + N y < P y + N x
test_parts< (pos a) (pos b) t = omega (arith, ltb→lt a b t)
test_parts< (pos a) (negsuc b) t = absurd t
test_parts< (negsuc a) (pos b) t = omega arith
test_parts< (negsuc a) (negsuc b) t = omega (arith, ltb→lt b a t)

parts_test< : (x y : ℤ) → P x + N y < P y + N x → T (lt_z x y)
parts_test< (pos a) (pos b) h = lt→ltb a b (omega arith)
parts_test< (pos a) (negsuc b) h = let e : ⊥ = omega arith in absurd e
parts_test< (negsuc a) (pos b) h = tt
parts_test< (negsuc a) (negsuc b) h = lt→ltb b a (omega arith)

pub le_parts : {x y : ℤ} → x ≤ℤ y → P x + N y ≤ P y + N x
le_parts {x} {y} h = test_parts x y h.le

pub parts_le : {x y : ℤ} → P x + N y ≤ P y + N x → x ≤ℤ y
parts_le {x} {y} h = le_z_yes (parts_test x y h)

pub lt_parts : {x y : ℤ} → x <ℤ y → P x + N y < P y + N x
lt_parts {x} {y} h = test_parts< x y h.lt

pub parts_lt : {x y : ℤ} → P x + N y < P y + N x → x <ℤ y
parts_lt {x} {y} h = lt_z_yes (parts_test< x y h)

pub eq_parts : {x y : ℤ} → x ≡ y → P x + N y ≡ P y + N x
eq_parts {x} {y} e = subst (λ (z : ℤ). P x + N z ≡ P z + N x) e refl

-- `omega order`: linear arithmetic that reads and proves the order of integers
pub ruleset order = (arith, le_parts, parts_le, lt_parts, parts_lt, eq_parts)

-- ---- the laws

pub ≤ℤ-trans : {x y z : ℤ} → x ≤ℤ y → y ≤ℤ z → x ≤ℤ z
≤ℤ-trans h k = omega order

pub ≤ℤ-antisym : {x y : ℤ} → x ≤ℤ y → y ≤ℤ x → x ≡ y
≤ℤ-antisym {x} {y} h k = by_parts x y (omega order)

pub <ℤ-≤ℤ : {x y : ℤ} → x <ℤ y → x ≤ℤ y
<ℤ-≤ℤ h = omega order

-- strictly below is at most one less
pub <ℤ-one : {x y : ℤ} → x <ℤ y → (x +ℤ pos 1) ≤ℤ y
<ℤ-one {x} {y} h = omega (order, parts-+ x (pos 1))

pub one-<ℤ : {x y : ℤ} → (x +ℤ pos 1) ≤ℤ y → x <ℤ y
one-<ℤ {x} {y} h = omega (order, parts-+ x (pos 1))

pub ≤ℤ-total : (x y : ℤ) → (x ≤ℤ y) ⊎ (y <ℤ x)
≤ℤ-total x y = go (dec_le (P x + N y) (P y + N x))
  where
    go : Dec (P x + N y ≤ P y + N x) → (x ≤ℤ y) ⊎ (y <ℤ x)
    go (yes h) = inl (parts_le h)
    go (no h) = inr (omega order)

pub pos-≤ℤ : {m n : ℕ} → m ≤ n → pos m ≤ℤ pos n
pos-≤ℤ h = omega order

pub pos-≤ : {m n : ℕ} → pos m ≤ℤ pos n → m ≤ n
pos-≤ h = omega order

pub +ℤ-mono : {x y z w : ℤ} → x ≤ℤ y → z ≤ℤ w → (x +ℤ z) ≤ℤ (y +ℤ w)
+ℤ-mono {x} {y} {z} {w} h k = omega (order, parts-+ x z, parts-+ y w)

pub negℤ-mono : {x y : ℤ} → x ≤ℤ y → neg_ℤ y ≤ℤ neg_ℤ x
negℤ-mono {x} {y} h = omega (order, P-neg x, N-neg x, P-neg y, N-neg y)

pub *ℤ-mono : {x y z : ℤ} → pos 0 ≤ℤ z → x ≤ℤ y → (x *ℤ z) ≤ℤ (y *ℤ z)
*ℤ-mono {x} {y} {z} k h =
    let zero-below : N z ≡ 0 = omega (order, one_part z) in
    let m : (P x + N y) * P z ≤ (P y + N x) * P z = mul-le-mul_right (P z) (le_parts h) in
    parts_le (simp (P-*, N-*, zero-below) (omega arith))

pub square_nonneg : (x : ℤ) → pos 0 ≤ℤ (x *ℤ x)
square_nonneg (pos n) = omega order
square_nonneg (negsuc n) = omega order

-- a size as two bounds
pub abs_upper : (x : ℤ) {n : ℕ} → nat_abs x ≤ n → x ≤ℤ pos n
abs_upper x h = omega (order, nat_abs_parts x)

pub abs_lower : (x : ℤ) {n : ℕ} → nat_abs x ≤ n → neg_ℤ (pos n) ≤ℤ x
abs_lower x {n} h = omega (order, nat_abs_parts x, P-neg (pos n), N-neg (pos n))

pub abs_between : (x : ℤ) {n : ℕ} → neg_ℤ (pos n) ≤ℤ x → x ≤ℤ pos n → nat_abs x ≤ n
abs_between x {n} h k = omega (order, nat_abs_parts x, one_part x, P-neg (pos n), N-neg (pos n))

pub pos_abs : {x : ℤ} → pos 0 ≤ℤ x → pos (nat_abs x) ≡ x
pos_abs {x} h = pos-nat_abs x (yes_non_neg h)

pub neg_abs : {x : ℤ} → x ≤ℤ pos 0 → pos (nat_abs x) ≡ neg_ℤ x
neg_abs {x} h = by_parts (pos (nat_abs x)) (neg_ℤ x) (omega (order, nat_abs_parts x, P-neg x, N-neg x, one_part x))

pub abs_square_le : (x y : ℤ) → (x *ℤ x) ≤ℤ (y *ℤ y) → nat_abs x ≤ nat_abs y
abs_square_le x y h = square_le (nat_abs x) (nat_abs y) (pos-≤ (rw (square_abs x, square_abs y) at h))

-- ---- the tests, as a signed `if` leaves them

is_true : (t : Bool) → T t → t ≡ true
is_true true h = refl
is_true false h = absurd h

is_false : (t : Bool) → (T t → ⊥) → t ≡ false
is_false true h = absurd (h tt)
is_false false h = refl

pub le_z_true : (x y : ℤ) → le_z x y ≡ true → x ≤ℤ y
le_z_true x y e = le_z_yes (subst T (sym e) tt)

pub lt_z_true : (x y : ℤ) → lt_z x y ≡ true → x <ℤ y
lt_z_true x y e = lt_z_yes (subst T (sym e) tt)

pub le_le_z : {x y : ℤ} → x ≤ℤ y → le_z x y ≡ true
le_le_z {x} {y} h = is_true (le_z x y) h.le

pub lt_lt_z : {x y : ℤ} → x <ℤ y → lt_z x y ≡ true
lt_lt_z {x} {y} h = is_true (lt_z x y) h.lt

pub le_z_false : (x y : ℤ) → le_z x y ≡ false → y <ℤ x
le_z_false x y e = go (≤ℤ-total x y)
  where
    go : (x ≤ℤ y) ⊎ (y <ℤ x) → y <ℤ x
    go (inl h) = absurd (subst T e h.le)
    go (inr h) = h

pub lt_z_false : (x y : ℤ) → lt_z x y ≡ false → y ≤ℤ x
lt_z_false x y e = go (≤ℤ-total y x)
  where
    go : (y ≤ℤ x) ⊎ (x <ℤ y) → y ≤ℤ x
    go (inl h) = h
    go (inr h) = absurd (subst T e h.lt)

pub lt_le_z : {x y : ℤ} → y <ℤ x → le_z x y ≡ false
lt_le_z {x} {y} h = is_false (le_z x y) (λ t. let e : ⊥ = omega (arith, lt_parts h, test_parts x y t) in e)

pub le_lt_z : {x y : ℤ} → y ≤ℤ x → lt_z x y ≡ false
le_lt_z {x} {y} h = is_false (lt_z x y) (λ t. let e : ⊥ = omega (arith, le_parts h, test_parts< x y t) in e)

-- ---- the bridge: an expression's two parts, over those of its variables

pub record Split : Type 0 where
  pub up : ℕ
  pub down : ℕ

abbrev pub split : {r : List ℤ} {z : ℤ} → Term r z → Split
split (plus a b) = record { up = (split a).up + (split b).up; down = (split a).down + (split b).down }
split (times a b) =
    record { up = (split a).up * (split b).up + (split a).down * (split b).down; down = (split a).up * (split b).down + (split a).down * (split b).up }
split (neg a) = record { up = (split a).down; down = (split a).up }
split (var {x} a) = record { up = P x; down = N x }
split (num n e) = record { up = n; down = 0 }
split (num⁻ n e) = record { up = 0; down = suc n }

-- the product of two differences
products : (p n u d p' n' u' d' : ℕ) → p + d ≡ u + n → p' + d' ≡ u' + n' → (p * p' + n * n') + (u * d' + d * u') ≡ (u * u' + d * d') + (p * n' + n * p')
products p n u d p' n' u' d' e f =
    omega (arith, ap (λ (k : ℕ). k * p') e, ap (λ (k : ℕ). k * n') e, ap (λ (k : ℕ). u * k) f, ap (λ (k : ℕ). d * k) f)

split_parts : {r : List ℤ} {z : ℤ} (t : Term r z) → P z + (split t).down ≡ (split t).up + N z
split_parts (plus {x} {y} a b) = omega (arith, parts-+ x y, split_parts a, split_parts b)
split_parts (times {x} {y} a b) =
    simp (P-*, N-*) (products (P x) (N x) (split a).up (split a).down (P y) (N y) (split b).up (split b).down (split_parts a) (split_parts b))
split_parts (neg {x} a) = omega (arith, P-neg x, N-neg x, split_parts a)
split_parts (var a) = refl
split_parts (num n e) = omega arith
split_parts (num⁻ n e) = omega arith

-- a fact of expressions over the variables r, as `omega` reads it: `le_of r (search quote depth 40 fits 20000) h`
pub le_of : (r : List ℤ) {x y : ℤ} (t : Term r (y -ℤ x)) → x ≤ℤ y → (split t).down ≤ (split t).up
le_of r {x} {y} t h = omega (order, split_parts t, parts-- y x)

pub lt_of : (r : List ℤ) {x y : ℤ} (t : Term r (y -ℤ x)) → x <ℤ y → (split t).down < (split t).up
lt_of r {x} {y} t h = omega (order, split_parts t, parts-- y x)

pub eq_of : (r : List ℤ) {x y : ℤ} (t : Term r (y -ℤ x)) → x ≡ y → (split t).down ≡ (split t).up
eq_of r {x} {y} t h = omega (order, split_parts t, parts-- y x)

-- and a goal: `le_by r (search quote depth 40 fits 20000) (omega order)`
pub le_by : (r : List ℤ) {x y : ℤ} (t : Term r (y -ℤ x)) → (split t).down ≤ (split t).up → x ≤ℤ y
le_by r {x} {y} t h = omega (order, split_parts t, parts-- y x)

pub lt_by : (r : List ℤ) {x y : ℤ} (t : Term r (y -ℤ x)) → (split t).down < (split t).up → x <ℤ y
lt_by r {x} {y} t h = omega (order, split_parts t, parts-- y x)

pub eq_by : (r : List ℤ) {x y : ℤ} (t : Term r (y -ℤ x)) → (split t).down ≡ (split t).up → x ≡ y
eq_by r {x} {y} t h = by_parts x y (omega (arith, split_parts t, parts-- y x))
