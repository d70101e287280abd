-- Ranges of `i64` code. What the borrow checker leaves of an operation is that its result fits, `SFits w64 ..`, where each operand stands as
-- it is read back, `to_z w64 (of_z w64 ..)`. `search code` finds in that goal how the number was computed (`Code`), down to numerals and to the
-- numbers whose sizes the hypotheses bound by numerals. From these a bound follows for each result, and one that is below 2^63 is read back as
-- it was; that every result fits is then one computed test.
-- Use: `fits (search code depth 40 fits 20000) tt` at an operation, and `read (search code depth 40 fits 20000) tt` for what is returned. Where
-- many operations nest, list the bounds for `search`: `search (code, c.requires.0, c.requires.1) depth 40 fits 20000`. Assumes nothing.
use mathlib.Core.Path.{◌≡◌, refl, sym, ap, ap₂, ◌∙◌, subst}
use mathlib.Core.Bool.{Bool, true, false, ◌&&◌}
use Prim.Native.Nat.{ℕ, suc, pred, ◌+◌, ◌*◌, ◌/◌, ◌^◌, ◌≤◌, ◌<◌}
use native.Mathlib.Nat.{le_refl, le_trans, lt_of_le_of_lt, le-pred_of_lt, div-le_self, mod-le, mod-lt}
use native.Mathlib.Omega.{arith}
use borrow.Author.Tests.{ltb-true}
use lib.Dec.{T, leb, ltb, leb→le, ltb→lt}
use lib.IntN.{ℤ, pos, negsuc, ◌+ℤ◌, ◌-ℤ◌, ◌*ℤ◌, neg_ℤ, nat_abs, +ℤ_idl}
use lib.Signed.{◌≤ℤ◌, ◌<ℤ◌, le_z, lt_z, non_neg, mag, quot_z, rem_z, yes_non_neg, nat_abs-le}
use mir.Syntax.{w64}
use mir.Val.{Fits, SFits, to_z, of_z}
use mir.Facts.{and_yes, to_z-of_z, to_z_pos}
use Rattle.proof_kit.proofs.Order.{order, le_z_true, le_z_false, lt_z_true, lt_z_false}
use Rattle.proof_kit.proofs.Size.{size, abs_neg, abs_add_le, abs_mul_le, abs_quot, abs_rem, div_mono}

-- ---- code

-- how the number was computed. A numeral is a closed one: the test on it computes there, and `refl` shows it.
pub data Code : ℤ → Type 0 where
  plus : {x y : ℤ} → Code x → Code y → Code (x +ℤ y)
  opposite : {x : ℤ} → Code x → Code (pos 0 -ℤ x)  -- `-x`
  neg : {x : ℤ} → Code x → Code (neg_ℤ x)  -- `x -ℤ y` is `x +ℤ neg_ℤ y`
  times : {x y : ℤ} → Code x → Code y → Code (x *ℤ y)
  quot_num : {x : ℤ} → Code x → (n : ℕ) → ltb 0 n ≡ true → Code (quot_z x (pos n))
  quot : {x : ℤ} → Code x → (m : ℕ) → Code (to_z w64 m) → Code (quot_z x (to_z w64 m))
  rem_num : {x : ℤ} → Code x → (n : ℕ) → ltb 0 n ≡ true → Code (rem_z x (pos n))
  rem : {x : ℤ} → Code x → (m : ℕ) → Code (to_z w64 m) → Code (rem_z x (to_z w64 m))
  num : (n : ℕ) → leb n n ≡ true → Code (pos n)
  num⁻ : (n : ℕ) → leb n n ≡ true → Code (negsuc n)
  given : (x : ℤ) {n : ℕ} → nat_abs x ≤ n → Code x  -- a parameter, or a callee's result
  back : {x : ℤ} → Code x → Code (to_z w64 (of_z w64 x))  -- a result, read back
  cast : (m : ℕ) {n : ℕ} → m ≤ n → Code (to_z w64 m)  -- a `u64`, cast to an `i64`
  held : {x : ℤ} → SFits w64 x → Code (to_z w64 (of_z w64 x))  -- a parameter or a callee's result of any size

-- `held` is left out, since it would be found before the sizes: write `search (code, held)` where none is known, as for a test of a parameter
-- or the return of a callee's result
pub ruleset code = (plus, opposite, neg, times, quot_num, quot, rem_num, rem, num, num⁻, given, back, cast)

-- the number as the source means it, with nothing read back on the way
abbrev pub value : {z : ℤ} → Code z → ℤ
value (plus a b) = value a +ℤ value b
value (opposite a) = neg_ℤ (value a)
value (neg a) = neg_ℤ (value a)
value (times a b) = value a *ℤ value b
value (quot_num a n e) = quot_z (value a) (pos n)
value (quot a m b) = quot_z (value a) (value b)
value (rem_num a n e) = rem_z (value a) (pos n)
value (rem a m b) = rem_z (value a) (value b)
value (num n e) = pos n
value (num⁻ n e) = negsuc n
value (given x h) = x
value (back a) = value a
value (cast m h) = pos m
value (held {x} f) = x

-- a bound on its size
abbrev pub most : {z : ℤ} → Code z → ℕ
most (plus a b) = most a + most b
most (opposite a) = most a
most (neg a) = most a
most (times a b) = most a * most b
most (quot_num a n e) = most a / n
most (quot a m b) = most a
most (rem_num a n e) = pred n
most (rem a m b) = most a
most (num n e) = n
most (num⁻ n e) = suc n
most (given x {n} h) = n
most (back a) = most a
most (cast m {n} h) = n
most (held f) = 2 ^ 63

-- whether every number that is read back is in the range of an `i64`
abbrev pub in_range : {z : ℤ} → Code z → Bool
in_range (plus a b) = in_range a && in_range b
in_range (opposite a) = in_range a
in_range (neg a) = in_range a
in_range (times a b) = in_range a && in_range b
in_range (quot_num a n e) = in_range a
in_range (quot a m b) = in_range a && in_range b
in_range (rem_num a n e) = in_range a
in_range (rem a m b) = in_range a && in_range b
in_range (num n e) = true
in_range (num⁻ n e) = true
in_range (given x h) = true
in_range (back a) = in_range a && ltb (most a) (2 ^ 63)
in_range (cast m {n} h) = ltb n (2 ^ 63)
in_range (held f) = true

-- ---- the size of what code computes, and that it is read back as it was

at_most : {z : ℤ} (o : Code z) → nat_abs (value o) ≤ most o
at_most (plus a b) = abs_add_le (value a) (value b) (at_most a) (at_most b)
at_most (opposite a) = rw abs_neg (at_most a)
at_most (neg a) = rw abs_neg (at_most a)
at_most (times a b) = abs_mul_le (value a) (value b) (at_most a) (at_most b)
at_most (quot_num a n e) = rw (abs_quot (value a) (pos n)) (div_mono n (at_most a))
at_most (quot a m b) = rw (abs_quot (value a) (value b)) (le_trans (div-le_self (nat_abs (value a)) (nat_abs (value b))) (at_most a))
at_most (rem_num a n e) = rw (abs_rem (value a) (pos n)) (le-pred_of_lt (mod-lt (nat_abs (value a)) (ltb-true 0 n e)))
at_most (rem a m b) = rw (abs_rem (value a) (value b)) (le_trans (mod-le (nat_abs (value a)) (nat_abs (value b))) (at_most a))
at_most (num n e) = le_refl n
at_most (num⁻ n e) = le_refl (suc n)
at_most (given x h) = h
at_most (back a) = at_most a
at_most (cast m h) = h
at_most (held {x} f) = nat_abs-le x f.sfits

-- a number of a small size fits
pub small_fits : (z : ℤ) {n : ℕ} → nat_abs z ≤ n → n < 2 ^ 63 → SFits w64 z
small_fits (pos a) h k = record { sfits = lt_of_le_of_lt h k }
small_fits (negsuc a) h k = record { sfits = omega arith }

-- and is read back as it was: a parameter, or with `.ok` of a call its result
pub kept : (z : ℤ) {n : ℕ} → nat_abs z ≤ n → n < 2 ^ 63 → to_z w64 (of_z w64 z) ≡ z
kept z h k = to_z-of_z (small_fits z h k)

pub returned : {z : ℤ} → mag z < 2 ^ 63 → to_z w64 (of_z w64 z) ≡ z
returned h = to_z-of_z {w = w64} (record { sfits = h })

-- what is read back is the number as the source means it
pub read : {z : ℤ} (o : Code z) → T (in_range o) → z ≡ value o
read (plus a b) t = let p = and_yes (in_range a) (in_range b) t in ap₂ ◌+ℤ◌ (read a p.0) (read b p.1)
read (opposite {x} a) t = +ℤ_idl (neg_ℤ x) ∙ ap neg_ℤ (read a t)
read (neg a) t = ap neg_ℤ (read a t)
read (times a b) t = let p = and_yes (in_range a) (in_range b) t in ap₂ ◌*ℤ◌ (read a p.0) (read b p.1)
read (quot_num a n e) t = ap (λ (x : ℤ). quot_z x (pos n)) (read a t)
read (quot a m b) t = let p = and_yes (in_range a) (in_range b) t in ap₂ quot_z (read a p.0) (read b p.1)
read (rem_num a n e) t = ap (λ (x : ℤ). rem_z x (pos n)) (read a t)
read (rem a m b) t = let p = and_yes (in_range a) (in_range b) t in ap₂ rem_z (read a p.0) (read b p.1)
read (num n e) t = refl
read (num⁻ n e) t = refl
read (given x h) t = refl
read (back {x} a) t =
    let p = and_yes (in_range a) (ltb (most a) (2 ^ 63)) t in
    let e = read a p.0 in
    to_z-of_z (subst (SFits w64) (sym e) (small_fits (value a) (at_most a) (ltb→lt (most a) (2 ^ 63) p.1))) ∙ e
read (cast m {n} h) t = to_z_pos w64 (lt_of_le_of_lt h (ltb→lt n (2 ^ 63) t))
read (held f) t = to_z-of_z f

-- ---- the tools, for what a function's proof asks

-- a result fits
pub fits : {z : ℤ} (o : Code z) → T (in_range o && ltb (most o) (2 ^ 63)) → SFits w64 z
fits o t =
    let p = and_yes (in_range o) (ltb (most o) (2 ^ 63)) t in
    subst (SFits w64) (sym (read o p.0)) (small_fits (value o) (at_most o) (ltb→lt (most o) (2 ^ 63) p.1))

-- what a callee requires of the order of two arguments
pub read_le : {x y : ℤ} (a : Code x) (b : Code y) → T (in_range a && in_range b) → value a ≤ℤ value b → x ≤ℤ y
read_le a b t h =
    let p = and_yes (in_range a) (in_range b) t in
    rw (read a p.0, read b p.1) h

-- Where the number stands under `nat_abs`, `non_neg`, `of_z` or a test, `rw` first puts a closed name there, so that `search` can be told which
-- number it is: `size` of `Size.antt`, and these.
pub sign : ℤ → Bool
sign z = non_neg z

pub word : ℤ → ℕ
word z = of_z w64 z

pub lt_test : ℤ → ℤ → Bool
lt_test x y = lt_z x y

pub le_test : ℤ → ℤ → Bool
le_test x y = le_z x y

pub as_sign : (z : ℤ) → non_neg z ≡ sign z
unfolding sign
as_sign z = refl

pub as_word : (z : ℤ) → of_z w64 z ≡ word z
unfolding word
as_word z = refl

pub as_lt : (x y : ℤ) → lt_z x y ≡ lt_test x y
unfolding lt_test
as_lt x y = refl

pub as_le : (x y : ℤ) → le_z x y ≡ le_test x y
unfolding le_test
as_le x y = refl

-- what a callee requires of the size of an argument: `rw as_size (read_size (search code depth 40 fits 20000) tt)`
pub read_size : {z : ℤ} {B : ℕ} (o : Code z) → T (in_range o && leb (most o) B) → size z ≤ B
unfolding size
read_size {z} {B} o t =
    let p = and_yes (in_range o) (leb (most o) B) t in
    rw (read o p.0) (le_trans (at_most o) (leb→le (most o) B p.1))

-- what it requires of the size and something more: `rw as_size (read_room 500 (search code depth 40 fits 20000) tt)`
pub read_room : (more : ℕ) {z : ℤ} {B : ℕ} (o : Code z) → T (in_range o && ltb (most o + more) B) → size z + more < B
unfolding size
read_room more {z} {B} o t =
    let p = and_yes (in_range o) (ltb (most o + more) B) t in
    let below : most o + more < B = ltb→lt (most o + more) B p.1 in
    rw (read o p.0) (omega (arith, at_most o))

-- `z as u64`: `rw (as_sign, as_size) (unsigned (search code depth 40 fits 20000) tt h)`, where h says that the number is not negative
pub unsigned : {z : ℤ} (o : Code z) → T (in_range o && ltb (most o) (2 ^ 64)) → pos 0 ≤ℤ value o → T (sign z) × Fits w64 (size z)
unfolding sign size
unsigned o t h =
    let p = and_yes (in_range o) (ltb (most o) (2 ^ 64)) t in
    rw (read o p.0) (yes_non_neg h, record { fits = lt_of_le_of_lt (at_most o) (ltb→lt (most o) (2 ^ 64) p.1) })

-- and what that cast gives: `rw as_size (read_abs (search code depth 40 fits 20000) tt)`
pub read_abs : {z : ℤ} (o : Code z) → T (in_range o) → size z ≡ nat_abs (value o)
unfolding size
read_abs o t = ap nat_abs (read o t)

-- a divisor that is at least 1 is not 0: `rw as_word (divisor (search code depth 40 fits 20000) tt h)`
pub divisor : {z : ℤ} (o : Code z) → T (in_range o) → pos 1 ≤ℤ value o → 0 < word z
unfolding word
divisor o t h = rw (read o t) (above (value o) h)
  where
    above : (z : ℤ) → pos 1 ≤ℤ z → 0 < of_z w64 z
    above (pos n) k = omega order
    above (negsuc n) k = let e : ⊥ = omega order in absurd e

-- what a signed `if` leaves: `lt_taken (rw as_lt at c.if-x-y.true) (search code depth 40 fits 20000) (search code depth 40 fits 20000) tt`
-- (`==` leaves an equation e of bits: there `sym (read (search code depth 40 fits 20000) tt) ∙ ap (to_z w64) e`.)
module _ {x y : ℤ} where
  tested : (f : ℤ → ℤ → Bool) (v : Bool) → f x y ≡ v → (a : Code x) (b : Code y) → T (in_range a && in_range b) → f (value a) (value b) ≡ v
  tested f v e a b t =
      let p = and_yes (in_range a) (in_range b) t in
      sym (ap₂ f (read a p.0) (read b p.1)) ∙ e

  pub lt_taken : lt_test x y ≡ true → (a : Code x) (b : Code y) → T (in_range a && in_range b) → value a <ℤ value b
  unfolding lt_test
  lt_taken e a b t = lt_z_true (value a) (value b) (tested lt_z true e a b t)

  pub lt_left : lt_test x y ≡ false → (a : Code x) (b : Code y) → T (in_range a && in_range b) → value b ≤ℤ value a
  unfolding lt_test
  lt_left e a b t = lt_z_false (value a) (value b) (tested lt_z false e a b t)

  pub le_taken : le_test x y ≡ true → (a : Code x) (b : Code y) → T (in_range a && in_range b) → value a ≤ℤ value b
  unfolding le_test
  le_taken e a b t = le_z_true (value a) (value b) (tested le_z true e a b t)

  pub le_left : le_test x y ≡ false → (a : Code x) (b : Code y) → T (in_range a && in_range b) → value b <ℤ value a
  unfolding le_test
  le_left e a b t = le_z_false (value a) (value b) (tested le_z false e a b t)
