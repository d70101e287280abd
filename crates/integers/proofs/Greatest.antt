-- The greatest number from 0 to n that passes a test: what is known of it, and how a search by halves finds it. The definition walks down
-- from n to the first number that passes, so each law is an induction on n. Where a test stays false once it is false, a number that passes
-- is at most the greatest and one that fails is above it, so either drops a half of the span.
-- One set of laws over the test serves the root, the angle and the geodetic latitude. Assumes nothing.
use mathlib.Core.Path.{◌≡◌, refl, sym, ap, ◌∙◌, subst}
use mathlib.Core.Bool.{Bool, true, false, cond, ◌&&◌}
use mathlib.Core.Logic.{◌⊎◌, inl, inr}
use Prim.Native.Nat.{ℕ, zero, suc, ◌-◌, ◌/◌, ◌<◌, ◌≤◌, zero-le}
use native.Mathlib.Nat.{le_refl, le-suc, le_trans, eq-or-lt_of_le, le_of_suc-le-suc}
use native.Mathlib.Omega.{arith}
use Rattle.integers.specs.Greatest.{greatest}
use Rattle.integers.specs.InnerSearch.{Falls}

pub not_both : {b : Bool} → b ≡ true → b ≡ false → ⊥
not_both p q = let z : ◌≡◌ {A = Bool} true false = sym p ∙ q in subst (λ (b : Bool). cond b ℕ ⊥) z 0

pub not_true : (b : Bool) → (b ≡ true → ⊥) → b ≡ false
not_true true f = absurd (f refl)
not_true false f = refl

pub both : (a b : Bool) → (a && b) ≡ true → (a ≡ true) × (b ≡ true)
both true b e = (refl, e)
both false b e = absurd (not_both e refl)

module _ (test : ℕ → Bool) where
  pub greatest_le : (n : ℕ) → greatest test n ≤ n
  unfolding greatest
  greatest_le zero = zero-le
  greatest_le (suc n) = at (test (suc n)) (greatest_le n)
    where
      at : (b : Bool) → greatest test n ≤ n → cond b (suc n) (greatest test n) ≤ suc n
      at true h = le_refl (suc n)
      at false h = le_trans h (le-suc n)

  pub greatest_passes : test 0 ≡ true → (n : ℕ) → test (greatest test n) ≡ true
  unfolding greatest
  greatest_passes z zero = z
  greatest_passes z (suc n) = at (test (suc n)) refl (greatest_passes z n)
    where
      at : (b : Bool) → test (suc n) ≡ b → test (greatest test n) ≡ true → test (cond b (suc n) (greatest test n)) ≡ true
      at true e h = e
      at false e h = h

  pub greatest_here : (n : ℕ) → test n ≡ true → greatest test n ≡ n
  unfolding greatest
  greatest_here zero e = refl
  greatest_here (suc n) e = ap (λ (b : Bool). cond b (suc n) (greatest test n)) e

  -- numbers that fail at the upper end do not count
  pub greatest_skip : (n m : ℕ) → m ≤ n → ((k : ℕ) → m < k → k ≤ n → test k ≡ false) → greatest test n ≡ greatest test m
  unfolding greatest
  greatest_skip zero m h fail = let e : 0 ≡ m = omega arith in ap (greatest test) e
  greatest_skip (suc n) m h fail =
      at (eq-or-lt_of_le h) (λ l. greatest_skip n m (le_of_suc-le-suc l) (λ k a b. fail k a (le_trans b (le-suc n))))
    where
      at :
          (m ≡ suc n) ⊎ (m < suc n) →
          (m < suc n → greatest test n ≡ greatest test m) →
          cond (test (suc n)) (suc n) (greatest test n) ≡ greatest test m
      at (inl e) rest = ap (greatest test) (sym e)
      at (inr l) rest =
          ap (λ (b : Bool). cond b (suc n) (greatest test n)) (fail (suc n) l (le_refl (suc n))) ∙ rest l

  pub greatest_is : (n r : ℕ) → r ≤ n → test r ≡ true → ((k : ℕ) → r < k → k ≤ n → test k ≡ false) → greatest test n ≡ r
  greatest_is n r h pass fail = greatest_skip n r h fail ∙ greatest_here r pass

  -- whatever passes is at most the greatest
  pub greatest_ge : (n k : ℕ) → k ≤ n → test k ≡ true → k ≤ greatest test n
  unfolding greatest
  greatest_ge zero k h e = h
  greatest_ge (suc n) k h e = at (test (suc n)) refl (eq-or-lt_of_le h) (λ l. greatest_ge n k (le_of_suc-le-suc l) e)
    where
      at :
          (b : Bool) →
          test (suc n) ≡ b →
          (k ≡ suc n) ⊎ (k < suc n) →
          (k < suc n → k ≤ greatest test n) →
          k ≤ cond b (suc n) (greatest test n)
      at true t o rest = h
      at false t (inl q) rest = absurd (not_both (subst (λ (j : ℕ). test j ≡ true) q e) t)
      at false t (inr l) rest = rest l

  -- ---- a test that stays false once it is false
  module _ (n : ℕ) (falls : Falls test n) where
    -- the step of a search: where mid fails, the greatest lies below it
    pub greatest_lower : (mid : ℕ) → 0 < mid → mid ≤ n → test mid ≡ false → greatest test n ≡ greatest test (mid - 1)
    greatest_lower mid p h e =
        greatest_skip n (mid - 1) (omega arith) (λ k a b. not_true (test k) (λ t. not_both (falls mid k (omega arith) b t) e))

    -- r passes and the next does not
    pub greatest_edge : (r : ℕ) → r < n → test r ≡ true → test (suc r) ≡ false → greatest test n ≡ r
    greatest_edge r h pass fail =
        let e : suc r - 1 ≡ r = omega arith in
        greatest_lower (suc r) (omega arith) h fail ∙ ap (greatest test) e ∙ greatest_here r pass

  -- ---- a search that halves the span from low to high, where low passes

  -- one number is left
  pub one_left : (low high : ℕ) → low ≡ high → test low ≡ true → low ≡ greatest test high
  one_left low high e pass = sym (ap (greatest test) (sym e) ∙ greatest_here low pass)

  -- the middle fails: the greatest is in the lower half
  pub lower_half :
      (n : ℕ) →
      Falls test n →
      (low high : ℕ) →
      high ≤ n →
      low ≤ high →
      (low ≡ high → ⊥) →
      test (high - (high - low) / 2) ≡ false →
      greatest test (high - (high - low) / 2 - 1) ≡ greatest test high
  lower_half n falls low high h l differ fail =
      sym (greatest_lower high (λ a b i j. falls a b i (le_trans j h)) (high - (high - low) / 2) (omega arith) (omega arith) fail)
