-- Elements that pass a test, over any test and any list: how many there are after one element is put in another's place, and what the index of the
-- first is by that count. Each law walks down the list. Where one element at most passes, that is the first; where the elements that are exchanged
-- both fail, the first that passes stays. Assumes nothing.
use mathlib.Core.Path.{◌≡◌, refl}
use mathlib.Core.Bool.{Bool, true, false, cond}
use mathlib.Core.List.{List, [], ◌∷◌}
use Prim.Native.Nat.{ℕ, zero, suc, ◌+◌, ◌≤◌, ◌<◌}
use native.Mathlib.Nat.{not-suc-le-zero, le_of_suc-le-suc}
use native.Mathlib.Omega.{arith}
use lib.ListN.{length, get_or, set, replicate}
use Rattle.slots.specs.Slots.{index_of}
use Rattle.shares.specs.Shares.{passing}
use Rattle.shares.proofs.Counting.{bit}

module _ {A : Type 0} (test : A → Bool) where
  -- one element in another's place
  pub passing_set :
      (xs : List A) (i : ℕ) (v d : A) →
      i < length xs →
      passing test (set xs i v) + bit (test (get_or xs i d)) ≡ passing test xs + bit (test v)
  unfolding passing
  passing_set [] i v d h = absurd (not-suc-le-zero h)
  passing_set (x ∷ xs) zero v d h = omega arith
  passing_set (x ∷ xs) (suc i) v d h = omega (arith, passing_set xs i v d (le_of_suc-le-suc h))

  -- all alike
  pub passing_alike : (n : ℕ) (v : A) (t : Bool) → test v ≡ t → passing test (replicate n v) ≡ cond t n 0
  unfolding passing
  passing_alike zero v true e = refl
  passing_alike zero v false e = refl
  passing_alike (suc n) v true e = rw e (omega (arith, passing_alike n v true e))
  passing_alike (suc n) v false e = rw e (omega (arith, passing_alike n v false e))

  -- ---- the first, by the count

  pub data Found (xs : List A) (d : A) : Type 0 where
    nowhere : passing test xs ≡ 0 → length xs ≤ index_of test xs → Found xs d
    somewhere : 1 ≤ passing test xs → index_of test xs < length xs → test (get_or xs (index_of test xs) d) ≡ true → Found xs d

  pub found : (xs : List A) (d : A) → Found xs d
  unfolding passing index_of
  found [] d = nowhere refl (omega arith)
  found (x ∷ xs) d = at (test x) refl (found xs d)
    where
      at : (t : Bool) → test x ≡ t → Found xs d → Found (x ∷ xs) d
      at true e f = somewhere (rw e (omega arith)) (rw e (omega arith)) (rw e e)
      at false e (nowhere none end) = nowhere (rw e (omega arith)) (rw e (omega arith))
      at false e (somewhere some in_List passes) = somewhere (rw e (omega arith)) (rw e (omega arith)) (rw e passes)

  some_passes : (xs : List A) (i : ℕ) (d : A) → i < length xs → test (get_or xs i d) ≡ true → 1 ≤ passing test xs
  unfolding passing
  some_passes [] i d h passes = absurd (not-suc-le-zero h)
  some_passes (x ∷ xs) zero d h passes = rw passes (omega arith)
  some_passes (x ∷ xs) (suc i) d h passes = omega (arith, some_passes xs i d (le_of_suc-le-suc h) passes)

  -- the only one
  pub only : (xs : List A) (i : ℕ) (d : A) → passing test xs ≤ 1 → i < length xs → test (get_or xs i d) ≡ true → index_of test xs ≡ i
  unfolding passing index_of
  only [] i d one h passes = absurd (not-suc-le-zero h)
  only (x ∷ xs) zero d one h passes = rw passes
  only (x ∷ xs) (suc i) d one h passes = at (test x) refl (λ few. only xs i d few (le_of_suc-le-suc h) passes)
    where
      at : (t : Bool) → test x ≡ t → (passing test xs ≤ 1 → index_of test xs ≡ i) → index_of test (x ∷ xs) ≡ suc i
      at true e later =
          let two : ⊥ = omega (arith, rw e at one, some_passes xs i d (le_of_suc-le-suc h) passes) in
          absurd two
      at false e later = rw (e, later (omega (arith, one)))

  -- ---- two that fail, in each other's place

  module _ (v d : A) (fails : test v ≡ false) where
    pub passing_kept : (xs : List A) (i : ℕ) → test (get_or xs i d) ≡ false → passing test (set xs i v) ≡ passing test xs
    unfolding passing
    passing_kept [] i e = refl
    passing_kept (x ∷ xs) zero e = rw (fails, e)
    passing_kept (x ∷ xs) (suc i) e = rw (passing_kept xs i e)

    pub first_kept :
        (xs : List A) (i : ℕ) →
        test (get_or xs i d) ≡ false →
        get_or (set xs i v) (index_of test (set xs i v)) d ≡ get_or xs (index_of test xs) d
    unfolding index_of
    first_kept [] i e = refl
    first_kept (x ∷ xs) zero e = rw (fails, e)
    first_kept (x ∷ xs) (suc i) e = at (test x) refl (first_kept xs i e)
      where
        at :
            (t : Bool) →
            test x ≡ t →
            get_or (set xs i v) (index_of test (set xs i v)) d ≡ get_or xs (index_of test xs) d →
            get_or (x ∷ set xs i v) (index_of test (x ∷ set xs i v)) d ≡ get_or (x ∷ xs) (index_of test (x ∷ xs)) d
        at true p later = rw p
        at false p later = rw p later
