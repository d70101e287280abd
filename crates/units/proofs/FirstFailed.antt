-- A chain of tests, each with its number, whose numbers ascend from above 0. It gives the number of a test exactly where that test fails and every
-- test of a smaller number passes, and 0 exactly where every test passes.
-- Assumes nothing.
use mathlib.Core.Path.{◌≡◌, refl, sym, ap, subst, ◌∙◌}
use mathlib.Core.Bool.{Bool, true, false}
use mathlib.Core.List.{List, [], ◌∷◌}
use mathlib.Core.Logic.{◌⊎◌, inl, inr, ◌↔◌}
use Prim.Native.Nat.{ℕ, ◌<◌}
use native.Mathlib.Omega.{arith}
use Rattle.units.specs.Refusals.{unless}

-- x is one of these
abbrev pub Among : {A : Type 0} → List A → A → Type 0
Among [] x = ⊥
Among (y ∷ ys) x = (x ≡ y) ⊎ Among ys x

-- the numbers ascend from above n
abbrev pub Ascending : {A : Type 0} → (A → ℕ) → ℕ → List A → Type 0
Ascending number_of n [] = Unit {0}
Ascending number_of n (x ∷ xs) = (n < number_of x) × Ascending number_of (number_of x) xs

-- the chain of these tests
abbrev pub chained : {A : Type 0} → (A → ℕ) → (A → Bool) → List A → ℕ
chained number_of passes [] = 0
chained number_of passes (x ∷ xs) = unless (passes x) (number_of x) (chained number_of passes xs)

module _ {A : Type 0} (number_of : A → ℕ) where
  -- every later number is above n
  pub later_above : (n : ℕ) (xs : List A) → Ascending number_of n xs → (x : A) → Among xs x → n < number_of x
  later_above n [] h x i = absurd i
  later_above n (y ∷ ys) h x (inl e) = subst (λ (z : A). n < number_of z) (sym e) h.0
  later_above n (y ∷ ys) h x (inr i) =
      let above = later_above (number_of y) ys h.1 x i in
      let first = h.0 in
      omega arith

module _ {A : Type 0} (number_of : A → ℕ) (passes : A → Bool) where
  -- what the chain gives is above n, where it is not 0
  chain_above : (n : ℕ) (xs : List A) → Ascending number_of n xs → (chained number_of passes xs ≡ 0) ⊎ (n < chained number_of passes xs)
  chain_above n [] h = inl refl
  chain_above n (y ∷ ys) h = at (passes y) (chain_above (number_of y) ys h.1)
    where
      rest : ℕ
      rest = chained number_of passes ys

      at : (t : Bool) → (rest ≡ 0) ⊎ (number_of y < rest) → (unless t (number_of y) rest ≡ 0) ⊎ (n < unless t (number_of y) rest)
      at false later = inr h.0
      at true (inl e) = inl e
      at true (inr l) = let first = h.0 in inr (omega arith)

  -- x fails, and every test of a smaller number passes
  abbrev First : List A → A → Type 0
  First xs x = (passes x ≡ false) × ((y : A) → Among xs y → number_of y < number_of x → passes y ≡ true)

  told_first : (n : ℕ) (xs : List A) → Ascending number_of n xs → (x : A) → Among xs x →
      chained number_of passes xs ≡ number_of x →
      First xs x
  told_first n [] h x i e = absurd i
  told_first n (y ∷ ys) h x i e = at (passes y) refl (told_first (number_of y) ys h.1 x) i e
    where
      rest : ℕ
      rest = chained number_of passes ys

      first : n < number_of y
      first = h.0

      -- no number is smaller than that of y
      none_before : x ≡ y → (z : A) → Among (y ∷ ys) z → number_of z < number_of x → passes z ≡ true
      none_before is z (inl q) l = let n : ⊥ = omega (arith, ap number_of is, ap number_of q) in absurd n
      none_before is z (inr j) l = let n : ⊥ = omega (arith, ap number_of is, later_above number_of (number_of y) ys h.1 z j) in absurd n

      before : passes y ≡ true → First ys x → (z : A) → Among (y ∷ ys) z → number_of z < number_of x → passes z ≡ true
      before p later z (inl q) l = ap passes q ∙ p
      before p later z (inr j) l = later.1 z j l

      at : (t : Bool) → passes y ≡ t → (Among ys x → rest ≡ number_of x → First ys x) →
          Among (y ∷ ys) x →
          unless t (number_of y) rest ≡ number_of x →
          First (y ∷ ys) x
      at false p later (inl is) e = (ap passes is ∙ p, none_before is)
      at false p later (inr j) e = let n : ⊥ = omega (arith, later_above number_of (number_of y) ys h.1 x j) in absurd n
      at true p later (inl is) e = absurd (not_later (chain_above (number_of y) ys h.1))
        where
          not_later : (rest ≡ 0) ⊎ (number_of y < rest) → ⊥
          not_later (inl z) = omega (arith, ap number_of is)
          not_later (inr l) = omega (arith, ap number_of is)
      at true p later (inr j) e = ((later j e).0, before p (later j e))

  first_told : (n : ℕ) (xs : List A) → Ascending number_of n xs → (x : A) → Among xs x →
      First xs x →
      chained number_of passes xs ≡ number_of x
  first_told n [] h x i f = absurd i
  first_told n (y ∷ ys) h x (inl is) f = rw (ap passes (sym is) ∙ f.0) (ap number_of (sym is))
  first_told n (y ∷ ys) h x (inr j) f =
      rw (f.1 y (inl refl) (later_above number_of (number_of y) ys h.1 x j))
      (first_told (number_of y) ys h.1 x j (f.0, λ z k. f.1 z (inr k)))

  pub first_failed : (n : ℕ) (xs : List A) → Ascending number_of n xs → (x : A) → Among xs x →
      (chained number_of passes xs ≡ number_of x) ↔ First xs x
  first_failed n xs h x i = (told_first n xs h x i, first_told n xs h x i)

  none_told : (n : ℕ) (xs : List A) → Ascending number_of n xs → chained number_of passes xs ≡ 0 → (x : A) → Among xs x → passes x ≡ true
  none_told n [] h e x i = absurd i
  none_told n (y ∷ ys) h e x i = at (passes y) refl (λ rest-passed. none_told (number_of y) ys h.1 rest-passed x) e i
    where
      first : n < number_of y
      first = h.0

      at : (t : Bool) → passes y ≡ t → (chained number_of passes ys ≡ 0 → Among ys x → passes x ≡ true) →
          unless t (number_of y) (chained number_of passes ys) ≡ 0 →
          Among (y ∷ ys) x →
          passes x ≡ true
      at false p later e i = let n : ⊥ = omega arith in absurd n
      at true p later e (inl is) = ap passes is ∙ p
      at true p later e (inr j) = later e j

  told_none : (xs : List A) → ((x : A) → Among xs x → passes x ≡ true) → chained number_of passes xs ≡ 0
  told_none [] all = refl
  told_none (y ∷ ys) all = rw (all y (inl refl)) (told_none ys (λ z k. all z (inr k)))

  pub none_failed : (n : ℕ) (xs : List A) → Ascending number_of n xs →
      (chained number_of passes xs ≡ 0) ↔ ((x : A) → Among xs x → passes x ≡ true)
  none_failed n xs h = (none_told n xs h, told_none xs)
