-- Where bytes are cut: the first byte b of a list is at index 0 where its head is b, and else one after that of the rest. A list without b and then
-- b are cut where they meet. Assumes nothing.
use mathlib.Core.Path.{◌≡◌, refl, sym, ap, ◌∙◌}
use mathlib.Core.Bool.{Bool, true, false}
use mathlib.Core.List.{List, [], ◌∷◌, ◌++◌}
use Prim.Native.Nat.{ℕ, suc, ◌+◌, ◌-◌, ◌≤◌}
use native.Mathlib.Numerals.{add-one}
use native.Mathlib.Omega.{arith}
use borrow.Author.Tests.{eq-eqb, ne_eqb, eqb-true}
use lib.Dec.{eqb}
use lib.ListN.{length, take, drop, length-drop, drop_of_length-le}
use lib.Seq.{take_all, take-append_seam, drop-append-add}
use Rattle.text.specs.Cutting.{index_after, index_of, up_to, after}

pub index_within : (b : ℕ) (xs : List ℕ) → index_of b xs ≤ length xs
unfolding index_of index_after
index_within b [] = omega arith
index_within b (x ∷ xs) = either (eqb x b) (index_within b xs)
  where
    either : (t : Bool) → index_of b xs ≤ length xs → index_after t (index_of b xs) ≤ suc (length xs)
    either true h = omega arith
    either false h = omega arith

-- the part of a list from an index on, as code lends it
pub rest_of : (n : ℕ) (xs : List ℕ) → take (length xs - n) (drop n xs) ≡ drop n xs
rest_of n xs = take_all (length xs - n) (drop n xs) (simp length-drop (omega arith))

-- the two parts, as code lends them, where n is the index at which they are cut
module _ (b : ℕ) (xs : List ℕ) (n : ℕ) (e : n ≡ index_of b xs) where
  pub before_cut : take n xs ≡ up_to b xs
  before_cut = ap (λ (k : ℕ). take k xs) e

  pub after_cut : take (length xs - (n + 1)) (drop (n + 1) xs) ≡ after b xs
  after_cut = rest_of (n + 1) xs ∙ ap (λ (k : ℕ). drop k xs) (add-one n ∙ ap suc e)

  pub no_cut : n ≡ length xs → after b xs ≡ []
  no_cut whole = drop_of_length-le xs {i = suc (index_of b xs)} (omega arith)

-- ---- what is cut and joined

-- b stands nowhere in a list
abbrev pub Without : ℕ → List ℕ → Type 0
Without b xs = index_of b xs ≡ length xs

pub without_more : (b x : ℕ) (xs : List ℕ) → (x ≡ b → ⊥) → Without b xs → Without b (x ∷ xs)
unfolding index_of index_after
without_more b x xs other h = rw (ne_eqb x b other) (ap suc h)

meeting : (b : ℕ) (xs ys : List ℕ) → Without b xs → index_of b (xs ++ b ∷ ys) ≡ length xs
unfolding index_of index_after
meeting b [] ys h = rw (eq-eqb b b refl) refl
meeting b (x ∷ xs) ys h = either (eqb x b) h (meeting b xs ys)
  where
    either :
        (t : Bool) →
        index_after t (index_of b xs) ≡ suc (length xs) →
        (Without b xs → index_of b (xs ++ b ∷ ys) ≡ length xs) →
        index_after t (index_of b (xs ++ b ∷ ys)) ≡ suc (length xs)
    either true h rest = absurd (omega (arith, h))
    either false h rest = ap suc (rest (omega (arith, h)))

module _ (b : ℕ) (xs ys : List ℕ) (h : Without b xs) where
  pub cut_before : up_to b (xs ++ b ∷ ys) ≡ xs
  cut_before = ap (λ (n : ℕ). take n (xs ++ b ∷ ys)) (meeting b xs ys h) ∙ take-append_seam xs (b ∷ ys)

  pub cut_after : after b (xs ++ b ∷ ys) ≡ ys
  cut_after =
      ap (λ (n : ℕ). drop n (xs ++ b ∷ ys)) (ap suc (meeting b xs ys h) ∙ sym (add-one (length xs)))
      ∙ drop-append-add xs (b ∷ ys) 1

-- Where something stands after the cut, the two parts with b between them are the whole.
pub joined : (b : ℕ) (xs : List ℕ) → 1 ≤ length (after b xs) → up_to b xs ++ b ∷ after b xs ≡ xs
unfolding index_of index_after
joined b [] some = absurd (omega arith)
joined b (x ∷ xs) some = either (eqb x b) refl some (joined b xs)
  where
    either :
        (t : Bool) →
        eqb x b ≡ t →
        1 ≤ length (drop (index_after t (index_of b xs)) xs) →
        (1 ≤ length (after b xs) → up_to b xs ++ b ∷ after b xs ≡ xs) →
        take (index_after t (index_of b xs)) (x ∷ xs) ++ b ∷ drop (index_after t (index_of b xs)) xs ≡ x ∷ xs
    either true e some rest = ap (λ (c : ℕ). c ∷ xs) (sym (eqb-true x b e))
    either false e some rest = ap (λ (l : List ℕ). x ∷ l) (rest some)
