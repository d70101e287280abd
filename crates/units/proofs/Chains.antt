-- Chains of tests. A chain gives 0 exactly where every test passes. What else it can give: a link gives its own number or what the next links
-- give, and so does a chain that comes before another; so where the numbers of all links are in a list, the chain's is. `search chain` follows the
-- links; whether a number is in the list is computed. Use: `let g : Gives numbers n = search chain depth 40 in g.one : OneOf numbers n`.
-- Assumes nothing.
use mathlib.Core.Path.{◌≡◌, refl, sym, subst, ◌∙◌}
use mathlib.Core.Bool.{Bool, true, false, cond, ◌||◌, ◌&&◌}
use mathlib.Core.List.{List, [], ◌∷◌}
use mathlib.Core.Logic.{◌⊎◌, inl, inr}
use Prim.Native.Nat.{ℕ, zero, suc}
use native.Mathlib.Omega.{arith}
use lib.Dec.{T, eqb, eqb→eq}
use borrow.Author.Tests.{eq-eqb}
use mir.Facts.{and_yes, or_yes}
use Rattle.units.specs.Refusals.{unless, first_refusal, OneOf}

-- ---- 0

pub link_passed : (t : Bool) (n : ℕ) {m : ℕ} → unless t (suc n) m ≡ 0 → (t ≡ true) × (m ≡ 0)
link_passed true n h = (refl, h)
link_passed false n h = let z : ⊥ = omega arith in absurd z

-- of two chains, one after the other
pub both_passed : (m n : ℕ) → first_refusal m n ≡ 0 → (m ≡ 0) × (n ≡ 0)
both_passed zero n h = (refl, h)
both_passed (suc m) n h = let z : ⊥ = omega arith in absurd z

pub first_given : (m n : ℕ) → (m ≡ 0 → ⊥) → first_refusal m n ≡ m
first_given zero n some = absurd (some refl)
first_given (suc m) n some = refl

-- ---- any number

-- n is one of the numbers
pub record Gives (numbers : List ℕ) (n : ℕ) : Type 0 where
  pub one : OneOf numbers n

abbrev pub among : List ℕ → ℕ → Bool
among [] n = false
among (x ∷ xs) n = eqb n x || among xs n

listed : (xs : List ℕ) (n : ℕ) → T (among xs n) → OneOf xs n
listed [] n t = absurd t
listed (x ∷ xs) n t = at (or_yes (eqb n x) (among xs n) t) (listed xs n)
  where
    at : T (eqb n x) ⊎ T (among xs n) → (T (among xs n) → OneOf xs n) → OneOf (x ∷ xs) n
    at (inl h) later = inl (eqb→eq n x h)
    at (inr h) later = inr (later h)

-- and each of them is among them by the test
pub is_among : (xs : List ℕ) (n : ℕ) → OneOf xs n → among xs n ≡ true
is_among [] n i = absurd i
is_among (x ∷ xs) n (inl e) = rw (eq-eqb n x e)
is_among (x ∷ xs) n (inr i) = at (eqb n x) (is_among xs n i)
  where
    at : (t : Bool) → among xs n ≡ true → (t || among xs n) ≡ true
    at true _ = refl
    at false e = e

pub number : {xs : List ℕ} {n : ℕ} → T (among xs n) → Gives xs n
number {xs} {n} t = record { one = listed xs n t }

-- what is one of these numbers is one of those among which all of these are
abbrev pub all_among : List ℕ → List ℕ → Bool
all_among ys [] = true
all_among ys (x ∷ xs) = among ys x && all_among ys xs

pub widened : (xs : List ℕ) {ys : List ℕ} {n : ℕ} → OneOf xs n → T (all_among ys xs) → Gives ys n
widened [] i t = absurd i
widened (x ∷ xs) {ys} (inl e) t = subst (Gives ys) (sym e) (number (and_yes (among ys x) (all_among ys xs) t).0)
widened (x ∷ xs) {ys} (inr i) t = widened xs i (and_yes (among ys x) (all_among ys xs) t).1

pub link : (t : Bool) {xs : List ℕ} {m n : ℕ} → Gives xs m → Gives xs n → Gives xs (unless t m n)
link true g h = h
link false g h = g

pub choice : (t : Bool) {xs : List ℕ} {m n : ℕ} → Gives xs m → Gives xs n → Gives xs (cond t m n)
choice true g h = g
choice false g h = h

pub first : (m : ℕ) {xs : List ℕ} {n : ℕ} → Gives xs m → Gives xs n → Gives xs (first_refusal m n)
first zero g h = h
first (suc m) g h = g

pub ruleset chain = (first, link, choice, number)

-- a number that is not 0 is one of the others
pub another : (numbers : List ℕ) (n k : ℕ) → OneOf (0 ∷ numbers) n → (n ≡ k) × (k ≡ 0 → ⊥) → OneOf numbers k
another numbers n k (inl e) is = absurd (is.1 (sym is.0 ∙ e))
another numbers n k (inr h) is = subst (OneOf numbers) is.0 h
