-- Orders between numbers, as data: a list of them is tested by one computed test, and each of them is then a fact.
-- Assumes nothing.
use Prim.Native.Nat.{ℕ, zero, suc, ◌≤◌, zero-le}
use mathlib.Core.Bool.{Bool, true, ◌&&◌}
use mathlib.Core.List.{List, [], ◌∷◌}
use lib.Dec.{T, leb, leb→le}
use lib.ListN.{get_or}
use lib.Ieee.Fits.{and_l, and_r}

infix 50 ◌≤?◌
pub data Order : Type 0 where
  ◌≤?◌ : ℕ → ℕ → Order

abbrev pub Holds : Order → Type 0
Holds (a ≤? b) = a ≤ b

abbrev test : Order → Bool
test (a ≤? b) = leb a b

abbrev pub pass : List Order → Bool
pass [] = true
pass (o ∷ os) = test o && pass os

holds : (o : Order) → T (test o) → Holds o
holds (a ≤? b) t = leb→le a b t

pub nth : (os : List Order) → T (pass os) → (i : ℕ) → Holds (get_or os i (0 ≤? 0))
nth [] t i = zero-le
nth (o ∷ os) t zero = holds o (and_l (test o) (pass os) t)
nth (o ∷ os) t (suc i) = nth os (and_r (test o) (pass os) t) i
