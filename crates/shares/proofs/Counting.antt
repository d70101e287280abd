-- How many elements pass a test, over any test and any list. Assumes nothing.
use mathlib.Core.Path.{◌≡◌, refl}
use mathlib.Core.Bool.{Bool, cond}
use mathlib.Core.List.{List}
use Prim.Native.Nat.{ℕ, ◌≤◌}
use lib.ListN.{length}
use Rattle.std.specs.List.{count_by}
use Rattle.std.proofs.lemmas.List.Recursion.{is_sum_by}
use Rattle.std.proofs.lemmas.List.Sums.{count_by-le-length}
use Rattle.shares.specs.Shares.{passing}

abbrev pub bit : Bool → ℕ
bit t = cond t 1 0

module _ {A : Type 0} (test : A → Bool) (xs : List A) where
  -- it is the library's count
  pub passing_is : passing test xs ≡ count_by test xs
  unfolding passing
  passing_is = is_sum_by (passing test) (λ x. bit (test x)) refl (λ x ys. refl) xs

  pub passing_most : passing test xs ≤ length xs
  passing_most = rw passing_is (count_by-le-length test xs)
