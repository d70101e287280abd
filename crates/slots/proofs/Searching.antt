-- The index of the first element that passes a test is the library's. Assumes nothing.
use mathlib.Core.Path.{◌≡◌, refl, ap}
use mathlib.Core.Bool.{Bool, cond}
use mathlib.Core.List.{List}
use native.Mathlib.Omega.{arith}
use Rattle.std.specs.Prelude.{position}
use Rattle.std.specs.List.{position_or_len}
use Rattle.std.proofs.lemmas.List.Recursion.{is_position_or_len}
use Rattle.slots.specs.Slots.{index_of, index_in}

index_is : {A : Type 0} (test : A → Bool) (xs : List A) → index_of test xs ≡ position_or_len test xs
unfolding index_of
index_is test xs = is_position_or_len (index_of test) test refl (λ x ys. ap (cond (test x) 0) (omega arith)) xs

pub position_is : {A : Type 0} (test : A → Bool) (xs : List A) → position test xs ≡ index_in xs (index_of test xs)
position_is test xs = rw (index_is test xs)
