-- The greatest whole number from −n to n that passes a test: counted from −n it is the greatest natural number that passes, so a number that
-- passes and that no passing number is above is it. Assumes nothing.
use mathlib.Core.Path.{◌≡◌, ap, ◌∙◌}
use mathlib.Core.Bool.{Bool, true, false}
use Prim.Native.Nat.{ℕ, ◌*◌, ◌<◌, ◌≤◌}
use native.Mathlib.Omega.{arith}
use lib.IntN.{ℤ, pos, nat_abs, ◌+ℤ◌, ◌-ℤ◌}
use lib.Signed.{◌<ℤ◌}
use Rattle.proof_kit.proofs.Laws.{nat_abs_parts, by_parts, one_part, parts-+, parts--}
use Rattle.proof_kit.proofs.Order.{order}
use Rattle.integers.proofs.Greatest.{greatest_is}
use Rattle.cells.specs.Cells.{greatest_whole}

module _ (test : ℤ → Bool) (n : ℕ) (k : ℤ) (small : nat_abs k ≤ n) where
  -- k, counted from −n
  abbrev place : ℕ
  place = nat_abs (k +ℤ pos n)

  place_is : pos place -ℤ pos n ≡ k
  place_is =
      let sum : ℤ = k +ℤ pos n in
      by_parts (pos place -ℤ pos n) k
      (omega (arith, small, nat_abs_parts k, nat_abs_parts sum, one_part sum, parts-+ k (pos n), parts-- (pos place) (pos n)))

  place_most : place ≤ 2 * n
  place_most =
      let sum : ℤ = k +ℤ pos n in
      omega (arith, small, nat_abs_parts k, nat_abs_parts sum, one_part sum, parts-+ k (pos n))

  beyond : (i : ℕ) → place < i → k <ℤ (pos i -ℤ pos n)
  beyond i h =
      let sum : ℤ = k +ℤ pos n in
      omega (order, nat_abs_parts sum, one_part sum, parts-+ k (pos n), parts-- (pos i) (pos n))

  pub greatest_whole_is : test k ≡ true → ((j : ℤ) → k <ℤ j → test j ≡ false) → greatest_whole test n ≡ k
  unfolding greatest_whole
  greatest_whole_is pass fail =
      ap (λ (i : ℕ). pos i -ℤ pos n)
      (greatest_is (λ (i : ℕ). test (pos i -ℤ pos n)) (2 * n) place place_most
      (ap test place_is ∙ pass) (λ i a b. fail (pos i -ℤ pos n) (beyond i a)))
      ∙ place_is
