-- The facts that a search for the greatest number from 0 to n that passes a test needs of its numbers, over any test and any n.
-- By halves: where the middle passes, the upper half holds the greatest; where it fails, all above it fail and the lower half holds it.
-- About an estimate: a span that does not hold the greatest is not all of 0 to n, so its margin is below n. A span of one: the greatest itself, once it is settled, is a span to search, and its greatest is that of all.
-- Assumes nothing.
use mathlib.Core.Path.{◌≡◌, refl, sym, ap, ◌∙◌, subst}
use mathlib.Core.Bool.{Bool, true, false, not}
use mathlib.Core.Logic.{◌⊎◌, inl, inr}
use Prim.Native.Nat.{ℕ, ◌+◌, ◌-◌, ◌/◌, ◌<◌, ◌≤◌}
use native.Mathlib.Nat.{le_refl, le_trans}
use native.Mathlib.Omega.{arith}
use lib.Dec.{leb}
use borrow.Author.Tests.{leb-true, leb-false, le-leb, lt-leb}
use Rattle.proof_kit.proofs.Order.{le_or_lt}
use Rattle.integers.specs.Greatest.{greatest}
use Rattle.integers.specs.InnerSearch.{Threshold, bracketed, Span, About}
use Rattle.integers.proofs.Greatest.{both, not_both, not_true as fails, greatest_le, greatest_passes, greatest_here, greatest_ge, greatest_skip}
use Rattle.integers.proofs.Greatest.{one_left, lower_half}

module _ {test : ℕ → Bool} {n : ℕ} (threshold : Threshold test n) where
  -- what passes is what is not above the greatest
  passes_is : (k : ℕ) → k ≤ n → test k ≡ leb k (greatest test n)
  passes_is k h = at (test k) refl
    where
      most_passes : test (greatest test n) ≡ true
      most_passes = greatest_passes test threshold.zero_passes n

      below : leb k (greatest test n) ≡ true → test k ≡ true
      below t = threshold.falls k (greatest test n) (leb-true k (greatest test n) t) (greatest_le test n) most_passes

      at : (b : Bool) → test k ≡ b → b ≡ leb k (greatest test n)
      at true e = sym (le-leb k (greatest test n) (greatest_ge test n k h e))
      at false e = sym (fails (leb k (greatest test n)) (λ t. not_both (below t) e))

  -- ---- whether the greatest lies from low to high: r is what the call that tests `low` told
  module _ {low : ℕ} {r : Bool} (low_most : low ≤ n) (told : r ≡ test low) where
    low_side : {b : Bool} → r ≡ b → leb low (greatest test n) ≡ b
    low_side e = sym (passes_is low low_most) ∙ sym told ∙ e

    pub low_fails : (high : ℕ) → r ≡ false → r ≡ bracketed test n low high
    unfolding bracketed
    low_fails high e = rw (low_side e) e

    pub top_reached : (high : ℕ) → r ≡ true → high ≡ n → true ≡ bracketed test n low high
    unfolding bracketed
    top_reached high e f = rw (low_side e, f, le-leb (greatest test n) n (greatest_le test n))

    pub next_tested : (high : ℕ) → high ≤ n → r ≡ true → (high ≡ n → ⊥) → {s : Bool} → s ≡ test (high + 1) → not s ≡ bracketed test n low high
    unfolding bracketed
    next_tested high inside e differ next =
        rw (low_side e, next, passes_is (high + 1) (omega (arith, inside)))
        (at (leb (high + 1) (greatest test n)) refl)
      where
        at : (b : Bool) → leb (high + 1) (greatest test n) ≡ b → not b ≡ leb (greatest test n) high
        at true e = sym (lt-leb (greatest test n) high (omega (arith, leb-true (high + 1) (greatest test n) e)))
        at false e = sym (le-leb (greatest test n) high (omega (arith, leb-false (high + 1) (greatest test n) e)))

-- ---- a search that halves the span: r is what the call that tests the middle told

abbrev pub middle : ℕ → ℕ → ℕ
middle low high = high - (high - low) / 2

module _ {test : ℕ → Bool} {n low high : ℕ} (span : Span test n low high) where
  pub one_is_left : low ≡ high → low ≡ greatest test high
  one_is_left e = one_left test low high e span.low_passes

  -- the middle fails: it is not the low end
  module _ {r : Bool} (told : r ≡ test (middle low high)) (fail : r ≡ false) where
    differ : low ≡ high → ⊥
    differ e =
        let same : middle low high ≡ low = omega arith in
        not_both span.low_passes (ap test (sym same) ∙ sym told ∙ fail)

    pub lower_same : Threshold test n → greatest test (middle low high - 1) ≡ greatest test high
    lower_same threshold = lower_half test n threshold.falls low high span.high_most span.ordered differ (sym told ∙ fail)

-- ---- a search about an estimate: r is what the call that asks whether the span holds the greatest told

module _ {test : ℕ → Bool} {n : ℕ} (threshold : Threshold test n) where
  -- a span that holds the greatest is one to halve, and its greatest is that of all
  pub held :
      {low high : ℕ} {r : Bool} →
      r ≡ bracketed test n low high →
      high ≤ n →
      r ≡ true →
      Span test n low high × (greatest test high ≡ greatest test n)
  unfolding bracketed
  held {low} {high} told inside holds =
      let sides = both (leb low (greatest test n)) (leb (greatest test n) high) (sym told ∙ holds) in
      let above : greatest test n ≤ high = leb-true (greatest test n) high sides.1 in
      let below : low ≤ greatest test n = leb-true low (greatest test n) sides.0 in (
        record {
          ordered = le_trans below above;
          high_most = inside;
          low_passes = threshold.falls low (greatest test n) below (greatest_le test n) (greatest_passes test threshold.zero_passes n);
        },
        sym (greatest_skip test n high inside (λ k a b. passes_is threshold k b ∙ lt-leb k (greatest test n) (omega arith))),
      )

  -- one that does not is not all of 0 to n: its margin is below n
  pub margin_below :
      {estimate margin low high : ℕ} {r : Bool} →
      About n estimate margin →
      low ≡ estimate - margin →
      (n ≤ estimate + margin → high ≡ n) →
      r ≡ bracketed test n low high →
      r ≡ false →
      margin < n
  margin_below {estimate} {margin} {low} {high} about low_is last told fail = at (le_or_lt n margin)
    where
      at : (n ≤ margin) ⊎ (margin < n) → margin < n
      at (inl l) =
          let first : 0 ≡ low = omega (arith, about.estimate_most) in
          let passes : true ≡ test low = sym threshold.zero_passes ∙ ap test first in
          let all = top_reached threshold {low = low} (omega (arith, about.estimate_most)) passes high refl (last (omega arith)) in
          absurd (not_both (told ∙ sym all) fail)
      at (inr l) = l

-- ---- a span of one: the greatest itself, once it is settled

module _ {test : ℕ → Bool} {n m : ℕ} (threshold : Threshold test n) (settled : greatest test n ≡ m) where
  settled_passes : test m ≡ true
  settled_passes = subst (λ (k : ℕ). test k ≡ true) settled (greatest_passes test threshold.zero_passes n)

  pub one_span : Span test n m m
  one_span = record { ordered = le_refl m; high_most = subst (λ (k : ℕ). k ≤ n) settled (greatest_le test n); low_passes = settled_passes }

  pub one_same : greatest test m ≡ greatest test n
  one_same = greatest_here test m settled_passes ∙ sym settled
