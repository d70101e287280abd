-- Inner: what a search for the greatest number from 0 to n that passes a test is asked of its numbers.
use Rattle.std.specs.Prelude.{◌≡◌, Bool, true, ◌&&◌, ℕ, ◌*◌, ◌≤◌, leb}
use Rattle.integers.specs.Greatest.{greatest}

-- up to n the test stays false once it is false
abbrev pub Falls : (ℕ → Bool) → ℕ → Type 0
Falls test n = (a b : ℕ) → a ≤ b → b ≤ n → test b ≡ true → test a ≡ true

-- a test that 0 passes and that stays false once it is false
pub record Threshold (test : ℕ → Bool) (n : ℕ) : Type 0 where
  pub zero_passes : test 0 ≡ true
  pub falls : Falls test n

-- Whether the greatest number that passes lies from low to high.
unfoldable pub bracketed : (ℕ → Bool) → ℕ → ℕ → ℕ → Bool
bracketed test n low high = leb low (greatest test n) && leb (greatest test n) high

-- A span to halve: its low end is known to pass.
pub record Span (test : ℕ → Bool) (n low high : ℕ) : Type 0 where
  pub ordered : low ≤ high
  pub high_most : high ≤ n
  pub low_passes : test low ≡ true

-- A number and a margin about it. A margin of n reaches over all numbers, so one that is widened from below n is no larger than this.
pub record About (n estimate margin : ℕ) : Type 0 where
  pub estimate_most : estimate ≤ n
  pub margin_most : margin ≤ 16 * n
