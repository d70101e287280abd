-- The loop's invariant is that of `root` for each of the two numbers. Neither is above the larger one, so the first digit is high enough
-- for both. Assumes nothing.
use Rattle.std.proofs.Common.{ℕ, ◌≤◌, ◌<◌, ◌^◌, ◌∷◌, [], ap₂, arith}
use Rattle.integers.proofs.Digits.{DigitsTried, no_digits_tried, next_tried, trial_fits, all_tried}
use Rattle.integers.specs.Rounds.{none_taken}
use Rattle.integers.proofs.roots.Goals as goal
use Rattle.integers.proofs.roots.Goals.{then-larger, else-larger, then-n-m, else-n-m}

-- the larger number fits, and says for each one that is not above it which digit is the first
first_digit : (c : goal.Joined-larger) (n : ℕ) → n ≤ c.if-n-m.larger → DigitsTried n c.if-larger.bit none_taken
first_digit c n h =
    let fits : c.if-n-m.larger < 2 ^ 64 = elim c.if-n-m.branch [ then-n-m w ↦ omega arith | else-n-m w ↦ omega arith ] in
    elim c.if-larger.branch [
      | then-larger w ↦ no_digits_tried n 30 c.if-larger.bit (omega arith) (omega arith) (omega arith)
      | else-larger w ↦ no_digits_tried n 32 c.if-larger.bit (omega arith) (omega arith) (omega arith)
    ]

pub loop-bit-init : goal.loop-bit-init
loop-bit-init c = record {
  first = first_digit c c.args.n (elim c.if-n-m.branch [ then-n-m w ↦ omega arith | else-n-m w ↦ omega arith ]);
  second = first_digit c c.args.m (elim c.if-n-m.branch [ then-n-m w ↦ omega arith | else-n-m w ↦ omega arith ]);
}

pub next_digit-first-requires : goal.next_digit-first-requires
next_digit-first-requires c = trial_fits _ _ _ _ _ c.loop-bit.invariant.first

pub next_digit-second-requires : goal.next_digit-second-requires
next_digit-second-requires c = trial_fits _ _ _ _ _ c.loop-bit.invariant.second

pub loop-bit-preserved : goal.loop-bit-preserved
loop-bit-preserved c = record {
  first = rw c.next_digit-first.ensures (next_tried _ c.loop-bit.bit c.loop-bit.first (omega arith) c.loop-bit.invariant.first);
  second = rw c.next_digit-second.ensures (next_tried _ c.loop-bit.bit c.loop-bit.second (omega arith) c.loop-bit.invariant.second);
}

pub returns : goal.returns
returns c =
    ap₂ (λ (x y : ℕ). x ∷ y ∷ []) (all_tried _ _ _ _ _ (omega arith) c.loop-bit.invariant.first)
    (all_tried _ _ _ _ _ (omega arith) c.loop-bit.invariant.second)
