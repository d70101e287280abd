use Rattle.integers.proofs.Digits.{DigitsTried}
use Rattle.integers.proofs.roots.Given as goal

-- that of `root` for each of the two numbers, with the same `bit`
abbrev pub invariant-loop-bit : goal.invariant-loop-bit
invariant-loop-bit l = record { first : DigitsTried l.n l.bit l.first; second : DigitsTried l.m l.bit l.second }

abbrev pub decreases-loop-bit : goal.decreases-loop-bit
decreases-loop-bit l = l.bit
