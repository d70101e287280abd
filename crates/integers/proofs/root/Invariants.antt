use Rattle.integers.proofs.Digits.{Tried}
use Rattle.integers.proofs.root.Given as goal

-- what the sentence at the loop says
abbrev pub invariant-loop-bit : goal.invariant-loop-bit
invariant-loop-bit l = Tried l.n l.bit l.square l.r l.trial

abbrev pub decreases-loop-bit : goal.decreases-loop-bit
decreases-loop-bit l = l.bit
