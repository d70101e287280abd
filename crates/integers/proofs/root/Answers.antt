-- The loop's invariant is `Tried`. A round leaves it, whether the digit is taken or not. Assumes nothing.
use Rattle.std.proofs.Common.{arith}
use Rattle.integers.proofs.Digits.{none_tried, next_not_taken, next_taken, all_tried}
use Rattle.integers.proofs.root.Goals as goal
use Rattle.integers.proofs.root.Goals.{then-n, else-n}

pub loop-bit-init : goal.loop-bit-init
loop-bit-init c =
    elim c.if-n.branch [
      | then-n w ↦ none_tried c.args.n 30 c.if-n.bit (omega arith) (omega arith) (omega arith)
      | else-n w ↦ none_tried c.args.n 32 c.if-n.bit (omega arith) (omega arith) (omega arith)
    ]

pub loop-bit-preserved-then-n-trial : goal.loop-bit-preserved-then-n-trial
loop-bit-preserved-then-n-trial c = next_not_taken _ _ _ _ _ (omega arith) c.if-n-trial.true c.loop-bit.invariant

pub loop-bit-preserved : goal.loop-bit-preserved
loop-bit-preserved c = next_taken _ _ _ _ _ (omega arith) c.if-n-trial.false c.loop-bit.invariant

pub returns : goal.returns
returns c = all_tried _ _ _ _ _ (omega arith) c.loop-bit.invariant
