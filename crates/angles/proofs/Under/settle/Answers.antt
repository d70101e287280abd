-- The test is that of the law. Assumes nothing.
use Rattle.std.proofs.Common.{arith}
use Rattle.angles.proofs.OneTest.{tried_here, tried_before}
use Rattle.angles.proofs.Under.settle.Goals as goal

pub returns-then-s-c : goal.returns-then-s-c
returns-then-s-c c =
    tried_here c.args.self.now.p c.args.self.now.q c.args.theta c.requires c.if-r-eq0.false _ _ _ _ _ c.quarter_pair-at.ensures.0 c.quarter_pair-at.ensures.1
    c.rise.ensures c.rise-2.ensures c.if-fall-abs_diff.false c.if-s-c.true (omega (arith, c.abs_diff.ensures))

pub returns-else-s-c : goal.returns-else-s-c
returns-else-s-c c =
    tried_before c.args.self.now.p c.args.self.now.q c.args.theta c.requires c.if-r-eq0.false _ _ _ _ _ c.quarter_pair-at.ensures.0 c.quarter_pair-at.ensures.1
    c.rise.ensures c.rise-2.ensures c.if-fall-abs_diff.false c.if-s-c.false (omega (arith, c.abs_diff.ensures))
