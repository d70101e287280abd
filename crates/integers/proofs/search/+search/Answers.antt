-- Where one number is left it is the greatest. Where the middle fails, all above it fail, so the lower half has the same greatest. Assumes nothing.
use Rattle.std.proofs.Common.{◌∙◌}
use Rattle.integers.proofs.Halving.{one_is_left, lower_same}
use Rattle.integers.proofs.search.+search.Goals as goal

pub returns-then-low-high : goal.returns-then-low-high
returns-then-low-high g t c = one_is_left c.requires c.if-low-high.true

pub returns-else-passes : goal.returns-else-passes
returns-else-passes g t c =
    c.search-else-passes.ensures
    ∙ lower_same c.requires c.passes.ensures c.if-passes.false (g.met.T.Test.threshold c.args.test.now)
