-- The numbers that pass are those up to the greatest, so the greatest is from `low` on where `low` passes, and up to `high` where the
-- number after it does not, or is past the last one. Assumes nothing.
use Rattle.std.proofs.Common.{◌∙◌, rules}
use borrow.Author.Tests.{eq-eqb}
use Rattle.integers.proofs.Halving.{low_fails, top_reached, next_tested}
use Rattle.integers.proofs.search.is_bracketed.Goals as goal

pub returns-then-high-most : goal.returns-then-high-most
returns-then-high-most g c =
    let last = c.if-high-most.true ∙ c.most.ensures in
    eq-eqb _ _ c.if-high-most.true ∙ top_reached (g.met.T.Test.threshold c.args.test.now) c.requires.0 c.passes.ensures _ c.if-passes.true last

pub returns-else-high-most : goal.returns-else-high-most
returns-else-high-most g c =
    next_tested (g.met.T.Test.threshold c.args.test.now) c.requires.0 c.passes.ensures _ c.requires.1 c.if-passes.true
    (λ e. c.if-high-most.false (search rules)) c.passes-else-high-most.ensures

pub returns-else-passes : goal.returns-else-passes
returns-else-passes g c = low_fails (g.met.T.Test.threshold c.args.test.now) c.requires.0 c.passes.ensures _ c.if-passes.false
