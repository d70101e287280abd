-- A span that holds the greatest is searched. One that does not is not all of the numbers: its margin is below the last one, so the wider
-- one leaves less. Assumes nothing.
use Rattle.std.proofs.Common.{◌∙◌, arith, rules}
use Rattle.integers.proofs.Halving.{held, margin_below}
use Rattle.integers.proofs.search.+search_near.Goals as goal

pub search-requires : goal.search-requires
search-requires g t c = (held (g.met.T.Test.threshold c.args.test.now) c.is_bracketed.ensures (omega arith) c.if-is_bracketed.true).0

pub returns-then-is_bracketed : goal.returns-then-is_bracketed
returns-then-is_bracketed g t c =
    c.search.ensures ∙ (held (g.met.T.Test.threshold c.args.test.now) c.is_bracketed.ensures (omega arith) c.if-is_bracketed.true).1

-- the margin is below 2^59, so the wider one fits
pub overflow_mul-margin : goal.overflow_mul-margin
overflow_mul-margin g t c =
    let room = g.met.T.Test.room in
    let below = margin_below (g.met.T.Test.threshold c.args.test.now) c.requires c.excess-low.ensures (λ l. omega arith) c.is_bracketed.ensures c.if-is_bracketed.false in
    record { fits = omega arith }

pub overflow_add-margin : goal.overflow_add-margin
overflow_add-margin g t c =
    let room = g.met.T.Test.room in
    let below = margin_below (g.met.T.Test.threshold c.args.test.now) c.requires c.excess-low.ensures (λ l. omega arith) c.is_bracketed.ensures c.if-is_bracketed.false in
    record { fits = omega arith }

pub search_near-requires : goal.search_near-requires
search_near-requires g t c κs within =
    let below = margin_below (g.met.T.Test.threshold c.args.test.now) c.requires c.excess-low.ensures (λ l. omega arith) c.is_bracketed.ensures c.if-is_bracketed.false in
    search rules
