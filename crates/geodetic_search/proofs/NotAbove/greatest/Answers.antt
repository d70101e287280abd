-- Where the estimate is settled it is the greatest latitude, so it passes, and the search from it to it answers it. Assumes nothing.
use Rattle.std.proofs.Common.{◌∙◌}
use Rattle.integers.proofs.Halving.{one_span, one_same}
use Rattle.geodetic_search.specs.InnerThreshold.{not_above_threshold}
use Rattle.geodetic_search.proofs.NotAbove.greatest.Goals as goal

pub search-requires : goal.search-requires
search-requires c =
    let it = c.args.self.now in
    one_span (not_above_threshold it.series it.small it.beta it.beta_size) (c.is_settled.ensures c.if-is_settled.true)

pub returns-then-is_settled : goal.returns-then-is_settled
returns-then-is_settled c =
    let it = c.args.self.now in
    c.search.ensures ∙ one_same (not_above_threshold it.series it.small it.beta it.beta_size) (c.is_settled.ensures c.if-is_settled.true)
