use Rattle.std.proofs.Common.{◌-◌}
use Rattle.integers.proofs.search.+search_near.Given as goal

-- what the margin leaves of all numbers
abbrev pub decreases-search_near : goal.decreases-search_near
decreases-search_near g l = g.T.Test.most - l.margin
