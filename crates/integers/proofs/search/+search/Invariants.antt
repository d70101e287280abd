use Rattle.std.proofs.Common.{◌-◌}
use Rattle.integers.proofs.search.+search.Given as goal

-- the width of the span that is left
abbrev pub decreases-search : goal.decreases-search
decreases-search g l = l.high - l.low
