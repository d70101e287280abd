-- The sum of p and q is 0 only where both are, which is the exception. Else a settled angle is the greatest that is under, and the search of
-- that span of one returns it; where nothing is settled a wider span is searched, whatever the estimate that it starts from. Assumes nothing.
use Rattle.std.proofs.Common.{sym, ◌∙◌}
use Rattle.integers.proofs.Halving.{one_span, one_same}
use Rattle.angles.specs.InnerThreshold.{under_threshold}
use Rattle.angles.proofs.Angles.{angle_none, angle_some}
use Rattle.angles.proofs.angle.Goals as goal

pub returns-then-p-q-eq0 : goal.returns-then-p-q-eq0
returns-then-p-q-eq0 c = sym (angle_none _ _ c.if-p-q-eq0.true)

pub search-requires : goal.search-requires
search-requires c = one_span (under_threshold _ _) (c.in-Some.ensures {u = tt})

pub returns-in-Some : goal.returns-in-Some
returns-in-Some c =
    c.search.ensures ∙ one_same (under_threshold _ _) (c.in-Some.ensures {u = tt}) ∙ sym (angle_some _ _ c.if-p-q-eq0.false)

pub returns-in-None : goal.returns-in-None
returns-in-None c = c.search_near.ensures ∙ sym (angle_some _ _ c.if-p-q-eq0.false)
