use Rattle.points.proofs.StageLaws.{forward_listed}
use Rattle.point_lists.proofs.ListedLaws.{call_same}
use Rattle.point_lists.proofs.forward_list.Goals as goal

pub returns : goal.returns
returns c = call_same c.args.p _ _ (forward_listed c.args.p) _ _ _ _ _ _ _ _ _ c.list.ensures
