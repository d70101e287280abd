use Rattle.points.proofs.StageLaws.{forward_told}
use Rattle.points.proofs.forward_degrees.Goals as goal

pub returns : goal.returns
returns c = forward_told c.args.p c.args.at c.single.result c.single.ensures
