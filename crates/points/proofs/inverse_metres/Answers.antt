use Rattle.points.proofs.StageLaws.{inverse_told}
use Rattle.points.proofs.inverse_metres.Goals as goal

pub returns : goal.returns
returns c = inverse_told c.args.p c.args.at c.single.result c.single.ensures
