use Rattle.std.proofs.Common.{to_z-of_z}
use Rattle.tallies.proofs.Outcomes.{made_is}
use Rattle.tallies.proofs.Tally.new.Goals as goal

pub returns : goal.returns
returns c =
    let side = to_z-of_z c.ranges.side in
    rw side (made_is c.args.side c.empty_slot.result c.check_side-answer.result c.empty_slot.ensures (rw side at c.check_side-answer.ensures))
