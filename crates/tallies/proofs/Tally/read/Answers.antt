use Rattle.tallies.specs.Tallies.{read_from}
use Rattle.tallies.proofs.Tally.read.Goals as goal

pub returns : goal.returns
unfolding read_from
returns c = rw c.sums_of-answer.ensures
