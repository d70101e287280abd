-- The call returns and writes what the cell holds. Assumes nothing.
use Rattle.std.proofs.Common.{rules, ap, ◌≡◌}
use Rattle.tallies.specs.Tallies.{ReadTally, read_tally, read_from}
use Rattle.laea_c.specs.Calls.{loop_cell}
use Rattle.laea_c.proofs.CallLaws.{sums_answered}
use Rattle.laea_c.proofs.power.laea2_tally_read.Goals as goal

pub returns : goal.returns
returns c =
    let read : read_tally c.read.result ≡ read_from c.args.tally (loop_cell c.args.loop_number c.args.east c.args.north) = search rules in
    sums_answered _ (ap (λ (given : ReadTally). given.answer) read) c.answer.ensures.value c.answer.ensures.out_after
