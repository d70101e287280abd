-- The table holds the entry of minute k at its place k.
use Rattle.std.proofs.Common.{arith}
use Rattle.sine_table.specs.Table.{IsTable}
use Rattle.trig.proofs.minute_sine.Goals as goal

pub returns : goal.returns
unfolding IsTable
returns c = c.args.t.now.is_table c.args.k (omega arith)
