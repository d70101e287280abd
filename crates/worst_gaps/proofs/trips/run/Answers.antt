-- Each turn takes the next position off what is left, and with none left the run ends.
use Rattle.std.proofs.Common.{sym, ap, ap₂, ◌∙◌, ◌-◌, ◌+◌}
use Rattle.worst_gaps.specs.InnerPositions.{next_of}
use Rattle.worst_gaps.specs.InnerTallies.{run_of}
use Rattle.worst_gaps.proofs.Runs.{run_turn, run_end}
use Rattle.worst_gaps.proofs.trips.run.Goals as goal

pub loop-preserved : goal.loop-preserved
loop-preserved c =
    let i = c.loop.counter in
    ap₂ (run_of c.args.projection.now.set (c.args.count - (i + 1))) (c.next-s.ensures ∙ ap next_of c.next.ensures) c.step-seen.ensures
    ∙ run_turn c.args.projection.now.set c.args.count i c.loop.s c.loop.seen c.loop-test.true
    ∙ c.loop.invariant

pub returns : goal.returns
returns c = sym (run_end c.args.projection.now.set c.args.count c.loop.counter c.loop.s c.loop.seen c.loop-test.false) ∙ c.loop.invariant
