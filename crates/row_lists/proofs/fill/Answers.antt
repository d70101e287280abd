-- The two points of a turn, and the last of an odd list, are stored as their rows.
use Rattle.std.proofs.Common.{arith, ◌+◌, ◌-◌, ◌*◌, length}
use Rattle.points.specs.InnerStages.{numbered, listed}
use Rattle.row_lists.proofs.ListLaws.{row_told, one_more_at, all_stored}
use Rattle.row_lists.proofs.fill.Goals as goal

pub loop-turn-preserved : goal.loop-turn-preserved
loop-turn-preserved g c =
    let stages = g.D.Direction.stages in
    let i = 2 * c.loop-turn.turn in
    let found = c.both_pairs-first in
    let first =
    one_more_at c.loop-turn.invariant i (i + 1) (listed stages (numbered found.result.0)) (omega arith) (omega arith) (omega arith)
    (row_told stages c.args.projection.now.set _ _ _ _ c.given.ensures found.ensures.0)
    c.put.ensures.leading_after c.put.ensures.trailing_after c.put.ensures.marks_after
    in
    one_more_at first (i + 1) (2 * (c.loop-turn.turn + 1)) (listed stages (numbered found.result.1)) (omega arith) (omega arith) (omega arith)
    (row_told stages c.args.projection.now.set _ _ _ _ c.given-in-loop-turn.ensures found.ensures.1)
    c.put-in-loop-turn.ensures.leading_after c.put-in-loop-turn.ensures.trailing_after c.put-in-loop-turn.ensures.marks_after

pub returns-then-xs-eq1 : goal.returns-then-xs-eq1
returns-then-xs-eq1 g c =
    let stages = g.D.Direction.stages in
    let last = length c.args.xs.now - 1 in
    let answer = c.pair-answer in
    let all =
    all_stored
    (one_more_at c.loop-turn.invariant last (length c.args.xs.now) (listed stages (numbered answer.result)) (omega arith) (omega arith) (omega arith)
    (row_told stages c.args.projection.now.set _ _ _ _ c.given-then-xs-eq1.ensures answer.ensures)
    c.put-then-xs-eq1.ensures.leading_after c.put-then-xs-eq1.ensures.trailing_after c.put-then-xs-eq1.ensures.marks_after)
    (omega arith)
    in
    record { leading_after = all.0; trailing_after = all.1.0; marks_after = all.1.1 }

pub returns-else-xs-eq1 : goal.returns-else-xs-eq1
returns-else-xs-eq1 g c =
    let all = all_stored c.loop-turn.invariant (omega arith) in
    record { leading_after = all.0; trailing_after = all.1.0; marks_after = all.1.1 }
