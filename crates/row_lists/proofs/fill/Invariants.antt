-- The first 2 · turn points are in the three lists; from there on each holds what it had.
use Rattle.std.proofs.Common.{◌*◌}
use Rattle.points.specs.InnerStages.{row_by}
use Rattle.row_lists.proofs.ListLaws.{Stored}
use Rattle.row_lists.proofs.fill.Given as goal

abbrev pub invariant-loop-turn : goal.invariant-loop-turn
invariant-loop-turn g l =
    Stored (row_by g.D.Direction.stages l.fn.projection.set) l.xs l.ys l.fn.leading l.fn.trailing l.fn.marks l.leading l.trailing l.marks (2 * l.turn)
