-- Each turn of `list_rows::steps` puts one element in its place: the first i elements are those of the definition in what was there, which has
-- as many. Assumes nothing.
use Rattle.std.proofs.Common.{◌≡◌, length}
use Rattle.row_lists.proofs.ListLaws.{filled}
use Rattle.point_vectors.specs.InnerLists.{room, steps_of}
use Rattle.point_vectors.proofs.list_rows.steps.Given as goal

abbrev pub invariant-loop-i : goal.invariant-loop-i
invariant-loop-i l = (room ≡ length l.initial.out) × (l.out ≡ filled l.i (steps_of l.fn.step) l.initial.out)
