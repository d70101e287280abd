-- `list_rows::call` meets its contract: the inputs are the first elements of the steps, the outputs the first of arrays that are filled, and
-- what the list call leaves there stands before the rest of each array. Assumes nothing.
use Rattle.std.proofs.Common.{sym, ◌∙◌, length-take-le, arith}
use lib.Ieee.{of_bits}
use lib.Seq.{length_front}
use Rattle.point_vectors.specs.InnerRows.{is_forward}
use Rattle.point_vectors.proofs.OutcomeLaws.{outcome_is}
use Rattle.point_vectors.proofs.list_rows.call.Goals as goal

-- each part is within its array
pub slice_bounds-run-end : goal.slice_bounds-run-end
slice_bounds-run-end c = sym (length-take-le _ _ (omega (arith, c.steps-xs.ensures.1)))

pub slice_bounds-run-end-2 : goal.slice_bounds-run-end-2
slice_bounds-run-end-2 c = sym (length-take-le _ _ (omega (arith, c.steps-ys.ensures.1)))

pub slice_bounds-run-end-3 : goal.slice_bounds-run-end-3
slice_bounds-run-end-3 c = sym (length-take-le _ _ (omega (arith, c.numbers-leading.ensures.1)))

pub slice_bounds-run-end-4 : goal.slice_bounds-run-end-4
slice_bounds-run-end-4 c = sym (length-take-le _ _ (omega (arith, c.numbers-trailing.ensures.1)))

pub slice_bounds-run-end-5 : goal.slice_bounds-run-end-5
slice_bounds-run-end-5 c = sym (length-take-le _ _ (omega (arith, c.marks-marks.ensures.1)))

-- a part that was lent is as long as it was, so its array is
pub slice_bounds-digest_of-end : goal.slice_bounds-digest_of-end
slice_bounds-digest_of-end c = c.numbers-leading.ensures.1 ∙ sym (length_front c.numbers-leading.result c.run-answer.new.leading c.args.lengths.leading c.run-answer.auto.leading)

pub slice_bounds-digest_of-end-2 : goal.slice_bounds-digest_of-end-2
slice_bounds-digest_of-end-2 c = c.numbers-trailing.ensures.1 ∙ sym (length_front c.numbers-trailing.result c.run-answer.new.trailing c.args.lengths.trailing c.run-answer.auto.trailing)

pub slice_bounds-digest_of-end-3 : goal.slice_bounds-digest_of-end-3
slice_bounds-digest_of-end-3 c = c.marks-marks.ensures.1 ∙ sym (length_front c.marks-marks.result c.run-answer.new.marks c.args.lengths.marks c.run-answer.auto.marks)

pub returns : goal.returns
unfolding of_bits
returns c =
    let a = c.args in
    let n = a.lengths in
    outcome_is a.p (is_forward a.direction) n.xs n.ys n.leading n.trailing n.marks a.x_step a.y_step
    c.steps-xs.ensures.0
    c.steps-ys.ensures.0
    c.numbers-leading.ensures.0
    c.numbers-trailing.ensures.0
    c.marks-marks.ensures.0
    c.run-answer.ensures
    c.digest_of.ensures
