-- 5 and 6 by the lengths, then the set, then every point and the count of the marks written.
use Rattle.std.proofs.Common.{rules, ◌≡◌, sym, ap, ◌∙◌, Err}
use Rattle.units.proofs.AnswerLaws.{number_some}
use Rattle.parameters.specs.declared.Parameters.{Parameters}
use Rattle.points.specs.InnerStages.{row_by}
use Rattle.row_lists.specs.Rows.{rows, first_values, second_values, marks}
use Rattle.point_lists.proofs.ListedLaws.{equal_lengths, refused_by_lengths, refused_by_set, listed_refused, listed_count}
use Rattle.point_lists.proofs.list.Goals as goal

pub returns-in_err-check_lengths : goal.returns-in_err-check_lengths
returns-in_err-check_lengths g c =
    let why = c.in_err-check_lengths.field-0.0 in
    let is : c.from_residual.result ≡ Err why = search rules in
    listed_refused c.from_residual.result why is (refused_by_lengths _ _ _ _ _ _ _ (number_some why) c.in_err-check_lengths.ensures)

pub returns-in_err-check : goal.returns-in_err-check
returns-in_err-check g c =
    let why = c.in_err-check.field-0.0 in
    let is : c.from_residual-in_err-check.result ≡ Err why = search rules in
    listed_refused c.from_residual-in_err-check.result why is
    (refused_by_set _ _ _ _ _ _ _ (sym c.in_ok-check_lengths.ensures) c.in_err-check.ensures)

pub fill-requires : goal.fill-requires
fill-requires g c = equal_lengths _ _ _ _ _ (sym c.in_ok-check_lengths.ensures)

pub returns : goal.returns
returns g c =
    let points = λ (set : Parameters). rows (row_by g.D.Direction.stages set) c.args.xs.now c.args.ys.now in
    let same : points c.of_accepted-projection.result.set ≡ points c.args.p = ap points c.of_accepted-projection.ensures in
    listed_count c.count_zeros.result (refused_by_set _ _ _ _ _ _ 0 (sym c.in_ok-check_lengths.ensures) c.in_ok-check.ensures)
    (c.fill.ensures.leading_after ∙ ap first_values same) (c.fill.ensures.trailing_after ∙ ap second_values same) (c.fill.ensures.marks_after ∙ ap marks same)
    c.count_zeros.ensures
