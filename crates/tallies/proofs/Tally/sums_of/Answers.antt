-- The test of the cell by the side as it was handed on.
use Rattle.std.proofs.Common.{ap, ◌∙◌, rules, w64, FitsSigned, to_z-of_z}
use Rattle.std.proofs.lemmas.Result.{err_from_is_err_and}
use Rattle.tallies.specs.Tallies.{sums_in}
use Rattle.tallies.proofs.Outcomes.{read_refused, read_done}
use Rattle.tallies.proofs.Tally.sums_of.Goals as goal

pub returns-in_err-check_name : goal.returns-in_err-check_name
returns-in_err-check_name c =
    let p = err_from_is_err_and c.from_residual.result c.from_residual.ensures.1 in
    let fits : FitsSigned w64 c.args.self.now.side = search rules in
    rw (p.1, p.2) (read_refused _ _ _ (rw (to_z-of_z fits) at c.in_err-check_name.ensures))

pub returns : goal.returns
returns c =
    let fits : FitsSigned w64 c.args.self.now.side = search rules in
    c.sums_in.ensures ∙ ap sums_in c.held_at.ensures ∙ read_done _ _ (rw (to_z-of_z fits) at c.in_ok-check_name.ensures)
