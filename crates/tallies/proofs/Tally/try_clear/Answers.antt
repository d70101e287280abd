-- The test of the cell by the side as it was handed on.
use Rattle.std.proofs.Common.{sym, rules, w64, FitsSigned, to_z-of_z}
use Rattle.std.proofs.lemmas.Result.{err_from_is_err_and}
use Rattle.tallies.proofs.Outcomes.{clear_refused, clear_done, clear_absent}
use Rattle.tallies.proofs.Tally.try_clear.Goals as goal

pub returns-in_err-check_name : goal.returns-in_err-check_name
returns-in_err-check_name c =
    let p = err_from_is_err_and c.from_residual.result c.from_residual.ensures.1 in
    let fits : FitsSigned w64 c.args.self.now.side = search rules in
    rw (p.1, p.2) (clear_refused _ _ _ (rw (to_z-of_z fits) at c.in_err-check_name.ensures))

pub returns-in-Some : goal.returns-in-Some
returns-in-Some c =
    let fits : FitsSigned w64 c.args.self.now.side = search rules in
    let good = rw (to_z-of_z fits) at c.in_ok-check_name.ensures in
    clear_done _ _ good _ _ (sym c.in-Some.ensures) c.empty_slot.ensures

pub returns-in_default : goal.returns-in_default
returns-in_default c =
    let fits : FitsSigned w64 c.args.self.now.side = search rules in
    let good = rw (to_z-of_z fits) at c.in_ok-check_name.ensures in
    clear_absent _ _ good (sym c.in_default.ensures)
