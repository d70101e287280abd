use Rattle.std.proofs.Common.{to_z-of_z, arith}
use Rattle.std.proofs.lemmas.Result.{err_from_is_err_and}
use Rattle.cells.proofs.Calls.{taken, numbers_side, numbers_checked}
use Rattle.cells.proofs.check_numbers.Goals as goal

pub returns-in_err-try_from : goal.returns-in_err-try_from
returns-in_err-try_from c =
    let p = err_from_is_err_and c.from_residual.result c.from_residual.ensures.1 in
    let test = rw (to_z-of_z c.ranges.side) at c.in_err-try_from.ensures in
    rw (p.1, p.2) (numbers_side _ _ _ _ test.0)

pub returns : goal.returns
returns c =
    let t = taken _ _ (rw (to_z-of_z c.ranges.side) at c.in_ok-try_from.ensures) in
    let e = numbers_checked c.args.side c.args.east c.args.north _ t in
    grind (arith, to_z-of_z)
