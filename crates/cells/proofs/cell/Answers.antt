-- Each test by the length and the position as they were passed.
use Rattle.std.proofs.Common.{◌∙◌, sym, to_z-of_z, arith}
use Rattle.std.proofs.lemmas.Result.{err_from_is_err_and}
use Rattle.cells.proofs.Calls.{taken, passed, cell_side, cell_position, cell_given}
use Rattle.cells.proofs.cell.Goals as goal

pub returns-in_err-side : goal.returns-in_err-side
returns-in_err-side c =
    let p = err_from_is_err_and c.from_residual.result c.from_residual.ensures.1 in
    let test = rw (to_z-of_z c.ranges.side) at c.in_err-side.ensures in
    rw (p.1, p.2) (cell_side _ _ _ _ test.0)

pub returns-in_err-unless : goal.returns-in_err-unless
returns-in_err-unless c =
    let p = err_from_is_err_and c.from_residual-in_err-unless.result c.from_residual-in_err-unless.ensures.1 in
    let on = rw (to_z-of_z c.ranges.easting, to_z-of_z c.ranges.northing) at c.is_on_plane.ensures in
    rw (p.1, p.2)
    (cell_position _ _ _ c.in_ok-side.side (taken _ _ (rw (to_z-of_z c.ranges.side) at c.in_ok-side.ensures)) _ (rw on at c.in_err-unless.ensures))

pub returns : goal.returns
returns c =
    let on = rw (to_z-of_z c.ranges.easting, to_z-of_z c.ranges.northing) at c.is_on_plane.ensures in
    let given = cell_given _ _ _ c.in_ok-side.side (taken _ _ (rw (to_z-of_z c.ranges.side) at c.in_ok-side.ensures)) (sym on ∙ passed _ c.in_ok-unless.ensures) in
    grind (arith, to_z-of_z)
