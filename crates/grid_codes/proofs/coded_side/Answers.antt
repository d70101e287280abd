-- `coded_side` meets its contract: the side is tested, the numbers, and then their signs. Assumes nothing.
use Rattle.std.proofs.Common.{◌≡◌, ◌∙◌, Bool, ◌&&◌, pos, sym, ap, rules, to_z-of_z}
use Rattle.std.proofs.lemmas.Result.{err_from_is_err_and}
use Rattle.std.specs.Int.Signed.{le_z}
use Rattle.units.specs.Refusals.{unless, negative_cell}
use Rattle.cells.proofs.Calls.{taken, numbers_side, numbers_checked}
use Rattle.grid_codes.proofs.CellLaws.{refused_first, signs_tested}
use Rattle.grid_codes.proofs.coded_side.Goals as goal

pub returns-in_err-side-clause-refusal : goal.returns-in_err-side-clause-refusal
returns-in_err-side-clause-refusal c =
    let p = err_from_is_err_and c.from_residual.result c.from_residual.ensures.1 in
    let test = rw (to_z-of_z c.ranges.length) at c.in_err-side.ensures in
    rw (p.1, p.2) (refused_first _ _ _ _ (numbers_side _ _ _ _ test.0))

pub returns-in_err-check_numbers-clause-refusal : goal.returns-in_err-check_numbers-clause-refusal
returns-in_err-check_numbers-clause-refusal c =
    let p = err_from_is_err_and c.from_residual-in_err-check_numbers.result c.from_residual-in_err-check_numbers.ensures.1 in
    let t = taken _ _ (rw (to_z-of_z c.ranges.length) at c.in_ok-side.ensures) in
    let test = rw (to_z-of_z c.ranges.east, to_z-of_z c.ranges.north) at c.in_err-check_numbers.ensures in
    rw (p.1, p.2) (refused_first _ _ _ _ (test ∙ numbers_checked _ _ _ _ t))

pub returns-in_err-unless-clause-refusal : goal.returns-in_err-unless-clause-refusal
returns-in_err-unless-clause-refusal c =
    let p = err_from_is_err_and c.from_residual-in_err-unless.result c.from_residual-in_err-unless.ensures.1 in
    let t = taken _ _ (rw (to_z-of_z c.ranges.length) at c.in_ok-side.ensures) in
    let none = rw (to_z-of_z c.ranges.east, to_z-of_z c.ranges.north) at c.in_ok-check_numbers.ensures in
    let signs : c.if-east-ge0.unless ≡ (le_z (pos 0) c.args.east && le_z (pos 0) c.args.north) = search rules in
    rw (p.1, p.2)
    (c.in_err-unless.ensures
    ∙ ap (λ (b : Bool). unless b negative_cell 0) signs
    ∙ signs_tested _ _ _ (sym (none ∙ numbers_checked _ _ _ _ t)))

pub returns-clause-refusal : goal.returns-clause-refusal
returns-clause-refusal c =
    let t = taken _ _ (rw (to_z-of_z c.ranges.length) at c.in_ok-side.ensures) in
    let none = rw (to_z-of_z c.ranges.east, to_z-of_z c.ranges.north) at c.in_ok-check_numbers.ensures in
    let signs : c.if-east-ge0.unless ≡ (le_z (pos 0) c.args.east && le_z (pos 0) c.args.north) = search rules in
    c.in_ok-unless.ensures
    ∙ ap (λ (b : Bool). unless b negative_cell 0) signs
    ∙ signs_tested _ _ _ (sym (none ∙ numbers_checked _ _ _ _ t))
