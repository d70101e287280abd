-- The set's own refusal comes first; with an accepted set the answer is that of `inverse_point`. Assumes nothing.
use Rattle.std.proofs.Common.{sym, ap₂, ap, ◌∙◌}
use Rattle.std.proofs.lemmas.Result.{err_from_is_err_and}
use mir.Facts.{to_z-of_z}
use Rattle.units.proofs.AnswerLaws.{and_told, number_some}
use Rattle.billionths.proofs.Calls.{back}
use Rattle.azimuthal_inverse.specs.Answer.{inverse_of, geodetic_told}
use Rattle.azimuthal_inverse.proofs.AnswerLaws.{inverse_tells, inverse_set_refused}
use Rattle.azimuthal_inverse.proofs.inverse.Goals as goal

pub returns-in_err-check : goal.returns-in_err-check
returns-in_err-check c =
    let p = err_from_is_err_and c.from_residual.result c.from_residual.ensures.1 in
    rw (p.1, p.2)
    (and_told geodetic_told (inverse_tells _ _ _) (sym (inverse_set_refused _ _ _ _ (number_some _) (sym c.in_err-check.ensures))))

pub returns : goal.returns
returns c =
    and_told geodetic_told (inverse_tells _ _ _)
    (c.inverse_point.ensures
    ∙ ap (λ p. inverse_of p (back c.args.easting) (back c.args.northing)) c.of_accepted-projection.ensures
    ∙ ap₂ (inverse_of c.args.p) (to_z-of_z c.ranges.easting) (to_z-of_z c.ranges.northing))
