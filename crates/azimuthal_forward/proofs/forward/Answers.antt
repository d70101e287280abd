-- The set's own refusal comes first; with an accepted set the answer is that of `forward_point`. Assumes nothing.
use Rattle.std.proofs.Common.{sym, ap₂, ◌∙◌}
use Rattle.std.proofs.lemmas.Result.{err_from_is_err_and}
use mir.Facts.{to_z-of_z}
use Rattle.units.proofs.AnswerLaws.{and_told, number_some}
use Rattle.azimuthal_forward.specs.Answer.{forward_of, plane_told}
use Rattle.azimuthal_forward.proofs.AnswerLaws.{forward_tells, forward_set_refused}
use Rattle.azimuthal_forward.proofs.forward.Goals as goal

pub returns-in_err-check : goal.returns-in_err-check
returns-in_err-check c =
    let p = err_from_is_err_and c.from_residual.result c.from_residual.ensures.1 in
    rw (p.1, p.2)
    (and_told plane_told (forward_tells _ _ _) (sym (forward_set_refused _ _ _ _ (number_some _) (sym c.in_err-check.ensures))))

pub returns : goal.returns
returns c =
    and_told plane_told (forward_tells _ _ _)
    (c.forward_point.ensures ∙ ap₂ (λ p lon. forward_of p c.args.lat lon) c.of_accepted-projection.ensures (to_z-of_z c.ranges.lon))
