-- Each return is a case of the definition. Assumes nothing.
use Rattle.std.proofs.Common.{lit<, sym}
use Rattle.std.proofs.lemmas.Result.{err_from_is_err_and}
use Rattle.proof_kit.proofs.Range.{kept}
use Rattle.units.specs.Refusals.{number}
use Rattle.units.proofs.AnswerLaws.{is_refused_lem, number_some}
use Rattle.parameters.proofs.AcceptedSet.{accepted_fields}
use Rattle.azimuthal_inverse.specs.Answer.{Refused}
use Rattle.azimuthal_inverse.specs.InnerStages.{answer_of}
use Rattle.azimuthal_inverse.proofs.answer.Goals as goal

pub returns-in_err-q : goal.returns-in_err-q
unfolding answer_of
returns-in_err-q c =
    let e = err_from_is_err_and c.from_residual.result c.from_residual.ensures.1 in
    rw (e.1, e.2, c.in_err-q.was) (sym (is_refused_lem Refused _ (number _) (number_some _)))

pub returns-in-FalseOrigin : goal.returns-in-FalseOrigin
unfolding answer_of
returns-in-FalseOrigin c =
    let lon0 = c.args.projection.now.set.lon0 in
    rw (kept lon0 (accepted_fields _ c.args.projection.now.set_accepted).lon0_size (lit< tt), c.in_ok-q.was, c.in-FalseOrigin.is)

pub returns-in-Away : goal.returns-in-Away
unfolding answer_of
returns-in-Away c = rw (c.in_ok-q.was, c.in-Away.is) c.position.ensures
