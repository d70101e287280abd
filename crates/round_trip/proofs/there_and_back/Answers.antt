-- The result is the inverse of the forward answer, or its refusal. Demand 3 then holds of the result, as it does of the inverse of every forward answer.
-- Assumes nothing.
use Rattle.std.proofs.Common.{rules, sym, ap, ap₂, ◌∙◌}
use Rattle.std.proofs.lemmas.Result.{err_from_is_err_and}
use mir.Syntax.{w64}
use mir.Facts.{to_z-of_z}
use Rattle.azimuthal_forward.specs.Answer.{forward_of, plane_answer}
use Rattle.azimuthal_inverse.specs.Answer.{inverse_of}
use Rattle.round_trip.specs.RoundTrip.{there_and_back}
use Rattle.round_trip.proofs.Demand3.{meets_demand_3}
use Rattle.round_trip.proofs.there_and_back.Goals as goal

-- the arm of an accepted answer
pub returns-clause-equation : goal.returns-clause-equation
unfolding there_and_back
returns-clause-equation c =
    let p = c.args.p in
    let plane = c.in_ok-plane.plane in
    c.inverse.ensures.0
    ∙ ap₂ (inverse_of p) (to_z-of_z {w = w64} {z = plane.easting} (search rules)) (to_z-of_z {w = w64} {z = plane.northing} (search rules))
    ∙ ap (there_and_back p)
    (sym (ap plane_answer c.in_ok-plane.was) ∙ c.forward.ensures.0 ∙ ap (forward_of p c.args.lat) (to_z-of_z c.ranges.lon))

pub returns-clause-demand : goal.returns-clause-demand
returns-clause-demand c = meets_demand_3 c.args.p c.args.lat c.args.lon _ (returns-clause-equation c)

-- the arm of a refusal
pub returns-in_err-plane-clause-equation : goal.returns-in_err-plane-clause-equation
unfolding there_and_back
returns-in_err-plane-clause-equation c =
    let p = c.args.p in
    let e = err_from_is_err_and c.from_residual.result c.from_residual.ensures.1 in
    rw (e.1, e.2)
    (ap (there_and_back p)
    (sym (ap plane_answer c.in_err-plane.was) ∙ c.forward.ensures.0 ∙ ap (forward_of p c.args.lat) (to_z-of_z c.ranges.lon)))

pub returns-in_err-plane-clause-demand : goal.returns-in_err-plane-clause-demand
returns-in_err-plane-clause-demand c = meets_demand_3 c.args.p c.args.lat c.args.lon _ (returns-in_err-plane-clause-equation c)
