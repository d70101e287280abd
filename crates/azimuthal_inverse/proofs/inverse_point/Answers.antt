-- It is made of the stages, and each root is the one that the next stage asks for. Assumes nothing.
use Rattle.std.proofs.Common.{ap, ap₂, ◌∙◌}
use mir.Facts.{to_z-of_z}
use Rattle.proof_kit.proofs.Range.{returned}
use Rattle.integers.specs.Root.{root}
use Rattle.azimuthal_forward.specs.Steps.{H}
use Rattle.azimuthal_inverse.specs.Answer.{inverse_of}
use Rattle.azimuthal_inverse.proofs.StageLaws.{centre_bounded, reduced_small, stages_are, nearness_given}
use Rattle.azimuthal_inverse.proofs.inverse_point.Goals as goal

pub nearness-requires : goal.nearness-requires
nearness-requires c =
    let on = c.args.projection.now in
    reduced_small _ on.set_accepted on.of_set _ _ c.plane_point-q.ensures c.reduced_or_zero-r.ensures

pub scale-requires : goal.scale-requires
scale-requires c =
    let on = c.args.projection.now in
    let small = reduced_small _ on.set_accepted on.of_set _ _ c.plane_point-q.ensures c.reduced_or_zero-r.ensures in
    nearness_given small (returned c.nearness.type_inv ∙ c.nearness.ensures)

pub sphere_point-s-requires : goal.sphere_point-s-requires
sphere_point-s-requires c =
    let on = c.args.projection.now in
    let small = reduced_small _ on.set_accepted on.of_set _ _ c.plane_point-q.ensures c.reduced_or_zero-r.ensures in
    (centre_bounded _ on.set_accepted on.of_set, small, c.scale.ensures ∙ ap H (returned c.nearness.type_inv ∙ c.nearness.ensures))

pub answer-requires : goal.answer-requires
answer-requires c = c.root-radius.ensures ∙ ap root c.squared_radius.ensures

pub returns : goal.returns
returns c =
    let on = c.args.projection.now in
    stages_are _ on.set_accepted on.of_set _ _ c.plane_point-q.ensures c.reduced_or_zero-r.ensures c.sphere_point-s.ensures c.answer.ensures
    ∙ ap₂ (inverse_of on.set) (to_z-of_z c.ranges.easting) (to_z-of_z c.ranges.northing)
