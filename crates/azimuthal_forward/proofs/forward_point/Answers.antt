-- The steps before the root and those after it, with the root between them, are the forward steps. Assumes nothing.
use Rattle.std.proofs.Common.{ap, ◌∙◌}
use mir.Facts.{to_z-of_z}
use Rattle.proof_kit.proofs.Range.{returned}
use Rattle.azimuthal_forward.specs.Steps.{H}
use Rattle.azimuthal_forward.specs.Answer.{forward_of}
use Rattle.azimuthal_forward.proofs.StageLaws.{root_asked, after_asked, after_is}
use Rattle.azimuthal_forward.proofs.forward_point.Goals as goal

pub scale-requires : goal.scale-requires
scale-requires c =
    rw (returned c.nearness.type_inv, c.nearness.ensures)
    (root_asked _ _ _ c.args.projection.now.set_accepted c.steps_before_root-before.ensures)

pub steps_after_root-requires : goal.steps_after_root-requires
steps_after_root-requires c =
    after_asked _ _ _ c.args.projection.now.set_accepted c.steps_before_root-before.ensures
    (c.scale.ensures ∙ ap H (returned c.nearness.type_inv ∙ c.nearness.ensures))

pub returns : goal.returns
returns c =
    after_is _ _ _ c.args.projection.now.set_accepted c.steps_before_root-before.ensures
    (c.scale.ensures ∙ ap H (returned c.nearness.type_inv ∙ c.nearness.ensures))
    c.args.projection.now.of_set c.steps_after_root.ensures
    ∙ ap (forward_of _ _) (to_z-of_z c.ranges.lon)
