-- For each position the two stages, with the root of its own nearness between them, are the forward steps. Assumes nothing.
use Rattle.std.proofs.Common.{◌≡◌, ℕ, pos, List, [], ◌∷◌, length, get_or, ap, ap₂, ◌∙◌, rules}
use mir.Syntax.{w64}
use mir.Val.{SFits}
use mir.Facts.{to_z-of_z}
use Rattle.proof_kit.proofs.Range.{returned}
use Rattle.azimuthal_forward.specs.declared.GeodeticPosition.{GeodeticPosition}
use Rattle.azimuthal_forward.specs.Steps.{H}
use Rattle.azimuthal_forward.specs.Answer.{PlaneAnswer, forward_of}
use Rattle.azimuthal_forward.specs.InnerStages.{forward_at}
use Rattle.azimuthal_forward.proofs.StageLaws.{both, root_asked, after_asked, after_is}
use Rattle.azimuthal_forward.proofs.forward_points.Goals as goal

pub scales-requires : goal.scales-requires
scales-requires c =
    let accepted = c.args.projection.now.set_accepted in
    let first = root_asked _ _ _ accepted c.steps_before_root-before.ensures in
    let second = root_asked _ _ _ accepted c.steps_before_root-before2.ensures in
    rw (returned c.nearness.type_inv, c.nearness.ensures, returned c.nearness-2.type_inv, c.nearness-2.ensures)
    (first.0, first.1, second.0, second.1)

pub steps_after_root-requires : goal.steps_after_root-requires
steps_after_root-requires c =
    after_asked _ _ _ c.args.projection.now.set_accepted c.steps_before_root-before.ensures
    (ap (λ (h : List ℕ). get_or h 0 0) c.scales.ensures ∙ ap H (returned c.nearness.type_inv ∙ c.nearness.ensures))

pub steps_after_root-requires-2 : goal.steps_after_root-requires-2
steps_after_root-requires-2 c =
    after_asked _ _ _ c.args.projection.now.set_accepted c.steps_before_root-before2.ensures
    (ap (λ (h : List ℕ). get_or h 1 0) c.scales.ensures ∙ ap H (returned c.nearness-2.type_inv ∙ c.nearness-2.ensures))

-- what `at` holds where nothing does
abbrev nowhere : GeodeticPosition
nowhere = record { latitude = record { 0 = pos 0 }; longitude = pos 0 }

pub returns : goal.returns
returns c =
    let on = c.args.projection.now in
    let two : length c.args.at ≡ 2 = search rules in
    let fits : SFits w64 (get_or c.args.at 0 nowhere).longitude = search rules in
    let fits2 : SFits w64 (get_or c.args.at 1 nowhere).longitude = search rules in
    let first = after_is _ _ _ on.set_accepted c.steps_before_root-before.ensures
    (ap (λ (h : List ℕ). get_or h 0 0) c.scales.ensures ∙ ap H (returned c.nearness.type_inv ∙ c.nearness.ensures)) on.of_set c.steps_after_root.ensures in
    let second = after_is _ _ _ on.set_accepted c.steps_before_root-before2.ensures
    (ap (λ (h : List ℕ). get_or h 1 0) c.scales.ensures ∙ ap H (returned c.nearness-2.type_inv ∙ c.nearness-2.ensures)) on.of_set c.steps_after_root-2.ensures in
    rw (both (forward_at on.set) nowhere c.args.at two)
    (ap₂ (λ (x y : PlaneAnswer). x ∷ y ∷ [])
    (first ∙ ap (forward_of _ _) (to_z-of_z fits))
    (second ∙ ap (forward_of _ _) (to_z-of_z fits2)))
