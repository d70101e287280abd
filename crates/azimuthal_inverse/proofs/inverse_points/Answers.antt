-- For each of the two points it takes the stages of `inverse_point`, with the roots of that point. Assumes nothing.
use Rattle.std.proofs.Common.{◌≡◌, ℕ, pos, List, [], ◌∷◌, length, get_or, ap, ap₂, ◌∙◌, rules}
use mir.Syntax.{w64}
use mir.Val.{SFits}
use mir.Facts.{to_z-of_z}
use Rattle.proof_kit.proofs.Range.{returned}
use Rattle.integers.specs.Root.{root}
use Rattle.azimuthal_forward.specs.declared.PlanePosition.{PlanePosition}
use Rattle.azimuthal_forward.specs.Steps.{H}
use Rattle.azimuthal_forward.proofs.StageLaws.{both}
use Rattle.azimuthal_inverse.specs.Answer.{GeodeticAnswer, inverse_of}
use Rattle.azimuthal_inverse.specs.InnerStages.{inverse_at}
use Rattle.azimuthal_inverse.proofs.StageLaws.{centre_bounded, reduced_small, stages_are, nearness_given}
use Rattle.azimuthal_inverse.proofs.inverse_points.Goals as goal

pub nearness-requires : goal.nearness-requires
nearness-requires c =
    let on = c.args.projection.now in
    reduced_small _ on.set_accepted on.of_set _ _ c.plane_point-q.ensures c.reduced_or_zero-r.ensures

pub nearness-requires-2 : goal.nearness-requires-2
nearness-requires-2 c =
    let on = c.args.projection.now in
    reduced_small _ on.set_accepted on.of_set _ _ c.plane_point-q2.ensures c.reduced_or_zero-r2.ensures

pub scales-requires : goal.scales-requires
scales-requires c =
    let on = c.args.projection.now in
    let small = reduced_small _ on.set_accepted on.of_set _ _ c.plane_point-q.ensures c.reduced_or_zero-r.ensures in
    let small2 = reduced_small _ on.set_accepted on.of_set _ _ c.plane_point-q2.ensures c.reduced_or_zero-r2.ensures in
    let first = nearness_given small (returned c.nearness.type_inv ∙ c.nearness.ensures) in
    let second = nearness_given small2 (returned c.nearness-2.type_inv ∙ c.nearness-2.ensures) in
    (first.0, first.1, second.0, second.1)

pub sphere_point-s-requires : goal.sphere_point-s-requires
sphere_point-s-requires c =
    let on = c.args.projection.now in
    let small = reduced_small _ on.set_accepted on.of_set _ _ c.plane_point-q.ensures c.reduced_or_zero-r.ensures in (
      centre_bounded _ on.set_accepted on.of_set,
      small,
      ap (λ (h : List ℕ). get_or h 0 0) c.scales.ensures ∙ ap H (returned c.nearness.type_inv ∙ c.nearness.ensures),
    )

pub sphere_point-s2-requires : goal.sphere_point-s2-requires
sphere_point-s2-requires c =
    let on = c.args.projection.now in
    let small = reduced_small _ on.set_accepted on.of_set _ _ c.plane_point-q2.ensures c.reduced_or_zero-r2.ensures in (
      centre_bounded _ on.set_accepted on.of_set,
      small,
      ap (λ (h : List ℕ). get_or h 1 0) c.scales.ensures ∙ ap H (returned c.nearness-2.type_inv ∙ c.nearness-2.ensures),
    )

pub answer-requires : goal.answer-requires
answer-requires c = ap (λ (r : List ℕ). get_or r 0 0) c.roots.ensures ∙ ap root c.squared_radius.ensures

pub answer-requires-2 : goal.answer-requires-2
answer-requires-2 c = ap (λ (r : List ℕ). get_or r 1 0) c.roots.ensures ∙ ap root c.squared_radius-2.ensures

-- what `at` holds where nothing does
abbrev nowhere : PlanePosition
nowhere = record { easting = pos 0; northing = pos 0 }

pub returns : goal.returns
returns c =
    let on = c.args.projection.now in
    let two : length c.args.at ≡ 2 = search rules in
    let e : SFits w64 (get_or c.args.at 0 nowhere).easting = search rules in
    let n : SFits w64 (get_or c.args.at 0 nowhere).northing = search rules in
    let e2 : SFits w64 (get_or c.args.at 1 nowhere).easting = search rules in
    let n2 : SFits w64 (get_or c.args.at 1 nowhere).northing = search rules in
    let first = stages_are _ on.set_accepted on.of_set _ _ c.plane_point-q.ensures c.reduced_or_zero-r.ensures c.sphere_point-s.ensures c.answer.ensures in
    let second =
    stages_are _ on.set_accepted on.of_set _ _ c.plane_point-q2.ensures c.reduced_or_zero-r2.ensures c.sphere_point-s2.ensures c.answer-2.ensures in
    rw (both (inverse_at on.set) nowhere c.args.at two)
    (ap₂ (λ (x y : GeodeticAnswer). x ∷ y ∷ [])
    (first ∙ ap₂ (inverse_of on.set) (to_z-of_z e) (to_z-of_z n))
    (second ∙ ap₂ (inverse_of on.set) (to_z-of_z e2) (to_z-of_z n2)))
