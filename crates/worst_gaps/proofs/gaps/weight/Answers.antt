-- β of a latitude within a right angle is within one, so its cosine is not negative and its size is the cosine itself.
use Rattle.std.proofs.Common.{◌≡◌, ◌≤◌, ℤ, pos, nat_abs, ap, ◌∙◌, lit<, to_z, of_z, w64}
use Rattle.proof_kit.proofs.Order.{pos_abs}
use Rattle.proof_kit.proofs.Range.{kept}
use Rattle.units.specs.Units.{right_angle}
use Rattle.trig.specs.Sine.{cosine}
use Rattle.trig.proofs.Interface.{cosine_size, cosine_nonneg}
use Rattle.latitudes.specs.declared.Authalic.{Authalic}
use Rattle.latitudes.specs.Latitude.{beta}
use Rattle.constants.proofs.ConstantsLaws.{sound_as}
use Rattle.latitudes.proofs.AuthalicLaws.{beta_size}
use Rattle.worst_gaps.proofs.gaps.weight.Goals as goal
use Rattle.worst_gaps.proofs.gaps.weight.Goals.{After-to_authalic}

-- β of the latitude
beta-is : (c : After-to_authalic) → c.to_authalic.result.0 ≡ (beta c.args.projection.now.constants.series c.args.lat).0
beta-is c = ap (λ (x : Authalic). x.0) c.to_authalic.ensures

within : (c : After-to_authalic) → nat_abs c.to_authalic.result.0 ≤ right_angle
within c = rw (beta-is c) (beta_size _ (sound_as _ _ c.args.projection.now.set_accepted c.args.projection.now.of_set).small c.args.lat.0 c.requires)

pub to_authalic-requires : goal.to_authalic-requires
to_authalic-requires c = ((sound_as _ _ c.args.projection.now.set_accepted c.args.projection.now.of_set).small, c.requires)

pub cosine-requires : goal.cosine-requires
cosine-requires c = within c

pub returns : goal.returns
returns c =
    let β = c.to_authalic.result.0 in
    ap pos
    (c.magnitude.ensures
    ∙ ap (λ (z : ℤ). nat_abs (to_z w64 (of_z w64 z))) c.cosine.ensures
    ∙ ap nat_abs (kept (cosine β) (cosine_size β) (lit< tt)))
    ∙ pos_abs (cosine_nonneg β (within c.before.before))
    ∙ ap cosine (beta-is c.before.before)
