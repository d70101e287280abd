-- The set is accepted, so its constants and the longitude difference are as small as `direction_of` requires, and the G of the direction is the nearness.
use Rattle.std.proofs.Common.{◌≡◌, ◌≤◌, ℤ, nat_abs, ◌-ℤ◌, lit<, ap, ap₂, ◌∙◌}
use Rattle.proof_kit.proofs.Range.{kept}
use Rattle.proof_kit.proofs.Size.{abs_sub_le}
use Rattle.units.specs.Units.{half_turn, full_turn}
use Rattle.parameters.specs.declared.Parameters.{Parameters}
use Rattle.parameters.specs.ParameterSet.{set_refusal}
use Rattle.parameters.proofs.AcceptedSet.{accepted_fields}
use Rattle.constants.specs.Derived.{constants_of}
use Rattle.constants.proofs.ConstantsLaws.{sound, sound_as}
use Rattle.billionths.proofs.Calls.{back, back_is, fits_is}
use Rattle.azimuthal_forward.specs.declared.Direction.{Direction}
use Rattle.azimuthal_forward.specs.Steps.{G, direction_of}
use Rattle.azimuthal_forward.specs.Answer.{nearness}
use Rattle.azimuthal_forward.proofs.ForwardLaws.{G-size}
use Rattle.worst_gaps.proofs.trips.nearness.Goals as goal

module _ (p : Parameters) (ok : set_refusal p ≡ 0) (lon : ℤ) (h : nat_abs lon ≤ half_turn) where
  small : nat_abs (lon -ℤ p.lon0) ≤ full_turn
  small = abs_sub_le lon p.lon0 h (accepted_fields p ok).lon0_size

  read : back lon -ℤ back p.lon0 ≡ lon -ℤ p.lon0
  read = ap₂ ◌-ℤ◌ (kept lon h (lit< tt)) (kept p.lon0 (accepted_fields p ok).lon0_size (lit< tt))

pub overflow_sub-at : goal.overflow_sub-at
overflow_sub-at c =
    let p = c.args.projection.now in
    fits_is (read p.set p.set_accepted c.args.at.longitude c.requires.1) (small p.set p.set_accepted c.args.at.longitude c.requires.1) (lit< tt)

pub direction_of-requires : goal.direction_of-requires
direction_of-requires c =
    let p = c.args.projection.now in
    let lon = c.args.at.longitude in
    let constants = sound_as _ _ p.set_accepted p.of_set in
    let turn = small p.set p.set_accepted lon c.requires.1 in
    let is = back_is (read p.set p.set_accepted lon c.requires.1) turn (lit< tt) in
    (constants.small, constants.centre, c.requires.0, rw is turn)

pub returns : goal.returns
unfolding nearness direction_of
returns c =
    let p = c.args.projection.now in
    let φ = c.args.at.latitude in
    let lon = c.args.at.longitude in
    let is = back_is (read p.set p.set_accepted lon c.requires.1) (small p.set p.set_accepted lon c.requires.1) (lit< tt) in
    let Δ = lon -ℤ p.set.lon0 in
    ap (λ (d : Direction). back d.g) (c.direction_of.ensures ∙ ap₂ (λ k x. direction_of k φ x) p.of_set is)
    ∙ kept (G (constants_of p.set) φ Δ) (G-size (constants_of p.set) (sound p.set p.set_accepted).centre φ Δ) (lit< tt)
