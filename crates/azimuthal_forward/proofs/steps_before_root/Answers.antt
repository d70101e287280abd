-- Each return follows from the tests that led there. Assumes nothing.
use Rattle.std.proofs.Common.{◌≡◌, Bool, true, ℤ, nat_abs, ◌≤◌, pos, ◌-ℤ◌, lit<, sym, ap, ap₂, ◌∙◌}
use Rattle.std.proofs.lemmas.Result.{err_from_is_err_and}
use mir.Syntax.{w64}
use mir.Val.{SFits}
use mir.Facts.{to_z-of_z}
use lib.Signed.{le_z}
use Rattle.proof_kit.proofs.Range.{kept}
use Rattle.proof_kit.proofs.Size.{abs_sub_le}
use Rattle.units.specs.Units.{full_turn}
use Rattle.units.specs.Refusals.{unless, out_of_limits}
use Rattle.latitudes.specs.declared.Geodetic.{Geodetic}
use Rattle.parameters.specs.declared.Parameters.{Parameters}
use Rattle.parameters.specs.ParameterSet.{set_refusal}
use Rattle.parameters.proofs.AcceptedSet.{accepted_fields}
use Rattle.constants.specs.declared.Constants.{Constants}
use Rattle.constants.specs.Derived.{constants_of}
use Rattle.constants.proofs.ConstantsLaws.{sound, sound_as}
use Rattle.billionths.proofs.Calls.{back, back_is, fits_is}
use Rattle.azimuthal_forward.specs.declared.Direction.{Direction}
use Rattle.azimuthal_forward.specs.Steps.{G, near_enough, direction_of}
use Rattle.azimuthal_forward.specs.Answer.{on_globe, nearness}
use Rattle.azimuthal_forward.proofs.ForwardLaws.{globe_sizes, G-size}
use Rattle.azimuthal_forward.proofs.StageLaws.{passed, before_too_far, before_accepted}
use Rattle.azimuthal_forward.proofs.steps_before_root.Goals as goal

module _ (p : Parameters) (lat : Geodetic) (lon : ℤ) (ok : set_refusal p ≡ 0) where
  -- the test that the position is on the globe, which was passed
  on : {b : Bool} → SFits w64 lon → b ≡ on_globe lat (back lon) → 0 ≡ unless b out_of_limits 0 → on_globe lat lon ≡ true
  on {b} fits is told = ap (on_globe lat) (sym (to_z-of_z fits)) ∙ sym is ∙ passed b 2 told

  -- there the longitude difference is at most a turn
  small : on_globe lat lon ≡ true → nat_abs (lon -ℤ p.lon0) ≤ full_turn
  small e = abs_sub_le lon p.lon0 (globe_sizes lat lon e).1 (accepted_fields p ok).lon0_size

  read : SFits w64 lon → back lon -ℤ back p.lon0 ≡ lon -ℤ p.lon0
  read fits = ap₂ ◌-ℤ◌ (to_z-of_z fits) (kept p.lon0 (accepted_fields p ok).lon0_size (lit< tt))

  -- the direction that the call gives, and its nearness, as it is tested
  direction : {k : Constants} {d : Direction} → SFits w64 lon → on_globe lat lon ≡ true → k ≡ constants_of p →
      d ≡ direction_of k lat (back (back lon -ℤ back p.lon0)) → d ≡ direction_of (constants_of p) lat (lon -ℤ p.lon0)
  direction fits e own is = is ∙ ap₂ (λ k x. direction_of k lat x) own (back_is (read fits) (small e) (lit< tt))

  tested : {d : Direction} → d ≡ direction_of (constants_of p) lat (lon -ℤ p.lon0) →
      le_z (pos 20_000_000) (back d.g) ≡ near_enough (nearness p lat lon)
  unfolding near_enough nearness direction_of
  tested {d} is =
      let g = G (constants_of p) lat (lon -ℤ p.lon0) in
      let size : nat_abs g ≤ 3_000_000_000 = G-size (constants_of p) (sound p ok).centre lat (lon -ℤ p.lon0) in
      ap (λ (d : Direction). le_z (pos 20_000_000) (back d.g)) is ∙ ap (le_z (pos 20_000_000)) (kept g size (lit< tt))

pub overflow_sub-lon : goal.overflow_sub-lon
overflow_sub-lon c =
    let p = c.args.projection.now.set in
    let ok = c.args.projection.now.set_accepted in
    let globe = on p c.args.lat c.args.lon ok c.ranges.lon c.is_on_globe.ensures c.in_ok-unless.ensures in
    fits_is (read p c.args.lat c.args.lon ok c.ranges.lon) (small p c.args.lat c.args.lon ok globe) (lit< tt)

pub direction_of-direction-requires : goal.direction_of-direction-requires
direction_of-direction-requires c =
    let p = c.args.projection.now.set in
    let ok = c.args.projection.now.set_accepted in
    let constants = sound_as _ _ ok c.args.projection.now.of_set in
    let globe = on p c.args.lat c.args.lon ok c.ranges.lon c.is_on_globe.ensures c.in_ok-unless.ensures in
    let turn = small p c.args.lat c.args.lon ok globe in
    let is = back_is (read p c.args.lat c.args.lon ok c.ranges.lon) turn (lit< tt) in
    (constants.small, constants.centre, (globe_sizes c.args.lat c.args.lon globe).0, rw is turn)

pub returns-in_err-unless-2 : goal.returns-in_err-unless-2
returns-in_err-unless-2 c =
    let p = c.args.projection.now.set in
    let ok = c.args.projection.now.set_accepted in
    let globe = on p c.args.lat c.args.lon ok c.ranges.lon c.is_on_globe.ensures c.in_ok-unless.ensures in
    let is = direction p c.args.lat c.args.lon ok c.ranges.lon globe c.args.projection.now.of_set c.direction_of-direction.ensures in
    let e = err_from_is_err_and c.from_residual-in_err-unless-2.result c.from_residual-in_err-unless-2.ensures.1 in
    rw (e.1, e.2)
    (before_too_far p c.args.lat c.args.lon _ globe (rw (← tested p c.args.lat c.args.lon ok is) c.in_err-unless-2.ensures))

pub returns : goal.returns
returns c =
    let p = c.args.projection.now.set in
    let ok = c.args.projection.now.set_accepted in
    let globe = on p c.args.lat c.args.lon ok c.ranges.lon c.is_on_globe.ensures c.in_ok-unless.ensures in
    let is = direction p c.args.lat c.args.lon ok c.ranges.lon globe c.args.projection.now.of_set c.direction_of-direction.ensures in
    rw is (before_accepted p c.args.lat c.args.lon globe (sym (tested p c.args.lat c.args.lon ok is) ∙ passed _ 3 c.in_ok-unless-2.ensures))
