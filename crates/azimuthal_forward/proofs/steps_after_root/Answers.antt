-- A refused position stays refused. Of an accepted one the product of each call of `coordinate` is small, and its result is the paper's coordinate.
-- Assumes nothing.
use Rattle.std.proofs.Common.{◌≡◌, ℕ, ◌≤◌, ◌<◌, ◌^◌, ℤ, nat_abs, ◌+ℤ◌, ◌*ℤ◌, lit<, ap₂, ◌∙◌}
use Rattle.std.proofs.lemmas.Result.{err_from_is_err_and}
use lib.Signed.{mag}
use Rattle.proof_kit.proofs.Range.{kept, returned}
use Rattle.integers.specs.Near.{near}
use Rattle.parameters.proofs.AcceptedSet.{accepted_fields}
use Rattle.constants.proofs.ConstantsLaws.{sound_as}
use Rattle.billionths.proofs.Calls.{back}
use Rattle.azimuthal_forward.specs.declared.Direction.{Direction}
use Rattle.azimuthal_forward.specs.Answer.{Plane}
use Rattle.azimuthal_forward.specs.InnerStages.{AfterRoot, after_root}
use Rattle.azimuthal_forward.proofs.StageLaws.{after_refused}
use Rattle.azimuthal_forward.proofs.steps_after_root.Goals as goal

pub returns-in_err-to : goal.returns-in_err-to
returns-in_err-to c =
    let p = err_from_is_err_and c.from_residual.result c.from_residual.ensures.1 in
    rw (p.1, p.2, c.in_err-to.was) (after_refused _ _ _ _)

-- a call of `coordinate` with o, r, x and the root h: what it requires holds, and its result is read back as the paper's coordinate
record Called (h : ℕ) (o r x : ℤ) : Type 0 where
  pub requires : (nat_abs (back o) ≤ 1_000_000_000) × (nat_abs (back r) ≤ 1_080_000_000) × (nat_abs (back x) ≤ 2_000_000_000)
      × (100_000_000 ≤ h) × (h ≤ 1_500_000_000)
  pub gives : {z : ℤ} → mag z < 2 ^ 63 → z ≡ back o +ℤ near (back r *ℤ back x) h → back z ≡ o +ℤ near (r *ℤ x) h

called : {d : Direction} {h : ℕ} (o r x : ℤ) → AfterRoot d h → nat_abs o ≤ 1_000_000_000 → nat_abs r ≤ 1_080_000_000 → nat_abs x ≤ 2_000_000_000 →
    Called h o r x
called o r x bounded o-size r-size x_size =
    let o_is = kept o o-size (lit< tt) in
    let r_is = kept r r-size (lit< tt) in
    let x-is = kept x x_size (lit< tt) in
    record {
      requires = rw (o_is, r_is, x-is) (o-size, r-size, x_size, bounded.h_least, bounded.h_most);
      gives = λ ok is. returned ok ∙ is ∙ cc;
    }

pub coordinate-requires : goal.coordinate-requires
coordinate-requires c =
    let on = c.args.projection.now in
    let to = c.in_ok-to.to in
    let bounded : AfterRoot to c.args.h = rw c.in_ok-to.was at c.requires in
    let set = accepted_fields _ on.set_accepted in
    let constants = sound_as _ _ on.set_accepted on.of_set in
    (called on.set.false_easting on.constants.rd to.u bounded set.easting_size constants.rd_between.most bounded.u_size).requires

pub coordinate-requires-2 : goal.coordinate-requires-2
coordinate-requires-2 c =
    let on = c.args.projection.now in
    let to = c.in_ok-to.to in
    let bounded : AfterRoot to c.args.h = rw c.in_ok-to.was at c.requires in
    let set = accepted_fields _ on.set_accepted in
    let constants = sound_as _ _ on.set_accepted on.of_set in
    (called on.set.false_northing on.constants.rn to.w bounded set.northing_size constants.rn_between.most bounded.w_size).requires

pub returns : goal.returns
unfolding after_root
returns c =
    let on = c.args.projection.now in
    let to = c.in_ok-to.to in
    let bounded : AfterRoot to c.args.h = rw c.in_ok-to.was at c.requires in
    let set = accepted_fields _ on.set_accepted in
    let constants = sound_as _ _ on.set_accepted on.of_set in
    rw c.in_ok-to.was
    (ap₂ Plane
    ((called on.set.false_easting on.constants.rd to.u bounded set.easting_size constants.rd_between.most bounded.u_size).gives c.coordinate.type_inv c.coordinate.ensures)
    ((called on.set.false_northing on.constants.rn to.w bounded set.northing_size constants.rn_between.most bounded.w_size).gives c.coordinate-2.type_inv c.coordinate-2.ensures))
