-- A point on the plane is near enough to the false origin for 64 bits. Assumes nothing.
use Rattle.std.proofs.Common.{◌≡◌, Bool, ℤ, nat_abs, ◌≤◌, ◌-ℤ◌, sym, ap₂, ◌∙◌}
use Rattle.std.proofs.lemmas.Result.{err_from_is_err_and}
use mir.Syntax.{w64}
use mir.Val.{SFits}
use mir.Facts.{to_z-of_z}
use Rattle.proof_kit.proofs.Range.{code, fits, read}
use Rattle.units.specs.Units.{plane_limit}
use Rattle.units.specs.Spans.{on_plane}
use Rattle.units.specs.Refusals.{out_of_limits}
use Rattle.units.proofs.Spans.{plane_sizes}
use Rattle.billionths.proofs.Calls.{back}
use Rattle.parameters.proofs.AcceptedSet.{accepted_fields}
use Rattle.azimuthal_forward.proofs.StageLaws.{passed, failed}
use Rattle.azimuthal_inverse.specs.InnerStages.{reduced_of}
use Rattle.azimuthal_inverse.proofs.StageLaws.{point_off_plane, point_on_plane}
use Rattle.azimuthal_inverse.proofs.plane_point.Goals as goal

-- the test of the code, of E and N as they are read back
on : {E N : ℤ} {b v : Bool} → SFits w64 E → SFits w64 N → b ≡ on_plane (back E) (back N) → b ≡ v → on_plane E N ≡ v
on e n is told = sym (ap₂ on_plane (to_z-of_z e) (to_z-of_z n)) ∙ sym is ∙ told

-- a coordinate z on the plane, counted from the false one o as the code counts it
record Counted (z o : ℤ) : Type 0 where
  pub within : SFits w64 (back z -ℤ back o)
  pub is : back (back z -ℤ back o) ≡ z -ℤ o

counted : (z o : ℤ) → nat_abs z ≤ plane_limit → nat_abs o ≤ 1_000_000_000 → Counted z o
counted z o h l =
    record {
      within = fits (search (code, h, l) depth 40 fits 20000) tt;
      is = read (search (code, h, l) depth 40 fits 20000) tt;
    }

pub returns-in_err-unless : goal.returns-in_err-unless
returns-in_err-unless c =
    let e = err_from_is_err_and c.from_residual.result c.from_residual.ensures.1 in
    let f = failed c.is_on_plane.result out_of_limits _ c.in_err-unless.ensures in
    rw (e.1, e.2, f.1) (point_off_plane _ _ _ _ (on c.ranges.easting c.ranges.northing c.is_on_plane.ensures f.0))

pub overflow_sub-easting : goal.overflow_sub-easting
overflow_sub-easting c =
    let plane = plane_sizes _ _ (on c.ranges.easting c.ranges.northing c.is_on_plane.ensures (passed _ 2 c.in_ok-unless.ensures)) in
    (counted c.args.easting c.args.projection.now.set.false_easting plane.0 (accepted_fields _ c.args.projection.now.set_accepted).easting_size).within

pub overflow_sub-northing : goal.overflow_sub-northing
overflow_sub-northing c =
    let plane = plane_sizes _ _ (on c.ranges.easting c.ranges.northing c.is_on_plane.ensures (passed _ 2 c.in_ok-unless.ensures)) in
    (counted c.args.northing c.args.projection.now.set.false_northing plane.1 (accepted_fields _ c.args.projection.now.set_accepted).northing_size).within

pub returns : goal.returns
returns c =
    let on-it = on c.ranges.easting c.ranges.northing c.is_on_plane.ensures (passed _ 2 c.in_ok-unless.ensures) in
    let plane = plane_sizes _ _ on-it in
    let p = c.args.projection.now.set in
    let set = accepted_fields p c.args.projection.now.set_accepted in
    let e = counted c.args.easting p.false_easting plane.0 set.easting_size in
    let n = counted c.args.northing p.false_northing plane.1 set.northing_size in
    c.map_point.ensures
    ∙ ap₂ (reduced_of c.args.projection.now.constants) e.is n.is
    ∙ point_on_plane _ _ _ _ on-it
