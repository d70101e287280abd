-- lon0 and Δ are each at most 180° in size. Assumes nothing.
use Rattle.std.proofs.Common.{ℤ, nat_abs, ◌≤◌, ◌+ℤ◌, ap, ap₂, ◌∙◌}
use Rattle.proof_kit.proofs.Range.{code, fits, read, read_size, returned}
use Rattle.proof_kit.proofs.Size.{as_size}
use Rattle.units.specs.Units.{half_turn}
use Rattle.units.specs.Spans.{wrapped}
use Rattle.parameters.proofs.AcceptedSet.{accepted_fields}
use Rattle.constants.proofs.ConstantsLaws.{sound_as}
use Rattle.geodetic_search.specs.Reverse.{geodetic}
use Rattle.sphere_points.proofs.AngleLaws.{latitude_size, longitude_size}
use Rattle.azimuthal_inverse.specs.Answer.{Position}
use Rattle.azimuthal_inverse.proofs.position.Goals as goal

pub to_geodetic-requires : goal.to_geodetic-requires
to_geodetic-requires c =
    let on = c.args.projection.now in
    ((sound_as _ _ on.set_accepted on.of_set).small, rw c.latitude_of-beta.ensures (latitude_size _))

pub overflow_add-projection : goal.overflow_add-projection
overflow_add-projection c =
    let Δ : nat_abs c.longitude_of-delta.result ≤ half_turn = rw c.longitude_of-delta.ensures (longitude_size _) in
    fits (search (code, (accepted_fields _ c.args.projection.now.set_accepted).lon0_size, Δ) depth 40 fits 20000) tt

pub wrap-requires : goal.wrap-requires
wrap-requires c =
    let Δ : nat_abs c.longitude_of-delta.result ≤ half_turn = rw c.longitude_of-delta.ensures (longitude_size _) in
    rw as_size (read_size (search (code, (accepted_fields _ c.args.projection.now.set_accepted).lon0_size, Δ) depth 40 fits 20000) tt)

pub returns : goal.returns
returns c =
    let Δ : nat_abs c.longitude_of-delta.result ≤ half_turn = rw c.longitude_of-delta.ensures (longitude_size _) in
    let on = c.args.projection.now in
    ap₂ Position (c.to_geodetic.ensures ∙ ap (geodetic on.constants.series) c.latitude_of-beta.ensures)
    (returned c.wrap.type_inv
    ∙ c.wrap.ensures
    ∙ ap wrapped (read (search (code, (accepted_fields _ on.set_accepted).lon0_size, Δ) depth 40 fits 20000) tt
    ∙ ap (λ (x : ℤ). on.set.lon0 +ℤ x) c.longitude_of-delta.ensures))
