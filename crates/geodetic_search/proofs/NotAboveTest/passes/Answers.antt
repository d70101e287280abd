-- n counts a latitude from the South Pole, so it is within ±90°, and its β is the one that is compared. Both β are within ±90°. Assumes nothing.
use Rattle.std.proofs.Common.{◌≡◌, ◌≤◌, ap, ap₂, ◌∙◌}
use lib.IntN.{ℤ, nat_abs}
use lib.Signed.{le_z}
use mir.Syntax.{w64}
use mir.Val.{to_z, of_z}
use Rattle.units.specs.Units.{right_angle}
use Rattle.latitudes.specs.declared.Authalic.{Authalic}
use Rattle.latitudes.specs.Latitude.{beta}
use Rattle.latitudes.proofs.Reading.{latitude_read}
use Rattle.latitudes.proofs.AuthalicLaws.{beta_size}
use Rattle.geodetic_search.specs.Reverse.{from_south_pole, not_above}
use Rattle.geodetic_search.proofs.GeodeticLaws.{from_south_pole_size, counted}
use Rattle.geodetic_search.proofs.NotAboveTest.passes.Goals as goal

pub returns : goal.returns
unfolding not_above
returns c =
    let it = c.args.self.now in
    let φ = from_south_pole c.args.n in
    let found : c.to_authalic.result ≡ beta it.series φ =
    c.to_authalic.ensures ∙ ap (λ (x : ℤ). beta it.series (record { 0 = x })) (counted c.args.n c.requires) in
    let size : nat_abs (beta it.series φ).0 ≤ right_angle = beta_size it.series it.small φ.0 (from_south_pole_size c.args.n c.requires) in
    ap₂ le_z
    (ap (λ (b : Authalic). to_z w64 (of_z w64 b.0)) found ∙ latitude_read (beta it.series φ).0 size)
    (latitude_read it.beta.0 it.beta_size)
