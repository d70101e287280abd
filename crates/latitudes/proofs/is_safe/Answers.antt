-- The numbers are small enough that the product and the difference are within 64 bits, so they are those of the definition.
use Rattle.std.proofs.Common.{ℕ, ◌≡◌, ◌+◌, ap, ◌∙◌}
use lib.Dec.{ltb}
use lib.IntN.{nat_abs, ◌-ℤ◌, ◌*ℤ◌}
use Rattle.proof_kit.proofs.Range.{code, read_abs}
use Rattle.proof_kit.proofs.Size.{as_size}
use Rattle.units.specs.Units.{U}
use Rattle.latitudes.specs.InnerRounding.{half_unit, safe}
use Rattle.latitudes.proofs.is_safe.Goals as goal

pub returns : goal.returns
unfolding safe
returns c =
    let distance : c.magnitude.result ≡ nat_abs (c.args.about -ℤ c.args.y *ℤ U) =
    (rw as_size at c.magnitude.ensures) ∙ read_abs (search (code, c.requires.0, c.requires.1) depth 40 fits 20000) tt in
    ap (λ (n : ℕ). ltb (n + c.args.error) half_unit) distance
