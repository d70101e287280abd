-- `versine` meets its contract: the squares and their sum are within 64 bits. Assumes nothing.
use Prim.Native.Nat.{◌*◌}
use lib.Dec.{lit<}
use Rattle.proof_kit.proofs.Range.{code, fits, read, read_room}
use Rattle.proof_kit.proofs.Size.{as_size}
use Rattle.units.specs.Units.{unit}
use Rattle.billionths.proofs.Calls.{near_is}
use Rattle.sphere_points.specs.Sphere.{versine_of}
use Rattle.sphere_points.proofs.versine.Statement.{statement}
use Rattle.sphere_points.proofs.versine.Tie as tie

mul-near : tie.Need-overflow_mul-x
mul-near c = fits (search code depth 40 fits 20000) tt

mul-near-2 : tie.Need-overflow_mul-y
mul-near-2 c = fits (search code depth 40 fits 20000) tt

add-near : tie.Need-overflow_add-x
add-near c = fits (search code depth 40 fits 20000) tt

near-requires : tie.Need-near-requires
near-requires c κs = (lit< tt, rw as_size (read_room unit (search code depth 40 fits 20000) tt))

returns : tie.Need-returns
unfolding versine_of
returns c =
    let given = c.before.requires in
    near_is c.near.type_inv (2 * unit) c.near.ensures (read (search (code, given.0, given.1) depth 40 fits 20000) tt)

pub versine_spec : {M : Type 1} → statement M
versine_spec = tie.close (tie.spec mul-near mul-near-2 add-near near-requires returns)
