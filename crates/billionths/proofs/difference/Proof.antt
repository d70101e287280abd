-- `difference` meets its contract: the products are within 64 bits. Assumes nothing.
use lib.Dec.{lit<}
use Rattle.proof_kit.proofs.Range.{code, fits, read, read_room}
use Rattle.proof_kit.proofs.Size.{as_size}
use Rattle.units.specs.Units.{unit}
use Rattle.billionths.proofs.Calls.{near_is}
use Rattle.billionths.proofs.difference.Statement.{statement}
use Rattle.billionths.proofs.difference.Tie as tie

mul-near : tie.Need-overflow_mul-a
mul-near c = fits (search code depth 40 fits 20000) tt

mul-near-2 : tie.Need-overflow_mul-c
mul-near-2 c = fits (search code depth 40 fits 20000) tt

sub-near : tie.Need-overflow_sub-a
sub-near c = fits (search code depth 40 fits 20000) tt

near-requires : tie.Need-near-requires
near-requires c κs = (lit< tt, rw as_size (read_room 500_000_000 (search code depth 40 fits 20000) tt))

returns : tie.Need-returns
returns c =
    let given = c.before.requires in
    near_is c.near.type_inv unit c.near.ensures (read (search (code, given.0, given.1, given.2, given.3) depth 40 fits 20000) tt)

pub difference_spec : {M : Type 1} → statement M
difference_spec = tie.close (tie.spec mul-near mul-near-2 sub-near near-requires returns)
