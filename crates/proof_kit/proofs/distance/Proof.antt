-- `distance` meets its contract: the difference of two numbers of at most 10^9 is in the range that `magnitude` requires. Assumes nothing.
use mathlib.Core.Path.{◌∙◌, ap}
use lib.IntN.{pos}
use Rattle.proof_kit.proofs.Range.{code, held, fits, read, read_abs, read_size}
use Rattle.proof_kit.proofs.Size.{as_size}
use Rattle.proof_kit.proofs.distance.Statement.{statement}
use Rattle.proof_kit.proofs.distance.Tie as tie

sub-magnitude : tie.Need-overflow_sub-a
sub-magnitude c = fits (search code depth 40 fits 20000) tt

magnitude-requires : tie.Need-magnitude-requires
magnitude-requires c κs = rw as_size (read_size (search code depth 40 fits 20000) tt)

returns : tie.Need-returns
returns c = read (search held) tt ∙ (rw as_size at c.magnitude.ensures) ∙ ap pos (read_abs (search code depth 40 fits 20000) tt)

pub distance_spec : {M : Type 1} → statement M
distance_spec = tie.close (tie.spec sub-magnitude magnitude-requires returns)
