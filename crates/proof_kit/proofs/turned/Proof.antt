-- `turned` meets its contract: the sizes that it requires bound each product, and their difference, below 2^63. Assumes nothing.
use Rattle.proof_kit.proofs.Range.{code, fits, read}
use Rattle.proof_kit.proofs.turned.Statement.{statement}
use Rattle.proof_kit.proofs.turned.Tie as tie

mul-result : tie.Need-overflow_mul-result
mul-result c = fits (search code depth 40 fits 20000) tt

mul-result-2 : tie.Need-overflow_mul-result-2
mul-result-2 c = fits (search code depth 40 fits 20000) tt

sub-result : tie.Need-overflow_sub-result
sub-result c = fits (search code depth 40 fits 20000) tt

returns : tie.Need-returns
returns c = read (search code depth 40 fits 20000) tt

pub turned_spec : {M : Type 1} → statement M
turned_spec = tie.close (tie.spec mul-result mul-result-2 sub-result returns)
