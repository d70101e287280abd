-- `chain` meets its contract: from sizes of at most 1,000 no result on the way passes 2^63. Assumes nothing.
use Rattle.proof_kit.proofs.Range.{code, fits, read}
use Rattle.proof_kit.proofs.chain.Statement.{statement}
use Rattle.proof_kit.proofs.chain.Tie as tie

mul-result : tie.Need-overflow_mul-result
mul-result c = fits (search code depth 40 fits 20000) tt

add-result : tie.Need-overflow_add-result
add-result c = fits (search code depth 40 fits 20000) tt

mul-result-2 : tie.Need-overflow_mul-result-2
mul-result-2 c = fits (search code depth 40 fits 20000) tt

sub-result : tie.Need-overflow_sub-result
sub-result c = fits (search code depth 40 fits 20000) tt

add-result-2 : tie.Need-overflow_add-result-2
add-result-2 c = fits (search code depth 40 fits 20000) tt

mul-result-3 : tie.Need-overflow_mul-result-3
mul-result-3 c = fits (search code depth 40 fits 20000) tt

mul-result-4 : tie.Need-overflow_mul-result-4
mul-result-4 c = fits (search code depth 40 fits 20000) tt

add-result-3 : tie.Need-overflow_add-result-3
add-result-3 c = fits (search code depth 40 fits 20000) tt

sub-result-2 : tie.Need-overflow_sub-result-2
sub-result-2 c = fits (search code depth 40 fits 20000) tt

returns : tie.Need-returns
returns c = read (search code depth 40 fits 20000) tt

pub chain_spec : {M : Type 1} → statement M
chain_spec =
    tie.close
    (tie.spec
    mul-result
    add-result
    mul-result-2
    sub-result
    add-result-2
    mul-result-3
    mul-result-4
    add-result-3
    sub-result-2
    returns)
