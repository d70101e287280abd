-- `scaled` meets its contract: the product of two numbers that are not negative is cast back as it is. Assumes nothing.
use mathlib.Core.Path.{ap, ◌∙◌}
use lib.IntN.{pos}
use borrow.Author.Rules.{rules}
use Rattle.proof_kit.proofs.Certificate.{nonneg}
use Rattle.proof_kit.proofs.Order.{pos_abs}
use Rattle.proof_kit.proofs.Range.{code, fits, unsigned, read_abs, as_sign}
use Rattle.proof_kit.proofs.Size.{as_size}
use Rattle.proof_kit.proofs.scaled.Statement.{statement}
use Rattle.proof_kit.proofs.scaled.Tie as tie

cast-result : tie.Need-overflow_cast-result
cast-result c = search rules

mul-result : tie.Need-overflow_mul-result
mul-result c = fits (search code depth 40 fits 20000) tt

cast-result-2 : tie.Need-overflow_cast-result-2
cast-result-2 c = rw (as_sign, as_size) (unsigned (search code depth 40 fits 20000) tt (search nonneg))

returns : tie.Need-returns
returns c = rw as_size (ap pos (read_abs (search code depth 40 fits 20000) tt) ∙ pos_abs (search nonneg))

pub scaled_spec : {M : Type 1} → statement M
scaled_spec = tie.close (tie.spec cast-result mul-result cast-result-2 returns)
