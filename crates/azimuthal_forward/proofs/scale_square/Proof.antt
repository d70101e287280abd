-- `scale_square` meets its contract: G is not negative and small, so its product is within 64 bits. Assumes nothing.
use Rattle.proof_kit.proofs.Range.{code, fits, read_abs, as_sign, unsigned}
use Rattle.proof_kit.proofs.Size.{as_size}
use Rattle.proof_kit.proofs.Certificate.{nonneg-*, nonneg_num}
use Rattle.azimuthal_forward.proofs.scale_square.Statement.{statement}
use Rattle.azimuthal_forward.proofs.scale_square.Tie as tie

mul-result : tie.Need-overflow_mul-result
mul-result c = fits (search code depth 40 fits 20000) tt

cast-result : tie.Need-overflow_cast-result
cast-result c =
    rw (as_sign, as_size) (unsigned (search (code, c.requires.1) depth 40 fits 20000) tt (nonneg-* c.requires.0 (nonneg_num 500_000_000)))

returns : tie.Need-returns
returns c = rw as_size (read_abs (search (code, c.requires.1) depth 40 fits 20000) tt)

pub scale_square_spec : {M : Type 1} → statement M
scale_square_spec = tie.close (tie.spec mul-result cast-result returns)
