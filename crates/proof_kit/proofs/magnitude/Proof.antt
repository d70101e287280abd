-- `magnitude` meets its contract: below 0 the size is the opposite, and elsewhere the number itself. Assumes nothing.
use mathlib.Core.Path.{sym, ◌∙◌}
use Rattle.proof_kit.proofs.Order.{<ℤ-≤ℤ, neg_abs, pos_abs}
use Rattle.proof_kit.proofs.Range.{code, fits, read, as_lt, lt_taken, lt_left}
use Rattle.proof_kit.proofs.magnitude.Statement.{statement}
use Rattle.proof_kit.proofs.magnitude.Tie as tie

sub-result : tie.Need-overflow_sub-result
sub-result c = fits (search code depth 40 fits 20000) tt

returns : tie.Need-returns-then-x-lt0
returns c =
    let below = lt_taken (rw as_lt at c.if-x-lt0.true) (search code depth 40 fits 20000) (search code depth 40 fits 20000) tt in
    read (search code depth 40 fits 20000) tt ∙ sym (neg_abs (<ℤ-≤ℤ below))

returns-2 : tie.Need-returns-else-x-lt0
returns-2 c =
    let above = lt_left (rw as_lt at c.if-x-lt0.false) (search code depth 40 fits 20000) (search code depth 40 fits 20000) tt in
    read (search code depth 40 fits 20000) tt ∙ sym (pos_abs above)

pub magnitude_spec : {M : Type 1} → statement M
magnitude_spec = tie.close (tie.spec sub-result returns returns-2)
