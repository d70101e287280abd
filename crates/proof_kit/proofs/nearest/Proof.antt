-- `nearest` meets its contract: with x and d positive, the quotients toward zero are those of the natural numbers. Assumes nothing.
use mathlib.Core.Path.{◌≡◌, refl, ◌∙◌}
use Prim.Native.Nat.{◌+◌, ◌/◌}
use lib.Dec.{lit<}
use lib.IntN.{ℤ, pos, negsuc, ◌+ℤ◌, nat_abs}
use lib.Signed.{◌≤ℤ◌, quot_z}
use Rattle.proof_kit.proofs.Range.{code, fits, read, divisor, as_word}
use Rattle.proof_kit.proofs.nearest.Statement.{statement}
use Rattle.proof_kit.proofs.nearest.Tie as tie

div-result : tie.Need-nonzero_div-result
div-result c = (lit< tt, fits (search code depth 40 fits 20000) tt)

add-result : tie.Need-overflow_add-result
add-result c = fits (search code depth 40 fits 20000) tt

div-result-2 : tie.Need-nonzero_div-result-2
div-result-2 c =
    (rw as_word (divisor (search code depth 40 fits 20000) tt c.requires.2), fits (search code depth 40 fits 20000) tt)

of-naturals : (x d : ℤ) → pos 0 ≤ℤ x → pos 1 ≤ℤ d → quot_z (x +ℤ quot_z d (pos 2)) d ≡ pos ((nat_abs x + nat_abs d / 2) / nat_abs d)
of-naturals (pos a) (pos b) h k = refl
of-naturals (pos a) (negsuc b) h k = absurd k.le
of-naturals (negsuc a) d h k = absurd h.le

returns : tie.Need-returns
returns c = read (search code depth 40 fits 20000) tt ∙ of-naturals c.args.x c.args.d c.requires.0 c.requires.2

pub nearest_spec : {M : Type 1} → statement M
nearest_spec = tie.close (tie.spec div-result add-result div-result-2 returns)
