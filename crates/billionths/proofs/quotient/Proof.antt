-- `quotient` meets its contract: x·U is within 64 bits, with room for the rounding, and the divisor is cast as it is. Assumes nothing.
use mathlib.Core.Path.{ap₂, ◌∙◌}
use Prim.Native.Nat.{◌*◌, ◌≤◌}
use native.Mathlib.Nat.{le_refl}
use native.Mathlib.Omega.{arith}
use lib.Dec.{lit<}
use lib.IntN.{ℤ, nat_abs, ◌*ℤ◌}
use Rattle.proof_kit.proofs.Laws.{nat_abs_parts}
use Rattle.proof_kit.proofs.Order.{order}
use Rattle.proof_kit.proofs.Range.{code, fits, read, unsigned, kept, returned, as_sign}
use Rattle.proof_kit.proofs.Size.{as_size, abs_mul_le}
use Rattle.integers.specs.Near.{near}
use Rattle.units.specs.Units.{unit, U}
use Rattle.billionths.proofs.quotient.Statement.{statement}
use Rattle.billionths.proofs.quotient.Tie as tie

mul-near : tie.Need-overflow_mul-x
mul-near c = fits (search code depth 40 fits 20000) tt

cast-near : tie.Need-overflow_cast-y
cast-near c = rw (as_sign, as_size) (unsigned (search code depth 40 fits 20000) tt (omega (order, c.requires.1)))

near-requires : tie.Need-near-requires
near-requires c κs =
    let x : ℤ = c.args.x in
    let y : ℤ = c.args.y in
    let most : nat_abs (x *ℤ U) ≤ 2_160_000_000 * unit = abs_mul_le x U c.requires.0 (le_refl unit) in
    rw (kept x c.requires.0 (lit< tt), kept y c.requires.2 (lit< tt), kept (x *ℤ U) most (lit< tt))
    (omega (order, c.requires.1, nat_abs_parts y), omega arith)

returns : tie.Need-returns
returns c =
    let start = c.before in
    returned c.near.type_inv
    ∙ c.near.ensures
    ∙ ap₂ (λ (z y : ℤ). near z (nat_abs y)) (read (search code depth 40 fits 20000) tt) (kept start.args.y start.requires.2 (lit< tt))

pub quotient_spec : {M : Type 1} → statement M
quotient_spec = tie.close (tie.spec mul-near cast-near near-requires returns)
