-- `unit_root` meets its contract: x·U is not negative and within 64 bits, and its root is smaller still. Assumes nothing.
use borrow.Author.Rules.{rules}
use mathlib.Core.Path.{◌≡◌, ap, ◌∙◌}
use native.Mathlib.Omega.{arith}
use Prim.Native.Nat.{◌≤◌}
use lib.IntN.{ℤ, pos, nat_abs, ◌*ℤ◌}
use Rattle.proof_kit.proofs.Certificate.{nonneg}
use Rattle.proof_kit.proofs.Range.{code, fits, read, read_abs, unsigned, as_sign}
use Rattle.proof_kit.proofs.Size.{as_size, abs_mul}
use Rattle.integers.specs.Root.{root}
use Rattle.integers.proofs.Squares.{root_most}
use Rattle.units.specs.Units.{U}
use Rattle.billionths.proofs.unit_root.Statement.{statement}
use Rattle.billionths.proofs.unit_root.Tie as tie

mul-root : tie.Need-overflow_mul-x
mul-root c = fits (search code depth 40 fits 20000) tt

cast-root : tie.Need-overflow_cast-x
cast-root c = rw (as_sign, as_size) (unsigned (search code depth 40 fits 20000) tt (search nonneg))

root-requires : tie.Need-root-requires
root-requires c κs = search rules

root_is : (c : tie.After-root) → c.root.result ≡ root (nat_abs (c.before.args.x *ℤ U))
root_is c = c.root.ensures ∙ ap root (rw as_size (read_abs (search code depth 40 fits 20000) tt))

root-size : (c : tie.After-root) → c.root.result ≤ 2_000_000_000
root-size c =
    let x : ℤ = c.before.args.x in
    rw (root_is c) (root_most (nat_abs (x *ℤ U)) 2_000_000_000 (rw (abs_mul x U) (omega arith)))

cast-result : tie.Need-overflow_cast-result
cast-result c = record { sfits = omega (arith, root-size c) }

returns : tie.Need-returns
returns c = read (search (code, root-size c) depth 40 fits 20000) tt ∙ ap pos (root_is c)

pub unit_root_spec : {M : Type 1} → statement M
unit_root_spec = tie.close (tie.spec mul-root cast-root root-requires cast-result returns)
