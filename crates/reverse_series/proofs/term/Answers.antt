-- The product is at most 10,000,000, and the rounded quotient is no larger than the product and the half that `near` adds.
use Rattle.std.proofs.Common.{◌≡◌, ◌≤◌, arith}
use lib.Dec.{lit<}
use lib.IntN.{nat_abs, ◌*ℤ◌}
use mathlib.Core.Path.{ap₂}
use mir.Facts.{to_z-of_z}
use Rattle.integers.specs.Near.{near}
use Rattle.integers.proofs.Rounding.{near_size, nearest_le}
use Rattle.billionths.proofs.Calls.{back, back_is, near_is}
use Rattle.reverse_series.proofs.term.Goals as goal

pub returns : goal.returns
returns c =
    let exact = c.args.n *ℤ c.args.x in
    let product : back c.args.n *ℤ back c.args.x ≡ exact = ap₂ ◌*ℤ◌ (to_z-of_z c.ranges.n) (to_z-of_z c.ranges.x) in
    let small : nat_abs (near exact c.args.d) ≤ 11_000_000 = omega (arith, near_size exact c.args.d, nearest_le (nat_abs exact) c.args.d c.requires.1) in
    let rounded = near_is c.near.type_inv c.args.d c.near.ensures (back_is product c.requires.0 (lit< tt)) in
    (rounded, rw rounded small)
