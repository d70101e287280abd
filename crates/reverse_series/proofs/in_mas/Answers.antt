-- The sum of three small terms fits, and a radian is less than U/4, so the product is smaller than the sum.
use Rattle.std.proofs.Common.{◌≡◌, ◌≤◌, ap, ◌∙◌}
use native.Mathlib.Nat.{le_refl, le_trans}
use lib.Dec.{lit<, lit≤}
use lib.IntN.{ℤ, pos, nat_abs, ◌+ℤ◌, ◌*ℤ◌}
use Rattle.proof_kit.proofs.Range.{code, read, returned}
use Rattle.proof_kit.proofs.Size.{abs_mul_le, abs_add_le}
use Rattle.integers.specs.Near.{near, nearest}
use Rattle.integers.proofs.Rounding.{near_bound}
use Rattle.units.specs.Units.{unit}
use Rattle.constants.specs.Derived.{to_mas}
use Rattle.billionths.proofs.Calls.{back}
use Rattle.reverse_series.proofs.in_mas.Goals as goal

small : (a b c : ℤ) → nat_abs a ≤ 11_000_000 → nat_abs b ≤ 11_000_000 → nat_abs c ≤ 11_000_000 → nat_abs (to_mas (a +ℤ b +ℤ c)) ≤ 10_000_000
unfolding to_mas nearest
small a b c f g h =
    le_trans (near_bound ((a +ℤ b +ℤ c) *ℤ pos 206_264_806) unit (lit< tt)
    (abs_mul_le (a +ℤ b +ℤ c) (pos 206_264_806) (abs_add_le (a +ℤ b) c (abs_add_le a b f g) h) (le_refl 206_264_806))) (lit≤ tt)

pub returns : goal.returns
unfolding to_mas
returns c =
    let a = c.args in
    let product : back c.product.result ≡ to_mas (a.a +ℤ a.b +ℤ a.c) =
    returned c.product.type_inv
    ∙ c.product.ensures
    ∙ ap (λ (z : ℤ). near z unit) (read (search (code, c.requires.0, c.requires.1, c.requires.2) depth 40 fits 20000) tt) in
    (product, rw product (small a.a a.b a.c c.requires.0 c.requires.1 c.requires.2))
