-- What a caller knows of a number that it stores or gets from a call: read back from its bits, it is the paper's number.
-- Assumes nothing.
use mathlib.Core.Path.{◌≡◌, ap, ap₂, ◌∙◌}
use Prim.Native.Nat.{ℕ, ◌<◌, ◌≤◌, ◌^◌}
use native.Mathlib.Nat.{le_trans, lt_of_le_of_lt}
use lib.Dec.{lit<}
use lib.IntN.{ℤ, pos, nat_abs, ◌*ℤ◌}
use lib.Signed.{mag}
use mir.Syntax.{w64}
use mir.Val.{SFits, to_z, of_z}
use mir.Facts.{to_z-of_z}
use Rattle.proof_kit.proofs.Range.{small_fits, kept, returned}
use Rattle.integers.specs.Near.{near}
use Rattle.integers.specs.Root.{root}
use Rattle.units.specs.Units.{unit, U}

-- an i64, read back
abbrev pub back : ℤ → ℤ
back z = to_z w64 (of_z w64 z)

-- one that is x, a small number
module _ {z x : ℤ} {n : ℕ} (e : z ≡ x) (small : nat_abs x ≤ n) (room : n < 2 ^ 63) where
  pub fits_is : SFits w64 z
  fits_is = rw e (small_fits x small room)

  pub back_is : back z ≡ x
  back_is = to_z-of_z fits_is ∙ e

-- the result r of a call, whose arguments were read back as x and y
module _ {r : ℤ} (ok : mag r < 2 ^ 63) where
  pub near_is : (d : ℕ) {z x : ℤ} → r ≡ near z d → z ≡ x → back r ≡ near x d
  near_is d e f = returned ok ∙ e ∙ ap (λ (w : ℤ). near w d) f

  pub product_is : {v w x y : ℤ} → r ≡ near (v *ℤ w) unit → v ≡ x → w ≡ y → back r ≡ near (x *ℤ y) unit
  product_is e f g = near_is unit e (ap₂ ◌*ℤ◌ f g)

  pub quotient_is : {v w x y : ℤ} → r ≡ near (v *ℤ U) (nat_abs w) → v ≡ x → w ≡ y → back r ≡ near (x *ℤ U) (nat_abs y)
  quotient_is e f g = returned ok ∙ e ∙ ap₂ (λ (v w : ℤ). near (v *ℤ U) (nat_abs w)) f g

  pub unit_root_is : {v x : ℤ} → r ≡ pos (root (nat_abs (v *ℤ U))) → v ≡ x → back r ≡ pos (root (nat_abs (x *ℤ U)))
  unit_root_is e f = returned ok ∙ e ∙ ap (λ (v : ℤ). pos (root (nat_abs (v *ℤ U)))) f

-- r is read back as x, and is as small as products and sums require
pub record Holds (r x : ℤ) : Type 0 where
  pub is : back r ≡ x
  pub small : nat_abs (back r) ≤ 2_000_000_000

pub holds : {r x : ℤ} {n : ℕ} → back r ≡ x → nat_abs x ≤ n → n ≤ 2_000_000_000 → Holds r x
holds e h l = record { is = e; small = rw e (le_trans h l) }

-- a number that the function was given
pub given_holds : {x : ℤ} {n : ℕ} → nat_abs x ≤ n → n ≤ 2_000_000_000 → Holds x x
given_holds h l = holds (kept _ h (lt_of_le_of_lt l (lit< tt))) h l
