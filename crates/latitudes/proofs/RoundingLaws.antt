-- Laws of sums of three terms by sines that are only nearly right. Such a sum differs from the definition's by what the sines differ by, each
-- with its coefficient. Where that and its distance from y·U are together less than half of U, the definition's rounds to y, because no other
-- whole number is within half of its U-th part. Assumes nothing.
use mathlib.Core.Path.{◌≡◌, sym, ◌∙◌}
use mathlib.Core.Bool.{Bool, true}
use mathlib.Core.List.{[], ◌∷◌}
use Prim.Native.Nat.{ℕ, ◌*◌, ◌≤◌}
use native.Mathlib.Nat.{le_refl}
use native.Mathlib.Omega.{arith}
use borrow.Author.Tests.{ltb-true}
use lib.IntN.{ℤ, nat_abs, ◌+ℤ◌, ◌-ℤ◌, ◌*ℤ◌}
use Rattle.proof_kit.proofs.Ring.{ring, quote}
use Rattle.proof_kit.proofs.Size.{abs_by, abs_sub_sym, abs_via, sizes}
use Rattle.integers.specs.Near.{near}
use Rattle.integers.proofs.Rounding.{near_only}
use Rattle.units.specs.Units.{unit, U}
use Rattle.latitudes.specs.InnerSizes.{SmallTerms}
use Rattle.latitudes.specs.InnerRounding.{weighted, terms_error, safe}

-- x, y and z for the three sines
pub terms_apart :
    (k2 k4 k6 x x' y y' z z' : ℤ) {a b c : ℕ} →
    nat_abs (x -ℤ x') ≤ a →
    nat_abs (y -ℤ y') ≤ b →
    nat_abs (z -ℤ z') ≤ c →
    nat_abs ((k2 *ℤ x -ℤ k4 *ℤ y +ℤ k6 *ℤ z) -ℤ (k2 *ℤ x' -ℤ k4 *ℤ y' +ℤ k6 *ℤ z')) ≤ weighted a b c k2 k4 k6
terms_apart k2 k4 k6 x x' y y' z z' hx hy hz =
    let two = le_refl (nat_abs k2) in
    let four = le_refl (nat_abs k4) in
    let six = le_refl (nat_abs k6) in
    abs_by (split k2 x x' k4 y y' k6 z z') (search sizes depth 40 fits 20000) (omega arith)
  where
    split :
        (a x x' b y y' c z z' : ℤ) →
        (a *ℤ x -ℤ b *ℤ y +ℤ c *ℤ z) -ℤ (a *ℤ x' -ℤ b *ℤ y' +ℤ c *ℤ z') ≡ a *ℤ (x -ℤ x') -ℤ b *ℤ (y -ℤ y') +ℤ c *ℤ (z -ℤ z')
    split a x x' b y y' c z z' = ring (a ∷ x ∷ x' ∷ b ∷ y ∷ y' ∷ c ∷ z ∷ z' ∷ []) (search quote depth 40 fits 20000) tt

pub terms_error_size : {k2 k4 k6 : ℤ} → SmallTerms k2 k4 k6 → terms_error k2 k4 k6 ≤ 2 * unit
terms_error_size small = omega (arith, small.k2_size, small.k4_size, small.k6_size)

pub safe_rounds : (about y : ℤ) (error : ℕ) → safe about y error ≡ true → (n : ℤ) → nat_abs (n -ℤ about) ≤ error → near n unit ≡ y
unfolding safe
safe_rounds about y error e n h =
    near_only n y unit (omega (arith, ltb-true, abs_sub_sym (y *ℤ U) n, abs_via n about (y *ℤ U)))

-- as a caller knows it: r is what the test told of `about`, which was read back as x, and of `error`, which is e
pub safe_told :
    {r : Bool} {about : ℤ} (x y : ℤ) {error e : ℕ} →
    r ≡ safe about y error →
    r ≡ true →
    about ≡ x →
    error ≡ e →
    (n : ℤ) →
    nat_abs (x -ℤ n) ≤ e →
    near n unit ≡ y
safe_told {about = about} x y {error = error} told passed f g n h =
    safe_rounds about y error (sym told ∙ passed) n (rw (f, g, abs_sub_sym n) h)
