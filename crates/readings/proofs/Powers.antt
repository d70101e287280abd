-- Accepted powers. A power that is neither below 0 nor above 1,000 mW is at most 1,000 mW in size, and has no minus sign or is −0.0; so its
-- whole number of nanowatts is not below 0, and is at most that of 1,000 mW. Assumes nothing.
use mathlib.Core.Path.{◌≡◌, refl, sym}
use mathlib.Core.Bool.{Bool, true, false, not, ◌||◌, false≢true}
use mathlib.Core.List.{[], ◌∷◌}
use Prim.Native.Nat.{◌+◌, ◌*◌, ◌^◌}
use native.Mathlib.Omega.{arith}
use lib.Dec.{lit≤}
use lib.IntN.{pos, nat_abs}
use lib.Ieee.{Float, nan, inf, fin, up, down, lt, of_bits, binary64}
use lib.Ieee.Fits.{down_pos}
use mir.Facts.{to_z-of_z}
use borrow.Author.Tests.{ltb-false}
use Rattle.integers.proofs.Rounding.{nearest_zero}
use Rattle.units.specs.Units.{milliwatt}
use Rattle.units.specs.Refusals.{power_not_finite, power_out_of_limits}
use Rattle.units.proofs.Chains.{link_passed, Gives, chain}
use Rattle.floats.specs.Conversion.{whole_of}
use Rattle.floats.specs.Limits.{is_finite, within_limit, plane_limit_float}
use Rattle.floats.proofs.Bounds.{AtMost, at_most_within, within_more}
use Rattle.floats.proofs.Coordinates.{whole_at_most}
use Rattle.readings.specs.Readings.{least_power, greatest_power, beyond_power, power_refusal, nanowatts_of}
use Rattle.readings.specs.Theorems.{PowerRounded, PowerBounded, PowerNumbers}

-- the limits as the code holds them
pub beyond_by_bits : (x : Float) → beyond_power x ≡ (lt x (of_bits binary64 0) || lt (of_bits binary64 4_652_007_308_841_189_376) x)
unfolding beyond_power of_bits
beyond_by_bits x = refl

-- ---- what an accepted power is

-- the tests that it has passed
pub record Accepted (x : Float) : Type 0 where
  pub finite : is_finite x ≡ true
  pub not_below : lt x least_power ≡ false
  pub not_above : lt greatest_power x ≡ false

neither : (a b : Bool) → not (a || b) ≡ true → (a ≡ false) × (b ≡ false)
neither false false h = (refl, refl)
neither false true h = (refl, sym h)
neither true b h = absurd (false≢true h)

pub accepted : (x : Float) → power_refusal x ≡ 0 → Accepted x
unfolding power_refusal beyond_power
accepted x h =
    let outer = link_passed (is_finite x) 40 h in
    let inner = link_passed (not (lt x least_power || lt greatest_power x)) 41 outer.1 in
    let tests = neither (lt x least_power) (lt greatest_power x) inner.0 in
    record { finite = outer.0; not_below = tests.0; not_above = tests.1 }

pub at_most : (x : Float) → Accepted x → AtMost 1_000 x
unfolding lt is_finite
at_most nan h = let none : ◌≡◌ {A = Bool} false true = h.finite in absurd (false≢true none)
at_most (inf s) h = let none : ◌≡◌ {A = Bool} false true = h.finite in absurd (false≢true none)
at_most (fin false m e) h = omega (arith, ltb-false (125 * 2 ^ 3 * down e) (m * up e * 1) h.not_above)
at_most (fin true m e) h = omega (arith, ltb-false 0 (m * up e * 1 + 0 * 1 * down e) h.not_below)

-- as the conversion to whole units asks
pub within : (x : Float) → Accepted x → within_limit plane_limit_float x ≡ true
within x h = within_more 125 3 390_625 7 x (lit≤ tt) (at_most_within 125 3 x (at_most x h))

not_negative : (x : Float) → Accepted x → whole_of milliwatt x ≡ pos (nat_abs (whole_of milliwatt x))
unfolding whole_of lt
not_negative nan h = refl
not_negative (inf s) h = refl
not_negative (fin false m e) h = refl
not_negative (fin true m e) h =
    let none : m * up e * milliwatt ≡ 0 = omega (arith, ltb-false 0 (m * up e * 1 + 0 * 1 * down e) h.not_below) in
    rw (none, nearest_zero (down e) (down_pos e))

pub power_rounded : PowerRounded
unfolding nanowatts_of
power_rounded x h = not_negative x (accepted x h)

pub power_bounded : PowerBounded
unfolding nanowatts_of
power_bounded x h = whole_at_most milliwatt 1_000 x (at_most x (accepted x h))

pub power_numbers : PowerNumbers
unfolding power_refusal
power_numbers x = let g : Gives (0 ∷ power_not_finite ∷ power_out_of_limits ∷ []) (power_refusal x) = search chain depth 40 in g.one

-- ---- as `nanowatts` computes it

pub in_whole : (x : Float) → nanowatts_of x ≡ nat_abs (whole_of milliwatt x)
unfolding nanowatts_of
in_whole x = refl

pub within_accepted : (x : Float) → power_refusal x ≡ 0 → within_limit plane_limit_float x ≡ true
within_accepted x h = within x (accepted x h)

pub ruleset by_whole = (in_whole, within_accepted, to_z-of_z)
