-- What holds of readings. What `PowerRounded` states is proved as `power_rounded` in proofs/, and so the others.
use Rattle.std.specs.Prelude.{◌≤◌, ◌≡◌, true, false, [], ◌∷◌, pos, negsuc, Float}
use Rattle.std.specs.Float.{nan, inf, fin}
use Rattle.units.specs.Units.{milliwatt}
use Rattle.units.specs.Refusals.{power_not_finite, power_out_of_limits, OneOf}
use Rattle.floats.specs.Conversion.{whole_of}
use Rattle.readings.specs.Readings.{power_refusal, nanowatts_of}

-- An accepted power is counted by the whole number that "near(value · 1,000,000)" is.
abbrev pub PowerRounded : Type 0
PowerRounded = (x : Float) → power_refusal x ≡ 0 → whole_of milliwatt x ≡ pos (nanowatts_of x)

-- It is at most 1,000,000,000 nW.
abbrev pub PowerBounded : Type 0
PowerBounded = (x : Float) → power_refusal x ≡ 0 → nanowatts_of x ≤ 1_000_000_000

-- There are two numbers, and 0 for none.
abbrev pub PowerNumbers : Type 0
PowerNumbers = (x : Float) → OneOf (0 ∷ power_not_finite ∷ power_out_of_limits ∷ []) (power_refusal x)

-- ---- witnesses, by the doubles' exact values

-- 41: NaN and both infinities
abbrev pub NotFiniteWitnesses : Type 0
NotFiniteWitnesses = (power_refusal nan ≡ 41) × (power_refusal (inf false) ≡ 41) × (power_refusal (inf true) ≡ 41)

-- 42: −5·10^−324, which is −2^−1074, and the next double above 1,000, which is 1,000 + 2^−43
abbrev pub OutOfLimitsWitnesses : Type 0
OutOfLimitsWitnesses =
    (power_refusal (fin true 1 (negsuc 1_073)) ≡ 42) × (power_refusal (fin false 8_796_093_022_208_001 (negsuc 42)) ≡ 42)

-- accepted: −0.0 is 0 nW and 1,000 is 1,000,000,000; 1/128 mW is 7,812.5 nW, a half, which goes away from 0; the double 5·10^−7 lies below the
-- half of a nanowatt
abbrev pub AcceptedWitnesses : Type 0
AcceptedWitnesses =
    ((power_refusal (fin true 0 (pos 0)) ≡ 0) × (nanowatts_of (fin true 0 (pos 0)) ≡ 0))
    × ((power_refusal (fin false 125 (pos 3)) ≡ 0) × (nanowatts_of (fin false 125 (pos 3)) ≡ 1_000_000_000))
    × ((power_refusal (fin false 1 (negsuc 6)) ≡ 0) × (nanowatts_of (fin false 1 (negsuc 6)) ≡ 7_813))
    × ((power_refusal (fin false 4_722_366_482_869_645 (negsuc 72)) ≡ 0) × (nanowatts_of (fin false 4_722_366_482_869_645 (negsuc 72)) ≡ 0))
