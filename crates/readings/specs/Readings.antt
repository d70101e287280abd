-- Document 02, e): "A reading is a power in milliwatts as f64, or the mark that the receiver was overloaded, which carries the last good power."
use Rattle.std.specs.Prelude.{ℕ, Bool, false, not, ◌||◌, pos, nat_abs, Float}
use Rattle.std.specs.Float.{fin}
use Rattle.std.specs.Float.Ieee.{lt}
use Rattle.units.specs.Units.{milliwatt}
use Rattle.units.specs.Refusals.{power_not_finite, power_out_of_limits, unless}
use Rattle.floats.specs.Conversion.{whole_of}
use Rattle.floats.specs.Limits.{is_finite}
use Rattle.readings.specs.declared.Reading.{Reading}
use Rattle.readings.specs.declared.Reading.TheVariants.{Power, Overloaded}

-- the power that a reading of either kind carries, in milliwatts
abbrev pub power_of : Reading → Float
power_of (Power milliwatts) = milliwatts
power_of (Overloaded milliwatts) = milliwatts

-- 0 and 1,000 milliwatts; 1,000 is 125 · 2³
abbrev pub least_power : Float
least_power = fin false 0 (pos 0)

abbrev pub greatest_power : Float
greatest_power = fin false 125 (pos 3)

-- "below 0 or above 1,000 mW", tested on the double, before rounding. −0.0 is not below 0.
unfoldable pub beyond_power : Float → Bool
beyond_power x = lt x least_power || lt greatest_power x

-- "41 NaN or infinite power, 42 below 0 or above 1,000 mW", of either kind of reading
unfoldable pub power_refusal : Float → ℕ
power_refusal x = unless (is_finite x) power_not_finite (unless (not (beyond_power x)) power_out_of_limits 0)

abbrev pub reading_refusal : Reading → ℕ
reading_refusal reading = power_refusal (power_of reading)

-- "rounded to whole nanowatts by near(value · 1,000,000)": the whole number's size, which is the number itself, for no accepted power is below 0
-- (`PowerRounded`)
unfoldable pub nanowatts_of : Float → ℕ
nanowatts_of x = nat_abs (whole_of milliwatt x)
