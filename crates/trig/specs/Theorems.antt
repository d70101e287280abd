-- What holds of the sine from 0 to 90°. What `NeverFalls` states is proved as `never_falls` in proofs/Interface.antt, and `AtMostNext` as
-- `at_most_next` in proofs/Minute.antt.
use Rattle.std.specs.Prelude.{ℕ, suc, ◌+◌, ◌<◌, ◌≤◌, pos, ◌≤ℤ◌}
use Rattle.integers.specs.Near.{nearest}
use Rattle.units.specs.Units.{minute, right_angle}
use Rattle.sine_table.specs.Table.{entry}
use Rattle.trig.specs.Sine.{quarter_minutes, fraction_numerator, fraction_denominator, sine}

-- "From 0 to 90° it still never falls."
abbrev pub NeverFalls : Type 0
NeverFalls = (θ θ' : ℕ) → θ ≤ θ' → θ' ≤ right_angle → sine (pos θ) ≤ℤ sine (pos θ')

-- The sum is itself the smaller of the two, in every minute, so that the code need not compare.
abbrev pub AtMostNext : Type 0
AtMostNext = (k r : ℕ) → k < quarter_minutes → r < minute → entry k + nearest (fraction_numerator k r) fraction_denominator ≤ entry (suc k)
