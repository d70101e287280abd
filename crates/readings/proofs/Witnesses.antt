-- The witnesses, computed. Assumes nothing.
use mathlib.Core.Path.{refl}
use lib.Ieee.{lt}
use Rattle.integers.specs.Near.{nearest}
use Rattle.floats.specs.Conversion.{whole_of}
use Rattle.floats.specs.Limits.{is_finite}
use Rattle.readings.specs.Readings.{beyond_power, power_refusal, nanowatts_of}
use Rattle.readings.specs.Theorems.{NotFiniteWitnesses, OutOfLimitsWitnesses, AcceptedWitnesses}

pub not_finite_witnesses : NotFiniteWitnesses
unfolding power_refusal is_finite
not_finite_witnesses = (refl, refl, refl)

pub out_of_limits_witnesses : OutOfLimitsWitnesses
unfolding power_refusal is_finite beyond_power lt
out_of_limits_witnesses = (refl, refl)

pub accepted_witnesses : AcceptedWitnesses
unfolding power_refusal is_finite beyond_power lt nanowatts_of whole_of nearest
accepted_witnesses = ((refl, refl), (refl, refl), (refl, refl), (refl, refl))
