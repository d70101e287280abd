-- A pair in degrees, or the refusal number alone: what a call from metres to degrees answers.
use Rattle.std.specs.Prelude.{ℕ, Result, Ok, Err}
use Rattle.units.specs.Refusals.{number}
use Rattle.units.specs.declared.refusals.Refusal.{Refusal}
use Rattle.pairs.specs.declared.GeodeticPair.{GeodeticPair}

pub data GeodeticPairAnswer : Type 0 where
  Degrees : GeodeticPair → GeodeticPairAnswer
  Refused : ℕ → GeodeticPairAnswer

-- what the code's answer says
abbrev pub geodetic_pair_answer : Result GeodeticPair Refusal → GeodeticPairAnswer
geodetic_pair_answer (Ok pair) = Degrees pair
geodetic_pair_answer (Err refusal) = Refused (number refusal)
