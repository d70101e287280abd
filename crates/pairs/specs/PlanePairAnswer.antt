-- A pair in metres, or the refusal number alone: what a call from degrees to metres answers.
use Rattle.std.specs.Prelude.{ℕ, Result, Ok, Err}
use Rattle.units.specs.Refusals.{number}
use Rattle.units.specs.declared.refusals.Refusal.{Refusal}
use Rattle.pairs.specs.declared.PlanePair.{PlanePair}

pub data PlanePairAnswer : Type 0 where
  Metres : PlanePair → PlanePairAnswer
  Refused : ℕ → PlanePairAnswer

-- what the code's answer says
abbrev pub plane_pair_answer : Result PlanePair Refusal → PlanePairAnswer
plane_pair_answer (Ok pair) = Metres pair
plane_pair_answer (Err refusal) = Refused (number refusal)
