-- `lines::etrs_laea` meets its contract: ETRS-LAEA is an accepted set. Assumes nothing.
use Rattle.std.proofs.Common.{◌≡◌, ap, ◌∙◌, rules}
use Rattle.std.specs.Prelude.{Result, Ok, Err, IsOk}
use Rattle.units.specs.declared.refusals.Refusal.{Refusal}
use Rattle.units.specs.Refusals.{refusal_number}
use Rattle.units.proofs.AnswerLaws.{number_some}
use Rattle.parameters.specs.ParameterSet.{set_refusal}
use Rattle.parameters.proofs.Fields.{etrs_accepted}
use Rattle.lines.proofs.etrs_laea.Goals as goal

given : {A : Type 0} (answer : Result A Refusal) → refusal_number answer ≡ 0 → IsOk answer
given (Ok value) e = search rules
given (Err refusal) e = absurd (number_some refusal e)

pub unwrap-requires : goal.unwrap-requires
unwrap-requires c = given c.new.result (c.new.ensures.refused ∙ ap set_refusal c.etrs_laea.ensures ∙ etrs_accepted)
