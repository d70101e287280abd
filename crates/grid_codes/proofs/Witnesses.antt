-- The witnesses, by computation. Assumes nothing.
use mathlib.Core.Path.{refl}
use Rattle.units.specs.Spans.{within, same}
use Rattle.cells.specs.Cells.{accepted_side, numbered, numbers_refusal}
use Rattle.text.specs.Numbers.{decimal, number_text}
use Rattle.grid_codes.specs.Codes.{side_text, code_text, code_refusal, write_refusal}
use Rattle.grid_codes.specs.Theorems.{ExampleCode, WriteWitnesses}

pub example_code : ExampleCode
unfolding code_text side_text number_text decimal write_refusal code_refusal numbers_refusal accepted_side numbered same within
example_code = (refl, refl)

pub write_witnesses : WriteWitnesses
unfolding code_text side_text number_text decimal write_refusal code_refusal numbers_refusal accepted_side numbered same within
write_witnesses = (refl, refl, refl, refl, refl, refl, refl, refl, refl)
