-- No two answers of `cell` are the same in the specifications' terms. Assumes nothing.
use mathlib.Core.Path.{◌≡◌, refl, sym, ap, ◌∙◌}
use Rattle.std.proofs.Common.{Result, Ok, Err}
use Rattle.units.specs.declared.refusals.Refusal.{Refusal}
use Rattle.cells.specs.declared.CellNumbers.{CellNumbers}
use Rattle.cells.specs.Cells.{CellAnswer, Cell, Refused, cell_answer}
use Rattle.printing.proofs.RefusalLaws.{refusal_of, refusal_is}

answer_of : CellAnswer → Result CellNumbers Refusal
answer_of (Cell east north) = Ok record { east = east; north = north }
answer_of (Refused number) = Err (refusal_of number)

answer_is : (answer : Result CellNumbers Refusal) → answer_of (cell_answer answer) ≡ answer
unfolding answer_of
answer_is (Ok numbers) = refl
answer_is (Err refusal) = ap Err (refusal_is refusal)

pub same_answer : (found right : Result CellNumbers Refusal) → cell_answer found ≡ cell_answer right → found ≡ right
same_answer found right same = sym (answer_is found) ∙ ap answer_of same ∙ answer_is right
