-- What a call for C writes and returns follows from what the library's answer tells. Assumes nothing.
use mathlib.Core.Path.{◌≡◌, refl, sym, subst, ◌∙◌}
use mathlib.Core.List.{List, [], ◌∷◌}
use Prim.Native.Nat.{ℕ, zero, suc}
use lib.IntN.{ℤ, pos}
use Rattle.std.specs.Prelude.{Result, Ok, Err}
use Rattle.units.specs.declared.refusals.Refusal.{Refusal}
use Rattle.units.specs.Refusals.{number, refusal_number}
use Rattle.units.specs.Answers.{written}
use Rattle.units.proofs.AnswerLaws.{number_some}
use Rattle.cells.specs.Cells.{side_length}
use Rattle.code_reading.specs.declared.CodeCell.{CodeCell}
use Rattle.code_reading.specs.Reading.{CodeTold, code_answer, read_told}
use Rattle.tallies.specs.declared.Sums.{Sums}
use Rattle.tallies.specs.Tallies.{SumsAnswer, sums_answer}
use Rattle.c_answers.specs.InnerAnswers.{left}
use Rattle.laea_c.specs.Calls.{CodeReadAnswered, SumsAnswered}

-- a refused call leaves what was there
stays : {A : Type 0} (n : ℕ) (new : List A) {old : List A} → (n ≡ 0 → ⊥) → written n new old ≡ old
stays zero new some = absurd (some refl)
stays (suc n) new some = refl

-- ---- codes

abbrev pub cell_values : CodeCell → List ℤ
cell_values cell = pos (side_length cell.side) ∷ cell.east ∷ cell.north ∷ []

code_read :
    (given : Result CodeCell Refusal) {out out' : List ℤ} {r : ℕ} → r ≡ refusal_number given → out' ≡ left cell_values given out →
    CodeReadAnswered (read_told (code_answer given)) out out' r
code_read (Ok cell) n l = record { result_is = n; out_is = rw n l }
code_read (Err refusal) n l = record { result_is = n; out_is = rw n (l ∙ sym (stays (number refusal) _ (number_some refusal))) }

pub code_read_answered :
    (given : Result CodeCell Refusal) {told : CodeTold} {out out' : List ℤ} {r : ℕ} →
    read_told (code_answer given) ≡ told → r ≡ refusal_number given → out' ≡ left cell_values given out →
    CodeReadAnswered told out out' r
code_read_answered given {out = out} {out' = out'} {r = r} tells returns writes =
    subst (λ (t : CodeTold). CodeReadAnswered t out out' r) tells (code_read given returns writes)

-- ---- tallies

abbrev pub sums_values : Sums → List ℕ
sums_values sums = sums.sum ∷ sums.count ∷ sums.overloads ∷ []

sums_read :
    (given : Result Sums Refusal) {out out' : List ℕ} {r : ℕ} → r ≡ refusal_number given → out' ≡ left sums_values given out →
    SumsAnswered (sums_answer given) out out' r
sums_read (Ok sums) n l = record { result_is = n; out_is = l }
sums_read (Err refusal) n l = record { result_is = n; out_is = l }

pub sums_answered :
    (given : Result Sums Refusal) {answer : SumsAnswer} {out out' : List ℕ} {r : ℕ} →
    sums_answer given ≡ answer → r ≡ refusal_number given → out' ≡ left sums_values given out →
    SumsAnswered answer out out' r
sums_answered given {out = out} {out' = out'} {r = r} is returns writes =
    subst (λ (a : SumsAnswer). SumsAnswered a out out' r) is (sums_read given returns writes)
