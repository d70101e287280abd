-- A line of more than 25 bytes is of another form: its letter and its two spaces leave more than 22 for two numbers, so one has more than eleven.
-- What is kept of such a line has more than 25 bytes too, and of a shorter line all is kept. Assumes nothing.
use mathlib.Core.Path.{◌≡◌, refl, sym, ap, ◌∙◌}
use mathlib.Core.Bool.{Bool, true, false, cond}
use mathlib.Core.List.{List, [], ◌∷◌}
use mathlib.Core.Logic.{⊎_elim}
use Prim.Native.Nat.{ℕ, suc, ◌<◌, ◌≤◌}
use native.Mathlib.Omega.{arith}
use lib.Dec.{eqb}
use lib.ListN.{length, take, length-take, length-drop}
use lib.Seq.{take_all, length-take-le}
use Rattle.proof_kit.proofs.Order.{le_or_lt}
use Rattle.text.specs.Numbers.{Numeral, digits_most, number_of}
use Rattle.text.specs.Cutting.{index_of, up_to, after}
use Rattle.text.proofs.Cutting.{index_within}
use Rattle.text.proofs.Numerals.{number_long}
use Rattle.requests.specs.Requests.{Bad, space, by_letter, by_fields, request_of, line_most, most_kept}
use Rattle.requests.specs.Theorems.{LongIsBad, KeptAlike}
use Rattle.requests.proofs.Requests.{first_other, second_other}

-- one of the two fields has more than eleven bytes
fields_long : (letter : ℕ) (fields : List ℕ) → line_most < suc (suc (length fields)) → by_fields letter fields ≡ Bad
fields_long letter fields h =
    ⊎_elim
    (λ (short : index_of space fields ≤ suc digits_most).
    ap (by_letter letter (number_of (up_to space fields))) (number_long (after space fields) (rw length-drop (omega arith)))
    ∙ second_other letter (number_of (up_to space fields)))
    (λ (long : suc digits_most < index_of space fields).
    let size = length-take-le (index_of space fields) fields (index_within space fields) in
    ap (λ (x : Numeral). by_letter letter x (number_of (after space fields))) (number_long (up_to space fields) (omega arith))
    ∙ first_other letter (number_of (after space fields)))
    (le_or_lt (index_of space fields) (suc digits_most))

pub long_is_bad : LongIsBad
unfolding request_of
long_is_bad [] h = refl
long_is_bad (letter ∷ []) h = refl
long_is_bad (letter ∷ b ∷ rest) h = either (eqb b space)
  where
    either : (t : Bool) → cond t (by_fields letter rest) Bad ≡ Bad
    either true = fields_long letter rest (omega arith)
    either false = refl

pub kept_alike : KeptAlike
kept_alike line =
    ⊎_elim
    (λ (short : length line ≤ most_kept). ap request_of (take_all most_kept line short))
    (λ (long : most_kept < length line).
    long_is_bad (take most_kept line) (simp length-take (omega arith)) ∙ sym (long_is_bad line (omega arith)))
    (le_or_lt (length line) most_kept)
