-- Document 01, "Refusal numbers": calls for lists of pairs, forward and back.
use Rattle.std.specs.Prelude.{ℕ, ◌≡◌, ◌&&◌, List, eqb, leb, Float, length, Result, Ok, Err}
use Rattle.units.specs.Refusals.{unequal_lists, long_lists, unless, first_refusal, number}
use Rattle.units.specs.declared.refusals.Refusal.{Refusal}
use Rattle.units.specs.Answers.{answered, written, Counted, counted}
use Rattle.parameters.specs.declared.Parameters.{Parameters}
use Rattle.parameters.specs.ParameterSet.{set_refusal}
use Rattle.pairs.specs.Pairs.{Row}
use Rattle.row_lists.specs.Rows.{rows, first_values, second_values, marks, zeros}

-- the count of the marks that are 0, or the refusal number alone
pub data ListAnswer : Type 0 where
  Count : ℕ → ListAnswer
  Refused : ℕ → ListAnswer

-- what the code's answer says
abbrev pub list_answered : Result ℕ Refusal → ListAnswer
list_answered (Ok count) = Count count
list_answered (Err refusal) = Refused (number refusal)

-- "lists longer than 4,096"
abbrev pub longest : ℕ
longest = 4_096

-- 5: "lent lists of unequal length"; 6: "lists longer than 4,096"
unfoldable pub length_refusal : ℕ → ℕ → ℕ → ℕ → ℕ → ℕ
length_refusal a b c d e =
    unless (eqb b a && (eqb c a && (eqb d a && eqb e a))) unequal_lists (unless (leb a longest) long_lists 0)

-- 5, 6, then the set's number, in this order, for two inputs, two outputs and the marks
unfoldable pub list_refusal : Parameters → List Float → List Float → List Float → List Float → List ℕ → ℕ
list_refusal p xs ys first second mark =
    first_refusal (length_refusal (length xs) (length ys) (length first) (length second) (length mark)) (set_refusal p)

-- "and return the number, no count"
abbrev pub list_answer : ℕ → ℕ → ListAnswer
list_answer refusal count = answered Refused refusal (Count count)

-- the number and the count of each case
abbrev pub list_told : ListAnswer → Counted
list_told (Count count) = record { refusal = 0; count = count }
list_told (Refused number) = record { refusal = number; count = 0 }

-- The lists lent for writing, before and after a call with this refusal on these points, and its answer.
pub record Listed (refusal : ℕ) (points : List Row) (first first' second second' : List Float) (mark mark' : List ℕ) (answer : ListAnswer)
    : Type 0 where
  pub first_are : first' ≡ written refusal (first_values points) first
  pub second_are : second' ≡ written refusal (second_values points) second
  pub marks_are : mark' ≡ written refusal (marks points) mark
  pub answer_is : answer ≡ list_answer refusal (zeros mark')
  pub answer_tells : list_told answer ≡ counted refusal (zeros mark')

-- a call that works out each point by `row`
abbrev pub ListCall :
    Parameters →
    (Float → Float → Row) →
    (xs ys first first' second second' : List Float) (mark mark' : List ℕ) → ListAnswer → Type 0
ListCall p row xs ys first first' second second' mark mark' answer =
    Listed (list_refusal p xs ys first second mark) (rows row xs ys) first first' second second' mark mark' answer
