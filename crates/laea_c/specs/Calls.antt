-- The set as C has it, and what calls for C return and write, over the definitions of the crates that they call.
-- A lent list is the list of its values: of the whole numbers themselves (ℤ) where it is of i64.
use Rattle.std.specs.Prelude.{ℕ, ◌≡◌, List, [], ◌∷◌, ℤ, length, Float}
use Rattle.units.specs.Answers.{Told, answered, written}
use Rattle.grid_codes.specs.Codes.{code_text, write_refusal, into_first}
use Rattle.code_reading.specs.Reading.{CodeTold}
use Rattle.parameters.specs.declared.Parameters.{Parameters}
use Rattle.parameters.specs.ParameterSet.{set_of}
use Rattle.pairs.specs.Pairs.{Row}
use Rattle.row_lists.specs.Rows.{zeros}
use Rattle.point_lists.specs.Lists.{ListAnswer, Count, Refused, list_refusal, list_answer, ListCall}
use Rattle.slots.specs.declared.LoopCell.{LoopCell}
use Rattle.tallies.specs.Tallies.{SumsAnswer, Sums, Unread, NextTally, sums_told, tally_told}
use Rattle.laea_c.specs.declared.sets.Set.{Set}
use Rattle.laea_c.specs.declared.power.TallyResult.{TallyResult}

-- the version 0.8.0: 10,000 times the major number, 100 times the minor one, and the patch
abbrev pub version : ℕ
version = 800

-- the parameter set of these fields
abbrev pub parameters_of : Set → Parameters
parameters_of set = set_of set.a set.e2 set.lat0 set.lon0 set.false_easting set.false_northing

-- A call for a single answer: it returns the refusal number; `out` has the two values where that is 0, else what it had.
pub record Answered {A : Type 0} (refusal : ℕ) (first second : A) (out out' : List A) (r : ℕ) : Type 0 where
  pub result_is : r ≡ refusal
  pub out_is : out' ≡ written refusal (first ∷ second ∷ []) out

-- an answer in degrees or metres
abbrev pub AnswersFloats : Row → (out out' : List Float) → ℕ → Type 0
AnswersFloats answer = Answered answer.mark answer.first answer.second

-- an answer in whole numbers
abbrev pub AnswersWhole : Told → (out out' : List ℤ) → ℕ → Type 0
AnswersWhole answer = Answered answer.refusal answer.first answer.second

-- the count after a call with this answer: the answer's, or what it was
abbrev pub count_after : ListAnswer → ℕ → ℕ
count_after (Count count) before = count
count_after (Refused number) before = before

-- A call with the set p that works out each point by `row`: the result is its refusal number; the lists are as the library's call leaves them;
-- the count is that of the marks that are 0, or what it was where the call is refused.
pub record ListAnswered (p : Parameters) (row : Parameters → Float → Float → Row) (xs ys first first' second second' : List Float)
    (mark mark' : List ℕ) (count count' r : ℕ) : Type 0 where
  pub result_is : r ≡ list_refusal p xs ys first second mark
  pub lists_are : ListCall p (row p) xs ys first first' second second' mark mark' (list_answer r (zeros mark'))
  pub count_is : count' ≡ count_after (list_answer r (zeros mark')) count

-- A call that writes the code of a cell: the result is its refusal number; where that is 0 the code stands in the first bytes of the text, the rest
-- staying, and the length is the code's; else both are as they were.
pub record CodeAnswered (side east north : ℤ) (text text' : List ℕ) (len len' r : ℕ) : Type 0 where
  pub result_is : r ≡ write_refusal side east north (length text)
  pub text_is : text' ≡ written r (into_first (code_text side east north) text) text
  pub length_is : len' ≡ answered (λ (n : ℕ). len) r (length (code_text side east north))

-- A call that reads a code: the result is its refusal number; `out` has side, east number and north number where that is 0, else what it had.
pub record CodeReadAnswered (told : CodeTold) (out out' : List ℤ) (r : ℕ) : Type 0 where
  pub result_is : r ≡ told.refusal
  pub out_is : out' ≡ written r (told.side ∷ told.east ∷ told.north ∷ []) out

-- the loop's cell with these numbers
abbrev pub loop_cell : ℕ → ℤ → ℤ → LoopCell
loop_cell loop east north = record { loop_number = loop; east = east; north = north }

-- what a call on a tally gives
abbrev pub tally_result : NextTally → TallyResult
tally_result next = record { tally = next.tally; refusal = tally_told next.answer }

-- what a call that reads a cell leaves: sum, count and overload count, or what was there
abbrev pub sums_after : SumsAnswer → List ℕ → List ℕ
sums_after (Sums sum count overloads) before = sum ∷ count ∷ overloads ∷ []
sums_after (Unread number) before = before

-- A call that reads a cell of a tally: the result is its refusal number; `out` has sum, count and overload count where that is 0, else what it had.
pub record SumsAnswered (answer : SumsAnswer) (out out' : List ℕ) (r : ℕ) : Type 0 where
  pub result_is : r ≡ (sums_told answer).refusal
  pub out_is : out' ≡ sums_after answer out
