-- The list calls that are run, and when a row of one ends in "ok".
use Rattle.std.specs.Prelude.{ℕ, ◌≤◌, zero, suc, Bool, false, ◌&&◌, List, [], ◌∷◌, ◌++◌, take, drop, replicate, pos, negsuc, Float}
use Rattle.std.specs.Float.{fin, binary64}
use Rattle.std.specs.Float.Ieee.{mul, of_int}
use Rattle.units.specs.Answers.{written}
use Rattle.parameters.specs.declared.Parameters.{Parameters}
use Rattle.pairs.specs.Pairs.{Row}
use Rattle.row_lists.specs.Rows.{rows, first_values, second_values, marks, zeros}
use Rattle.row_lists.specs.InnerRows.{row_of}
use Rattle.point_lists.specs.Lists.{ListAnswer, list_answered, list_refusal, list_answer}
use Rattle.judging.specs.declared.doubles.Digest.{Digest}
use Rattle.judging.specs.InnerDoubles.{is_told, digest_of, same_digest}
use Rattle.point_vectors.specs.declared.list_rows.Lengths.{Lengths}
use Rattle.point_vectors.specs.declared.list_rows.Outcome.{Outcome as GivenOutcome}

-- ---- before the call

-- one more than a list call takes
abbrev pub room : ℕ
room = 4_097

abbrev pub numbers_of : Float → List Float
numbers_of x = replicate room x

-- what the outputs hold: 7.5, which is 15 · 2⁻¹, and mark 9
abbrev pub filled : List Float
filled = numbers_of (fin false 15 (negsuc 0))

abbrev pub marks_of : List ℕ
marks_of = replicate room 9

-- k times a step, for each k from `start` on
unfoldable pub steps_from : ℕ → ℕ → Float → List Float
steps_from start zero step = []
steps_from start (suc n) step = mul binary64 (of_int binary64 (pos start)) step ∷ steps_from (suc start) n step

abbrev pub steps_of : Float → List Float
steps_of step = steps_from 0 room step

-- each list lends at most all of its array
abbrev pub WithinRoom : Lengths → Type 0
WithinRoom lengths = (lengths.xs ≤ room) × (lengths.ys ≤ room) × (lengths.leading ≤ room) × (lengths.trailing ≤ room) × (lengths.marks ≤ room)

-- what a call answered, and the digest of what it left in its outputs
pub record Outcome : Type 0 where
  pub answer : ListAnswer
  pub digest : Digest

abbrev pub outcome : GivenOutcome → Outcome
outcome given = record { answer = list_answered given.answer; digest = given.digest }

-- ---- after it: lists of a, b, c, d and e elements, the k-th point at k steps of x and y

module _ (p : Parameters) (forward : Bool) (a b c d e : ℕ) (x y : Float) where
  abbrev pub points_of : List Row
  points_of = rows (row_of forward p) (take a (steps_of x)) (take b (steps_of y))

  abbrev pub refusal_of : ℕ
  refusal_of = list_refusal p (take a (steps_of x)) (take b (steps_of y)) (take c filled) (take d filled) (take e marks_of)

  -- the marks that the call left
  abbrev pub marks_left : List ℕ
  marks_left = written refusal_of (marks points_of) (take e marks_of)

  -- its answer, and the digest of all of the outputs, past what was lent too
  unfoldable pub outcome_of : Outcome
  outcome_of =
      record {
        answer = list_answer refusal_of (zeros marks_left);
        digest =
            digest_of (written refusal_of (first_values points_of) (take c filled) ++ drop c filled)
            (written refusal_of (second_values points_of) (take d filled) ++ drop d filled) (marks_left ++ drop e marks_of);
      }

unfoldable pub untouched_digest : Digest
untouched_digest = digest_of filled filled marks_of

-- ---- verdicts

-- all points are accepted, and the outputs have the digest expected
abbrev pub is_counted : Outcome → ℕ → Digest → Bool
is_counted found count right = is_told found.answer 0 count && same_digest found.digest right

-- refused by this number, with the outputs as they were
abbrev pub is_refused : Outcome → ℕ → Bool
is_refused found number = is_told found.answer number 0 && same_digest found.digest untouched_digest
