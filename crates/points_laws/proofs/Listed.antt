-- A list call at an index. Its contract says what each list is after the call by its refusal number: with 0 the columns of the rows of its points, so
-- at an index the row of the point there, which is by definition what the single call tells of it; with another number what was there. So a law of
-- all points with an accepted set holds at each index of a call that is not refused. Assumes nothing.
use mathlib.Core.Path.{◌≡◌, sym, ap, ◌∙◌, subst}
use mathlib.Core.List.{List}
use Prim.Native.Nat.{ℕ, suc, ◌<◌}
use lib.Ieee.{Float, nan}
use lib.ListN.{length, get_or}
use Rattle.units.specs.Answers.{written}
use Rattle.parameters.specs.declared.Parameters.{Parameters}
use Rattle.parameters.specs.ParameterSet.{set_refusal}
use Rattle.pairs.specs.Pairs.{Row}
use Rattle.pairs.specs.Pairs.{degrees, metres}
use Rattle.points.proofs.AnswerLaws.{forward_tells, inverse_tells}
use Rattle.point_lists.specs.Lists.{ListAnswer}
use Rattle.row_lists.specs.Rows.{forward_at, inverse_at, rows, first_values, second_values, marks}
use Rattle.row_lists.specs.InnerRows.{row_at}
use Rattle.point_lists.specs.Lists.{length_refusal, list_refusal}
use Rattle.row_lists.specs.Rows.{zeros}
use Rattle.point_lists.specs.Lists.{list_answer, ListCall}
use Rattle.row_lists.proofs.ListLaws.{column_at, column_length}
use Rattle.point_lists.proofs.ListedLaws.{equal_lengths}
use Rattle.points_laws.specs.Theorems.{AtEachIndex, ForwardToldAt, InverseToldAt}
use Rattle.points_laws.specs.Theorems.{ForwardListed, InverseListed, ListCounted, ListRefused}
use Rattle.units.proofs.Chains.{both_passed}

same_row : {r : Row} {m : ℕ} {x y : Float} → m ≡ r.mark → x ≡ r.first → y ≡ r.second → record { mark = m; first = x; second = y } ≡ r
same_row e f g = rw (e, f, g)

-- a call that is not refused
module _ (p : Parameters) (xs ys first second : List Float) (mark : List ℕ) (none : list_refusal p xs ys first second mark ≡ 0) where
  tests_passed : (length_refusal (length xs) (length ys) (length first) (length second) (length mark) ≡ 0) × (set_refusal p ≡ 0)
  unfolding list_refusal
  tests_passed = both_passed (length_refusal (length xs) (length ys) (length first) (length second) (length mark)) (set_refusal p) none

  set_accepted : set_refusal p ≡ 0
  set_accepted = tests_passed.1

  same_length : length ys ≡ length xs
  same_length = (equal_lengths _ _ _ _ _ tests_passed.0).0

module _ (p : Parameters) (row : Float → Float → Row) (xs ys first first' second second' : List Float) (mark mark' : List ℕ) (answer : ListAnswer)
    (call : ListCall p row xs ys first first' second second' mark mark' answer) where
  -- by the call's refusal
  module _ (n : ℕ) (is : list_refusal p xs ys first second mark ≡ n) where
    first_by : first' ≡ written n (first_values (rows row xs ys)) first
    first_by = call.first_are ∙ ap (λ (k : ℕ). written k (first_values (rows row xs ys)) first) is

    second_by : second' ≡ written n (second_values (rows row xs ys)) second
    second_by = call.second_are ∙ ap (λ (k : ℕ). written k (second_values (rows row xs ys)) second) is

    marks_by : mark' ≡ written n (marks (rows row xs ys)) mark
    marks_by = call.marks_are ∙ ap (λ (k : ℕ). written k (marks (rows row xs ys)) mark) is

    answer_by : answer ≡ list_answer n (zeros mark')
    answer_by = call.answer_is ∙ ap (λ (k : ℕ). list_answer k (zeros mark')) is

  module _ (none : list_refusal p xs ys first second mark ≡ 0) where
    same : length ys ≡ length xs
    same = same_length p xs ys first second mark none

    row_at_lem : (k : ℕ) → k < length xs → row_at k first' second' mark' ≡ row (get_or xs k nan) (get_or ys k nan)
    row_at_lem k l =
        same_row
        (ap (λ (t : List ℕ). get_or t k 0) (marks_by 0 none) ∙ column_at (λ (r : Row). r.mark) row xs ys k 0 nan nan same l)
        (ap (λ (t : List Float). get_or t k nan) (first_by 0 none) ∙ column_at (λ (r : Row). r.first) row xs ys k nan nan nan same l)
        (ap (λ (t : List Float). get_or t k nan) (second_by 0 none) ∙ column_at (λ (r : Row). r.second) row xs ys k nan nan nan same l)

    lengths_kept : (length first' ≡ length xs) × (length second' ≡ length xs) × (length mark' ≡ length xs)
    lengths_kept = (
      ap length (first_by 0 none) ∙ column_length (λ (r : Row). r.first) row xs ys same,
      ap length (second_by 0 none) ∙ column_length (λ (r : Row). r.second) row xs ys same,
      ap length (marks_by 0 none) ∙ column_length (λ (r : Row). r.mark) row xs ys same,
    )

-- what holds of the row of each point, with an accepted set, holds at each index
pub at_each_index :
    (row : Parameters → Float → Float → Row) (Holds : Parameters → Float → Float → Row → Type 0) →
    ((p : Parameters) → set_refusal p ≡ 0 → (x y : Float) → Holds p x y (row p x y)) →
    AtEachIndex row Holds
at_each_index row Holds law p xs ys first first' second second' mark mark' answer call none k l =
    subst (Holds p (get_or xs k nan) (get_or ys k nan))
    (sym (row_at_lem p (row p) xs ys first first' second second' mark mark' answer call none k l))
    (law p (set_accepted p xs ys first second mark none) (get_or xs k nan) (get_or ys k nan))

pub forward_listed : ForwardListed
forward_listed = at_each_index forward_at ForwardToldAt (λ p set x y. sym (forward_tells p (degrees x y)))

pub inverse_listed : InverseListed
inverse_listed = at_each_index inverse_at InverseToldAt (λ p set x y. sym (inverse_tells p (metres x y)))

pub list_counted : ListCounted
list_counted p row xs ys first first' second second' mark mark' answer call none =
    let kept = lengths_kept p row xs ys first first' second second' mark mark' answer call none in
    (answer_by p row xs ys first first' second second' mark mark' answer call 0 none, kept.0, kept.1, kept.2)

pub list_refused : ListRefused
list_refused p row xs ys first first' second second' mark mark' answer n call is = (
  answer_by p row xs ys first first' second second' mark mark' answer call (suc n) is,
  first_by p row xs ys first first' second second' mark mark' answer call (suc n) is,
  second_by p row xs ys first first' second second' mark mark' answer call (suc n) is,
  marks_by p row xs ys first first' second second' mark mark' answer call (suc n) is,
)
