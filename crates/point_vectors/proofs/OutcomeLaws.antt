-- What a list call on parts of arrays leaves: the call says what each lent part holds after it, and the rest of each array stands behind
-- its part. Assumes nothing.
use Rattle.std.proofs.Common.{◌≡◌, ℕ, Bool, List, ◌++◌, take, drop, ap, ◌∙◌, ap₂}
use lib.Ieee.{Float}
use Rattle.parameters.specs.declared.Parameters.{Parameters}
use Rattle.row_lists.specs.Rows.{zeros}
use Rattle.row_lists.specs.InnerRows.{row_of}
use Rattle.point_lists.specs.Lists.{ListAnswer, list_answer, ListCall}
use Rattle.judging.specs.declared.doubles.Digest.{Digest}
use Rattle.judging.specs.InnerDoubles.{digest_of}
use Rattle.point_vectors.specs.InnerLists.{Outcome, filled, marks_of, steps_of, refusal_of, outcome_of}

module _ (p : Parameters) (forward : Bool) (a b c d e : ℕ) (x y : Float) {leading trailing : List Float} {marks : List ℕ} {answer : ListAnswer}
    {digest : Digest} where
  left :
      ListCall p (row_of forward p) (take a (steps_of x)) (take b (steps_of y)) (take c filled) leading (take d filled) trailing (take e marks_of) marks answer →
      digest ≡ digest_of (leading ++ drop c filled) (trailing ++ drop d filled) (marks ++ drop e marks_of) →
      ◌≡◌ {A = Outcome} (record { answer = answer; digest = digest }) (outcome_of p forward a b c d e x y)
  unfolding outcome_of
  left call is =
      ap₂ (λ (r : ListAnswer) (s : Digest). record { answer = r; digest = s })
      (call.answer_is ∙ ap (λ (m : List ℕ). list_answer (refusal_of p forward a b c d e x y) (zeros m)) call.marks_are)
      (is ∙ rw (call.first_are, call.second_are, call.marks_are))

  -- of arrays that are the steps, and filled
  pub outcome_is :
      {xs ys first second : List Float} {filled-marks : List ℕ} →
      xs ≡ steps_of x →
      ys ≡ steps_of y →
      first ≡ filled →
      second ≡ filled →
      filled-marks ≡ marks_of →
      ListCall p (row_of forward p) (take a xs) (take b ys) (take c first) leading (take d second) trailing (take e filled-marks) marks answer →
      digest ≡ digest_of (leading ++ drop c first) (trailing ++ drop d second) (marks ++ drop e filled-marks) →
      ◌≡◌ {A = Outcome} (record { answer = answer; digest = digest }) (outcome_of p forward a b c d e x y)
  outcome_is f g h i j call is = left (rw (f, g, h, i, j) at call) (rw (h, i, j) at is)
