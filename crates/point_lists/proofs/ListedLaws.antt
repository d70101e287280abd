-- The refusal of a list call, and the two ways in which a call ends. Assumes nothing.
use borrow.Author.Tests.{eqb-true}
use mathlib.Core.Path.{◌≡◌, refl, sym, ap, ap₂, subst}
use mathlib.Core.Bool.{◌&&◌}
use mathlib.Core.List.{List, [], ◌∷◌}
use Prim.Native.Nat.{ℕ, zero, suc}
use lib.Dec.{eqb}
use lib.Ieee.{Float}
use lib.ListN.{length}
use Rattle.parameters.specs.declared.Parameters.{Parameters}
use Rattle.std.specs.Prelude.{Result, Err}
use Rattle.units.specs.declared.refusals.Refusal.{Refusal}
use Rattle.units.specs.Refusals.{first_refusal, number}
use Rattle.units.proofs.AnswerLaws.{number_some}
use Rattle.units.proofs.Chains.{link_passed}
use Rattle.parameters.specs.ParameterSet.{set_refusal}
use Rattle.integers.proofs.Greatest.{both}
use Rattle.pairs.specs.Pairs.{Row}
use Rattle.row_lists.specs.Rows.{rows, first_values, second_values, marks, zeros}
use Rattle.point_lists.specs.Lists.{Count, Refused, ListAnswer, list_answered, length_refusal, list_refusal, Listed, ListCall}

-- 5 comes first, so without refusal the lengths are equal
pub equal_lengths : (a b c d e : ℕ) → length_refusal a b c d e ≡ 0 → (b ≡ a) × (c ≡ a) × (d ≡ a) × (e ≡ a)
unfolding length_refusal
equal_lengths a b c d e h =
    let all = both (eqb b a) (eqb c a && (eqb d a && eqb e a)) (link_passed (eqb b a && (eqb c a && (eqb d a && eqb e a))) 4 h).0 in
    let rest = both (eqb c a) (eqb d a && eqb e a) all.1 in
    let last = both (eqb d a) (eqb e a) rest.1 in
    (eqb-true b a all.0, eqb-true c a rest.0, eqb-true d a last.0, eqb-true e a last.1)

first_refusal_lem : (n : ℕ) → (n ≡ 0 → ⊥) → (lengths set : ℕ) → n ≡ lengths → n ≡ first_refusal lengths set
first_refusal_lem zero some lengths set e = absurd (some refl)
first_refusal_lem (suc n) some lengths set e = rw (sym e)

-- a refusal by the lengths is the call's; without one the set's is
module _ (p : Parameters) (xs ys first second : List Float) (mark : List ℕ) (n : ℕ) where
  pub refused_by_lengths : (n ≡ 0 → ⊥) → n ≡ length_refusal (length xs) (length ys) (length first) (length second) (length mark) →
      n ≡ list_refusal p xs ys first second mark
  unfolding list_refusal
  refused_by_lengths some e = first_refusal_lem n some (length_refusal (length xs) (length ys) (length first) (length second) (length mark)) (set_refusal p) e

  pub refused_by_set : length_refusal (length xs) (length ys) (length first) (length second) (length mark) ≡ 0 → n ≡ set_refusal p →
      n ≡ list_refusal p xs ys first second mark
  unfolding list_refusal
  refused_by_set none e = rw none e

module _ {refusal : ℕ} {points : List Row} {first second : List Float} {mark : List ℕ} where
  -- a call that is refused with a number
  pub by_number : (n : ℕ) → (n ≡ 0 → ⊥) → n ≡ refusal → Listed refusal points first first second second mark mark (Refused n)
  by_number zero some e = absurd (some refl)
  by_number (suc n) some e =
      rw (sym e) (record { first_are = refl; second_are = refl; marks_are = refl; answer_is = refl; answer_tells = refl })

  -- the same, by the code's answer
  pub listed_refused : (r : Result ℕ Refusal) (why : Refusal) → r ≡ Err why → number why ≡ refusal →
      Listed refusal points first first second second mark mark (list_answered r)
  listed_refused r why is e = rw is (by_number (number why) (number_some why) e)

  -- a call without refusal
  pub listed_count : {first' second' : List Float} {mark' : List ℕ} (count : ℕ) → 0 ≡ refusal → first' ≡ first_values points →
      second' ≡ second_values points → mark' ≡ marks points → count ≡ zeros mark' → Listed refusal points first first' second second' mark mark' (Count count)
  listed_count count none f s m c =
      rw (sym none) (record { first_are = f; second_are = s; marks_are = m; answer_is = ap Count c; answer_tells = rw c })

-- ---- two ways to work out a point that give the same row

rows_same : (row other : Float → Float → Row) → ((x y : Float) → row x y ≡ other x y) → (xs ys : List Float) → rows row xs ys ≡ rows other xs ys
rows_same row other same [] ys = refl
rows_same row other same (x ∷ xs) [] = refl
rows_same row other same (x ∷ xs) (y ∷ ys) = ap₂ (λ r rs. r ∷ rs) (same x y) (rows_same row other same xs ys)

pub call_same :
    (p : Parameters) (row other : Float → Float → Row) →
    ((x y : Float) → row x y ≡ other x y) →
    (xs ys first first' second second' : List Float) (mark mark' : List ℕ) (answer : ListAnswer) →
    ListCall p row xs ys first first' second second' mark mark' answer →
    ListCall p other xs ys first first' second second' mark mark' answer
call_same p row other same xs ys first first' second second' mark mark' answer call =
    subst (λ (points : List Row). Listed (list_refusal p xs ys first second mark) points first first' second second' mark mark' answer)
    (rows_same row other same xs ys) call
