-- Of the parts that a text is split into at its newlines, part k is line k; past the last part there is nothing. A text in UTF-8 is cut before
-- and after a newline, which is a character of one byte, so its lines are in UTF-8. Assumes nothing.
use mathlib.Core.Path.{◌≡◌, refl, sym, ap, ◌∙◌}
use mathlib.Core.List.{List, [], ◌∷◌}
use Prim.Native.Nat.{ℕ, zero, suc, ◌+◌, ◌<◌}
use native.Mathlib.Omega.{arith}
use lib.ListN.{length, take, drop, get_or}
use lib.Seq.{drop-nil}
use native.Mathlib.Numerals.{add-one}
use Rattle.std.proofs.Math.Nat.{eq-or-lt_of_le}
use Rattle.std.proofs.Math.ListN.{drop_of_length-le}
use Rattle.std.proofs.Common.{Bool, true, false, cond, eqb, Option, None, Some, Result, Ok, Err, Bor, slice_get, inl, inr, lit<}
use Rattle.std.proofs.lemmas.Bool.{eqb-true}
use Rattle.std.proofs.lemmas.Str.{IsUtf8-nil, IsUtf8-take, IsUtf8-drop, IsCharBoundary-before_ascii, IsCharBoundary-after_ascii, IsCharBoundary-end}
use Rattle.std.specs.Str.{IsUtf8, IsCharBoundary}
use Rattle.std.specs.Result.{MatchResult, result_unwrap_or}
use Rattle.std.specs.List.{slice_split, onto_first}
use Rattle.std.specs.Option.{option_map, unwrap_or}
use Rattle.std.proofs.lemmas.List.Splits.{length-slice_split}
use Rattle.std.proofs.lemmas.Option.{unwrap_or-slice_get}
use Rattle.text.specs.Ascii.{newline}
use Rattle.text.specs.Cutting.{index_after, index_of, up_to, after}
use Rattle.text.proofs.Cutting.{index_within}
use Rattle.printing.specs.InnerTexts.{from_line, line_of}

abbrev lines : List ℕ → List (List ℕ)
lines = slice_split (λ b. eqb b newline)

from_nothing : (k : ℕ) → from_line k [] ≡ []
unfolding from_line
from_nothing zero = refl
from_nothing (suc k) = ap (from_line k) (drop-nil (suc (index_of newline []))) ∙ from_nothing k

module _ (b : ℕ) (text : List ℕ) where
  -- line k of the text with b before it, which ends the first line or stands in it
  abbrev line_with : Bool → ℕ → List ℕ
  line_with ends zero = take (index_after ends (index_of newline text)) (b ∷ text)
  line_with ends (suc k) = line_of k (drop (suc (index_after ends (index_of newline text))) (b ∷ text))

  with_byte :
      (ends : Bool) (parts : List (List ℕ)) → ((k : ℕ) → get_or parts k [] ≡ line_of k text) → 0 < length parts → (k : ℕ) →
      get_or (cond ends ([] ∷ parts) (onto_first b parts)) k [] ≡ line_with ends k
  unfolding line_of from_line index_after
  with_byte true parts known some zero = refl
  with_byte true parts known some (suc k) = known k
  with_byte false [] known some k = absurd (omega arith)
  with_byte false (part ∷ parts) known some zero = ap (λ xs. b ∷ xs) (known 0)
  with_byte false (part ∷ parts) known some (suc k) = known (suc k)

  line_is : (k : ℕ) → line_with (eqb b newline) k ≡ line_of k (b ∷ text)
  unfolding line_of from_line index_of index_after
  line_is zero = refl
  line_is (suc k) = refl

pub lines_of : (text : List ℕ) (k : ℕ) → get_or (lines text) k [] ≡ line_of k text
unfolding line_of from_line index_of
lines_of [] zero = refl
lines_of [] (suc k) = sym (ap (λ xs. take (index_of newline xs) xs) (from_nothing (suc k)))
lines_of (b ∷ text) k =
    with_byte b text (eqb b newline) (lines text) (lines_of text) (omega (arith, length-slice_split (λ x. eqb x newline) text)) k ∙ line_is b text k

-- the part that was taken, or nothing
pub part_or_nothing :
    (text : List ℕ) (k : ℕ) (taken : Option (Bor (List ℕ))) (nothing : Bor (List ℕ)) →
    option_map (λ x. x.now) taken ≡ slice_get (lines text) k → nothing.now ≡ [] → (unwrap_or taken nothing).now ≡ line_of k text
part_or_nothing text k taken nothing found empty =
    now_of taken ∙ ap (λ m. unwrap_or m []) found ∙ unwrap_or-slice_get (lines text) k [] ∙ lines_of text k
  where
    now_of : (m : Option (Bor (List ℕ))) → (unwrap_or m nothing).now ≡ unwrap_or (option_map (λ x. x.now) m) []
    now_of None = empty
    now_of (Some x) = refl

-- ---- in UTF-8

newline_at : (xs : List ℕ) → index_of newline xs < length xs → get_or xs (index_of newline xs) 0 ≡ newline
unfolding index_of index_after
newline_at [] within = absurd (omega arith)
newline_at (x ∷ xs) within = either (eqb x newline) refl within (newline_at xs)
  where
    either :
        (t : Bool) →
        eqb x newline ≡ t →
        index_after t (index_of newline xs) < suc (length xs) →
        (index_of newline xs < length xs → get_or xs (index_of newline xs) 0 ≡ newline) →
        get_or (x ∷ xs) (index_after t (index_of newline xs)) 0 ≡ newline
    either true e within rest = eqb-true x newline e
    either false e within rest = rest (omega (arith, within))

module _ (xs : List ℕ) (valid : IsUtf8 xs) where
  first_utf8 : IsUtf8 (up_to newline xs)
  first_utf8 = IsUtf8-take xs (index_of newline xs) valid cut
    where
      cut : IsCharBoundary xs (index_of newline xs)
      cut = elim (eq-or-lt_of_le (index_within newline xs)) [
        | inl end ↦ rw end (IsCharBoundary-end xs)
        | inr within ↦ IsCharBoundary-before_ascii xs (index_of newline xs) within (rw (newline_at xs within) (lit< tt))
      ]

  rest_utf8 : IsUtf8 (after newline xs)
  rest_utf8 = elim (eq-or-lt_of_le (index_within newline xs)) [
    | inl end ↦ rw (drop_of_length-le xs {i = suc (index_of newline xs)} (omega (arith, end))) IsUtf8-nil
    | inr within ↦
        rw (sym (add-one (index_of newline xs)))
        (IsUtf8-drop xs (index_of newline xs + 1) valid
        (IsCharBoundary-after_ascii xs (index_of newline xs) valid within (rw (newline_at xs within) (lit< tt))))
  ]

from_utf8 : (k : ℕ) (xs : List ℕ) → IsUtf8 xs → IsUtf8 (from_line k xs)
unfolding from_line
from_utf8 zero xs valid = valid
from_utf8 (suc k) xs valid = from_utf8 k (after newline xs) (rest_utf8 xs valid)

pub line_utf8 : (k : ℕ) (xs : List ℕ) → IsUtf8 xs → IsUtf8 (line_of k xs)
unfolding line_of
line_utf8 k xs valid = first_utf8 (from_line k xs) (from_utf8 k xs valid)

-- what is in UTF-8 is given
pub given_utf8 :
    {E : Type 0} (Fault : E → Type 0) (xs : List ℕ) (given : Result (Bor (List ℕ)) E) (nothing : Bor (List ℕ)) →
    IsUtf8 xs → MatchResult given (λ s. (s.now ≡ xs) × IsUtf8 xs) (λ e. ¬ (IsUtf8 xs) × Fault e) → (result_unwrap_or given nothing).now ≡ xs
given_utf8 Fault xs (Ok s) nothing valid is = is.0
given_utf8 Fault xs (Err e) nothing valid is = absurd (is.0 valid)
