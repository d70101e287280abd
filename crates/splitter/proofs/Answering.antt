-- Answering the lines of a piece one after the other: a line reaches to the next newline, what is answered after it are the lines of the bytes past
-- that newline, and each byte of a piece ends at most one line, so that there is room for all. Assumes nothing.
use mathlib.Core.Path.{◌≡◌, refl, sym, ap, ap₂, ◌∙◌}
use mathlib.Core.Bool.{Bool, cond}
use mathlib.Core.List.{List, [], ◌∷◌, ◌++◌}
use Prim.Native.Nat.{ℕ, suc, ◌+◌, ◌*◌, ◌≤◌, ◌<◌}
use native.Mathlib.Omega.{arith}
use lib.ListN.{length, length-append}
use Rattle.text.specs.Pasting.{Put}
use Rattle.text.specs.Cutting.{index_of, IsCut}
use Rattle.text.proofs.Pasting.{put_as, put_both, put_none, put_length}
use Rattle.text.specs.Ascii.{newline}
use Rattle.lines.specs.Lines.{answer_line, answer_most}
use Rattle.lines.proofs.Sizes.{answer_size}
use Rattle.splitter.specs.Splitting.{ended_lines, part_left, last_line, answers_of}
use Rattle.splitter.proofs.Newlines.{by_newline, ended_along, left_along, past_newline, to_end}

-- Each byte of a piece ends at most one line.
pub answers_size : (part bs : List ℕ) → length (answers_of (ended_lines part bs)) ≤ answer_most * length bs
answers_size part [] = omega arith
answers_size part (b ∷ bs) =
    by_newline
    (λ (t : Bool).
    length (answers_of (cond t (part ∷ ended_lines [] bs) (ended_lines (part ++ (b ∷ [])) bs))) ≤ answer_most * suc (length bs))
    b
    (omega (arith, answers_size [] bs, answer_size part, length-append (answer_line part) (answers_of (ended_lines [] bs))))
    (omega (arith, answers_size (part ++ (b ∷ [])) bs))

pub last_size : (part : List ℕ) → length (answers_of (last_line part)) ≤ answer_most
last_size [] = omega arith
last_size (b ∷ bs) = omega (arith, answer_size (b ∷ bs), length-append (answer_line (b ∷ bs)) [])

-- nothing is answered where nothing is carried
pub last_none : (part out : List ℕ) → length part ≡ 0 → Put out 0 (answers_of (last_line part)) out 0
last_none [] out none = put_none out 0
last_none (b ∷ bs) out none = absurd (omega arith)

-- What is put at the front of a list with room for it can be taken from there.
pub put_within : {xs ys out : List ℕ} {n : ℕ} → length ys ≤ length xs → Put xs 0 ys out n → n ≤ length out
put_within {ys = ys} room put =
    let long = put_length put (omega arith) in
    omega (arith, put.next)

-- ---- a piece of which `part` has come already, cut at its first newline

module _ {piece before rest : List ℕ} (cut : IsCut newline piece before rest) (part : List ℕ) where
  ends : index_of newline piece < length piece
  ends = omega (arith, cut.at, cut.whole)

  pub next_answers : answers_of (ended_lines part piece) ≡ answer_line (part ++ before) ++ answers_of (ended_lines [] rest)
  next_answers =
      ap answers_of (past_newline ended_along part piece ends)
      ∙ ap₂ (λ (line d : List ℕ). answer_line (part ++ line) ++ answers_of (ended_lines [] d)) (sym cut.before_is) (sym cut.rest_is)

  pub next_left : part_left part piece ≡ part_left [] rest
  next_left = past_newline left_along part piece ends ∙ ap (part_left []) (sym cut.rest_is)

-- where no newline cuts it
module _ (piece : List ℕ) (none : index_of newline piece ≡ length piece) (part : List ℕ) where
  pub no_answers : answers_of (ended_lines part piece) ≡ []
  no_answers = ap answers_of (to_end ended_along part piece (omega arith))

  pub all_left : part_left part piece ≡ part ++ piece
  all_left = to_end left_along part piece (omega arith)

-- ---- line after line

-- Answers stand in `out` up to `at`, and the lines of `rest` are still to be answered: with their answers put there, those of `piece` are.
pub record Answering (piece out₀ : List ℕ) (at₀ : ℕ) (out rest : List ℕ) (at : ℕ) : Type 0 where
  pub same_room : length out ≡ length out₀
  pub room : at + answer_most * length rest ≤ length out₀
  pub answers : {out₁ : List ℕ} {n : ℕ} → Put out at (answers_of (ended_lines [] rest)) out₁ n → Put out₀ at₀ (answers_of (ended_lines [] piece)) out₁ n
  pub left : part_left [] rest ≡ part_left [] piece

-- before the first line
pub none_answered : (piece out : List ℕ) (at : ℕ) → at + answer_most * length piece ≤ length out → Answering piece out at out piece at
none_answered piece out at room = record { same_room = refl; room = room; answers = λ put. put; left = refl }

module _ {piece out₀ : List ℕ} {at₀ : ℕ} {out rest : List ℕ} {at : ℕ} (a : Answering piece out₀ at₀ out rest at) where
  -- one line more
  module _ {line after : List ℕ} (cut : IsCut newline rest line after) where
    pub line_room : at + answer_most ≤ length out
    line_room = omega (arith, a.same_room, a.room, cut.whole)

    pub line_answered : {out' : List ℕ} {at' : ℕ} → Put out at (answer_line line) out' at' → Answering piece out₀ at₀ out' after at'
    line_answered put =
        let short : length (answer_line line) ≤ answer_most = answer_size line in
        record {
          same_room = put_length put (omega (arith, line_room)) ∙ a.same_room;
          room = omega (arith, put.next, a.room, cut.whole);
          answers = λ more. a.answers (put_as (put_both put (omega (arith, line_room)) more) (sym (next_answers cut [])));
          left = sym (next_left cut []) ∙ a.left;
        }

  -- no line more
  module _ (none : index_of newline rest ≡ length rest) where
    pub all_answered : Put out₀ at₀ (answers_of (ended_lines [] piece)) out at
    all_answered = a.answers (put_as (put_none out at) (sym (no_answers rest none [])))

    pub rest_left : rest ≡ part_left [] piece
    rest_left = sym (all_left rest none []) ∙ a.left

-- ---- the first line of a piece, and the others

module _ {piece before rest : List ℕ} (cut : IsCut newline piece before rest) (part : List ℕ) {out out₁ : List ℕ} {at : ℕ}
    (room : answer_most * length piece ≤ length out) (first : Put out 0 (answer_line (part ++ before)) out₁ at) where
  pub room_after : at + answer_most * length rest ≤ length out₁
  room_after =
      let short = answer_size (part ++ before) in
      let same = put_length first (omega (arith, room, cut.whole)) in
      omega (arith, room, first.next, cut.whole)

  pub piece_answered : {out₂ : List ℕ} {n : ℕ} → Put out₁ at (answers_of (ended_lines [] rest)) out₂ n → Put out 0 (answers_of (ended_lines part piece)) out₂ n
  piece_answered others = put_as (put_both first (omega arith) others) (sym (next_answers cut part))
