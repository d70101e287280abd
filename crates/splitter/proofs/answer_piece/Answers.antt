-- `splitter::answer_piece` meets its contract. Where the piece has a newline, the line that it ends is answered, then the lines after it, and what is
-- left after the last newline is carried; where it has none, all of it joins what is carried and nothing is answered. Assumes nothing.
use Rattle.std.proofs.Common.{◌≡◌, List, [], ℕ, ◌++◌, ◌∙◌, sym, ap, length, rules}
use mathlib.Core.Path.{ap₂}
use Rattle.text.specs.Ascii.{newline}
use Rattle.text.specs.Cutting.{index_of, IsCut}
use Rattle.text.proofs.Pasting.{put_as, put_none}
use Rattle.splitter.specs.Splitting.{carried_of, part_of}
use Rattle.splitter.proofs.Carrying.{carried_kept}
use Rattle.splitter.proofs.Answering.{next_left, no_answers, all_left, room_after, piece_answered}
use Rattle.splitter.proofs.answer_piece.Goals as goal

pub returns-in_default-clause-put : goal.returns-in_default-clause-put
returns-in_default-clause-put c =
    let none : index_of newline c.args.piece.now ≡ length c.args.piece.now = search rules in
    put_as (put_none c.args.out.now 0) (sym (no_answers c.args.piece.now none (part_of c.args.carried.now)))

pub returns-in_default-clause-carried_value : goal.returns-in_default-clause-carried_value
returns-in_default-clause-carried_value c =
    let none : index_of newline c.args.piece.now ≡ length c.args.piece.now = search rules in
    c.carry.ensures ∙ ap carried_of (sym (all_left c.args.piece.now none (part_of c.args.carried.now)))

pub answer_lines-answered-requires-clause-room : goal.answer_lines-answered-requires-clause-room
answer_lines-answered-requires-clause-room c =
    let cut : IsCut newline c.args.piece.now c.in-Some.end.now c.in-Some.rest.now = search rules in
    room_after cut (part_of c.args.carried.now) c.requires.room c.answer_first-written.ensures.put

pub returns-clause-put : goal.returns-clause-put
returns-clause-put c =
    let cut : IsCut newline c.args.piece.now c.in-Some.end.now c.in-Some.rest.now = search rules in
    piece_answered cut (part_of c.args.carried.now) c.requires.room c.answer_first-written.ensures.put c.answer_lines-answered.ensures.put

pub returns-clause-carried_value : goal.returns-clause-carried_value
returns-clause-carried_value c =
    let cut : IsCut newline c.args.piece.now c.in-Some.end.now c.in-Some.rest.now = search rules in
    let left = c.answer_lines-answered.ensures.rest ∙ sym (next_left cut (part_of c.args.carried.now)) in
    c.carry-2.ensures ∙ ap carried_of (ap₂ (λ (p q : List ℕ). p ++ q) (ap part_of c.answer_first-written.ensures.nothing ∙ carried_kept []) left)
