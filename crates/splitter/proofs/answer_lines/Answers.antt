-- `splitter::answer_lines` meets its contract: each turn answers a line, and at the end none is left. Assumes nothing.
use Rattle.std.proofs.Common.{◌≡◌, length, rules}
use Rattle.text.specs.Ascii.{newline}
use Rattle.text.specs.Cutting.{index_of, IsCut}
use Rattle.splitter.proofs.Answering.{line_answered, all_answered, rest_left}
use Rattle.splitter.proofs.answer_lines.Goals as goal

pub loop-line-preserved : goal.loop-line-preserved
loop-line-preserved c =
    let cut : IsCut newline c.loop-line.rest.now c.in-Some.line.now c.in-Some.after.now = search rules in
    line_answered c.loop-line.invariant cut c.answer_at-written.ensures

pub returns-clause-put : goal.returns-clause-put
returns-clause-put c =
    let none : index_of newline c.loop-line.rest.now ≡ length c.loop-line.rest.now = search rules in
    all_answered c.loop-line.invariant none

pub returns-clause-rest : goal.returns-clause-rest
returns-clause-rest c =
    let none : index_of newline c.loop-line.rest.now ≡ length c.loop-line.rest.now = search rules in
    rest_left c.loop-line.invariant none
