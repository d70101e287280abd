-- `splitter::answer_first` meets its contract: the kept bytes of a line have the answer of the whole line. Assumes nothing.
use Rattle.std.proofs.Common.{◌++◌, ◌∙◌, ap}
use Rattle.text.proofs.Pasting.{put_as}
use Rattle.lines.specs.Lines.{answer_line}
use Rattle.lines.proofs.Kept.{answer_kept}
use Rattle.splitter.specs.Splitting.{part_of}
use Rattle.splitter.proofs.Carrying.{carried_kept, none_carried}
use Rattle.splitter.proofs.answer_first.Goals as goal

pub returns-clause-put : goal.returns-clause-put
returns-clause-put c =
    let line = part_of c.args.carried.now ++ c.args.part.now in
    put_as c.answer_at-written.ensures
    (ap answer_line (c.as_slice.ensures ∙ ap part_of c.carry.ensures ∙ carried_kept line) ∙ answer_kept line)

pub returns-then-carried-eq0-clause-nothing : goal.returns-then-carried-eq0-clause-nothing
returns-then-carried-eq0-clause-nothing c = none_carried c.args.carried.now c.if-carried-eq0.true
