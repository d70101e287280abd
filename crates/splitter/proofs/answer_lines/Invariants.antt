-- The invariant of the loop of `splitter::answer_lines`: what is written, with the answers still to come, is all. Assumes nothing.
use Rattle.std.proofs.Common.{length}
use Rattle.splitter.proofs.Answering.{Answering}
use Rattle.splitter.proofs.answer_lines.Given as goal

abbrev pub invariant-loop-line : goal.invariant-loop-line
invariant-loop-line l = Answering l.piece l.initial.out l.fn.at l.out l.rest l.written

abbrev pub decreases-loop-line : goal.decreases-loop-line
decreases-loop-line l = length l.rest
