-- `laea::answer_some` is safe: the answers of a piece have at most 32 bytes for each of its bytes, so they can be taken from `out`. Assumes nothing.
use Rattle.std.proofs.Common.{◌≤◌, length, take, length-take-le, arith}
use Rattle.splitter.specs.Splitting.{part_of}
use Rattle.splitter.proofs.Answering.{answers_size}
use Rattle.laea.proofs.answer_some.Goals as goal

pub shared_ref_as_front-write_all : goal.shared_ref_as_front-write_all
shared_ref_as_front-write_all g c =
    let piece = take c.in-Ok.n c.read.new.buf in
    let n = c.in-Ok.ensures.bound.0 in
    let short : length piece ≤ 2_048 = omega (arith, n, c.read.auto.buf, length-take-le c.in-Ok.n c.read.new.buf n) in
    omega (arith, answers_size (part_of c.args.carried.now) piece, c.answer_piece-written.ensures.put.next, short)
