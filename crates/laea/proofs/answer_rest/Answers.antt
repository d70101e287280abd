-- `laea::answer_rest` is safe: an answer has at most 32 bytes. Assumes nothing.
use Rattle.std.proofs.Common.{sym, length-take-le}
use Rattle.splitter.specs.Splitting.{part_of}
use Rattle.splitter.proofs.Answering.{last_size, put_within}
use Rattle.laea.proofs.answer_rest.Goals as goal

pub slice_bounds-out-end : goal.slice_bounds-out-end
slice_bounds-out-end g c = put_within (last_size (part_of c.args.carried.now)) c.answer_last-n.ensures

pub slice_bounds-write_all-end : goal.slice_bounds-write_all-end
slice_bounds-write_all-end g c = sym (length-take-le _ _ (put_within (last_size (part_of c.args.carried.now)) c.answer_last-n.ensures))
