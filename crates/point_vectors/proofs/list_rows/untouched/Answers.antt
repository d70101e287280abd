-- `list_rows::untouched` meets its contract: the three arrays are those that the outputs are filled with. Assumes nothing.
use Rattle.std.proofs.Common.{◌∙◌}
use lib.Ieee.{of_bits}
use Rattle.point_vectors.specs.InnerLists.{untouched_digest}
use Rattle.point_vectors.proofs.list_rows.untouched.Goals as goal

pub returns : goal.returns
unfolding untouched_digest of_bits
returns c = c.digest_of.ensures ∙ rw (c.numbers.ensures.0, c.numbers-2.ensures.0, c.marks.ensures.0)
