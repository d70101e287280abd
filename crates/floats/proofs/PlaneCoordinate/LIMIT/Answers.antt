-- The limit's bit pattern is that of the limit in `specs/`, by computation.
use Rattle.std.proofs.Common.{refl}
use lib.Ieee.{of_bits}
use Rattle.floats.proofs.PlaneCoordinate.LIMIT.Goals as goal

pub returns : goal.returns
unfolding of_bits
returns c = refl
