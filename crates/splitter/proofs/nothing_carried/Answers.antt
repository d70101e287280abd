-- `splitter::nothing_carried` meets its contract: of no bytes none are kept, and all of the array are zeros. Assumes nothing.
use Rattle.std.proofs.Common.{refl, []}
use Rattle.splitter.specs.Carrying.{padded, kept_carried}
use Rattle.splitter.proofs.Carrying.{carried_as}
use Rattle.splitter.proofs.nothing_carried.Goals as goal

pub invariant_of-result : goal.invariant_of-result
unfolding padded
invariant_of-result c = record { is_carried = kept_carried [] }

pub returns : goal.returns
unfolding padded
returns c = carried_as _ [] refl refl
