-- What is left of the positions, run from what has been seen, gives what all of them give from nothing.
use Rattle.std.proofs.Common.{◌≡◌, ◌-◌}
use Rattle.worst_gaps.specs.InnerPositions.{start}
use Rattle.worst_gaps.specs.InnerTallies.{no_trips, run_of}
use Rattle.worst_gaps.proofs.trips.run.Given as goal

abbrev pub invariant-loop : goal.invariant-loop
invariant-loop l = run_of l.projection.set (l.count - l.counter) l.s l.seen ≡ run_of l.projection.set l.count start no_trips
