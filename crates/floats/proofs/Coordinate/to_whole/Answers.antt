-- The kind's laws give what `whole_units` asks: its unit is at most that of degrees, and its limit at most that of the plane.
use Rattle.std.proofs.Common.{arith}
use Rattle.floats.proofs.Coordinates.{within_highest}
use Rattle.floats.proofs.Coordinate.to_whole.Goals as goal

pub whole_units-requires : goal.whole_units-requires
whole_units-requires g c =
    let kind = g.met.Self.Coordinate.laws in
    (omega (arith, c.UNIT.ensures, kind.unit_small), within_highest kind c.args.x c.requires)
