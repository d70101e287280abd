use Rattle.std.proofs.Common.{to_z-of_z, arith}
use Rattle.std.proofs.lemmas.Int.{ints}
use Rattle.cells.specs.Cells.{numbered}
use Rattle.cells.proofs.Sides.{top_most}
use Rattle.cells.proofs.Side.check_numbers.Goals as goal

pub returns : goal.returns
unfolding numbered
returns c =
    let small = top_most c.args.self in
    grind (arith, ints, to_z-of_z)
