use Rattle.std.proofs.iter.Serving.{serving}
use Rattle.tallies.proofs.Outcomes.{place_held, place_new}
use Rattle.tallies.proofs.place_for.Goals as goal

pub returns : goal.returns
returns c = grind (serving, place_held, place_new)
