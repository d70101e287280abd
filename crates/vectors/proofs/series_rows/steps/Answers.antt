-- `series_rows::steps` meets its contract: the set is accepted whatever accepted e2 it has, so its constants may be taken, and their series
-- is that of e2, which is small. Assumes nothing.
use Rattle.std.proofs.Common.{ap, ◌∙◌}
use mir.Facts.{to_z-of_z}
use Rattle.geodetic_search.specs.Reverse.{geodetic}
use Rattle.vectors.proofs.SeriesLaws.{e2_decides, series_small, series_is}
use Rattle.vectors.proofs.series_rows.steps.Goals as goal

pub constants_of-k-requires : goal.constants_of-k-requires
constants_of-k-requires c = e2_decides (to_z-of_z c.ranges.e2) c.requires.0

pub to_geodetic-requires : goal.to_geodetic-requires
to_geodetic-requires c = (series_small (to_z-of_z c.ranges.e2) c.constants_of-k.ensures c.requires.0, c.requires.1)

pub returns : goal.returns
returns c = c.to_geodetic.ensures ∙ ap (λ k. geodetic k c.args.beta) (series_is (to_z-of_z c.ranges.e2) c.constants_of-k.ensures)
