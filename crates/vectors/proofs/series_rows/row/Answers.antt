-- `series_rows::row` meets its contract: an accepted e2 is as small as the reverse series asks. Assumes nothing.
use Rattle.std.proofs.Common.{◌≡◌, true, ◌≤◌, nat_abs, ℤ}
use mir.Facts.{to_z-of_z}
use Rattle.units.proofs.Spans.{between}
use Rattle.parameters.specs.ParameterSet.{accepted_e2}
use Rattle.vectors.proofs.series_rows.row.Goals as goal

e2_small : (e2 : ℤ) → accepted_e2 e2 ≡ true → nat_abs e2 ≤ 10_000_000
unfolding accepted_e2
e2_small e2 h = (between e2 0 10_000_000 h).most

pub latitude-right-requires : goal.latitude-right-requires
latitude-right-requires g c = (rw (to_z-of_z c.ranges.e2) (e2_small c.args.e2 c.requires.0), c.requires.1)
