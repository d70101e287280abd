-- `is_on_plane` meets its contract: both coordinates are tested against the plane limits. Assumes nothing.
use borrow.Author.Rules.{rules}
use mathlib.Core.Path.{ap₂, ◌∙◌}
use mathlib.Core.Bool.{◌&&◌}
use lib.IntN.{ℤ, pos, neg_ℤ}
use mir.Facts.{to_z-of_z}
use Rattle.units.specs.Spans.{within, on_plane}
use Rattle.units.proofs.is_on_plane.Statement.{statement}
use Rattle.units.proofs.is_on_plane.Tie as tie

are-within-requires : tie.Need-are_within-requires
are-within-requires c κs = search rules

returns : tie.Need-returns
unfolding on_plane
returns c =
    c.are_within.ensures
    ∙ ap₂ (λ (x y : ℤ). within (neg_ℤ (pos 5_000_000_000)) (pos 5_000_000_000) x && within (neg_ℤ (pos 5_000_000_000)) (pos 5_000_000_000) y)
    (to_z-of_z c.before.ranges.easting) (to_z-of_z c.before.ranges.northing)

pub is_on_plane_spec : {M : Type 1} → statement M
is_on_plane_spec = tie.close (tie.spec are-within-requires returns)
