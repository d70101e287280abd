-- A turn gap is at most half a turn and a cosine at most U, so their product is as small as `thousandths` requires.
use Rattle.std.proofs.Common.{ℕ, ◌*◌, ℤ, ◌-ℤ◌, nat_abs, ap, ap₂, ◌∙◌, to_z-of_z}
use Rattle.trig.proofs.Interface.{cosine_size}
use Rattle.round_trip.specs.RoundTrip.{turn_gap}
use Rattle.worst_gaps.specs.InnerGaps.{thousandths_of}
use Rattle.worst_gaps.proofs.GapLaws.{gap_most, weighted}
use Rattle.worst_gaps.proofs.gaps.longitude_gap.Goals as goal

pub thousandths-requires : goal.thousandths-requires
thousandths-requires c = (rw c.turn_gap.ensures (gap_most _), rw (ap nat_abs c.weight.ensures) (cosine_size _))

pub returns : goal.returns
returns c =
    let projection = c.args.projection.now in
    let turn = c.turn_gap.ensures ∙ ap₂ (λ (y x : ℤ). turn_gap (y -ℤ x)) (to_z-of_z c.ranges.y) (to_z-of_z c.ranges.x) in
    c.thousandths.ensures
    ∙ ap₂ (λ (turn weight : ℕ). thousandths_of (turn * weight)) turn (ap nat_abs c.weight.ensures)
    ∙ ap thousandths_of (weighted projection.set projection.constants c.args.lat c.args.x c.args.y projection.of_set)
