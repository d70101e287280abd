-- What came back is on the globe, so its gaps are in range; each arm adds to the tally what the definition adds for its answer.
use Rattle.std.proofs.Common.{◌≡◌, ◌≤◌, ℤ, ◌-ℤ◌, nat_abs, sym, ap, ap₂, ◌∙◌, lit<, lit≤}
use Rattle.std.specs.Prelude.{Result, Ok}
use Rattle.billionths.proofs.Calls.{back}
use Rattle.proof_kit.proofs.Range.{kept}
use Rattle.units.specs.Units.{right_angle, half_turn}
use Rattle.units.specs.declared.refusals.Refusal.{Refusal}
use Rattle.latitudes.specs.declared.Geodetic.{Geodetic}
use Rattle.parameters.specs.declared.Parameters.{Parameters}
use Rattle.azimuthal_forward.specs.declared.GeodeticPosition.{GeodeticPosition}
use Rattle.azimuthal_forward.specs.Answer.{forward_of}
use Rattle.azimuthal_inverse.specs.Answer.{GeodeticAnswer, Position, geodetic_answer}
use Rattle.round_trip.specs.RoundTrip.{there_and_back}
use Rattle.worst_gaps.specs.InnerGaps.{latitude_gap, gap_thousandths}
use Rattle.worst_gaps.specs.InnerTallies.{with_trip, compared, trip_of}
use Rattle.worst_gaps.proofs.ReadBack.{read_size}
use Rattle.worst_gaps.proofs.BackLaws.{back_on_globe}
use Rattle.worst_gaps.proofs.trips.trip.Goals as goal

-- the answer for the way there and back, as the definitions have it
abbrev answer : Parameters → Geodetic → ℤ → GeodeticAnswer
answer p lat lon = there_and_back p (forward_of p lat lon)

module _ (p : Parameters) (lat : Geodetic) (lon : ℤ) (h : nat_abs lon ≤ half_turn) (r : Result GeodeticPosition Refusal) (told : geodetic_answer r ≡ answer p lat (back lon)) where
  answer_is : geodetic_answer r ≡ answer p lat lon
  answer_is = told ∙ ap (answer p lat) (kept lon h (lit< tt))

  -- a position that came back
  module _ (at : GeodeticPosition) (is : r ≡ Ok at) where
    came_back : answer p lat lon ≡ Position at.latitude at.longitude
    came_back = sym answer_is ∙ ap geodetic_answer is

    on_globe : (nat_abs at.latitude.0 ≤ right_angle) × (nat_abs at.longitude ≤ half_turn)
    on_globe = back_on_globe p (forward_of p lat lon) at.latitude at.longitude came_back

pub returns-in-Err : goal.returns-in-Err
unfolding trip_of
returns-in-Err c =
    let p = c.args.projection.now.set in
    let at = c.args.at in
    c.refuse.ensures
    ∙ ap (λ (r : GeodeticAnswer). compared p at.latitude at.longitude r c.args.seen)
    (sym (ap geodetic_answer c.in-Err.is) ∙ answer_is p at.latitude at.longitude c.requires.1 _ c.there_and_back.ensures.equation)

pub longitude_gap-requires : goal.longitude_gap-requires
longitude_gap-requires c =
    let at = c.args.at in
    let globe = on_globe c.args.projection.now.set at.latitude at.longitude c.requires.1 _ c.there_and_back.ensures.equation c.in-Ok.back c.in-Ok.is in
    (c.requires.0, read_size at.longitude c.requires.1 (lit< tt) (lit≤ tt), read_size c.in-Ok.back.longitude globe.1 (lit< tt) (lit≤ tt))

pub returns-in-Ok : goal.returns-in-Ok
unfolding trip_of
returns-in-Ok c =
    let p = c.args.projection.now.set in
    let at = c.args.at in
    let to = c.in-Ok.back in
    let told = c.there_and_back.ensures.equation in
    let globe = on_globe p at.latitude at.longitude c.requires.1 _ told to c.in-Ok.is in
    let east : c.longitude_gap.result ≡ gap_thousandths p at.latitude at.longitude to.longitude =
    c.longitude_gap.ensures ∙ ap₂ (gap_thousandths p at.latitude) (kept at.longitude c.requires.1 (lit< tt)) (kept to.longitude globe.1 (lit< tt)) in
    let north : c.abs_diff.result ≡ latitude_gap at.latitude to.latitude =
    c.abs_diff.ensures ∙ ap₂ (λ (x y : ℤ). nat_abs (x -ℤ y)) (kept to.latitude.0 globe.0 (lit< tt)) (kept at.latitude.0 c.requires.0 (lit< tt)) in
    c.add.ensures
    ∙ ap₂ (with_trip c.args.seen) north east
    ∙ ap (λ (r : GeodeticAnswer). compared p at.latitude at.longitude r c.args.seen)
    (sym (came_back p at.latitude at.longitude c.requires.1 _ told to c.in-Ok.is))
