-- The paper's four lines. Their bytes are read and the answers' bytes printed by computation, and so are the tests of each position. At the centre u
-- and w are 0, so that easting and northing are the false origin's; opposite to it the nearness is too small; the false origin itself is the centre;
-- and the last latitude is beyond the pole. Assumes nothing.
use mathlib.Core.Path.{◌≡◌, refl, ap, ap₂, ◌∙◌}
use mathlib.Core.Bool.{true, false}
use native.Mathlib.Nat.{le_trans}
use lib.Dec.{lit<}
use lib.IntN.{ℤ, pos, neg_ℤ, ◌+ℤ◌, ◌*ℤ◌, *ℤ-zero}
use lib.Signed.{◌≤ℤ◌}
use Rattle.integers.specs.Near.{near, nearest}
use Rattle.integers.proofs.Rounding.{near_zero}
use Rattle.units.specs.Spans.{within, same, on_plane}
use Rattle.sine_table.specs.Table.{entry}
use Rattle.trig.specs.Sine.{between, first_quarter, first_half, one_turn, sine, cosine}
use Rattle.latitudes.specs.declared.Geodetic.{Geodetic}
use Rattle.latitudes.specs.Latitude.{terms, rounded, beta}
use Rattle.parameters.specs.ParameterSet.{etrs_laea}
use Rattle.constants.specs.Derived.{to_mas, e4, e6, k2, k4, k6, series_of, β0, S0, C0, constants_of}
use Rattle.azimuthal_forward.specs.Steps.{H, b, c, u, v, w, G, dE, dN, near_enough}
use Rattle.azimuthal_forward.specs.Answer.{Plane, on_globe, nearness, easting_of, northing_of, forward_of}
use Rattle.azimuthal_forward.proofs.ForwardLaws.{H-least}
use Rattle.azimuthal_forward.proofs.AnswerLaws.{forward_off_globe, forward_too_far, forward_plane}
use Rattle.azimuthal_inverse.specs.Steps.{at_origin}
use Rattle.azimuthal_inverse.specs.Answer.{Position, inverse_of}
use Rattle.azimuthal_inverse.proofs.AnswerLaws.{from_origin, inverse_on_plane}
use Rattle.text.specs.Cutting.{index_after, index_of}
use Rattle.text.specs.Numbers.{unsigned_of, number_of, decimal, number_text}
use Rattle.requests.specs.Requests.{request_of}
use Rattle.lines.specs.Lines.{plane_reply, position_reply, reply_of, answer_text}
use Rattle.replies.specs.Replies.{reply_text}
use Rattle.lines.specs.Theorems.{PaperLines}
use Rattle.parameters.proofs.Fields.{etrs_accepted}
use Rattle.lines.proofs.Sizes.{k, Δ, G-least}

-- the centre of ETRS-LAEA and the point opposite to it: their latitudes
abbrev φ0 : Geodetic
φ0 = record { 0 = pos 187_200_000 }

abbrev opposite : Geodetic
opposite = record { 0 = neg_ℤ (pos 187_200_000) }

-- the tests of each position, and u and w at the centre
on_globe_tests :
    (on_globe φ0 (pos 36_000_000) ≡ true)
    × (on_globe opposite (neg_ℤ (pos 612_000_000)) ≡ true)
    × (on_globe (record { 0 = pos 324_000_001 }) (pos 0) ≡ false)
unfolding on_globe within
on_globe_tests = (refl, refl, refl)

steps :
    (near_enough (nearness etrs_laea φ0 (pos 36_000_000)) ≡ true)
    × (near_enough (nearness etrs_laea opposite (neg_ℤ (pos 612_000_000))) ≡ false)
    × (u k φ0 (Δ (pos 36_000_000)) ≡ pos 0)
    × (w k φ0 (Δ (pos 36_000_000)) ≡ pos 0)
unfolding near_enough nearness G b c u v w constants_of S0 C0 β0 series_of to_mas e4 e6 k2 k4 k6 beta rounded terms
    sine cosine one_turn first_half first_quarter between entry nearest near
steps = (refl, refl, refl, refl)

-- near(r·0/H) is 0
nothing : (r x g : ℤ) → x ≡ pos 0 → pos 20_000_000 ≤ℤ g → near (r *ℤ x) (H g) ≡ pos 0
nothing r x g e close =
    ap (λ (z : ℤ). near z (H g)) (ap (λ (y : ℤ). r *ℤ y) e ∙ *ℤ-zero r) ∙ near_zero (H g) (le_trans (lit< tt) (H-least g close))

centre_answer : forward_of etrs_laea φ0 (pos 36_000_000) ≡ Plane (pos 432_100_000) (pos 321_000_000)
unfolding easting_of northing_of dE dN
centre_answer =
    let close = G-least φ0 (pos 36_000_000) steps.0 in
    let g = G k φ0 (Δ (pos 36_000_000)) in
    forward_plane etrs_laea φ0 (pos 36_000_000) etrs_accepted on_globe_tests.0 steps.0
    ∙ ap₂ (λ (x y : ℤ). Plane (pos 432_100_000 +ℤ x) (pos 321_000_000 +ℤ y))
    (nothing k.rd (u k φ0 (Δ (pos 36_000_000))) g steps.2 close)
    (nothing k.rn (w k φ0 (Δ (pos 36_000_000))) g steps.3 close)

origin_answer : inverse_of etrs_laea (pos 432_100_000) (pos 321_000_000) ≡ Position φ0 (pos 36_000_000)
unfolding on_plane within at_origin same
origin_answer =
    inverse_on_plane etrs_laea (pos 432_100_000) (pos 321_000_000) etrs_accepted refl ∙ from_origin etrs_laea k (pos 0) (pos 0) refl

pub paper_lines : PaperLines
unfolding answer_text request_of reply_of index_of index_after number_of unsigned_of number_text decimal
paper_lines = (
  ap (λ a. reply_text (plane_reply a)) centre_answer,
  ap (λ a. reply_text (plane_reply a)) (forward_too_far etrs_laea opposite (neg_ℤ (pos 612_000_000)) etrs_accepted on_globe_tests.1 steps.1),
  ap (λ a. reply_text (position_reply a)) origin_answer,
  ap (λ a. reply_text (plane_reply a)) (forward_off_globe etrs_laea (record { 0 = pos 324_000_001 }) (pos 0) etrs_accepted on_globe_tests.2),
)
