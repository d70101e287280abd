-- The quicker sum is near the definition's, so where its rounding is safe both round to the same number; elsewhere the sum of the three terms is the
-- definition's, with room for half of U, and it is rounded once.
use Rattle.std.proofs.Common.{◌≡◌, ◌≤◌, ◌*◌, sym, ap, ◌∙◌, arith}
use lib.Dec.{lit<}
use lib.IntN.{ℤ, nat_abs}
use Rattle.proof_kit.proofs.Range.{returned}
use Rattle.integers.specs.Near.{near}
use Rattle.integers.proofs.Rounding.{near_at_most}
use Rattle.units.specs.Units.{unit}
use Rattle.latitudes.specs.Latitude.{three_terms, terms, rounded}
use Rattle.latitudes.specs.InnerRounding.{terms_error}
use Rattle.latitudes.proofs.RoundingLaws.{terms_error_size, safe_told}
use Rattle.latitudes.proofs.AuthalicLaws.{three_terms_size, three_lines_size}
use Rattle.latitudes.proofs.Reading.{latitude_read}
use Rattle.latitudes.proofs.correction.Goals as goal

pub near-y-requires : goal.near-y-requires
near-y-requires c =
    let φ = c.args.lat.0 in
    let small = three_lines_size c.terms-series.result.small c.three_lines-about.result φ (rw (latitude_read φ c.requires.1) at c.three_lines-about.ensures) in
    (lit< tt, rw (returned c.three_lines-about.type_inv) (omega (arith, small)))

pub is_safe-requires : goal.is_safe-requires
is_safe-requires c =
    let k = c.terms-series.result.small in
    let φ = c.args.lat.0 in
    let read = returned {z = c.three_lines-about.result} c.three_lines-about.type_inv in
    let about-small = three_lines_size k c.three_lines-about.result φ (rw (latitude_read φ c.requires.1) at c.three_lines-about.ensures) in
    let y-small : nat_abs c.near-y.result ≤ 47_000_000 = rw c.near-y.ensures (near_at_most _ unit 47_000_000 (lit< tt) (rw read about-small)) in
    (rw read (omega (arith, about-small)), rw (returned c.near-y.type_inv) (omega (arith, y-small)), omega (arith, terms_error_size k))

pub returns-then-is_safe : goal.returns-then-is_safe
unfolding rounded terms
returns-then-is_safe c =
    let e = c.terms-series.ensures in
    let close = rw (e.0, e.1, e.2, latitude_read c.args.lat.0 c.requires.1) at c.three_lines-about.ensures in
    let k = c.args.k in
    let error : c.terms_error.result ≡ terms_error k.k2 k.k4 k.k6 = rw (e.0, e.1, e.2) at c.terms_error.ensures in
    sym (safe_told c.three_lines-about.result _ c.is_safe.ensures c.if-is_safe.true (returned c.three_lines-about.type_inv) error
    (three_terms k.k2 k.k4 k.k6 c.args.lat.0) close)

pub near-requires : goal.near-requires
near-requires c =
    let φ = c.args.lat.0 in
    let small : nat_abs c.three_terms.result ≤ 46_000_000 * unit =
    rw (c.three_terms.ensures, latitude_read φ c.requires.1) (three_terms_size c.terms-series.result.small φ) in
    (lit< tt, rw (returned c.three_terms.type_inv) (omega (arith, small)))

pub returns : goal.returns
unfolding rounded terms
returns c =
    let e = c.terms-series.ensures in
    let exact = rw (e.0, e.1, e.2, latitude_read c.args.lat.0 c.requires.1) at c.three_terms.ensures in
    returned c.near.type_inv ∙ c.near.ensures ∙ ap (λ (n : ℤ). near n unit) (returned c.three_terms.type_inv ∙ exact)
