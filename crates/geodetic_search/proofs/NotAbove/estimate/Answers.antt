-- The coefficients and a latitude are small, so that the three terms leave room for half a unit, and the rounded correction is below
-- 1,000,000 mas. Assumes nothing.
use Rattle.std.proofs.Common.{◌≤◌, ◌*◌, lit<, arith}
use lib.IntN.{nat_abs}
use mir.Syntax.{w64}
use mir.Val.{to_z, of_z}
use Rattle.proof_kit.proofs.Range.{code, fits, read_size, returned}
use Rattle.proof_kit.proofs.Size.{as_size}
use Rattle.integers.proofs.Rounding.{near_at_most}
use Rattle.units.specs.Units.{unit}
use Rattle.latitudes.proofs.AuthalicLaws.{three_lines_size}
use Rattle.geodetic_search.proofs.NotAbove.estimate.Goals as goal

terms_small : (c : goal.After-three_lines-terms) → nat_abs c.three_lines-terms.result ≤ 47_000_000 * unit
terms_small c = three_lines_size c.reversed.result.small c.three_lines-terms.result (to_z w64 (of_z w64 c.args.self.now.beta.0)) c.three_lines-terms.ensures

pub near-requires : goal.near-requires
near-requires c = (lit< tt, rw (returned c.three_lines-terms.type_inv) (omega (arith, terms_small c)))

correction_small : (c : goal.After-near) → nat_abs c.near.result ≤ 1_000_000
correction_small c =
    rw c.near.ensures
    (near_at_most _ 64_000_000_000 1_000_000 (lit< tt) (rw (returned c.three_lines-terms.type_inv) (omega (arith, terms_small c.before))))

pub overflow_add-beta : goal.overflow_add-beta
overflow_add-beta c = let s = correction_small c in fits (search (code, c.args.self.now.beta_size) depth 40 fits 20000) tt

pub count_from_pole-requires : goal.count_from_pole-requires
count_from_pole-requires c =
    let s = correction_small c in rw as_size (read_size (search (code, c.args.self.now.beta_size) depth 40 fits 20000) tt)
