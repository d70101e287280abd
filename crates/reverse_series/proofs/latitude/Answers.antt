-- The series with the coefficients of e2, at β.
use Rattle.std.proofs.Common.{◌≡◌}
use lib.Dec.{lit<}
use Rattle.proof_kit.proofs.Range.{kept, returned}
use Rattle.billionths.proofs.Calls.{back}
use Rattle.reverse_series.specs.InnerSeries.{reversed}
use Rattle.reverse_series.proofs.latitude.Goals as goal

pub returns : goal.returns
unfolding reversed
returns c =
    let e2 : back c.args.e2 ≡ c.args.e2 = kept c.args.e2 c.requires.0 (lit< tt) in
    let beta : back c.args.beta.0 ≡ c.args.beta.0 = kept c.args.beta.0 c.requires.1 (lit< tt) in
    rw (returned {z = c.sum.result} c.sum.type_inv, c.sum.ensures, c.coefficients_of.ensures.0, e2, beta)
