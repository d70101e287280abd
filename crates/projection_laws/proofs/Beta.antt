-- The laws of β, for the coefficients of e2: those of an accepted e2 are small, and with small coefficients the series changes slower than φ.
-- Assumes nothing.
use lib.IntN.{pos}
use Rattle.proof_kit.proofs.Order.{order, abs_between, ≤ℤ-trans}
use Rattle.units.proofs.Spans.{within_bounds}
use Rattle.latitudes.proofs.AuthalicLaws.{beta_odd as odd, beta-≤, beta_north_pole, beta_south_pole}
use Rattle.parameters.specs.ParameterSet.{accepted_e2}
use Rattle.constants.specs.Derived.{series_of}
use Rattle.constants.proofs.SeriesLaws.{series_small}
use Rattle.projection_laws.specs.Theorems.{BetaOdd, BetaNeverFalls, BetaPoles}

pub beta_odd : BetaOdd
beta_odd e2 φ = odd (series_of e2) φ.0

pub beta_never_falls : BetaNeverFalls
unfolding accepted_e2
beta_never_falls e2 ok φ ψ h =
    let e = within_bounds (pos 0) (pos 10_000_000) e2 ok in
    beta-≤ (series_of e2) (series_small e2 (abs_between e2 (≤ℤ-trans (omega order) e.0) e.1)) h

pub beta_poles : BetaPoles
beta_poles e2 = (beta_north_pole (series_of e2), beta_south_pole (series_of e2))
