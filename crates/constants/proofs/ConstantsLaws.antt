-- What the steps use of the constants of an accepted set: small coefficients, a sine and a cosine, and radii near the semi-major axis.
-- Assumes nothing.
use mathlib.Core.Path.{◌≡◌, sym, subst}
use Rattle.trig.proofs.Interface.{sine_size, cosine_size}
use Rattle.parameters.specs.declared.Parameters.{Parameters}
use Rattle.constants.specs.declared.Constants.{Constants}
use Rattle.parameters.specs.ParameterSet.{set_refusal}
use Rattle.latitudes.specs.InnerSizes.{SmallSeries}
use Rattle.constants.specs.Derived.{β0, S0, C0, constants_of}
use Rattle.constants.specs.InnerPrepared.{BoundedCentre}
use Rattle.units.proofs.Spans.{Between}
use Rattle.parameters.proofs.AcceptedSet.{accepted_fields}
use Rattle.constants.proofs.SeriesLaws.{series_small}
use Rattle.constants.proofs.ScaleLaws.{e2_small, RD-between, RN-between}

pub record Sound (k : Constants) : Type 0 where
  pub small : SmallSeries k.series
  pub centre : BoundedCentre k
  pub rd_between : Between k.rd 90_909_091 1_080_000_000
  pub rn_between : Between k.rn 90_909_091 1_080_000_000

pub sound : (p : Parameters) → set_refusal p ≡ 0 → Sound (constants_of p)
unfolding constants_of S0 C0
sound p h =
    let ok = accepted_fields p h in
    record {
      small = series_small p.e2 (e2_small p ok);
      centre = record { s0_size = sine_size (β0 p.e2 p.lat0).0; c0_size = cosine_size (β0 p.e2 p.lat0).0 };
      rd_between = RD-between p ok;
      rn_between = RN-between p ok;
    }

-- the same of constants that were handed down
pub sound_as : (p : Parameters) (k : Constants) → set_refusal p ≡ 0 → k ≡ constants_of p → Sound k
sound_as p k h e = subst Sound (sym e) (sound p h)
