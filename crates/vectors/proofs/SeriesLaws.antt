-- The set that the latitude of the inverse steps is worked out with: every accepted e2 makes it an accepted set, for its other numbers are
-- within their limits, which computes, and its series is that of e2. Assumes nothing.
use mathlib.Core.Path.{◌≡◌, ap, ◌∙◌}
use mathlib.Core.Bool.{true}
use lib.IntN.{ℤ, pos}
use Rattle.units.specs.Spans.{within, same}
use Rattle.latitudes.specs.InnerSizes.{SmallSeries}
use Rattle.parameters.specs.ParameterSet.{accepted_a, accepted_e2, accepted_lat0, polar, accepted_lon0, accepted_false, set_refusal}
use Rattle.parameters.specs.ParameterSet.{set_of}
use Rattle.constants.specs.declared.Constants.{Constants}
use Rattle.constants.specs.Derived.{series_of, constants_of}
use Rattle.constants.proofs.ConstantsLaws.{sound_as}

-- the set with an e2, as it is read back
module _ {e2 read : ℤ} (same_e2 : read ≡ e2) where
  pub e2_decides : accepted_e2 e2 ≡ true → set_refusal (set_of (pos 637_813_700) read (pos 0) (pos 0) (pos 0) (pos 0)) ≡ 0
  unfolding set_refusal accepted_a accepted_lat0 polar accepted_lon0 accepted_false within same
  e2_decides h = rw (same_e2, h)

  module _ {k : Constants} (are : k ≡ constants_of (set_of (pos 637_813_700) read (pos 0) (pos 0) (pos 0) (pos 0))) where
    pub series_small : accepted_e2 e2 ≡ true → SmallSeries k.series
    series_small h = (sound_as (set_of (pos 637_813_700) read (pos 0) (pos 0) (pos 0) (pos 0)) k (e2_decides h) are).small

    pub series_is : k.series ≡ series_of e2
    unfolding constants_of
    series_is = ap (λ (k : Constants). k.series) are ∙ ap series_of same_e2
