-- Document 001's reverse series: "lat = ß' + [(e^2/3 + 31e^4/180 + 517e^6/5040) . sin 2ß'] + [(23e^4/360 + 251e^6/3780) . sin 4ß']
-- + [(761e^6/45360) . sin 6ß']", by the whole numbers of document 01. "Document 001's reverse series is only compared by a program."
use Rattle.std.specs.Prelude.{◌≤◌, ℤ, pos, nat_abs, ◌+ℤ◌, ◌*ℤ◌}
use Rattle.integers.specs.Near.{near}
use Rattle.units.specs.Units.{unit, U}
use Rattle.trig.specs.Sine.{sine}
use Rattle.latitudes.specs.declared.Geodetic.{Geodetic}
use Rattle.latitudes.specs.declared.Authalic.{Authalic}
use Rattle.constants.specs.Derived.{to_mas, e4, e6}
use Rattle.reverse_series.specs.declared.Coefficients.{Coefficients}

-- Each coefficient is the sum of its terms, rounded one by one, and becomes mas as those of document 01 do.
unfoldable pub coefficients_of : ℤ → Coefficients
coefficients_of e2 =
    record {
      two = to_mas (near e2 3 +ℤ near (pos 31 *ℤ e4 e2) 180 +ℤ near (pos 517 *ℤ e6 e2) 5_040);
      four = to_mas (near (pos 23 *ℤ e4 e2) 360 +ℤ near (pos 251 *ℤ e6 e2) 3_780);
      six = to_mas (near (pos 761 *ℤ e6 e2) 45_360);
    }

-- The coefficients of every accepted e2 are this small, which keeps the code within 64 bits.
pub record SmallCoefficients (k : Coefficients) : Type 0 where
  pub two_size : nat_abs k.two ≤ 10_000_000
  pub four_size : nat_abs k.four ≤ 10_000_000
  pub six_size : nat_abs k.six ≤ 10_000_000

-- β and the three terms, with one rounding
unfoldable pub series : Coefficients → ℤ → ℤ
series k β =
    near (U *ℤ β +ℤ k.two *ℤ sine (pos 2 *ℤ β) +ℤ k.four *ℤ sine (pos 4 *ℤ β) +ℤ k.six *ℤ sine (pos 6 *ℤ β)) unit

unfoldable pub reversed : ℤ → Authalic → Geodetic
reversed e2 β = record { 0 = series (coefficients_of e2) β.0 }
