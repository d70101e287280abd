-- Inner: how small coefficients are, which keeps the code within 64 bits.
use Rattle.std.specs.Prelude.{◌≤◌, ℤ, nat_abs}
use Rattle.latitudes.specs.declared.AuthalicSeries.{AuthalicSeries}

-- The coefficients of every accepted set are this small, which keeps the code within 64 bits.
pub record SmallSeries (k : AuthalicSeries) : Type 0 where
  pub k2_size : nat_abs k.k2 ≤ 691_500
  pub k4_size : nat_abs k.k4 ≤ 1_000
  pub k6_size : nat_abs k.k6 ≤ 10

-- So are those of the reversed series, which starts the search for φ, and three terms with such coefficients are within 64 bits.
pub record SmallTerms (k2 k4 k6 : ℤ) : Type 0 where
  pub k2_size : nat_abs k2 ≤ 45_000_000
  pub k4_size : nat_abs k4 ≤ 250_000
  pub k6_size : nat_abs k6 ≤ 3_000
