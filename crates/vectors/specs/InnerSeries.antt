-- Document 001's reverse series beside document 01's way back from β to φ.
use Rattle.std.specs.Prelude.{ℕ, ℤ, nat_abs, ◌-ℤ◌}
use Rattle.latitudes.specs.declared.Authalic.{Authalic}
use Rattle.geodetic_search.specs.Reverse.{geodetic}
use Rattle.constants.specs.Derived.{series_of}
use Rattle.reverse_series.specs.InnerSeries.{reversed}

-- how far the two are apart, in mas
abbrev pub series_gap : ℤ → Authalic → ℕ
series_gap e2 β = nat_abs ((geodetic (series_of e2) β).0 -ℤ (reversed e2 β).0)

-- the most that they are apart in a row that is right
abbrev pub most_mas : ℕ
most_mas = 2
