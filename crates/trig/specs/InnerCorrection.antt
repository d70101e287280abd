-- Inner: the rise over a minute, and the correction between two minutes as the code adds it to the straight line. The paper's own fraction is in
-- Sine.antt.
use Rattle.std.specs.Prelude.{ℕ, suc, ◌-◌, ◌*◌, ◌/◌}
use Rattle.units.specs.Units.{minute}
use Rattle.sine_table.specs.Table.{entry}

-- T[k+1] − T[k], and what it is at most
unfoldable pub rise_of : ℕ → ℕ
rise_of k = entry (suc k) - entry k

abbrev pub most_rise : ℕ
most_rise = 295_000

-- r·(60,000 − r) is at most this.
abbrev pub most_product : ℕ
most_product = 900_000_000

-- T[k]·84,616·f·(1 − f)/(2·10^12) in 60,000ths, rounded down, where `product` is r·(60,000 − r).
unfoldable pub whole_correction : ℕ → ℕ → ℕ
whole_correction low product = low * product * 84_616 / (2_000_000_000_000 * minute)
