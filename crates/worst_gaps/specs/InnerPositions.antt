-- The positions that are run: a fixed sequence, so that the rows never change.
use Rattle.std.specs.Prelude.{ℕ, ◌+◌, ◌*◌, ◌/◌, ◌%◌, eqb, ℤ}
use Rattle.integers.specs.Near.{signed}
use Rattle.units.specs.Units.{half_turn}
use Rattle.latitudes.specs.declared.Geodetic.{Geodetic}
use Rattle.round_trip.specs.RoundTrip.{farthest_latitude}

-- where the sequence starts
abbrev pub start : ℕ
start = 1

-- the next number of a linear congruential sequence
abbrev pub next_of : ℕ → ℕ
next_of s = (s % 2_147_483_648 * 1_103_515_245 + 12_345) % 2_147_483_648

-- a number of the sequence as one from −most to most
abbrev pub spread_of : ℕ → ℕ → ℤ
spread_of s most = signed (eqb (s / 65_536 % 2) 0) (s % (most + 1))

-- a position at most 89° from the Equator
abbrev pub latitude_at : ℕ → Geodetic
latitude_at s = record { 0 = spread_of s farthest_latitude }

abbrev pub longitude_at : ℕ → ℤ
longitude_at s = spread_of (next_of s) half_turn
