-- Inner: what the search for an angle is asked.
use Rattle.std.specs.Prelude.{ℕ}

-- p and q up to this leave room in 64 bits for their product with a sine.
abbrev pub angle_limit : ℕ
angle_limit = 18_000_000_000
