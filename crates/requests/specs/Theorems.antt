-- What holds of every line. What `LongIsBad` states is proved as `long_is_bad` in proofs/, and so the other.
use Rattle.std.specs.Prelude.{ℕ, ◌<◌, ◌≡◌, List, length, take}
use Rattle.requests.specs.Requests.{Bad, request_of, line_most, most_kept}

-- A line of more than 25 bytes is of another form.
abbrev pub LongIsBad : Type 0
LongIsBad = (line : List ℕ) → line_most < length line → request_of line ≡ Bad

-- The first 26 bytes of a line decide what it asks for.
abbrev pub KeptAlike : Type 0
KeptAlike = (line : List ℕ) → request_of (take most_kept line) ≡ request_of line
