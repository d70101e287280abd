-- The limits of the numbers that the estimate of an angle passes on. The angle does not rest on them: they keep the code within 64 bits.
use Rattle.std.specs.Prelude.{ℕ}

-- A tangent from 0 to 1 is counted in parts of 2^14.
abbrev pub whole_part : ℕ
whole_part = 16_384

-- what a part is taken of
abbrev pub part_limit : ℕ
part_limit = 4_000_000
