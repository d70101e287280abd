-- Rounded division, document 01, "Words": near(n/d) is the whole number nearest to n/d, halves away from zero.
-- The divisor d is a positive whole number.
use Rattle.std.specs.Prelude.{ℕ, ◌+◌, ◌*◌, ◌/◌, Bool, true, false, ℤ, pos, neg_ℤ, nat_abs}
use Rattle.std.specs.Int.Signed.{lt_z}

-- The number of a given sign and size.
abbrev pub signed : Bool → ℕ → ℤ
signed true n = neg_ℤ (pos n)
signed false n = pos n

-- For n ≥ 0: the greatest whole number that is not above n/d + 1/2.
unfoldable pub nearest : ℕ → ℕ → ℕ
nearest n d = (2 * n + d) / (2 * d)

-- A negative n is rounded as its size is, and the sign put back.
unfoldable pub near : ℤ → ℕ → ℤ
near n d = signed (lt_z n (pos 0)) (nearest (nat_abs n) d)
