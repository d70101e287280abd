-- Document 02, request d): "please work the root out with shifts, additions and comparisons only, in at most 32 rounds". A round finds one binary digit
-- of the root of n, from the highest on. Where the digits taken are worth z and w is 2 to the power of how many are left, `square` is z², `r` is
-- z·w, and `bit` is (w/2)², the square of what the next digit is worth; so square + r + bit is the square of z + w/2, and at the end `r` is the
-- root. A half is a shift right by one place, and 4^k is 1 shifted left by 2·k places.
use Rattle.std.specs.Prelude.{ℕ, zero, suc, ◌+◌, ◌/◌, ◌^◌, cond, leb}
use Rattle.integers.specs.declared.TakenDigits.{TakenDigits}

-- One round: the digit is taken where the square that it makes is at most n.
unfoldable pub next_digit : ℕ → ℕ → TakenDigits → TakenDigits
next_digit n bit d =
    cond (leb (d.square + d.r + bit) n)
    (record { square = d.square + d.r + bit; r = d.r / 2 + bit })
    (record { square = d.square; r = d.r / 2 })

-- k rounds, for the digits worth 2^(k−1) down to 1
unfoldable pub rounds : ℕ → ℕ → TakenDigits → TakenDigits
rounds zero n d = d
rounds (suc k) n d = rounds k n (next_digit n (4 ^ k) d)

-- Before the first round no digit is taken.
abbrev pub none_taken : TakenDigits
none_taken = record { square = 0; r = 0 }
