-- Document 01, "Words": root(n) is the greatest whole number whose square is at most n.
use Rattle.std.specs.Prelude.{ℕ, ◌*◌, leb}
use Rattle.integers.specs.Greatest.{greatest}

-- No number above n has a square at most n, so the search ends at n.
unfoldable pub root : ℕ → ℕ
root n = greatest (λ r. leb (r * r) n) n
