-- What holds of numbers as text. What `PrintedRead` states is proved as `printed_read` in proofs/, and so the other.
use Rattle.std.specs.Prelude.{ℕ, ◌<◌, ◌≡◌, false, List, ℤ, nat_abs}
use Rattle.text.specs.Numbers.{Number, leading_zero, unsigned_of, number_of, number_text}

-- Printing a number of at most ten digits and reading it gives it back.
abbrev pub PrintedRead : Type 0
PrintedRead = (z : ℤ) → nat_abs z < 10_000_000_000 → number_of (number_text z) ≡ Number z

-- Reading digits without leading zeros and printing the number gives them back.
abbrev pub ReadPrinted : Type 0
ReadPrinted = (bytes : List ℕ) (z : ℤ) → leading_zero bytes ≡ false → unsigned_of false bytes ≡ Number z → number_text z ≡ bytes
