-- What holds of writing, over the definitions that the contract cites. What `LongestCode` states is proved as `longest_code` in proofs/, and so the
-- others.
use Rattle.std.specs.Prelude.{ℕ, ◌≤◌, ◌≡◌, List, [], ◌∷◌, ℤ, pos, neg_ℤ, nat_abs, length}
use Rattle.units.specs.Refusals.{out_of_limits, negative_cell, little_room, OneOf}
use Rattle.cells.specs.Cells.{top}
use Rattle.text.specs.Ascii.{ascii}
use Rattle.grid_codes.specs.Codes.{Unwritten, code_text, code_refusal, write_refusal, CodeWritten}

-- ---- how long codes are

-- No code of a side is longer than that of its top cell east and north.
abbrev pub LongestCode : Type 0
LongestCode =
    (side east north : ℤ) →
    code_refusal side east north ≡ 0 →
    length (code_text side east north) ≤ length (code_text side (pos (top (nat_abs side))) (pos (top (nat_abs side))))

-- Those cells have codes, of 18, 15 and 14 bytes.
abbrev pub HasLength : ℤ → ℤ → ℕ → Type 0
HasLength side number bytes = (code_refusal side number number ≡ 0) × (length (code_text side number number) ≡ bytes)

abbrev pub LongestLengths : Type 0
LongestLengths =
    HasLength (pos 10_000) (pos 500_000) 18
    × HasLength (pos 100_000) (pos 50_000) 15
    × HasLength (pos 1_000_000) (pos 5_000) 14

-- ---- which refusal numbers there are

-- so that 0 is told of accepted answers alone
abbrev pub WriteNumbers : Type 0
WriteNumbers =
    (side east north : ℤ) (bytes bytes' : List ℕ) (n : ℕ) →
    CodeWritten side east north bytes bytes' (Unwritten n) →
    OneOf (out_of_limits ∷ negative_cell ∷ little_room ∷ []) n

-- ---- witnesses: an accepted answer and each ground of refusal, so that no condition is empty

-- "The 1 km cell of document 001's example is `1kmN2999E3962`", in 13 bytes
abbrev pub ExampleCode : Type 0
ExampleCode =
    (code_text (pos 100_000) (pos 3_962) (pos 2_999) ≡ ascii "1kmN2999E3962")
    × (write_refusal (pos 100_000) (pos 3_962) (pos 2_999) 13 ≡ 0)

-- 3 by the side, and by either number on either side of 0, though a number is negative and no byte is lent; 32 by either number, though no byte is
-- lent; 33 for one byte less than the shortest code has
abbrev pub WriteWitnesses : Type 0
WriteWitnesses =
    (write_refusal (pos 1_000) (neg_ℤ (pos 1)) (pos 0) 0 ≡ 3)
    × (write_refusal (pos 1_000_000) (pos 5_001) (neg_ℤ (pos 1)) 0 ≡ 3)
    × (write_refusal (pos 1_000_000) (neg_ℤ (pos 5_001)) (pos 0) 0 ≡ 3)
    × (write_refusal (pos 100_000) (neg_ℤ (pos 1)) (pos 50_001) 0 ≡ 3)
    × (write_refusal (pos 100_000) (pos 0) (neg_ℤ (pos 50_001)) 0 ≡ 3)
    × (write_refusal (pos 10_000) (neg_ℤ (pos 500_000)) (pos 0) 0 ≡ 32)
    × (write_refusal (pos 10_000) (pos 500_000) (neg_ℤ (pos 1)) 0 ≡ 32)
    × (write_refusal (pos 10_000) (pos 0) (pos 0) 7 ≡ 33)
    × (write_refusal (pos 10_000) (pos 0) (pos 0) 8 ≡ 0)
