-- What holds of codes that are written and read, over the definitions that the contracts cite. What `WrittenRead` states is proved as `written_read`
-- in proofs/, and so the others. Each is stated once for all sides.
use Rattle.std.specs.Prelude.{ℕ, ◌≤◌, ◌≡◌, ◌↔◌, List, ℤ, pos, length, take}
use Prim.Native.String.{String}
use Rattle.units.specs.Refusals.{not_a_code}
use Rattle.text.specs.Ascii.{ascii}
use Rattle.grid_codes.specs.Codes.{WrittenCode, Length, code_text, code_refusal, into_first, CodeWritten}
use Rattle.code_reading.specs.Reading.{Cell, Unread, code_of}

-- ---- there and back

-- A text is read as a cell exactly where the cell has a code and the text is that.
abbrev pub ReadExactly : Type 0
ReadExactly =
    (text : List ℕ) (side east north : ℤ) →
    (code_of text ≡ Cell side east north) ↔ ((code_refusal side east north ≡ 0) × (text ≡ code_text side east north))

-- "What is written reads back as the same cell and side": the first bytes, as many as the answer says.
abbrev pub WrittenRead : Type 0
WrittenRead =
    (side east north : ℤ) (bytes bytes' : List ℕ) (n : ℕ) →
    CodeWritten side east north bytes bytes' (Length n) →
    code_of (take n bytes') ≡ Cell side east north

-- "each accepted text is the one that would be written": a call that writes its cell, and is lent as many bytes or more, writes this text.
abbrev pub ReadWritten : Type 0
ReadWritten =
    (text : List ℕ) (side east north : ℤ) (bytes bytes' : List ℕ) (answer : WrittenCode) →
    code_of text ≡ Cell side east north →
    length text ≤ length bytes →
    CodeWritten side east north bytes bytes' answer →
    (answer ≡ Length (length text)) × (bytes' ≡ into_first text bytes)

-- So no two texts name one cell.
abbrev pub OneText : Type 0
OneText =
    (text other : List ℕ) (side east north : ℤ) →
    code_of text ≡ Cell side east north →
    code_of other ≡ Cell side east north →
    text ≡ other

-- ---- the refusal

-- A text is refused exactly where it is the code of no cell.
abbrev pub UnreadExactly : Type 0
UnreadExactly =
    (text : List ℕ) →
    (code_of text ≡ Unread not_a_code) ↔ ((side east north : ℤ) → code_refusal side east north ≡ 0 → text ≡ code_text side east north → ⊥)

-- There is one number, so 0 is told of accepted answers alone.
abbrev pub ReadNumbers : Type 0
ReadNumbers = (text : List ℕ) (n : ℕ) → code_of text ≡ Unread n → n ≡ not_a_code

-- ---- witnesses: an accepted answer and each ground of refusal, so that no condition is empty

abbrev pub ReadWitness : Type 0
ReadWitness = code_of (ascii "1kmN2999E3962") ≡ Cell (pos 100_000) (pos 3_962) (pos 2_999)

abbrev pub NotACode : String → Type 0
NotACode text = code_of (ascii text) ≡ Unread 31

-- a leading zero, a sign, another case, a byte more at the end, the letters exchanged, a number one past the largest, another side, and less than a
-- code
abbrev pub UnreadWitnesses : Type 0
UnreadWitnesses =
    NotACode "1kmN01E1"
    × NotACode "1kmN+1E1"
    × NotACode "1KMN1E1"
    × NotACode "1kmN1E1 "
    × NotACode "1kmN1E1\n"
    × NotACode "1kmE1N1"
    × NotACode "1kmN50001E0"
    × NotACode "1mN1E1"
    × NotACode "1kmN1E"
    × NotACode ""
