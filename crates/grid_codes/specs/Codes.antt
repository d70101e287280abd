-- Document 02, c): the code of a cell in the INSPIRE geographical grid systems, and how it is written. Sides are in cm; bytes are ASCII.
use Rattle.std.specs.Prelude.{ℕ, ◌≡◌, ◌&&◌, cond, List, [], ◌++◌, leb, ℤ, pos, length, drop, Result, Ok, Err}
use Rattle.std.specs.Int.Signed.{le_z}
use Rattle.units.specs.Spans.{same}
use Rattle.units.specs.declared.refusals.Refusal.{Refusal}
use Rattle.units.specs.Refusals.{negative_cell, little_room, number, unless, first_refusal}
use Rattle.units.specs.Answers.{answered, written, Counted, counted}
use Rattle.cells.specs.Cells.{numbers_refusal}
use Rattle.text.specs.Ascii.{ascii}
use Rattle.text.specs.Numbers.{pair_text}

-- ---- the text

-- "100m, 1km and 10km sides"
unfoldable pub side_text : ℤ → List ℕ
side_text side =
    cond (same side (pos 10_000)) (ascii "100m")
    (cond (same side (pos 100_000)) (ascii "1km")
    (cond (same side (pos 1_000_000)) (ascii "10km") []))

-- "side, N and number, E and number", the numbers "without leading zeros". In the text north stands before east; everywhere else here east stands
-- before north.
unfoldable pub code_text : ℤ → ℤ → ℤ → List ℕ
code_text side east north = side_text side ++ pair_text (ascii "N") north (ascii "E") east

-- ---- writing

-- "writing tests 3 (another side, or a number too far from 0 on either side), then 32": 0 where the cell has a code
unfoldable pub code_refusal : ℤ → ℤ → ℤ → ℕ
code_refusal side east north =
    first_refusal (numbers_refusal side east north) (unless (le_z (pos 0) east && le_z (pos 0) north) negative_cell 0)

-- "then 33": "too little room" for this code
unfoldable pub write_refusal : ℤ → ℤ → ℤ → ℕ → ℕ
write_refusal side east north room =
    first_refusal (code_refusal side east north) (unless (leb (length (code_text side east north)) room) little_room 0)

-- how many bytes the code has, or the refusal number alone
pub data WrittenCode : Type 0 where
  Length : ℕ → WrittenCode
  Unwritten : ℕ → WrittenCode

abbrev pub written_answer : Result ℕ Refusal → WrittenCode
written_answer (Ok bytes) = Length bytes
written_answer (Err refusal) = Unwritten (number refusal)

-- the number and the length of each case
abbrev pub written_told : WrittenCode → Counted
written_told (Length bytes) = record { refusal = 0; count = bytes }
written_told (Unwritten number) = record { refusal = number; count = 0 }

-- a text "into the first lent bytes, the rest staying"
abbrev pub into_first : List ℕ → List ℕ → List ℕ
into_first text bytes = text ++ drop (length text) bytes

-- The bytes lent, before and after a call, and its answer.
pub record CodeWritten (side east north : ℤ) (bytes bytes' : List ℕ) (answer : WrittenCode) : Type 0 where
  pub bytes_are : bytes' ≡ written (write_refusal side east north (length bytes)) (into_first (code_text side east north) bytes) bytes
  pub answer_is : answer ≡ answered Unwritten (write_refusal side east north (length bytes)) (Length (length (code_text side east north)))
  pub answer_tells : written_told answer ≡ counted (write_refusal side east north (length bytes)) (length (code_text side east north))
