-- Document 02, c): the code of a cell in the INSPIRE geographical grid systems, read from bytes "that hold nothing else". Sides are in cm; bytes are
-- ASCII.
use Rattle.std.specs.Prelude.{ℕ, false, cond, List, ℤ, pos, nat_abs, Option, Some, None, Result, Ok, Err}
use Prim.Native.Char.{code}
use Rattle.std.specs.Int.Signed.{le_z}
use Rattle.units.specs.declared.refusals.Refusal.{Refusal}
use Rattle.units.specs.Refusals.{not_a_code, number}
use Rattle.cells.specs.declared.Side.{Side}
use Rattle.cells.specs.Cells.{top, side_length}
use Rattle.text.specs.Ascii.{same_text}
use Rattle.text.specs.Numbers.{Numeral, Number, Other, leading_zero, unsigned_of}
use Rattle.text.specs.Cutting.{up_to, after}
use Rattle.grid_codes.specs.Codes.{side_text}
use Rattle.code_reading.specs.declared.CodeCell.{CodeCell}

abbrev pub byte_N : ℕ
byte_N = code "N"

abbrev pub byte_E : ℕ
byte_E = code "E"

-- the side with this text, or the next one asked for
abbrev pub named : ℤ → List ℕ → Numeral → Numeral
named side text next = cond (same_text text (side_text side)) (Number side) next

unfoldable pub side_named : List ℕ → Numeral
side_named text = named (pos 10_000) text (named (pos 100_000) text (named (pos 1_000_000) text Other))

abbrev pub side_numeral : Option Side → Numeral
side_numeral (Some side) = Number (pos (side_length side))
side_numeral None = Other

-- a number that is at most `most`
abbrev pub capped : ℕ → Numeral → Numeral
capped most (Number z) = cond (le_z z (pos most)) (Number z) Other
capped most Other = Other

-- "cell numbers from 0 to 5,000,000,000 divided by the side, without leading zeros"; all of them have fewer than ten digits
unfoldable pub cell_numeral : ℤ → List ℕ → Numeral
cell_numeral side digits = cond (leading_zero digits) Other (capped (top (nat_abs side)) (unsigned_of false digits))

-- the side and the numbers of the cell, or the refusal number alone
pub data ReadCode : Type 0 where
  Cell : ℤ → ℤ → ℤ → ReadCode
  Unread : ℕ → ReadCode

abbrev pub code_answer : Result CodeCell Refusal → ReadCode
code_answer (Ok cell) = Cell (pos (side_length cell.side)) cell.east cell.north
code_answer (Err refusal) = Unread (number refusal)

-- where no cell is found, the text is not of this form
abbrev pub code_found : Option CodeCell → ReadCode
code_found (Some cell) = Cell (pos (side_length cell.side)) cell.east cell.north
code_found None = Unread not_a_code

-- "31 text not of this form": bytes that are no cell number
abbrev pub of_numbers : ℤ → Numeral → Numeral → ReadCode
of_numbers side (Number east) (Number north) = Cell side east north
of_numbers side (Number east) Other = Unread not_a_code
of_numbers side Other north = Unread not_a_code

-- what follows the N: the north number up to the first E, and the east number after it
unfoldable pub numbers_of : ℤ → List ℕ → ReadCode
numbers_of side text = of_numbers side (cell_numeral side (after byte_E text)) (cell_numeral side (up_to byte_E text))

-- bytes that name no side
abbrev pub of_side : Numeral → List ℕ → ReadCode
of_side (Number side) text = numbers_of side text
of_side Other text = Unread not_a_code

-- the side up to the first N, and the numbers after it
unfoldable pub code_of : List ℕ → ReadCode
code_of text = of_side (side_named (up_to byte_N text)) (after byte_N text)

-- the number and the values of each case
pub record CodeTold : Type 0 where
  pub refusal : ℕ
  pub side : ℤ
  pub east : ℤ
  pub north : ℤ

abbrev pub read_told : ReadCode → CodeTold
read_told (Cell side east north) = record { refusal = 0; side = side; east = east; north = north }
read_told (Unread number) = record { refusal = number; side = pos 0; east = pos 0; north = pos 0 }

-- what the answer tells
unfoldable pub told_of_text : List ℕ → CodeTold
told_of_text text = read_told (code_of text)
