-- Document 01, "The program": "A newline ends a line; the last may lack it." Input comes in pieces.
use Rattle.std.specs.Prelude.{ℕ, cond, List, [], ◌∷◌, ◌++◌, eqb, length, take}
use Rattle.requests.specs.Requests.{most_kept}
use Rattle.text.specs.Ascii.{newline}
use Rattle.lines.specs.Lines.{answer_line}
use Rattle.splitter.specs.Carrying.{padded, kept_carried}
use Rattle.splitter.specs.declared.part.Carried.{Carried}

-- Where `part` of a line has come already: the lines that a piece of input ends, and the part of a line that is left after it.
abbrev pub ended_lines : List ℕ → List ℕ → List (List ℕ)
ended_lines part [] = []
ended_lines part (b ∷ bs) = cond (eqb b newline) (part ∷ ended_lines [] bs) (ended_lines (part ++ (b ∷ [])) bs)

abbrev pub part_left : List ℕ → List ℕ → List ℕ
part_left part [] = part
part_left part (b ∷ bs) = cond (eqb b newline) (part_left [] bs) (part_left (part ++ (b ∷ [])) bs)

-- "the last may lack it": a part that is left at the input's end is a line; nothing after the last newline is none
abbrev pub last_line : List ℕ → List (List ℕ)
last_line [] = []
last_line (b ∷ bs) = (b ∷ bs) ∷ []

-- the lines of a whole input
abbrev pub lines_of : List ℕ → List (List ℕ)
lines_of input = ended_lines [] input ++ last_line (part_left [] input)

-- the answers of lines, one after the other
abbrev pub answers_of : List (List ℕ) → List ℕ
answers_of [] = []
answers_of (line ∷ lines) = answer_line line ++ answers_of lines

-- what is written for a whole input
abbrev pub output_of : List ℕ → List ℕ
output_of input = answers_of (lines_of input)

-- Of a part that is left, the bytes are kept that decide its answer.
abbrev pub kept : List ℕ → List ℕ
kept part = take most_kept part

-- what is written for an input that comes in pieces, where only the kept bytes are carried from one to the next
abbrev pub output_from : List ℕ → List (List ℕ) → List ℕ
output_from part [] = answers_of (last_line part)
output_from part (piece ∷ pieces) = answers_of (ended_lines part piece) ++ output_from (kept (part_left part piece)) pieces

-- the lines of an input that comes in pieces, where the whole part is carried
abbrev pub lines_from : List ℕ → List (List ℕ) → List (List ℕ)
lines_from part [] = last_line part
lines_from part (piece ∷ pieces) = ended_lines part piece ++ lines_from (part_left part piece) pieces

abbrev pub joined : List (List ℕ) → List ℕ
joined [] = []
joined (piece ∷ pieces) = piece ++ joined pieces

-- how a part is carried: its kept bytes, zeros after them in the array, and their number
unfoldable pub carried_of : List ℕ → Carried
carried_of part = record { bytes = padded (kept part); len = length (kept part); is_carried = kept_carried part }

-- the part that is carried
abbrev pub part_of : Carried → List ℕ
part_of c = take c.len c.bytes
