-- What holds of the lines of an input. What `PiecesAlike` states is proved as `pieces_alike` in proofs/, and so the others.
use Rattle.std.specs.Prelude.{ℕ, ◌≡◌, List, [], ◌∷◌, ◌++◌}
use Rattle.text.specs.Cutting.{up_to}
use Rattle.text.specs.Ascii.{newline}
use Rattle.splitter.specs.Splitting.{ended_lines, lines_of, output_of, output_from, lines_from, joined, kept, carried_of, part_of}

-- However the input is cut into pieces, its lines are those of the whole input,
abbrev pub LinesAlike : Type 0
LinesAlike = (pieces : List (List ℕ)) → lines_from [] pieces ≡ lines_of (joined pieces)

-- and what is written is what the whole input is answered with, though only 26 bytes of a line are carried from piece to piece.
abbrev pub PiecesAlike : Type 0
PiecesAlike = (pieces : List (List ℕ)) → output_from [] pieces ≡ output_of (joined pieces)

-- An empty input has no answer.
abbrev pub EmptyInput : Type 0
EmptyInput = output_of [] ≡ []

-- An empty line is a line.
abbrev pub EmptyLine : Type 0
EmptyLine = lines_of (newline ∷ []) ≡ [] ∷ []

-- "A newline ends a line": after the last newline there is no further line,
abbrev pub NothingAfter : Type 0
NothingAfter = (input : List ℕ) → lines_of (input ++ (newline ∷ [])) ≡ ended_lines [] (input ++ (newline ∷ []))

-- "the last may lack it": and text after the last newline is a line.
abbrev pub LastLine : Type 0
LastLine =
    (input : List ℕ) (b : ℕ) (bs : List ℕ) →
    up_to newline (b ∷ bs) ≡ b ∷ bs →
    lines_of (input ++ (newline ∷ (b ∷ bs))) ≡ ended_lines [] (input ++ (newline ∷ [])) ++ ((b ∷ bs) ∷ [])

-- A text without a newline is one line.
abbrev pub OnlyLine : Type 0
OnlyLine = (b : ℕ) (bs : List ℕ) → up_to newline (b ∷ bs) ≡ b ∷ bs → lines_of (b ∷ bs) ≡ (b ∷ bs) ∷ []

-- What is carried of a part are its kept bytes.
abbrev pub CarriedKept : Type 0
CarriedKept = (part : List ℕ) → part_of (carried_of part) ≡ kept part
