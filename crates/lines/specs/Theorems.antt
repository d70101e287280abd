-- What holds of lines and their answers. What `AnswerSize` states is proved as `answer_size` in proofs/, and so the others.
use Rattle.std.specs.Prelude.{ℕ, ◌≤◌, ◌≡◌, List, length, take}
use Rattle.text.specs.Ascii.{ascii}
use Rattle.requests.specs.Requests.{most_kept}
use Rattle.lines.specs.Lines.{answer_text, answer_line, answer_most}

-- 32 bytes are room enough for every answer's line.
abbrev pub AnswerSize : Type 0
AnswerSize = (line : List ℕ) → length (answer_line line) ≤ answer_most

-- The first 26 bytes of a line decide its answer.
abbrev pub AnswerKept : Type 0
AnswerKept = (line : List ℕ) → answer_line (take most_kept line) ≡ answer_line line

-- The paper's four lines and its four answers.
abbrev pub PaperLines : Type 0
PaperLines =
    (answer_text (ascii "F 187200000 36000000") ≡ ascii "E 432100000 N 321000000")
    × (answer_text (ascii "F -187200000 -612000000") ≡ ascii "refused 4")
    × (answer_text (ascii "I 432100000 321000000") ≡ ascii "P 187200000 36000000")
    × (answer_text (ascii "F 324000001 0") ≡ ascii "refused 3")
