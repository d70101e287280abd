-- When a row ends in "ok".
use Rattle.std.specs.Prelude.{ℕ, ◌≡◌, List, ℤ, length}
use Rattle.units.specs.Answers.{answered, written}
use Rattle.grid_codes.specs.Codes.{WrittenCode, Length, Unwritten, code_text, write_refusal, into_first}

-- a code is written into these bytes, or refused: the answer, and what is left in them
abbrev pub IsWritten : ℤ → ℤ → ℤ → List ℕ → WrittenCode → List ℕ → Type 0
IsWritten side east north bytes answer left =
    let refusal = write_refusal side east north (length bytes) in
    let text = code_text side east north in
    (answer ≡ answered Unwritten refusal (Length (length text))) × (left ≡ written refusal (into_first text bytes) bytes)
