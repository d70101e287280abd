-- Document 01, "The program": what a line asks for. Bytes are ASCII.
use Rattle.std.specs.Prelude.{ℕ, suc, cond, List, [], ◌∷◌, eqb, ℤ, Option, Some, None}
use Prim.Native.Char.{code}
use Rattle.text.specs.Numbers.{Numeral, Number, Other, number_of}
use Rattle.text.specs.Cutting.{up_to, after}
use Rattle.requests.specs.declared.Request.{Request as Line}
use Rattle.requests.specs.declared.Request.TheVariants as line

-- what a line asks for, or that it is of another form
pub data Request : Type 0 where
  Forward : ℤ → ℤ → Request
  Inverse : ℤ → ℤ → Request
  Bad : Request

-- what is read of a line that may be of another form
abbrev pub asked : Option Line → Request
asked (Some (line.Forward x y)) = Forward x y
asked (Some (line.Inverse x y)) = Inverse x y
asked None = Bad

abbrev pub space : ℕ
space = code " "

abbrev pub byte_F : ℕ
byte_F = code "F"

abbrev pub byte_I : ℕ
byte_I = code "I"

-- what the two numbers of a line ask for; where one is none, the line is "of another form"
abbrev pub of_numbers : (ℤ → ℤ → Request) → Numeral → Numeral → Request
of_numbers ask (Number x) (Number y) = ask x y
of_numbers ask (Number x) Other = Bad
of_numbers ask Other y = Bad

-- "F, latitude, longitude in mas; or I, easting, northing in cm"
abbrev pub by_letter : ℕ → Numeral → Numeral → Request
by_letter letter x y = cond (eqb letter byte_F) (of_numbers Forward x y) (cond (eqb letter byte_I) (of_numbers Inverse x y) Bad)

-- a number up to the first space, and a number after it
abbrev pub by_fields : ℕ → List ℕ → Request
by_fields letter fields = by_letter letter (number_of (up_to space fields)) (number_of (after space fields))

-- "single spaces": a letter, a space, and the two numbers with a space between them
unfoldable pub request_of : List ℕ → Request
request_of [] = Bad
request_of (letter ∷ []) = Bad
request_of (letter ∷ b ∷ fields) = cond (eqb b space) (by_fields letter fields) Bad

-- A letter, two spaces and two numbers of a minus and ten digits each have 25 bytes: a longer line is of another form.
abbrev pub line_most : ℕ
line_most = 25

-- So many bytes of a line tell what it asks for: one more than it may have. `KEPT_MOST` of src/ has this value, as the proofs of `splitter` hold.
abbrev pub most_kept : ℕ
most_kept = suc line_most
