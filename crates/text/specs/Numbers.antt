-- Whole numbers as text, in ASCII bytes. What is read is a number of document 01, "The program"; grid codes read digits by the same rule.
use Rattle.std.specs.Prelude.{ℕ, zero, suc, ◌+◌, ◌*◌, ◌-◌, ◌/◌, ◌%◌, Bool, true, false, ◌&&◌, cond, List, [], ◌∷◌, ◌++◌, eqb, leb, ltb, length, ℤ, pos, nat_abs, Option, Some, None}
use Prim.Native.Char.{code}
use Rattle.std.specs.Int.Signed.{lt_z}
use Rattle.integers.specs.Near.{signed}

-- what bytes spell: a number, or something else
pub data Numeral : Type 0 where
  Number : ℤ → Numeral
  Other : Numeral

-- what is read where a number may stand
abbrev pub numeral : Option ℤ → Numeral
numeral (Some z) = Number z
numeral None = Other

abbrev pub minus : ℕ
minus = code "-"

abbrev pub byte_0 : ℕ
byte_0 = code "0"

abbrev pub byte_9 : ℕ
byte_9 = code "9"

abbrev pub is_digit : ℕ → Bool
is_digit b = leb byte_0 b && leb b byte_9

abbrev pub are_digits : List ℕ → Bool
are_digits [] = true
are_digits (b ∷ bs) = is_digit b && are_digits bs

-- the value of digits that follow those of n
abbrev pub value_from : ℕ → List ℕ → ℕ
value_from n [] = n
value_from n (b ∷ bs) = value_from (10 * n + (b - byte_0)) bs

-- "one to ten digits each"
abbrev pub digits_most : ℕ
digits_most = 10

-- a 0 before other digits
abbrev pub leading_zero : List ℕ → Bool
leading_zero [] = false
leading_zero (b ∷ []) = false
leading_zero (b ∷ c ∷ bs) = eqb b byte_0

unfoldable pub unsigned_of : Bool → List ℕ → Numeral
unsigned_of negative bs =
    cond (are_digits bs && (leb 1 (length bs) && leb (length bs) digits_most)) (Number (signed negative (value_from 0 bs))) Other

-- "with or without a minus before them"
unfoldable pub number_of : List ℕ → Numeral
number_of [] = Other
number_of (b ∷ bs) = cond (eqb b minus) (unsigned_of true bs) (unsigned_of false (b ∷ bs))

-- The digits of n without leading zeros, for n of at most `most` digits.
abbrev pub digits_within : ℕ → ℕ → List ℕ
digits_within zero n = []
digits_within (suc most) n = cond (ltb n 10) ((byte_0 + n) ∷ []) (digits_within most (n / 10) ++ ((byte_0 + n % 10) ∷ []))

-- Numbers of 64 bits have at most 20 digits.
unfoldable pub decimal : ℕ → List ℕ
decimal n = digits_within 20 n

-- a number as it is printed
unfoldable pub number_text : ℤ → List ℕ
number_text z = cond (lt_z z (pos 0)) (minus ∷ decimal (nat_abs z)) (decimal (nat_abs z))

-- a number after its label, and two
abbrev pub labelled : List ℕ → ℤ → List ℕ
labelled label z = label ++ number_text z

abbrev pub pair_text : List ℕ → ℤ → List ℕ → ℤ → List ℕ
pair_text first x second y = labelled first x ++ labelled second y
