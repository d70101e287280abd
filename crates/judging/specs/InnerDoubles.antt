-- Doubles, rows and lists compared with those expected. A double is compared by its bits, so that −0.0 is not 0.0.
use Rattle.std.specs.Prelude.{ℕ, ◌+◌, ◌%◌, ◌^◌, Bool, cond, ◌&&◌, List, [], ◌∷◌, map, ◌==◌, to_bits, Float, Result, Ok, Err}
use Rattle.std.specs.Float.{binary64}
use Rattle.floats.specs.Limits.{is_finite}
use Rattle.units.specs.Refusals.{number}
use Rattle.units.specs.declared.refusals.Refusal.{Refusal}
use Rattle.pairs.specs.Pairs.{Row, accepted_row, refused_row}
use Rattle.point_lists.specs.Lists.{ListAnswer, Count, Refused, list_told}
use Rattle.judging.specs.declared.doubles.Digest.{Digest}
use Rattle.judging.specs.declared.doubles.Element.{Element}
use Rattle.judging.specs.declared.doubles.ListAnswer.{ListAnswer as GivenAnswer}
use Rattle.judging.specs.declared.doubles.ListAnswer.TheVariants.{Count as GivenCount, Refused as GivenRefusal}

-- a finite double's bits; what is not finite has one pattern, which is none of theirs
abbrev pub bits_of : Float → ℕ
bits_of x = cond (is_finite x) (to_bits binary64 x) 0x7FF8_0000_0000_0000

-- the same mark, and values alike in every bit
abbrev pub alike : Row → Row → Bool
alike found right =
    (found.mark == right.mark)
    && (bits_of found.first == bits_of right.first && bits_of found.second == bits_of right.second)

-- two pairs of values alike in every bit
abbrev pub same_bits : Float × Float → Float × Float → Bool
same_bits found right = bits_of found.0 == bits_of right.0 && bits_of found.1 == bits_of right.1

-- an element, as a list holds it
abbrev pub element_row : Element → Row
element_row element = record { mark = element.mark; first = element.values.0; second = element.values.1 }

-- an answer as a list holds it
abbrev pub row_told : Result (Float × Float) Refusal → Row
row_told (Ok values) = accepted_row values.0 values.1
row_told (Err refusal) = refused_row (number refusal)

-- a list call's answer by its count or its number
abbrev pub answer_of : GivenAnswer → ListAnswer
answer_of (GivenCount count) = Count count
answer_of (GivenRefusal number) = Refused number

-- what a list call's answer tells: its refusal number and its count
abbrev pub is_told : ListAnswer → ℕ → ℕ → Bool
is_told answer refusal count =
    ((list_told answer).refusal == refusal) && (list_told answer).count == count

-- ---- digests

-- one number more in the sum, and the new sum in the sum of the sums; both in 64 bits
abbrev pub digest_with : Digest → ℕ → Digest
digest_with d n =
    record { sum = (d.sum + n) % 2 ^ 64; sums = (d.sums + (d.sum + n) % 2 ^ 64) % 2 ^ 64 }

unfoldable pub digest_with_all : Digest → List ℕ → Digest
digest_with_all d [] = d
digest_with_all d (n ∷ ns) = digest_with_all (digest_with d n) ns

abbrev pub empty_digest : Digest
empty_digest = record { sum = 0; sums = 0 }

-- of the two outputs of a list call, by their bits, and of its marks
abbrev pub digest_of : List Float → List Float → List ℕ → Digest
digest_of leading trailing marks = digest_with_all (digest_with_all (digest_with_all empty_digest (map bits_of leading)) (map bits_of trailing)) marks

abbrev pub same_digest : Digest → Digest → Bool
same_digest d e = d.sum == e.sum && d.sums == e.sums
