-- No two answers are the same in the specifications' terms, neither of reading a code nor of writing one. Assumes nothing.
use mathlib.Core.Path.{◌≡◌, refl, sym, ap, ◌∙◌}
use mathlib.Core.List.{List}
use Prim.Native.Nat.{ℕ}
use lib.IntN.{ℤ, pos, nat_abs}
use Rattle.std.proofs.Common.{◌↔◌, cond, eqb, Result, Ok, Err}
use Rattle.units.specs.declared.refusals.Refusal.{Refusal}
use Rattle.cells.specs.declared.Side.{Side}
use Rattle.cells.specs.declared.Side.TheVariants.{Metres100, Kilometre, Kilometres10}
use Rattle.cells.specs.Cells.{side_length}
use Rattle.grid_codes.specs.Codes.{WrittenCode, Length, Unwritten, written_answer}
use Rattle.code_reading.specs.declared.CodeCell.{CodeCell}
use Rattle.code_reading.specs.Reading.{ReadCode, Cell, Unread, code_answer}
use Rattle.code_vectors.specs.InnerRows.{IsWritten}
use Rattle.printing.proofs.RefusalLaws.{refusal_of, refusal_is}

-- ---- reading

side_of : ℤ → Side
side_of length = cond (eqb (nat_abs length) 10_000) Metres100 (cond (eqb (nat_abs length) 100_000) Kilometre Kilometres10)

read_of : ReadCode → Result CodeCell Refusal
read_of (Cell side east north) = Ok record { side = side_of side; east = east; north = north }
read_of (Unread number) = Err (refusal_of number)

side_is : (side : Side) → side_of (pos (side_length side)) ≡ side
unfolding side_of
side_is Metres100 = refl
side_is Kilometre = refl
side_is Kilometres10 = refl

read_is : (answer : Result CodeCell Refusal) → read_of (code_answer answer) ≡ answer
unfolding read_of
read_is (Ok cell) = ap (λ side. Ok record { side = side; east = cell.east; north = cell.north }) (side_is cell.side)
read_is (Err refusal) = ap Err (refusal_is refusal)

pub same_read : (found right : Result CodeCell Refusal) → code_answer found ≡ code_answer right → found ≡ right
same_read found right same = sym (read_is found) ∙ ap read_of same ∙ read_is right

-- ---- writing

written_of : WrittenCode → Result ℕ Refusal
written_of (Length bytes) = Ok bytes
written_of (Unwritten number) = Err (refusal_of number)

written_is : (answer : Result ℕ Refusal) → written_of (written_answer answer) ≡ answer
unfolding written_of
written_is (Ok bytes) = refl
written_is (Err refusal) = ap Err (refusal_is refusal)

pub same_written : (found right : Result ℕ Refusal) → written_answer found ≡ written_answer right → found ≡ right
same_written found right same = sym (written_is found) ∙ ap written_of same ∙ written_is right

-- a call with this answer that left these bytes is one with the other answer and bytes where both are the same
pub written_as :
    (side east north : ℤ) (bytes left expected : List ℕ) (found right : Result ℕ Refusal) →
    IsWritten side east north bytes (written_answer found) left →
    ((found ≡ right) × (left ≡ expected)) ↔ IsWritten side east north bytes (written_answer right) expected
written_as side east north bytes left expected found right is =
    ((λ same. (sym (ap written_answer same.0) ∙ is.0, sym same.1 ∙ is.1)), λ h. (same_written found right (is.0 ∙ sym h.0), is.1 ∙ sym h.1))
