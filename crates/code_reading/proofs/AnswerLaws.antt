-- What the calls' answers say: a written code is read back, a read text is what would be written, and 31 alone refuses. Assumes nothing.
use mathlib.Core.Path.{◌≡◌, refl, sym, ap, ap₂, ◌∙◌}
use mathlib.Core.List.{List}
use Prim.Native.Nat.{ℕ, zero, suc, ◌<◌, ◌≤◌}
use native.Mathlib.Omega.{arith}
use lib.Dec.{leb}
use lib.IntN.{ℤ}
use lib.ListN.{length, take, drop}
use lib.Seq.{take-append_seam}
use Rattle.units.specs.Refusals.{not_a_code, little_room, unless}
use Rattle.units.specs.Answers.{answered, written}
use Rattle.units.proofs.Chains.{both_passed}
use Rattle.text.specs.Numbers.{Numeral, Number, Other}
use Rattle.text.specs.Cutting.{up_to, after}
use Rattle.grid_codes.specs.Codes.{Length, Unwritten, code_text, code_refusal, write_refusal, into_first}
use Rattle.grid_codes.proofs.CellLaws.{has_code, coded}
use Rattle.grid_codes.proofs.Lengths.{code_most}
use Rattle.grid_codes.proofs.WritingLaws.{enough_room}
use Rattle.code_reading.specs.Reading.{ReadCode, Cell, Unread, byte_N, byte_E, side_named, cell_numeral, of_numbers, numbers_of, of_side, code_of}
use Rattle.code_reading.specs.Theorems.{WrittenRead, ReadWritten, UnreadExactly, ReadNumbers}
use Rattle.code_reading.proofs.CodeLaws.{has_code_read, IsCode, is_code, read_exactly}

-- ---- written and read

-- an answer with a length has no refusal
length_answered : (m n len : ℕ) → Length n ≡ answered Unwritten m (Length len) → (m ≡ 0) × (n ≡ len)
length_answered zero n len e = (refl, (cc))
length_answered (suc m) n len e = let z : ◌≡◌ {A = ℕ} 0 1 = cc in absurd (omega arith)

pub written_read : WrittenRead
unfolding write_refusal
written_read side east north bytes bytes' n call =
    let text = code_text side east north in
    let refusal = write_refusal side east north (length bytes) in
    let given = length_answered refusal n (length text) call.answer_is in
    let none = both_passed (code_refusal side east north) (unless (leb (length text) (length bytes)) little_room 0) given.0 in
    let bytes_are = call.bytes_are ∙ ap (λ (r : ℕ). written r (into_first text bytes) bytes) given.0 in
    ap code_of (ap₂ take given.1 bytes_are ∙ take-append_seam text (drop (length text) bytes))
    ∙ has_code_read side east north (has_code side east north none.0)

accepted_again :
    (text : List ℕ) (side east north : ℤ) →
    IsCode text side east north →
    (bytes : List ℕ) →
    length text ≤ length bytes →
    write_refusal side east north (length bytes) ≡ 0
accepted_again text side east north is bytes room =
    enough_room side east north (coded side east north is.cell) (length bytes) (rw is.is_text room)

pub read_written : ReadWritten
read_written text side east north bytes bytes' answer e room call =
    let is = is_code text side east north e in
    let none = accepted_again text side east north is bytes room in (
      call.answer_is ∙ ap₂ (λ (n : ℕ) (l : List ℕ). answered Unwritten n (Length (length l))) none is.is_text,
      call.bytes_are ∙ ap₂ (λ (n : ℕ) (l : List ℕ). written n (into_first l bytes) bytes) none is.is_text,
    )

-- ---- the number

numbers_unread : (side : ℤ) (x y : Numeral) {n : ℕ} → of_numbers side x y ≡ Unread n → n ≡ not_a_code
numbers_unread side (Number x) (Number y) e = let z : ◌≡◌ {A = ℕ} 0 1 = cc in absurd (omega arith)
numbers_unread side (Number x) Other e = cc
numbers_unread side Other y e = cc

side_unread : (m : Numeral) (text : List ℕ) {n : ℕ} → of_side m text ≡ Unread n → n ≡ not_a_code
unfolding numbers_of
side_unread (Number side) text e = numbers_unread side (cell_numeral side (after byte_E text)) (cell_numeral side (up_to byte_E text)) e
side_unread Other text e = cc

pub read_numbers : ReadNumbers
unfolding code_of
read_numbers text n e = side_unread (side_named (up_to byte_N text)) (after byte_N text) e

-- A text that is read as no cell is refused.
unread : (text : List ℕ) → ((side east north : ℤ) → code_of text ≡ Cell side east north → ⊥) → code_of text ≡ Unread not_a_code
unread text none = by_answer (code_of text) refl
  where
    by_answer : (answer : ReadCode) → code_of text ≡ answer → code_of text ≡ Unread not_a_code
    by_answer (Cell side east north) e = absurd (none side east north e)
    by_answer (Unread n) e = e ∙ ap Unread (read_numbers text n e)

pub unread_exactly : UnreadExactly
unread_exactly text = (there, λ h. unread text (λ side east north e. let is = (read_exactly text side east north).0 e in h side east north is.0 is.1))
  where
    there : code_of text ≡ Unread not_a_code → (side east north : ℤ) → code_refusal side east north ≡ 0 → text ≡ code_text side east north → ⊥
    there e side east north none is =
        let read = (read_exactly text side east north).1 (none, is) in
        let n : ◌≡◌ {A = ℕ} 0 1 = cc in
        absurd (omega arith)

-- A text that is longer than every code is none.
pub long_unread : (text : List ℕ) → 18 < length text → code_of text ≡ Unread not_a_code
long_unread text long = unread text too_long
  where
    too_long : (side east north : ℤ) → code_of text ≡ Cell side east north → ⊥
    too_long side east north e =
        let is = is_code text side east north e in
        let short = code_most side east north is.cell in
        omega (arith, ap length is.is_text)

-- as the call answers it
pub long_answered : (text : List ℕ) → 18 < length text → Unread not_a_code ≡ code_of text
long_answered text long = sym (long_unread text long)
