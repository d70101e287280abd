-- What a call that writes leaves, by its refusal, and which numbers refuse. Assumes nothing.
use mathlib.Core.Path.{◌≡◌, refl, sym, ap, ◌∙◌}
use mathlib.Core.List.{List, [], ◌∷◌}
use Prim.Native.Nat.{ℕ, zero, suc, ◌<◌, ◌≤◌}
use native.Mathlib.Omega.{arith}
use borrow.Author.Tests.{le-leb, lt-leb}
use lib.Dec.{leb}
use lib.IntN.{ℤ, pos, nat_abs}
use lib.ListN.{length}
use Rattle.units.specs.declared.refusals.Refusal.{Refusal}
use Rattle.units.specs.Refusals.{out_of_limits, negative_cell, little_room, number, unless}
use Rattle.units.proofs.AnswerLaws.{number_some}
use Rattle.units.specs.Answers.{answered}
use Rattle.units.proofs.Chains.{chain, Gives, first_given, another}
use Rattle.cells.specs.declared.Side.{Side}
use Rattle.cells.specs.Cells.{numbers_refusal, side_length}
use Rattle.grid_codes.specs.Codes.{Length, Unwritten, code_text, code_refusal, write_refusal, into_first, CodeWritten}
use Rattle.grid_codes.specs.Theorems.{WriteNumbers}
use Rattle.grid_codes.proofs.CellLaws.{has_code}
use Rattle.grid_codes.proofs.Lengths.{code_most}

-- ---- the numbers

written_number : (m len k : ℕ) → Unwritten k ≡ answered Unwritten m (Length len) → (m ≡ k) × (k ≡ 0 → ⊥)
written_number zero len k e = let z : ◌≡◌ {A = ℕ} 1 0 = cc in absurd (omega arith)
written_number (suc m) len k e = let is : suc m ≡ k = cc in (is, λ z. omega (arith, is ∙ z))

pub write_numbers : WriteNumbers
unfolding write_refusal code_refusal numbers_refusal
write_numbers side east north bytes bytes' n call =
    let refusal = write_refusal side east north (length bytes) in
    let number : Gives (0 ∷ out_of_limits ∷ negative_cell ∷ little_room ∷ []) refusal = search chain depth 40 in
    another (out_of_limits ∷ negative_cell ∷ little_room ∷ []) refusal n number.one
    (written_number refusal (length (code_text side east north)) n call.answer_is)

-- ---- what a call leaves, by its refusal

module _ (side east north : ℤ) where
  pub refused_first : (room : ℕ) → (code_refusal side east north ≡ 0 → ⊥) → write_refusal side east north room ≡ code_refusal side east north
  unfolding write_refusal
  refused_first room some = first_given (code_refusal side east north) _ some

  module _ (none : code_refusal side east north ≡ 0) where
    pub no_room : (room : ℕ) → room < length (code_text side east north) → write_refusal side east north room ≡ little_room
    unfolding write_refusal
    no_room room h = rw (none, lt-leb (length (code_text side east north)) room h)

    pub enough_room : (room : ℕ) → length (code_text side east north) ≤ room → write_refusal side east north room ≡ 0
    unfolding write_refusal
    enough_room room h = rw (none, le-leb (length (code_text side east north)) room h)

  -- a cell with a code: the code of its side is that of the side's length, and has 18 bytes at most
  pub coded_most : (s : Side) → pos (side_length s) ≡ side → 0 ≡ code_refusal side east north → length (code_text (pos (side_length s)) east north) ≤ 18
  coded_most s is none = rw is (code_most side east north (has_code side east north (sym none)))

  -- and it is the code of the cell, whose numbers are their sizes
  pub coded_as :
      (s : Side) →
      pos (side_length s) ≡ side →
      0 ≡ code_refusal side east north →
      code_text (pos (side_length s)) (pos (nat_abs east)) (pos (nat_abs north)) ≡ code_text side east north
  coded_as s is none =
      let has = has_code side east north (sym none) in
      rw (is, has.of_east.natural, has.of_north.natural) refl

  module _ (bytes : List ℕ) where
    pub code_unwritten :
        (n : ℕ) →
        write_refusal side east north (length bytes) ≡ n →
        (n ≡ 0 → ⊥) →
        CodeWritten side east north bytes bytes (Unwritten n)
    code_unwritten zero e some = absurd (some refl)
    code_unwritten (suc n) e some = record { bytes_are = rw e refl; answer_is = rw e refl; answer_tells = rw e refl }

    pub code_written :
        {bytes' : List ℕ} {n : ℕ} →
        write_refusal side east north (length bytes) ≡ 0 →
        bytes' ≡ into_first (code_text side east north) bytes →
        n ≡ length (code_text side east north) →
        CodeWritten side east north bytes bytes' (Length n)
    code_written e is long = record { bytes_are = rw e is; answer_is = rw e (ap Length long); answer_tells = rw (e, long) refl }

    -- the refusal of a cell that has no code, and of too little room
    pub cell_refused : (r : Refusal) → number r ≡ code_refusal side east north → CodeWritten side east north bytes bytes (Unwritten (number r))
    cell_refused r is =
        code_unwritten (number r)
        (refused_first (length bytes) (λ (none : code_refusal side east north ≡ 0). number_some r (is ∙ none)) ∙ sym is)
        (number_some r)

    pub room_refused :
        0 ≡ code_refusal side east north →
        (r : Refusal) →
        number r ≡ unless (leb (length (code_text side east north)) (length bytes)) little_room 0 →
        CodeWritten side east north bytes bytes (Unwritten (number r))
    unfolding write_refusal
    room_refused none r is = code_unwritten (number r) (rw (sym none) (sym is)) (number_some r)
