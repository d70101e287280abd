-- The cases of a text that is read, by where it is cut and by what its parts are: a text that is not cut has nothing after the cut, and nothing is no
-- number. Assumes nothing.
use mathlib.Core.Path.{◌≡◌, refl, ap, ◌∙◌}
use mathlib.Core.List.{List, []}
use Prim.Native.Nat.{ℕ}
use lib.IntN.{ℤ}
use lib.ListN.{length}
use Rattle.units.specs.Refusals.{not_a_code}
use Rattle.text.specs.Numbers.{Numeral, Number, Other, unsigned_of}
use Rattle.text.specs.Cutting.{index_of, up_to, after}
use Rattle.text.proofs.Cutting.{no_cut}
use Rattle.code_reading.specs.Reading.{Unread, byte_N, byte_E, side_named, cell_numeral, of_numbers, numbers_of, of_side, code_of}

nothing_read : (side : ℤ) → cell_numeral side [] ≡ Other
unfolding cell_numeral unsigned_of
nothing_read side = refl

-- ---- the numbers

module _ (side : ℤ) (text : List ℕ) where
  pub east_none : cell_numeral side (after byte_E text) ≡ Other → numbers_of side text ≡ Unread not_a_code
  unfolding numbers_of
  east_none e = ap (λ (x : Numeral). of_numbers side x (cell_numeral side (up_to byte_E text))) e

  pub north_none : cell_numeral side (up_to byte_E text) ≡ Other → numbers_of side text ≡ Unread not_a_code
  unfolding numbers_of
  north_none e = ap (of_numbers side (cell_numeral side (after byte_E text))) e ∙ either (cell_numeral side (after byte_E text))
    where
      either : (x : Numeral) → of_numbers side x Other ≡ Unread not_a_code
      either (Number east) = refl
      either Other = refl

  pub nothing_after : after byte_E text ≡ [] → numbers_of side text ≡ Unread not_a_code
  nothing_after e = east_none (ap (cell_numeral side) e ∙ nothing_read side)

  pub numbers_uncut : index_of byte_E text ≡ length text → numbers_of side text ≡ Unread not_a_code
  numbers_uncut none = nothing_after (no_cut byte_E text _ refl none)

-- ---- the side

module _ (text : List ℕ) where
  pub unnamed : side_named (up_to byte_N text) ≡ Other → code_of text ≡ Unread not_a_code
  unfolding code_of
  unnamed e = ap (λ (m : Numeral). of_side m (after byte_N text)) e

  pub no_numbers : after byte_N text ≡ [] → code_of text ≡ Unread not_a_code
  unfolding code_of
  no_numbers e = ap (of_side (side_named (up_to byte_N text))) e ∙ either (side_named (up_to byte_N text))
    where
      either : (m : Numeral) → of_side m [] ≡ Unread not_a_code
      either (Number side) = nothing_after side [] refl
      either Other = refl

  pub code_uncut : index_of byte_N text ≡ length text → code_of text ≡ Unread not_a_code
  code_uncut none = no_numbers (no_cut byte_N text _ refl none)
