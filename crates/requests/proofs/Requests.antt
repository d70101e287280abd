-- A line is of another form where one of its numbers is none, and so where no space cuts its fields. Assumes nothing.
use mathlib.Core.Path.{◌≡◌, refl, ap, ◌∙◌}
use mathlib.Core.Bool.{Bool, true, false, cond}
use mathlib.Core.List.{List, []}
use Prim.Native.Nat.{ℕ}
use lib.Dec.{eqb}
use lib.ListN.{length}
use Rattle.text.specs.Numbers.{Numeral, Number, Other, number_of}
use Rattle.text.specs.Cutting.{index_of, up_to}
use Rattle.text.proofs.Cutting.{no_cut}
use Rattle.text.proofs.Numerals.{number_empty}
use Rattle.requests.specs.Requests.{Request, Bad, space, byte_F, byte_I, by_letter, by_fields}

-- ---- by the numbers

alike : (s t : Bool) (r : Request) → cond s r (cond t r r) ≡ r
alike true t r = refl
alike false true r = refl
alike false false r = refl

pub first_other : (letter : ℕ) (y : Numeral) → by_letter letter Other y ≡ Bad
first_other letter y = alike (eqb letter byte_F) (eqb letter byte_I) Bad

pub second_other : (letter : ℕ) (x : Numeral) → by_letter letter x Other ≡ Bad
second_other letter (Number x) = alike (eqb letter byte_F) (eqb letter byte_I) Bad
second_other letter Other = alike (eqb letter byte_F) (eqb letter byte_I) Bad

-- fields that no space cuts have nothing for the second number
pub fields_uncut : (letter : ℕ) (fields : List ℕ) → index_of space fields ≡ length fields → by_fields letter fields ≡ Bad
fields_uncut letter fields none =
    let first = number_of (up_to space fields) in
    ap (by_letter letter first) (ap number_of (no_cut space fields (index_of space fields) refl none) ∙ number_empty [] refl)
    ∙ second_other letter first
