-- Answers by their refusal number. Each law is by the two cases, 0 and another number. Assumes nothing.
use mathlib.Core.Path.{◌≡◌, refl, ap, ◌∙◌}
use Prim.Native.Nat.{ℕ, zero, suc, ◌<◌}
use native.Mathlib.Omega.{arith}
use lib.Dec.{lit<}
use Rattle.units.specs.declared.refusals.Refusal.{Refusal}
use Rattle.units.specs.declared.refusals.Refusal.TheVariants.{NotFinite, OutOfLimits, TooFar, UnequalLists, LongLists}
use Rattle.units.specs.declared.refusals.Refusal.TheVariants.{BadA, BadE2, BadLat0, BadLon0, BadFalseEasting, BadFalseNorthing}
use Rattle.units.specs.declared.refusals.Refusal.TheVariants.{NotACode, NegativeCell, LittleRoom, PowerNotFinite, PowerOutOfLimits, FullCell, NoNewSlot, BadLoop}
use Rattle.units.specs.Refusals.{number, first_refusal}
use Rattle.units.specs.Answers.{answered}

module _ {A B : Type 0} (tell : A → B) (refuse : ℕ → A) where
  -- what an answer tells is what its case tells
  pub answer_tells : (n : ℕ) (given : A) → tell (answered refuse n given) ≡ answered (λ (m : ℕ). tell (refuse m)) n (tell given)
  answer_tells zero given = refl
  answer_tells (suc n) given = refl

-- an answer that is the right one tells what the right one does
pub and_told : {A B : Type 0} {r right : A} (tell : A → B) {said : B} → tell right ≡ said → r ≡ right → (r ≡ right) × (tell r ≡ said)
and_told tell tells is = (is, ap tell is ∙ tells)

-- a number that is not 0 is the refusal; with 0 the answer is what is given
pub is_refused_lem : {A : Type 0} (refuse : ℕ → A) (given : A) (n : ℕ) → (n ≡ 0 → ⊥) → answered refuse n given ≡ refuse n
is_refused_lem refuse given zero some = absurd (some refl)
is_refused_lem refuse given (suc n) some = refl

pub is_given : {A : Type 0} (refuse : ℕ → A) (given : A) (n : ℕ) → n ≡ 0 → answered refuse n given ≡ given
is_given refuse given n none = rw none

-- where the set is refused, so is the call
pub set_refused :
    {A : Type 0} (refuse : ℕ → A) (given : A) (set next n : ℕ) →
    (n ≡ 0 → ⊥) →
    set ≡ n →
    answered refuse (first_refusal set next) given ≡ refuse n
set_refused refuse given set next zero some is = absurd (some refl)
set_refused refuse given set next (suc n) some is = rw is

-- every refusal has a number that is not 0
number_above : (r : Refusal) → 0 < number r
number_above NotFinite = lit< tt
number_above OutOfLimits = lit< tt
number_above TooFar = lit< tt
number_above UnequalLists = lit< tt
number_above LongLists = lit< tt
number_above BadA = lit< tt
number_above BadE2 = lit< tt
number_above BadLat0 = lit< tt
number_above BadLon0 = lit< tt
number_above BadFalseEasting = lit< tt
number_above BadFalseNorthing = lit< tt
number_above NotACode = lit< tt
number_above NegativeCell = lit< tt
number_above LittleRoom = lit< tt
number_above PowerNotFinite = lit< tt
number_above PowerOutOfLimits = lit< tt
number_above FullCell = lit< tt
number_above NoNewSlot = lit< tt
number_above BadLoop = lit< tt

pub number_some : (r : Refusal) → number r ≡ 0 → ⊥
number_some r e = omega (arith, number_above r)
