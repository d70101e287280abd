-- What a row tells: its mark is the refusal number, and a mark of 0 stands for an accepted answer alone, whose floats are the row's. So what is told
-- of an answer, in either direction, is read off by one law. Assumes nothing.
use mathlib.Core.Path.{◌≡◌, refl, ap}
use Prim.Native.Nat.{ℕ, zero, suc}
use native.Mathlib.Omega.{arith}
use lib.Ieee.{Float}
use Rattle.pairs.specs.Pairs.{Row}
use Rattle.units.specs.Answers.{answered}
use Rattle.pairs.specs.Pairs.{accepted_row, refused_row}

pub nothing : {A : Type 0} {n : ℕ} → suc n ≡ 0 → A
nothing e = let z : ⊥ = omega arith in absurd z

pub row_mark : (n : ℕ) (x y : Float) → (answered refused_row n (accepted_row x y)).mark ≡ n
row_mark zero x y = refl
row_mark (suc n) x y = refl

-- where a mark of 0 and two floats are told, the number is 0 and the floats are these
pub row_values :
    (n : ℕ) (x y first second : Float) →
    answered refused_row n (accepted_row x y) ≡ accepted_row first second →
    (n ≡ 0) × (x ≡ first) × (y ≡ second)
row_values zero x y first second e = (refl, ap (λ (r : Row). r.first) e, ap (λ (r : Row). r.second) e)
row_values (suc n) x y first second e = nothing (ap (λ (r : Row). r.mark) e)
