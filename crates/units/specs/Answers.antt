-- Document 01: "Where an answer is an enum, a definition gives this paper's number and values for each of its cases, and the promises use that definition."
use Rattle.std.specs.Prelude.{ℕ, zero, suc, List, ℤ, pos}

-- what an answer of a single call tells: its refusal number, 0 where it has none, and its two values
pub record Told : Type 0 where
  pub refusal : ℕ
  pub first : ℤ
  pub second : ℤ

-- what an accepted answer tells, and what a refused one
abbrev pub accepted : ℤ → ℤ → Told
accepted first second = record { refusal = 0; first = first; second = second }

abbrev pub refused : ℕ → Told
refused number = record { refusal = number; first = pos 0; second = pos 0 }

-- an answer of any kind by its refusal number: what is given where that is 0, else the refusal alone
abbrev pub answered : {A : Type 0} → (ℕ → A) → ℕ → A → A
answered refuse zero given = given
answered refuse (suc n) given = refuse (suc n)

-- Refused calls write nothing: a lent list after the call, from what a call without refusal writes and what was there
abbrev pub written : {A : Type 0} → ℕ → List A → List A → List A
written refusal new old = answered (λ (n : ℕ). old) refusal new

-- what an answer with a count tells: its refusal number, 0 where it has none, and the count, 0 where it has none
pub record Counted : Type 0 where
  pub refusal : ℕ
  pub count : ℕ

-- the same by its refusal number
abbrev pub counted : ℕ → ℕ → Counted
counted refusal count = record { refusal = refusal; count = answered (λ (n : ℕ). 0) refusal count }
