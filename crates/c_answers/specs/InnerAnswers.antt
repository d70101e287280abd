-- What the functions for C return and write, from what the library's answer tells.
-- A lent array is the list of its values: of the whole numbers themselves (ℤ) where it is of i64.
use Rattle.std.specs.Prelude.{ℕ, Result, Ok, Err}
use Rattle.units.specs.declared.refusals.Refusal.{Refusal}

-- what stands in a lent place after a call: what is given, as C has it, or what was there
abbrev pub left : {V A : Type 0} → (V → A) → Result V Refusal → A → A
left in_c (Ok value) before = in_c value
left in_c (Err refusal) before = before
