-- Inner: what the steps are handed, and how small it is.
use Rattle.std.specs.Prelude.{ℕ, ◌≤◌, ◌≡◌, List, nat_abs}
use Rattle.units.specs.Units.{unit}
use Rattle.sine_table.specs.Table.{IsTable}
use Rattle.parameters.specs.declared.Parameters.{Parameters}
use Rattle.constants.specs.declared.Constants.{Constants}
use Rattle.parameters.specs.ParameterSet.{set_refusal}
use Rattle.constants.specs.Derived.{constants_of}

-- S0 and C0 are a sine and a cosine, so at most 1.
pub record BoundedCentre (k : Constants) : Type 0 where
  pub s0_size : nat_abs k.s0 ≤ unit
  pub c0_size : nat_abs k.c0 ≤ unit

-- What the steps are handed: the table, an accepted set and its constants.
pub record Prepared (t : List ℕ) (p : Parameters) (k : Constants) : Type 0 where
  pub table : IsTable t
  pub set_accepted : set_refusal p ≡ 0
  pub constants : k ≡ constants_of p
