-- Inner: a row told by the direction, and the row at an index of three lists.
use Rattle.std.specs.Prelude.{ℕ, Bool, true, false, List, Float, get_or}
use Rattle.std.specs.Float.{nan}
use Rattle.parameters.specs.declared.Parameters.{Parameters}
use Rattle.pairs.specs.Pairs.{Row}
use Rattle.row_lists.specs.Rows.{forward_at, inverse_at}

-- forward or back
abbrev pub row_of : Bool → Parameters → Float → Float → Row
row_of true = forward_at
row_of false = inverse_at

-- the row at index k of three lists
abbrev pub row_at : ℕ → List Float → List Float → List ℕ → Row
row_at k first second mark = record { mark = get_or mark k 0; first = get_or first k nan; second = get_or second k nan }
