-- The array of `SineTable::new` is the table: each value of the array is the entry of its minute, by one test over the whole array,
-- which antt computes, and one lemma that carries the test to each place. Assumes nothing.
use Prim.Native.Nat.{ℕ, zero, suc, ◌+◌, ◌<◌}
use native.Mathlib.Nat.{add-zero, zero-add, add-suc, suc-add, le_of_suc-le-suc, not-suc-le-zero}
use mathlib.Core.Path.{◌≡◌, refl}
use mathlib.Core.Bool.{Bool, true, ◌&&◌}
use mathlib.Core.List.{List, [], ◌∷◌}
use lib.Dec.{T, eqb, eqb→eq}
use lib.ListN.{length, get_or}
use lib.Ieee.Fits.{and_l, and_r}
use Rattle.sine_table.specs.Table.{entry, IsTable}
use Rattle.sine_table.proofs.SineTable.new.Goals as goal

-- The values of the list are the entries from minute i on.
entries_from : ℕ → List ℕ → Bool
entries_from i [] = true
entries_from i (x ∷ xs) = eqb x (entry i) && entries_from (suc i) xs

-- What passes for the list passes for its k-th value.
carry : (xs : List ℕ) (i : ℕ) → T (entries_from i xs) → (k : ℕ) → k < length xs → get_or xs k 0 ≡ entry (i + k)
unfolding entries_from
carry [] i t k h = absurd (not-suc-le-zero h)
carry (x ∷ xs) i t zero h = rw add-zero (eqb→eq x (entry i) (and_l (eqb x (entry i)) (entries_from (suc i) xs) t))
carry (x ∷ xs) i t (suc k) h =
    rw (add-suc, ← suc-add)
    (carry xs (suc i) (and_r (eqb x (entry i)) (entries_from (suc i) xs) t) k (le_of_suc-le-suc h))

is-table : (xs : List ℕ) → length xs ≡ 5401 → T (entries_from 0 xs) → IsTable xs
unfolding IsTable
is-table xs l t k h = rw zero-add at (carry xs 0 t k (rw l h))

-- `_` is the array, as a list: antt reads it off the goal, in which `IsTable` is shut.
pub invariant_of-result : goal.invariant_of-result
unfolding entry entries_from
invariant_of-result c = record { is_table = is-table _ refl tt }
