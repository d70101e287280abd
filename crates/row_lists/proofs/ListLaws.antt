-- Lists that a loop writes from the front, the points of two lists at an index, two in a turn. Assumes nothing.
use mathlib.Core.Path.{◌≡◌, refl, sym, ap, ◌∙◌}
use mathlib.Core.List.{List, [], ◌∷◌, ◌++◌, map}
use Prim.Native.Nat.{ℕ, zero, suc, ◌+◌, ◌<◌, ◌≤◌}
use native.Mathlib.Nat.{not-suc-le-zero, le_of_suc-le-suc}
use native.Mathlib.Numerals.{add-one}
use native.Mathlib.Omega.{arith}
use lib.Ieee.{Float, nan}
use lib.ListN.{length, get_or, set, take, drop}
use Rattle.std.specs.Prelude.{Result}
use Rattle.parameters.specs.declared.Parameters.{Parameters}
use Rattle.pairs.specs.Pairs.{Row}
use Rattle.points.specs.InnerStages.{Stages, answer_by, listed, row_by}
use Rattle.row_lists.specs.Rows.{rows, first_values, second_values, marks as marks_of}

-- after i stores, from the front, of the elements of `new` into a list
module _ {A : Type 0} where
  abbrev pub filled : ℕ → List A → List A → List A
  filled i new old = take i new ++ drop i old

  filled_suc : (i : ℕ) (new old : List A) (d : A) → length new ≡ length old → i < length old → set (filled i new old) i (get_or new i d) ≡ filled (suc i) new old
  filled_suc i [] [] d e l = absurd (not-suc-le-zero l)
  filled_suc i [] (y ∷ old) d e l = let z : ⊥ = omega (arith, e) in absurd z
  filled_suc i (x ∷ new) [] d e l = absurd (not-suc-le-zero l)
  filled_suc zero (x ∷ new) (y ∷ old) d e l = refl
  filled_suc (suc i) (x ∷ new) (y ∷ old) d e l =
      let f : length new ≡ length old = omega (arith, e) in
      ap (λ (t : List A). x ∷ t) (filled_suc i new old d f (le_of_suc-le-suc l))

  -- the store of one more
  pub filled_more : (i : ℕ) (new old now : List A) (d v : A) → length new ≡ length old → i < length old → now ≡ filled i new old → v ≡ get_or new i d →
      set now i v ≡ filled (i + 1) new old
  filled_more i new old now d v e l q w =
      ap (λ (t : List A). set t i v) q
      ∙ ap (set (filled i new old) i) w
      ∙ filled_suc i new old d e l
      ∙ ap (λ (k : ℕ). filled k new old) (sym (add-one i))

  pub filled_all : (new old : List A) → length new ≡ length old → filled (length old) new old ≡ new
  filled_all [] [] e = refl
  filled_all [] (y ∷ old) e = let z : ⊥ = omega (arith, e) in absurd z
  filled_all (x ∷ new) [] e = let z : ⊥ = omega (arith, e) in absurd z
  filled_all (x ∷ new) (y ∷ old) e =
      let f : length new ≡ length old = omega (arith, e) in
      ap (λ (t : List A). x ∷ t) (filled_all new old f)

-- a column of the points of two lists
module _ {A : Type 0} (column : Row → A) (row : Float → Float → Row) where
  pub column_length : (xs ys : List Float) → length ys ≡ length xs → length (map column (rows row xs ys)) ≡ length xs
  column_length [] ys e = refl
  column_length (x ∷ xs) [] e = let z : ⊥ = omega (arith, e) in absurd z
  column_length (x ∷ xs) (y ∷ ys) e = let f : length ys ≡ length xs = omega (arith, e) in ap suc (column_length xs ys f)

  pub column_at : (xs ys : List Float) (i : ℕ) (d : A) (x₀ y₀ : Float) → length ys ≡ length xs → i < length xs →
      get_or (map column (rows row xs ys)) i d ≡ column (row (get_or xs i x₀) (get_or ys i y₀))
  column_at [] ys i d x₀ y₀ e l = absurd (not-suc-le-zero l)
  column_at (x ∷ xs) [] i d x₀ y₀ e l = let z : ⊥ = omega (arith, e) in absurd z
  column_at (x ∷ xs) (y ∷ ys) zero d x₀ y₀ e l = refl
  column_at (x ∷ xs) (y ∷ ys) (suc i) d x₀ y₀ e l =
      let f : length ys ≡ length xs = omega (arith, e) in column_at xs ys i d x₀ y₀ f (le_of_suc-le-suc l)

-- A lent list: `now` once the first i points of two lists were stored into `old`, all of one length.
pub record Filling {A : Type 0} (column : Row → A) (row : Float → Float → Row) (xs ys : List Float) (old now : List A) (i : ℕ) : Type 0 where
  pub equal : length ys ≡ length xs
  pub room : length old ≡ length xs
  pub so_far : now ≡ filled i (map column (rows row xs ys)) old

module _ {A : Type 0} {column : Row → A} {row : Float → Float → Row} {xs ys : List Float} {old now : List A} {i : ℕ}
    (f : Filling column row xs ys old now i) where
  same_room : length (map column (rows row xs ys)) ≡ length old
  same_room = column_length column row xs ys f.equal ∙ sym f.room

  -- the store of one more
  pub stored : (d : A) (r : Row) (after : List A) → i < length xs → r ≡ row (get_or xs i nan) (get_or ys i nan) → after ≡ set now i (column r) →
      Filling column row xs ys old after (i + 1)
  stored d r after l e is =
      let inside : i < length old = omega (arith, f.room) in
      record {
        equal = f.equal;
        room = f.room;
        so_far =
            is
            ∙ filled_more i (map column (rows row xs ys)) old now d (column r) same_room inside f.so_far
            (ap column e ∙ sym (column_at column row xs ys i d nan nan f.equal l));
      }

  pub finished : i ≡ length xs → now ≡ map column (rows row xs ys)
  finished e =
      f.so_far
      ∙ ap (λ (k : ℕ). filled k (map column (rows row xs ys)) old) (e ∙ sym f.room)
      ∙ filled_all (map column (rows row xs ys)) old same_room

-- The three lent lists once the first i points were stored into them.
pub record Stored (row : Float → Float → Row) (xs ys leading₀ trailing₀ : List Float) (marks₀ : List ℕ)
    (leading trailing : List Float) (marks : List ℕ) (i : ℕ) : Type 0 where
  pub passed : i ≤ length xs
  pub to_leading : Filling (λ (r : Row). r.first) row xs ys leading₀ leading i
  pub to_trailing : Filling (λ (r : Row). r.second) row xs ys trailing₀ trailing i
  pub to_marks : Filling (λ (r : Row). r.mark) row xs ys marks₀ marks i

-- a row by its stages is the row of the point
pub row_told : {Given Whole Found : Type 0} (stages : Stages Given Whole Found) (p : Parameters) (x y : Float) (at : Given) (found : Result Found ℕ) →
    at ≡ stages.given x y →
    found ≡ answer_by stages p at →
    listed stages found ≡ row_by stages p x y
row_told stages p x y at found e is = rw (is, e)

module _ {row : Float → Float → Row} {xs ys leading₀ trailing₀ : List Float} {marks₀ : List ℕ} {leading trailing : List Float} {marks : List ℕ} {i : ℕ}
    (s : Stored row xs ys leading₀ trailing₀ marks₀ leading trailing marks i) where
  one_more :
      (r : Row) {leading' trailing' : List Float} {marks' : List ℕ} →
      i < length xs →
      r ≡ row (get_or xs i nan) (get_or ys i nan) →
      leading' ≡ set leading i r.first →
      trailing' ≡ set trailing i r.second →
      marks' ≡ set marks i r.mark →
      Stored row xs ys leading₀ trailing₀ marks₀ leading' trailing' marks' (i + 1)
  one_more r {leading'} {trailing'} {marks'} l e first second mark =
      record {
        passed = omega arith;
        to_leading = stored s.to_leading nan r leading' l e first;
        to_trailing = stored s.to_trailing nan r trailing' l e second;
        to_marks = stored s.to_marks 0 r marks' l e mark;
      }

  -- the same at j, which is i
  pub one_more_at :
      (j k : ℕ) (r : Row) {leading' trailing' : List Float} {marks' : List ℕ} →
      j ≡ i →
      k ≡ i + 1 →
      j < length xs →
      r ≡ row (get_or xs j nan) (get_or ys j nan) →
      leading' ≡ set leading j r.first →
      trailing' ≡ set trailing j r.second →
      marks' ≡ set marks j r.mark →
      Stored row xs ys leading₀ trailing₀ marks₀ leading' trailing' marks' k
  one_more_at j k r at next l e first second mark =
      rw next (one_more r (rw at at l) (rw at at e) (rw at at first) (rw at at second) (rw at at mark))

  pub all_stored :
      i ≡ length xs →
      (leading ≡ first_values (rows row xs ys)) × ((trailing ≡ second_values (rows row xs ys)) × (marks ≡ marks_of (rows row xs ys)))
  all_stored e = (finished s.to_leading e, (finished s.to_trailing e, finished s.to_marks e))
