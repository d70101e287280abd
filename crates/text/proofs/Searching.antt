-- The first place of a byte, as the crate `memchr` finds it, is the byte's index. Assumes nothing.
use mathlib.Core.Path.{◌≡◌, refl, sym, ap, ◌∙◌}
use mathlib.Core.Bool.{Bool, true, false}
use mathlib.Core.List.{List, [], ◌∷◌}
use Prim.Native.Nat.{ℕ, zero, suc, ◌+◌, ◌-◌, ◌<◌}
use native.Mathlib.Omega.{arith}
use lib.Dec.{eqb}
use lib.ListN.{length, take, drop, length-drop}
use lib.Seq.{length-take-le}
use Rattle.memchr.specs.Find.{Nowhere, Passes, is_byte}
use Rattle.text.specs.Cutting.{index_after, index_of, IsCut}
use Rattle.text.proofs.Cutting.{before_cut, after_cut, rest_of}

-- a byte that is not the first is looked for in the rest
further : (b x : ℕ) (xs : List ℕ) → ¬ (eqb x b ≡ true) → index_of b (x ∷ xs) ≡ suc (index_of b xs)
unfolding index_of index_after
further b x xs other = either (eqb x b) other
  where
    either : (t : Bool) → ¬ (t ≡ true) → index_after t (index_of b xs) ≡ suc (index_of b xs)
    either true h = absurd (h refl)
    either false h = refl

-- no place of the rest has the byte where none of the whole has
rest_without : (b x : ℕ) (xs : List ℕ) (n : ℕ) → Nowhere (Passes (is_byte b) (x ∷ xs)) 0 (suc n) → Nowhere (Passes (is_byte b) xs) 0 n
rest_without b x xs n none j low high = none (suc j) (omega arith) (omega arith)

pub index_found : (b : ℕ) (xs : List ℕ) (k : ℕ) → k < length xs → Nowhere (Passes (is_byte b) xs) 0 k → Passes (is_byte b) xs k → index_of b xs ≡ k
unfolding index_of index_after
index_found b [] k inside none here = absurd (omega arith)
index_found b (x ∷ xs) zero inside none here = rw here refl
index_found b (x ∷ xs) (suc k) inside none here =
    further b x xs (none 0 (omega arith) (omega arith)) ∙ ap suc (index_found b xs k (omega arith) (rest_without b x xs k none) here)

pub index_missing : (b : ℕ) (xs : List ℕ) → Nowhere (Passes (is_byte b) xs) 0 (length xs) → index_of b xs ≡ length xs
unfolding index_of
index_missing b [] none = refl
index_missing b (x ∷ xs) none =
    further b x xs (none 0 (omega arith) (omega arith)) ∙ ap suc (index_missing b xs (rest_without b x xs (length xs) none))

-- the parts that are lent at the place that was found
pub cut_found :
    (b : ℕ) (xs : List ℕ) (k : ℕ) →
    k < length xs →
    Nowhere (Passes (is_byte b) xs) 0 k →
    Passes (is_byte b) xs k →
    IsCut b xs (take k xs) (take (length xs - (k + 1)) (drop (k + 1) xs))
cut_found b xs k inside none here =
    let at = sym (index_found b xs k inside none here) in
    let size : length (take k xs) ≡ k = length-take-le k xs (omega arith) in
    let rest : length (drop (k + 1) xs) ≡ length xs - (k + 1) = length-drop (k + 1) xs in
    record {
      before_is = before_cut b xs k at;
      rest_is = after_cut b xs k at;
      at = size ∙ at;
      whole = rw (rest_of (k + 1) xs) (omega arith);
    }
