-- How a part is carried. The array starts with its kept bytes and has zeros after them; bytes that are put behind the part take the place of as many
-- zeros, so that what stands then is how the joined part is carried. Assumes nothing.
use mathlib.Core.Path.{◌≡◌, sym, ap, ap₂, ◌∙◌, subst₂}
use mathlib.Core.HLevel.{is_prop→PathP}
use mathlib.Core.List.{List, [], ◌++◌}
use mathlib.Core.Logic.{⊎_elim}
use Prim.Native.Nat.{ℕ, ◌+◌, ◌-◌, ◌<◌, ◌≤◌, min}
use native.Mathlib.Omega.{arith}
use lib.ListN.{length, take, replicate, length-append, length-take, length-replicate}
use lib.Seq.{take_all, take-append_seam, take-append-add, drop-append-add}
use Rattle.std.proofs.lemmas.List.{drop-replicate}
use Rattle.proof_kit.proofs.Order.{le_or_lt}
use Rattle.requests.specs.Requests.{most_kept}
use Rattle.text.specs.Pasting.{pasted, Put}
use Rattle.text.proofs.Pasting.{pasted_parts}
use Rattle.splitter.specs.declared.part.Carried.{Carried}
use Rattle.splitter.specs.Carrying.{padded, IsCarried, IsCarried-prop, kept_carried}
use Rattle.splitter.specs.Splitting.{kept, carried_of, part_of}
use Rattle.splitter.specs.Theorems.{CarriedKept}

pub carried_kept : CarriedKept
unfolding carried_of padded
carried_kept part = take-append_seam (kept part) (replicate (most_kept - length (kept part)) 0)

-- The two fields tell a value.
pub carried_as : (c : Carried) (part : List ℕ) → c.bytes ≡ padded (kept part) → c.len ≡ length (kept part) → c ≡ carried_of part
unfolding carried_of
carried_as c part bytes len =
    λ i. record {
      bytes = bytes i;
      len = len i;
      is_carried = is_prop→PathP (λ j. IsCarried (bytes j) (len j)) (λ j. IsCarried-prop (bytes j) (len j)) c.is_carried (kept_carried part) i;
    }

-- the kept bytes are carried as the part is
pub carried_alike : (p q : List ℕ) → kept p ≡ kept q → carried_of p ≡ carried_of q
unfolding carried_of
carried_alike p q e = carried_as (carried_of p) q (ap padded e) (ap length e)

-- a value that carries the part p
module _ (c : Carried) where
  abbrev p : List ℕ
  p = part_of c

  abbrev room : ℕ
  room = most_kept - c.len

  pub len_is : c.len ≡ length p
  unfolding padded
  len_is =
      omega
      (arith, c.is_carried.few, ap length c.is_carried.zeros, length-append p (replicate (most_kept - length p) 0), length-replicate {A = ℕ} (most_kept - length p) 0, length-take c.len c.bytes)

  p_kept : kept p ≡ p
  p_kept = take_all most_kept p (omega (arith, len_is, c.is_carried.few))

  -- it is what its part is carried as
  pub is_carried : c ≡ carried_of p
  is_carried = carried_as c p (c.is_carried.zeros ∙ ap padded (sym p_kept)) (len_is ∙ ap length (sym p_kept))

  -- where there is room for more, all of it is put, or as much as there is room for
  module _ (part : List ℕ) where
    abbrev more : List ℕ
    more = take (min (length part) room) part

    front : take room part ≡ more
    front =
        ⊎_elim
        (λ (short : length part ≤ room). take_all room part short ∙ sym (take_all (min (length part) room) part (omega arith)))
        (λ (long : room < length part). let is : room ≡ min (length part) room = omega arith in ap (λ (k : ℕ). take k part) is)
        (le_or_lt (length part) room)

    whole : kept (p ++ part) ≡ p ++ more
    whole =
        let size : most_kept ≡ length p + room = omega (arith, len_is, c.is_carried.few) in
        ap (λ (k : ℕ). take k (p ++ part)) size ∙ take-append-add p part room ∙ ap (λ (l : List ℕ). p ++ l) front

    put_all : pasted c.bytes c.len more ≡ padded (kept (p ++ part))
    unfolding padded
    put_all =
        ap₂ (λ (b : List ℕ) (k : ℕ). pasted b k more) c.is_carried.zeros len_is
        ∙ pasted_parts (p ++ zeros) (length p) more
        ∙ ap₂ (λ (l r : List ℕ). l ++ more ++ r) (take-append_seam p zeros) (drop-append-add p zeros (length more))
        ∙ ap (λ (l : List ℕ). p ++ more ++ l) (drop-replicate (length more) (most_kept - length p) 0)
        ∙ ap (λ (k : ℕ). p ++ more ++ replicate k 0) count
        ∙ sym (ap padded whole)
      where
        zeros : List ℕ
        zeros = replicate (most_kept - length p) 0

        count : most_kept - length p - length more ≡ most_kept - length (p ++ more)
        count = omega (arith, length-append p more)

    put_len : c.len + length more ≡ length (kept (p ++ part))
    put_len = omega (arith, len_is, ap length whole, length-append p more)

    module _ {bytes : List ℕ} {end : ℕ} (put : Put c.bytes c.len more bytes end) where
      pub more_kept : IsCarried bytes end
      more_kept = subst₂ IsCarried (sym (put.bytes ∙ put_all)) (sym (put.next ∙ put_len)) (kept_carried (p ++ part))

      pub more_carried : (is : IsCarried bytes end) → record { bytes = bytes; len = end; is_carried = is } ≡ carried_of (p ++ part)
      more_carried is = carried_as _ (p ++ part) (put.bytes ∙ put_all) (put.next ∙ put_len)

-- where no byte is carried, that is how no part is
pub none_carried : (c : Carried) → c.len ≡ 0 → c ≡ carried_of []
none_carried c none = is_carried c ∙ ap (λ (n : ℕ). carried_of (take n c.bytes)) none
