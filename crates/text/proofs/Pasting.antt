-- Laws of `pasted`, from those of the kit's `paste`: a text put after another leaves their join, since the first ends where the second starts
-- and the bytes before and after both stay. Assumes nothing.
use mathlib.Core.Path.{◌≡◌, sym, ap, ap₂, ◌∙◌}
use mathlib.Core.List.{List, [], ◌++◌, append_assoc}
use Prim.Native.Nat.{ℕ, ◌+◌, ◌≤◌}
use native.Mathlib.Nat.{add_assoc, le_refl}
use native.Mathlib.Omega.{arith}
use lib.ListN.{length, take, drop, length-append}
use lib.Seq.{paste-zero, length-paste, take-paste, drop-paste, take-length, drop-drop}
use Rattle.text.specs.Pasting.{pasted, Put}

-- the text in full
pub pasted_parts : (xs : List ℕ) (at : ℕ) (ys : List ℕ) → pasted xs at ys ≡ take at xs ++ ys ++ drop (at + length ys) xs
unfolding pasted
pasted_parts xs at ys = ap (λ (l : List ℕ). take at xs ++ l ++ drop (at + length ys) xs) (take-length ys)

pub length_pasted : (xs : List ℕ) (at : ℕ) (ys : List ℕ) → at + length ys ≤ length xs → length (pasted xs at ys) ≡ length xs
unfolding pasted
length_pasted xs at ys room = length-paste xs at ys (length ys) room (le_refl (length ys))

module _ (xs : List ℕ) (at : ℕ) (ys : List ℕ) (inside : at ≤ length xs) where
  pub take_pasted : take (at + length ys) (pasted xs at ys) ≡ take at xs ++ ys
  unfolding pasted
  take_pasted = take-paste xs at ys (length ys) inside (le_refl (length ys)) ∙ ap (λ (l : List ℕ). take at xs ++ l) (take-length ys)

  pub drop_pasted : (n : ℕ) → drop (at + length ys + n) (pasted xs at ys) ≡ drop (at + length ys + n) xs
  unfolding pasted
  drop_pasted n =
      sym (drop-drop n (at + length ys) (pasted xs at ys))
      ∙ ap (drop n) (drop-paste xs at ys (length ys) inside (le_refl (length ys)))
      ∙ drop-drop n (at + length ys) xs

pub pasted_none : (xs : List ℕ) (at : ℕ) → xs ≡ pasted xs at []
unfolding pasted
pasted_none xs at = paste-zero xs at []

pub pasted_more :
    (xs : List ℕ) (at : ℕ) (ys zs : List ℕ) →
    at ≤ length xs →
    pasted (pasted xs at ys) (at + length ys) zs ≡ pasted xs at (ys ++ zs)
pasted_more xs at ys zs inside =
    pasted_parts (pasted xs at ys) (at + length ys) zs
    ∙ ap₂ (λ (l r : List ℕ). l ++ zs ++ r) (take_pasted xs at ys inside) (drop_pasted xs at ys inside (length zs))
    ∙ ap₂ (λ (l : List ℕ) (n : ℕ). l ++ drop n xs) (append_assoc (take at xs) ys zs) after
    ∙ sym (pasted_parts xs at (ys ++ zs))
  where
    after : at + length ys + length zs ≡ at + length (ys ++ zs)
    after = add_assoc at (length ys) (length zs) ∙ ap (λ (n : ℕ). at + n) (sym (length-append ys zs))

-- ---- what calls leave, one after the other

module _ {xs : List ℕ} {at : ℕ} {ys out : List ℕ} {end : ℕ} (p : Put xs at ys out end) where
  -- another name for the text
  pub put_as : {zs : List ℕ} → ys ≡ zs → Put xs at zs out end
  put_as e = record { bytes = p.bytes ∙ ap (pasted xs at) e; next = p.next ∙ ap (λ (l : List ℕ). at + length l) e }

  pub put_length : at + length ys ≤ length xs → length out ≡ length xs
  put_length room = ap length p.bytes ∙ length_pasted xs at ys room

  pub put_both : {zs out₂ : List ℕ} {end₂ : ℕ} → at ≤ length xs → Put out end zs out₂ end₂ → Put xs at (ys ++ zs) out₂ end₂
  put_both {zs} inside q = record {
    bytes = q.bytes ∙ ap₂ (λ (l : List ℕ) (n : ℕ). pasted l n zs) p.bytes p.next ∙ pasted_more xs at ys zs inside;
    next = omega (arith, p.next, q.next, length-append ys zs);
  }

-- nothing
pub put_none : (xs : List ℕ) (at : ℕ) → Put xs at [] xs at
put_none xs at = record { bytes = pasted_none xs at; next = omega arith }
