-- Input up to its first newline. What goes along the input byte by byte joins each byte to the part until the newline comes; so it is the same of
-- the joined part and of what follows, and where no newline comes all joins the part. Assumes nothing.
use mathlib.Core.Path.{◌≡◌, refl, sym, ap, ◌∙◌}
use mathlib.Core.Bool.{Bool, true, false, cond}
use mathlib.Core.List.{List, [], ◌∷◌, ◌++◌, append-nil, append_assoc}
use Prim.Native.Nat.{ℕ, suc, ◌≤◌, ◌<◌}
use native.Mathlib.Nat.{not-suc-le-zero, le_of_suc-le-suc}
use lib.Dec.{eqb}
use lib.ListN.{length, take, drop}
use Rattle.text.specs.Cutting.{index_after, index_of, up_to, after}
use Rattle.text.specs.Ascii.{newline}
use Rattle.splitter.specs.Splitting.{ended_lines, part_left}

-- f goes along the input: a newline makes `step` of the part that has come and of what follows; another byte joins the part
pub record Along {A : Type 0} (f : List ℕ → List ℕ → A) (step : List ℕ → A → A) : Type 0 where
  pub at_byte :
      (part : List ℕ) (b : ℕ) (bs : List ℕ) →
      f part (b ∷ bs) ≡ cond (eqb b newline) (step part (f [] bs)) (f (part ++ (b ∷ [])) bs)

pub ended_along : Along ended_lines (λ (part : List ℕ) (rest : List (List ℕ)). part ∷ rest)
ended_along = record { at_byte = λ part b bs. refl }

pub left_along : Along part_left (λ (part rest : List ℕ). rest)
left_along = record { at_byte = λ part b bs. refl }

-- what holds of a byte that is a newline and of one that is not
pub by_newline : (P : Bool → Type 0) (b : ℕ) → P true → P false → P (eqb b newline)
by_newline P b at-newline at_other = elim (eqb b newline) as P [ true ↦ at-newline | false ↦ at_other ]

module _ {A : Type 0} {f : List ℕ → List ℕ → A} {step : List ℕ → A → A} (along : Along f step) where
  -- to the first newline, and past it
  pub past_newline :
      (part bs : List ℕ) → index_of newline bs < length bs →
      f part bs ≡ step (part ++ up_to newline bs) (f [] (after newline bs))
  unfolding index_of index_after
  past_newline part [] h = absurd (not-suc-le-zero h)
  past_newline part (b ∷ bs) h =
      along.at_byte part b bs
      ∙ by_newline
      (λ (t : Bool).
      let end = index_after t (index_of newline bs) in
      end < suc (length bs) →
      cond t (step part (f [] bs)) (f (part ++ (b ∷ [])) bs) ≡ step (part ++ take end (b ∷ bs)) (f [] (drop (suc end) (b ∷ bs))))
      b
      (λ l. ap (λ (p : List ℕ). step p (f [] bs)) (sym (append-nil part)))
      (λ l.
      past_newline (part ++ (b ∷ [])) bs (le_of_suc-le-suc l)
      ∙ ap (λ (p : List ℕ). step p (f [] (after newline bs))) (append_assoc part (b ∷ []) (up_to newline bs)))
      h

  -- where there is no newline
  pub to_end : (part bs : List ℕ) → length bs ≤ index_of newline bs → f part bs ≡ f (part ++ bs) []
  unfolding index_of index_after
  to_end part [] h = ap (λ (p : List ℕ). f p []) (sym (append-nil part))
  to_end part (b ∷ bs) h =
      along.at_byte part b bs
      ∙ by_newline
      (λ (t : Bool).
      suc (length bs) ≤ index_after t (index_of newline bs) →
      cond t (step part (f [] bs)) (f (part ++ (b ∷ [])) bs) ≡ f (part ++ (b ∷ bs)) [])
      b
      (λ l. absurd (not-suc-le-zero l))
      (λ l. to_end (part ++ (b ∷ [])) bs (le_of_suc-le-suc l) ∙ ap (λ (p : List ℕ). f p []) (append_assoc part (b ∷ []) bs))
      h
