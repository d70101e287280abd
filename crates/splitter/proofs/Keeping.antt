-- What the kept bytes of a part decide: all that is answered from then on, since a line is answered by its kept bytes, and those of a part that
-- more bytes join are decided by its own. Assumes nothing.
use mathlib.Core.Path.{◌≡◌, refl, sym, ap, ◌∙◌}
use mathlib.Core.Bool.{Bool, cond}
use mathlib.Core.List.{List, [], ◌∷◌, ◌++◌, append-nil, nil≢cons, cons≢nil}
use Prim.Native.Nat.{ℕ, zero, suc, ◌<◌}
use native.Mathlib.Nat.{not-suc-le-zero}
use native.Mathlib.Omega.{arith}
use lib.ListN.{length, take}
use Rattle.lines.specs.Lines.{answer_line}
use Rattle.lines.proofs.Kept.{answer_kept}
use Rattle.requests.specs.Requests.{most_kept}
use Rattle.splitter.specs.Splitting.{ended_lines, part_left, last_line, answers_of, kept}
use Rattle.splitter.proofs.Newlines.{by_newline}

take_again : (n : ℕ) (p s : List ℕ) → take n (take n p ++ s) ≡ take n (p ++ s)
take_again zero p s = refl
take_again (suc n) [] s = refl
take_again (suc n) (b ∷ p) s = ap (λ (l : List ℕ). b ∷ l) (take_again n p s)

-- what is kept of a part with more bytes
pub kept_more : (p s : List ℕ) → kept (kept p ++ s) ≡ kept (p ++ s)
kept_more p s = take_again most_kept p s

kept_joined : (p q s : List ℕ) → kept p ≡ kept q → kept (p ++ s) ≡ kept (q ++ s)
kept_joined p q s e = sym (kept_more p s) ∙ ap (λ (l : List ℕ). kept (l ++ s)) e ∙ kept_more q s

-- Lines of which the same bytes are kept have one answer.
pub answered_alike : (p q : List ℕ) → kept p ≡ kept q → answer_line p ≡ answer_line q
answered_alike p q e = sym (answer_kept p) ∙ ap answer_line e ∙ answer_kept q

-- the answer of a last line that has come
pub last_answer : (p : List ℕ) → 0 < length p → answers_of (last_line p) ≡ answer_line p
last_answer [] h = absurd (not-suc-le-zero h)
last_answer (b ∷ p) h = append-nil (answer_line (b ∷ p))

last_alike : (p q : List ℕ) → kept p ≡ kept q → answers_of (last_line p) ≡ answers_of (last_line q)
last_alike [] [] e = refl
last_alike [] (b ∷ q) e = absurd (nil≢cons e)
last_alike (b ∷ p) [] e = absurd (cons≢nil e)
last_alike (b ∷ p) (d ∷ q) e = last_answer (b ∷ p) (omega arith) ∙ answered_alike (b ∷ p) (d ∷ q) e ∙ sym (last_answer (d ∷ q) (omega arith))

-- the answers to the input's lines where `part` has come already
abbrev pub answers_from : List ℕ → List ℕ → List ℕ
answers_from part input = answers_of (ended_lines part input) ++ answers_of (last_line (part_left part input))

pub from_alike : (p q input : List ℕ) → kept p ≡ kept q → answers_from p input ≡ answers_from q input
from_alike p q [] e = last_alike p q e
from_alike p q (b ∷ bs) e =
    by_newline
    (λ (t : Bool).
    answers_of (cond t (p ∷ ended_lines [] bs) (ended_lines (p ++ (b ∷ [])) bs)) ++ answers_of (last_line (cond t (part_left [] bs) (part_left (p ++ (b ∷ [])) bs)))
    ≡ answers_of (cond t (q ∷ ended_lines [] bs) (ended_lines (q ++ (b ∷ [])) bs)) ++ answers_of (last_line (cond t (part_left [] bs) (part_left (q ++ (b ∷ [])) bs))))
    b
    (ap (λ (l : List ℕ). l ++ answers_of (ended_lines [] bs) ++ answers_of (last_line (part_left [] bs))) (answered_alike p q e))
    (from_alike (p ++ (b ∷ [])) (q ++ (b ∷ [])) bs (kept_joined p q (b ∷ []) e))
