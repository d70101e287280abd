-- Input cut into pieces has the lines of the whole: what is left of a piece is the part to which the next one joins. Assumes nothing.
use mathlib.Core.Path.{◌≡◌, refl, sym, ap, ap₂, ◌∙◌}
use mathlib.Core.Bool.{Bool, cond}
use mathlib.Core.List.{List, [], ◌∷◌, ◌++◌, append-nil, append_assoc}
use Prim.Native.Nat.{ℕ, ◌≤◌}
use native.Mathlib.Omega.{arith}
use lib.ListN.{length, length-take}
use lib.Seq.{take-take}
use Rattle.text.specs.Cutting.{index_of, up_to}
use Rattle.requests.specs.Requests.{most_kept}
use Rattle.text.specs.Ascii.{newline}
use Rattle.lines.specs.Lines.{answer_line}
use Rattle.splitter.specs.Splitting.{ended_lines, part_left, last_line, lines_of, answers_of, output_from, lines_from, joined, kept}
use Rattle.splitter.specs.Theorems.{LinesAlike, PiecesAlike, EmptyInput, EmptyLine, NothingAfter, LastLine, OnlyLine}
use Rattle.splitter.proofs.Newlines.{by_newline, ended_along, left_along, to_end}
use Rattle.splitter.proofs.Keeping.{answers_from, from_alike}

left_joined : (part xs ys : List ℕ) → part_left part (xs ++ ys) ≡ part_left (part_left part xs) ys
left_joined part [] ys = refl
left_joined part (b ∷ xs) ys =
    by_newline
    (λ (t : Bool).
    cond t (part_left [] (xs ++ ys)) (part_left (part ++ (b ∷ [])) (xs ++ ys))
    ≡ part_left (cond t (part_left [] xs) (part_left (part ++ (b ∷ [])) xs)) ys)
    b
    (left_joined [] xs ys)
    (left_joined (part ++ (b ∷ [])) xs ys)

ended_joined : (part xs ys : List ℕ) → ended_lines part (xs ++ ys) ≡ ended_lines part xs ++ ended_lines (part_left part xs) ys
ended_joined part [] ys = refl
ended_joined part (b ∷ xs) ys =
    by_newline
    (λ (t : Bool).
    cond t (part ∷ ended_lines [] (xs ++ ys)) (ended_lines (part ++ (b ∷ [])) (xs ++ ys))
    ≡ cond t (part ∷ ended_lines [] xs) (ended_lines (part ++ (b ∷ [])) xs) ++ ended_lines (cond t (part_left [] xs) (part_left (part ++ (b ∷ [])) xs)) ys)
    b
    (ap (λ (l : List (List ℕ)). part ∷ l) (ended_joined [] xs ys))
    (ended_joined (part ++ (b ∷ [])) xs ys)

answers_joined : (xs ys : List (List ℕ)) → answers_of (xs ++ ys) ≡ answers_of xs ++ answers_of ys
answers_joined [] ys = refl
answers_joined (x ∷ xs) ys = ap (λ (l : List ℕ). answer_line x ++ l) (answers_joined xs ys) ∙ sym (append_assoc (answer_line x) (answers_of xs) (answers_of ys))

lines_from_lem : (part : List ℕ) (pieces : List (List ℕ)) → lines_from part pieces ≡ ended_lines part (joined pieces) ++ last_line (part_left part (joined pieces))
lines_from_lem part [] = refl
lines_from_lem part (piece ∷ pieces) =
    ap (λ (l : List (List ℕ)). ended_lines part piece ++ l) (lines_from_lem (part_left part piece) pieces)
    ∙ sym (simp (ended_joined, left_joined, append_assoc))

pub lines_alike : LinesAlike
lines_alike pieces = lines_from_lem [] pieces

output_from_lem : (part : List ℕ) (pieces : List (List ℕ)) → output_from part pieces ≡ answers_from part (joined pieces)
output_from_lem part [] = refl
output_from_lem part (piece ∷ pieces) =
    let left = part_left part piece in
    ap (λ (l : List ℕ). answers_of (ended_lines part piece) ++ l)
    (output_from_lem (kept left) pieces ∙ from_alike (kept left) left (joined pieces) (take-take most_kept most_kept left (omega arith)))
    ∙ sym (simp (ended_joined, left_joined, answers_joined, append_assoc))

pub pieces_alike : PiecesAlike
pieces_alike pieces = output_from_lem [] pieces ∙ sym (answers_joined (ended_lines [] (joined pieces)) (last_line (part_left [] (joined pieces))))

pub empty_input : EmptyInput
empty_input = refl

pub empty_line : EmptyLine
empty_line = refl

pub nothing_after : NothingAfter
nothing_after input = rw left_joined (append-nil (ended_lines [] (input ++ (newline ∷ []))))

-- text without a newline, after input that leaves no part
last_after :
    (xs : List ℕ) (b : ℕ) (bs : List ℕ) →
    part_left [] xs ≡ [] →
    up_to newline (b ∷ bs) ≡ b ∷ bs →
    lines_of (xs ++ (b ∷ bs)) ≡ ended_lines [] xs ++ ((b ∷ bs) ∷ [])
last_after xs b bs nothing h = ap₂ (λ (e : List (List ℕ)) (p : List ℕ). e ++ last_line p) (ended nothing) (left nothing)
  where
    long : length (b ∷ bs) ≤ index_of newline (b ∷ bs)
    long = omega (arith, ap length h, length-take (index_of newline (b ∷ bs)) (b ∷ bs))

    ended : part_left [] xs ≡ [] → ended_lines [] (xs ++ (b ∷ bs)) ≡ ended_lines [] xs
    ended e =
        ended_joined [] xs (b ∷ bs)
        ∙ ap (λ (p : List ℕ). ended_lines [] xs ++ ended_lines p (b ∷ bs)) e
        ∙ ap (λ (l : List (List ℕ)). ended_lines [] xs ++ l) (to_end ended_along [] (b ∷ bs) long)
        ∙ append-nil (ended_lines [] xs)

    left : part_left [] xs ≡ [] → part_left [] (xs ++ (b ∷ bs)) ≡ b ∷ bs
    left e = left_joined [] xs (b ∷ bs) ∙ ap (λ (p : List ℕ). part_left p (b ∷ bs)) e ∙ to_end left_along [] (b ∷ bs) long

pub last_line_lem : LastLine
last_line_lem input b bs h =
    ap lines_of (sym (append_assoc input (newline ∷ []) (b ∷ bs))) ∙ last_after (input ++ (newline ∷ [])) b bs (left_joined [] input (newline ∷ [])) h

pub only_line : OnlyLine
only_line b bs h = last_after [] b bs refl h
