-- The marks that the filter keeps are the zeros.
use Rattle.std.proofs.Common.{rules, tests, ◌≡◌, refl, ap, ◌∙◌, ℕ, zero, suc, length, List, [], ◌∷◌, nat_eq, false}
use Rattle.std.specs.List.{filter}
use Rattle.std.proofs.lemmas.Iterator.{YieldsList-from_slice}
use Rattle.std.proofs.lemmas.Iterator.Consumers.{YieldsList-from_filter, count_from_yields_List}
use Rattle.row_lists.specs.Rows.{zeros}
use Rattle.row_lists.proofs.count_zeros.Goals as goal

zeros_kept : (marks : List ℕ) → length (filter (λ (m : ℕ). nat_eq m 0) marks) ≡ zeros marks
zeros_kept [] = refl
zeros_kept (zero ∷ marks) = ap suc (zeros_kept marks)
zeros_kept (suc m ∷ marks) = let other : nat_eq (suc m) 0 ≡ false = search (rules, tests) in rw other (zeros_kept marks)

pub returns : goal.returns
returns c =
    count_from_yields_List c.filter.result c.count.result c.count.ensures.ran
    (YieldsList-from_filter _ (λ (m : ℕ). nat_eq m 0) (YieldsList-from_slice c.args.marks.now (cc)) c.filter.ensures.closure
    (λ x b q k. search (rules, tests)))
    ∙ zeros_kept c.args.marks.now
