-- How many numbers of a span pass a test: the span is cut where the test changes, a part of which none pass counts 0, and one of which all
-- pass counts its length. Assumes nothing.
use mathlib.Core.Path.{◌≡◌, refl, sym, ap, ◌∙◌, subst}
use mathlib.Core.Bool.{Bool, true, false, cond}
use Prim.Native.Nat.{ℕ, zero, suc, ◌+◌, ◌-◌, ◌*◌}
use native.Mathlib.Nat.{zero-add, suc-add}
use native.Mathlib.Omega.{arith}
use lib.IntN.{ℤ, pos, neg_ℤ, nat_abs, ◌+ℤ◌, +ℤ_idr}
use lib.Signed.{◌≤ℤ◌, ◌<ℤ◌}
use Rattle.proof_kit.proofs.Laws.{nat_abs_parts, by_parts, one_part, parts-+, P-neg, N-neg}
use Rattle.proof_kit.proofs.Order.{order, eq_parts}
use Rattle.cells.specs.Theorems.{count}

-- the test gives this on the n numbers from `first` on
abbrev Gives : (ℤ → Bool) → Bool → ℤ → ℕ → Type 0
Gives test b first n = (z : ℤ) → first ≤ℤ z → z <ℤ (first +ℤ pos n) → test z ≡ b

further : (first : ℤ) (m : ℕ) → first +ℤ pos 1 +ℤ pos m ≡ first +ℤ pos (suc m)
further first m =
    by_parts (first +ℤ pos 1 +ℤ pos m) (first +ℤ pos (suc m))
    (omega (arith, parts-+ (first +ℤ pos 1) (pos m), parts-+ first (pos 1), parts-+ first (pos (suc m))))

module _ (test : ℤ → Bool) where
  -- the first of a span, and the rest
  gives_first : {b : Bool} (first : ℤ) (n : ℕ) → Gives test b first (suc n) → test first ≡ b
  gives_first first n g = g first (omega order) (omega (order, parts-+ first (pos (suc n))))

  gives_rest : {b : Bool} (first : ℤ) (n : ℕ) → Gives test b first (suc n) → Gives test b (first +ℤ pos 1) n
  gives_rest first n g z low high =
      g z (omega (order, parts-+ first (pos 1)))
      (omega (order, parts-+ first (pos 1), parts-+ first (pos (suc n)), parts-+ (first +ℤ pos 1) (pos n)))

  -- all alike: none or all
  count_alike : (b : Bool) (first : ℤ) (n : ℕ) → Gives test b first n → count test first n ≡ cond b n 0
  unfolding count
  count_alike true first zero g = refl
  count_alike false first zero g = refl
  count_alike true first (suc n) g =
      let here = gives_first first n g in
      let rest = count_alike true (first +ℤ pos 1) n (gives_rest first n g) in
      rw (here, rest) (omega arith)
  count_alike false first (suc n) g =
      let here = gives_first first n g in
      let rest = count_alike false (first +ℤ pos 1) n (gives_rest first n g) in
      rw (here, rest) refl

  -- two spans, one after the other
  count_join : (m n : ℕ) (first : ℤ) → count test first (m + n) ≡ count test first m + count test (first +ℤ pos m) n
  unfolding count
  count_join zero n first = rw (+ℤ_idr first) (ap (count test first) (zero-add n) ∙ sym (zero-add (count test first n)))
  count_join (suc m) n first =
      let rest = count_join m n (first +ℤ pos 1) ∙ ap (λ (z : ℤ). count test (first +ℤ pos 1) m + count test z n) (further first m) in
      ap (count test first) (suc-add m n) ∙ omega (arith, rest)

  -- a run: none before it, all of it, none after it
  count_run :
      (first : ℤ) (before run after : ℕ) →
      Gives test false first before →
      Gives test true (first +ℤ pos before) run →
      Gives test false (first +ℤ pos before +ℤ pos run) after →
      count test first (before + (run + after)) ≡ run
  count_run first before run after none all no_more =
      let start : ℤ = first +ℤ pos before in
      omega (
        arith,
        count_join before (run + after) first,
        count_join run after start,
        count_alike false first before none,
        count_alike true start run all,
        count_alike false (start +ℤ pos run) after no_more,
      )

  -- a run within the limits, of the numbers from −limit to limit
  module _ (limit run : ℕ) (edge : ℤ) (low : neg_ℤ (pos limit) ≤ℤ edge) (high : (edge +ℤ pos run) ≤ℤ pos (suc limit)) where
    abbrev least : ℤ
    least = neg_ℤ (pos limit)

    -- how many stand before the run, and after it
    abbrev before : ℕ
    before = nat_abs (edge +ℤ pos limit)

    abbrev after : ℕ
    after = 2 * limit + 1 - (before + run)

    start : least +ℤ pos before ≡ edge
    start =
        let sum : ℤ = edge +ℤ pos limit in
        by_parts (least +ℤ pos before) edge
        (omega (
          order,
          nat_abs_parts sum,
          one_part sum,
          parts-+ edge (pos limit),
          parts-+ least (pos before),
          P-neg (pos limit),
          N-neg (pos limit),
        ))

    all_told : before + (run + after) ≡ 2 * limit + 1
    all_told =
        omega (order, eq_parts start, parts-+ least (pos before), parts-+ edge (pos run), P-neg (pos limit), N-neg (pos limit))

    pub run_inside :
        ((z : ℤ) → z <ℤ edge → test z ≡ false) →
        ((z : ℤ) → edge ≤ℤ z → z <ℤ (edge +ℤ pos run) → test z ≡ true) →
        ((z : ℤ) → (edge +ℤ pos run) ≤ℤ z → z ≤ℤ pos limit → test z ≡ false) →
        count test least (2 * limit + 1) ≡ run
    run_inside below in-run above =
        ap (count test least) (sym all_told)
        ∙ count_run least before run after
        (λ z a b. below z (subst (λ (e : ℤ). z <ℤ e) start b))
        (λ z a b. in-run z (subst (λ (e : ℤ). e ≤ℤ z) start a) (subst (λ (e : ℤ). z <ℤ (e +ℤ pos run)) start b))
        (λ z a b. above z (subst (λ (e : ℤ). (e +ℤ pos run) ≤ℤ z) start a) (last z b))
      where
        last : (z : ℤ) → z <ℤ (least +ℤ pos before +ℤ pos run +ℤ pos after) → z ≤ℤ pos limit
        last z b =
            omega (
              order,
              all_told,
              parts-+ (least +ℤ pos before +ℤ pos run) (pos after),
              parts-+ (least +ℤ pos before) (pos run),
              parts-+ least (pos before),
              P-neg (pos limit),
              N-neg (pos limit),
            )
