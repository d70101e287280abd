-- What is known of an accepted side. The code compares bits: bits say which number is held, so a side is the one whose bits it has and no
-- other. What holds of each of the three, by computation, holds of an accepted side. Assumes nothing.
use mathlib.Core.Path.{◌≡◌, refl, sym, subst}
use mathlib.Core.Bool.{true, ◌||◌}
use mathlib.Core.Logic.{◌⊎◌, inl, inr}
use Prim.Native.Nat.{◌≤◌, ◌<◌}
use lib.Dec.{lit≤, lit<}
use lib.IntN.{ℤ, pos, nat_abs}
use Rattle.units.specs.Spans.{same}
use Rattle.units.proofs.Spans.{either, same_equal}
use Rattle.cells.specs.declared.Side.{Side}
use Rattle.cells.specs.declared.Side.TheVariants.{Metres100, Kilometre, Kilometres10}
use Rattle.cells.specs.Cells.{accepted_side, top, side_length}

-- what holds of each of the three holds of an accepted side
pub of_each_side : (P : ℤ → Type 0) → P (pos 10_000) → P (pos 100_000) → P (pos 1_000_000) → (side : ℤ) → accepted_side side ≡ true → P side
unfolding accepted_side
of_each_side P a b c side ok = at (either (same side (pos 10_000) || same side (pos 100_000)) (same side (pos 1_000_000)) ok)
  where
    smaller : (same side (pos 10_000) ≡ true) ⊎ (same side (pos 100_000) ≡ true) → P side
    smaller (inl e) = subst P (sym (same_equal side (pos 10_000) e)) a
    smaller (inr e) = subst P (sym (same_equal side (pos 100_000) e)) b

    at : ((same side (pos 10_000) || same side (pos 100_000)) ≡ true) ⊎ (same side (pos 1_000_000) ≡ true) → P side
    at (inl e) = smaller (either (same side (pos 10_000)) (same side (pos 100_000)) e)
    at (inr e) = subst P (sym (same_equal side (pos 1_000_000) e)) c

pub side_natural : (side : ℤ) → accepted_side side ≡ true → pos (nat_abs side) ≡ side
side_natural = of_each_side (λ side. pos (nat_abs side) ≡ side) refl refl refl

pub side_some : (side : ℤ) → accepted_side side ≡ true → 0 < nat_abs side
side_some = of_each_side (λ side. 0 < nat_abs side) (lit< tt) (lit< tt) (lit< tt)

pub side_above_1 : (side : ℤ) → accepted_side side ≡ true → 1 < nat_abs side
side_above_1 = of_each_side (λ side. 1 < nat_abs side) (lit< tt) (lit< tt) (lit< tt)

-- ---- the side of a length

pub some_long : (side : Side) → 0 < side_length side
some_long Metres100 = lit< tt
some_long Kilometre = lit< tt
some_long Kilometres10 = lit< tt

pub top_most : (side : Side) → top (side_length side) ≤ 500_000
top_most Metres100 = lit≤ tt
top_most Kilometre = lit≤ tt
top_most Kilometres10 = lit≤ tt
