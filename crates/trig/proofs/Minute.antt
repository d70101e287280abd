-- The sine in a minute: one fraction, rounded once. The fraction bends over its minute, and by the table's tests by so little that it is never
-- half a unit beyond the next entry. So the sine is never above that entry, and it never falls. Assumes nothing.
use mathlib.Core.Path.{◌≡◌, refl, sym, ap, ◌∙◌}
use mathlib.Core.Bool.{Bool, true, false, cond}
use mathlib.Core.Logic.{◌⊎◌, inl, inr}
use Prim.Native.Nat.{ℕ, suc, ◌+◌, ◌-◌, ◌*◌, ◌<◌, ◌≤◌, min}
use native.Mathlib.Nat.{mul-le-mul_left, min-eq_right}
use native.Mathlib.Omega.{arith}
use lib.Dec.{eqb, lit<}
use borrow.Author.Tests.{eqb-true, eqb-false}
use Rattle.proof_kit.proofs.Order.{le_or_lt}
use Rattle.integers.specs.Near.{nearest}
use Rattle.integers.proofs.Squares.{mean}
use Rattle.integers.proofs.Rounding.{nearest_low, nearest_high, nearest_only, nearest_mono, nearest_shift, nearest_whole}
use Rattle.units.specs.Units.{minute}
use Rattle.sine_table.specs.Table.{entry}
use Rattle.sine_table.proofs.Laws.{curve, fine, rises, bent_back}
use Rattle.trig.specs.Sine.{fraction_numerator, fraction_denominator, between}
use Rattle.trig.specs.Theorems.{AtMostNext}
use Rattle.trig.specs.InnerCorrection.{rise_of}

-- the denominator of the sine in a minute, an eighth of the paper's; and what the numerator gains in a mas where the entries differ by 1
abbrev pub scale : ℕ
scale = fine * (minute * minute)

abbrev pub per_mas : ℕ
per_mas = fine * minute

pub some_scale : 0 < scale
some_scale = lit< tt

-- what the sine has risen r mas past minute k, which is q mas before the next
unfoldable pub rise : (k q r : ℕ) → ℕ
rise k q r = rise_of k * r * per_mas + curve * (entry k * (r * q))

-- the numerator of that sine
unfoldable pub node : (k q r : ℕ) → ℕ
node k q r = entry k * scale + rise k q r

node_start : (k q : ℕ) → node k q 0 ≡ entry k * scale
unfolding node rise
node_start k q = omega arith

-- the paper's fraction has eight times this numerator and denominator
eighth : (n : ℕ) → nearest (8 * n) (8 * scale) ≡ nearest n scale
eighth n =
    nearest_only (8 * n) (8 * scale) (nearest n scale)
    (omega (arith, nearest_low n some_scale)) (omega (arith, nearest_high n some_scale))

fraction_near : (k r : ℕ) → entry k + nearest (fraction_numerator k r) fraction_denominator ≡ nearest (node k (minute - r) r) scale
unfolding fraction_numerator node rise rise_of
fraction_near k r =
    let eight : fraction_numerator k r ≡ 8 * rise k (minute - r) r = omega arith in
    let turned : node k (minute - r) r ≡ rise k (minute - r) r + entry k * scale = omega arith in
    let shifted = nearest_shift (rise k (minute - r) r) (entry k) scale some_scale in
    ap (λ (n : ℕ). entry k + nearest n fraction_denominator) eight
    ∙ ap (λ (n : ℕ). entry k + n) (eighth (rise k (minute - r) r))
    ∙ omega (arith, shifted)
    ∙ ap (λ (n : ℕ). nearest n scale) (sym turned)

-- where a sine lies in its minute
pub record Inside (k q r : ℕ) : Type 0 where
  pub whole : q + r ≡ minute
  pub below : k < 5400

-- seen from the next entry: the straight line ends there, and the correction's part has q in it
from_next : (k q r : ℕ) → Inside k q r → node k q r + q * (per_mas * rise_of k) ≡ entry (suc k) * scale + q * (r * (curve * entry k))
unfolding node rise rise_of
from_next k q r i = both (entry k) (entry (suc k) - entry k) (entry (suc k)) (omega (arith, rises k i.below))
  where
    both :
        (s e s' : ℕ) →
        s' ≡ s + e →
        s * scale + (e * r * per_mas + curve * (s * (r * q))) + q * (per_mas * e) ≡ s' * scale + q * (r * (curve * s))
    both s e s' next = rw next (omega (arith, ap (λ (n : ℕ). e * n) i.whole))

-- the sine never passes the next entry: its numerator is less than a half beyond it
under_next : (k q r : ℕ) → Inside k q r → 2 * node k q r < 2 * (entry (suc k) * scale) + scale
unfolding rise_of
under_next k q r i =
    little (entry k) (entry (suc k) - entry k) (node k q r) (entry (suc k)) (bent_back k i.below) (from_next k q r i)
  where
    little :
        (s e n next : ℕ) →
        2 * (curve * s) ≤ 2 * (fine * e) + fine →
        n + q * (per_mas * e) ≡ next * scale + q * (r * (curve * s)) →
        2 * n < 2 * (next * scale) + scale
    little s e n next back seen =
        let early : r ≤ minute = omega (arith, i.whole) in
        let product : 4 * (q * r) ≤ minute * minute = rw i.whole at (mean q r) in
        omega (arith, mul-le-mul_left (q * r) back, mul-le-mul_left (q * e) early)

-- a numerator that is less than a half beyond x is rounded to x at most
rounded_under : (n x : ℕ) → 2 * n < 2 * (x * scale) + scale → nearest n scale ≤ x
rounded_under n x h = omega (arith, nearest_low n some_scale)

rounded_at_most : (k q r : ℕ) → Inside k q r → nearest (node k q r) scale ≤ entry (suc k)
rounded_at_most k q r i = rounded_under (node k q r) (entry (suc k)) (under_next k q r i)

pub at_most_next : AtMostNext
at_most_next k r b early =
    rw (fraction_near k r) (rounded_at_most k (minute - r) r (record { whole = omega arith; below = b }))

-- so the smaller of the two is the sum
pub between_near : (k r : ℕ) → r < minute → ((r ≡ 0 → ⊥) → k < 5400) → between k r ≡ nearest (node k (minute - r) r) scale
unfolding between
between_near k r early below = at (eqb r 0) refl
  where
    at :
        (t : Bool) →
        eqb r 0 ≡ t →
        cond t (entry k) (min (entry (suc k)) (entry k + nearest (fraction_numerator k r) fraction_denominator)) ≡ nearest (node k (minute - r) r) scale
    at true e = rw (eqb-true r 0 e) (sym (ap (λ (n : ℕ). nearest n scale) (node_start k minute) ∙ nearest_whole (entry k) scale some_scale))
    at false e = min-eq_right (at_most_next k r (below (eqb-false r 0 e)) early) ∙ fraction_near k r

-- the end of a minute is the start of the next
pub node_end : (k : ℕ) → k < 5400 → node k 0 minute ≡ node (suc k) minute 0
unfolding node rise rise_of
node_end k h = omega (arith, rises k h)

-- the numerator's step: that of the straight line, and the correction's, which is less by two curves at each mas
pub node_step :
    (k q r : ℕ) →
    q + suc r ≡ minute →
    node k q (suc r) + curve * entry k * (2 * r + 1) ≡ node k (suc q) r + per_mas * rise_of k + curve * entry k * minute
unfolding node rise
node_step k q r whole = rw (← whole) (at (entry k) (rise_of k))
  where
    at : (s e : ℕ) →
        s * scale + (e * suc r * per_mas + curve * (s * (suc r * q))) + curve * s * (2 * r + 1)
        ≡ s * scale + (e * r * per_mas + curve * (s * (r * suc q))) + per_mas * e + curve * s * (q + suc r)
    at s e = omega arith

-- Either the numerator does not fall, or it is past the next entry, which the sine before it is not.
module _ (k q r : ℕ) (whole : q + suc r ≡ minute) (below : k < 5400) where
  start : Inside k (suc q) r
  start = record { whole = omega (arith, whole); below = below }

  end : Inside k q (suc r)
  end = record { whole = whole; below = below }

  past_next : per_mas * rise_of k ≤ curve * entry k * suc r → entry (suc k) * scale ≤ node k q (suc r)
  past_next steep = omega (arith, from_next k q (suc r) end, mul-le-mul_left q steep)

  pub rounded_rise : nearest (node k (suc q) r) scale ≤ nearest (node k q (suc r)) scale
  rounded_rise = at (le_or_lt (curve * entry k * (2 * r + 1)) (per_mas * rise_of k + curve * entry k * minute))
    where
      at :
          (curve * entry k * (2 * r + 1) ≤ per_mas * rise_of k + curve * entry k * minute)
          ⊎ (per_mas * rise_of k + curve * entry k * minute < curve * entry k * (2 * r + 1)) →
          nearest (node k (suc q) r) scale ≤ nearest (node k q (suc r)) scale
      at (inl rising) = nearest_mono scale some_scale (omega (arith, node_step k q r whole))
      at (inr falling) =
          let last : 2 * r + 1 ≤ suc r + minute = omega (arith, whole) in
          let steep : per_mas * rise_of k ≤ curve * entry k * suc r = omega (arith, mul-le-mul_left (curve * entry k) last) in
          let reached = nearest_mono scale some_scale (past_next steep) in
          omega (arith, rounded_at_most k (suc q) r start, reached, nearest_whole (entry (suc k)) scale some_scale)
