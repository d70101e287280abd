-- Table T, document 01, "Sine and angle": the sine of each whole minute from 0 to 5400, in parts of U.
-- Natural numbers serve throughout: the powers of x stand over one denominator, and those with a minus are summed apart.
use Rattle.std.specs.Prelude.{ℕ, zero, suc, ◌+◌, ◌-◌, ◌*◌, ◌/◌, ◌^◌, ◌<◌, ◌≡◌, List, get_or}
use Rattle.std.specs.Coded.{Π_prop}
use native.Mathlib.Nat.{ℕ_set}
use Rattle.integers.specs.Near.{nearest}
use Rattle.units.specs.Units.{unit}

-- "at x = k · 290,888,208,665,721,596 / 10^21"
unfoldable pub x_numerator : ℕ → ℕ
x_numerator k = k * 290_888_208_665_721_596

unfoldable pub x_denominator : ℕ
x_denominator = 10 ^ 21

unfoldable pub factorial : ℕ → ℕ
factorial zero = 1
factorial (suc n) = suc n * factorial n

-- x^n / n! is `term k n` over this denominator, for n up to 21.
unfoldable pub common_denominator : ℕ
common_denominator = x_denominator ^ 21 * factorial 21

unfoldable pub term : ℕ → ℕ → ℕ
term k n = x_numerator k ^ n * x_denominator ^ (21 - n) * (factorial 21 / factorial n)

-- "the Taylor polynomial of sine up to the 21st power": x − x^3/3! + x^5/5! − .. + x^21/21!
unfoldable pub positive : ℕ → ℕ
positive k = term k 1 + term k 5 + term k 9 + term k 13 + term k 17 + term k 21

unfoldable pub negative : ℕ → ℕ
negative k = term k 3 + term k 7 + term k 11 + term k 15 + term k 19

-- "T[k] is the whole number nearest to U times the Taylor polynomial". Where a proof opens `entry`, the line under the signature
-- opens all that it is made of, so that it computes.
unfoldable pub entry : ℕ → ℕ
unfolding nearest x_numerator x_denominator factorial common_denominator term positive negative
entry k = nearest (unit * (positive k - negative k)) common_denominator

-- "Table T has 5,401 entries, minute 0 to 5400."
unfoldable pub IsTable : List ℕ → Type 0
IsTable xs = (k : ℕ) → k < 5401 → get_or xs k 0 ≡ entry k

-- It holds in one way at most, so that a table can carry it.
pub IsTable-prop : (xs : List ℕ) → IsProp (IsTable xs)
unfolding IsTable
IsTable-prop xs = Π_prop (λ k. Π_prop (λ _. ℕ_set _ _))

-- "with T strictly rising"
abbrev pub StrictlyRising : Type 0
StrictlyRising = (k : ℕ) → k < 5400 → entry k < entry (suc k)
