-- How the kept bytes of a part stand in an array: at its front, and zeros after them.
use Rattle.std.specs.Prelude.{ℕ, ◌-◌, ◌≤◌, ◌≡◌, List, ◌++◌, length, take, replicate}
use Rattle.std.specs.Coded.{Coded-set, coded_list, coded_ℕ, le_prop}
use Rattle.std.proofs.Common.{refl, ap, sym, arith, length-take}
use Rattle.std.proofs.lemmas.List.{take_at}
use Rattle.requests.specs.Requests.{most_kept}

unfoldable pub padded : List ℕ → List ℕ
padded part = part ++ replicate (most_kept - length part) 0

-- What every carried value is: its `len` bytes are no more than are kept, and zeros stand after them.
pub record IsCarried (bytes : List ℕ) (len : ℕ) : Type 0 where
  pub few : len ≤ most_kept
  pub zeros : bytes ≡ padded (take len bytes)

-- It holds in one way at most, so that a value can carry it,
pub IsCarried-prop : (bytes : List ℕ) (len : ℕ) → IsProp (IsCarried bytes len)
IsCarried-prop bytes len =
    λ p q i. record { few = le_prop p.few q.few i; zeros = Coded-set (coded_list coded_ℕ) bytes (padded (take len bytes)) p.zeros q.zeros i }

-- and it holds of the kept bytes of every part.
pub kept_carried : (part : List ℕ) → IsCarried (padded (take most_kept part)) (length (take most_kept part))
unfolding padded
kept_carried part =
    let kept = take most_kept part in
    record { few = omega (arith, length-take most_kept part); zeros = ap padded (sym (take_at kept _ (length kept) refl)) }
