-- What holds of the definitions that the contracts cite: each is what its words in document 01 say, and the only such number; and the root
-- is found by the rounds of request d). What `NearNearest` states is proved as `near_nearest` in proofs/, and so the others.
use Rattle.std.specs.Prelude.{ℕ, ◌*◌, ◌^◌, ◌<◌, ◌≤◌, ◌≡◌, Bool, true, ℤ, pos, nat_abs, ◌-ℤ◌, ◌*ℤ◌}
use Rattle.integers.specs.Near.{near}
use Rattle.integers.specs.Greatest.{greatest}
use Rattle.integers.specs.Root.{root}
use Rattle.integers.specs.Rounds.{rounds, none_taken}

-- ---- "near(n/d): nearest whole number, halves away from zero"

-- d times the distance of q from n/d
abbrev pub distance : ℤ → ℕ → ℤ → ℕ
distance n d q = nat_abs (q *ℤ pos d -ℤ n)

-- No number is nearer to n/d than q, and none that is as near is farther from zero.
pub record IsNearest (n : ℤ) (d : ℕ) (q : ℤ) : Type 0 where
  pub none_nearer : (k : ℤ) → distance n d q ≤ distance n d k
  pub away_from_zero : (k : ℤ) → distance n d k ≡ distance n d q → nat_abs k ≤ nat_abs q

abbrev pub NearNearest : Type 0
NearNearest = (n : ℤ) (d : ℕ) → 0 < d → IsNearest n d (near n d)

-- No other number is that.
abbrev pub NearUnique : Type 0
NearUnique = (n : ℤ) (d : ℕ) → 0 < d → (q : ℤ) → IsNearest n d q → q ≡ near n d

-- ---- "root(n): greatest whole number whose square is at most n"

abbrev pub RootGreatest : Type 0
RootGreatest = (n : ℕ) → (root n * root n ≤ n) × ((r : ℕ) → r * r ≤ n → r ≤ root n)

-- Request d), "in at most 32 rounds": 32 for every number that a u64 holds, 30 for those below 2^60.
abbrev pub RootRounds : Type 0
RootRounds =
    (n : ℕ) →
    (n < 2 ^ 64 → (rounds 32 n none_taken).r ≡ root n)
    × (n < 2 ^ 60 → (rounds 30 n none_taken).r ≡ root n)

-- ---- the greatest number from 0 to n that passes a test, where 0 passes

abbrev pub GreatestPassing : Type 0
GreatestPassing =
    (test : ℕ → Bool) →
    test 0 ≡ true →
    (n : ℕ) →
    (greatest test n ≤ n)
    × (test (greatest test n) ≡ true)
    × ((k : ℕ) → k ≤ n → test k ≡ true → k ≤ greatest test n)
