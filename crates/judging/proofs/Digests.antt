-- A digest over a list is a fold of its elements. Assumes nothing.
use Rattle.std.proofs.Common.{◌≡◌, refl, ℕ, List, [], ◌∷◌, map}
use lib.Ieee.{Float}
use Rattle.std.specs.List.{fold}
use Rattle.judging.specs.declared.doubles.Digest.{Digest}
use Rattle.judging.specs.InnerDoubles.{bits_of, digest_with, digest_with_all}

pub folded : (d : Digest) (ns : List ℕ) → fold digest_with d ns ≡ digest_with_all d ns
unfolding digest_with_all
folded d [] = refl
folded d (n ∷ ns) = folded (digest_with d n) ns

-- the same of doubles, which are added by their bits
pub folded_doubles : (d : Digest) (xs : List Float) → fold (λ e x. digest_with e (bits_of x)) d xs ≡ digest_with_all d (map bits_of xs)
unfolding digest_with_all
folded_doubles d [] = refl
folded_doubles d (x ∷ xs) = folded_doubles (digest_with d (bits_of x)) xs
