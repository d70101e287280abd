-- The search finds the greatest count from the South Pole, which is a latitude. Assumes nothing.
use Rattle.std.proofs.Common.{◌≤◌, ap, ◌∙◌, arith}
use lib.IntN.{ℤ}
use Rattle.proof_kit.proofs.Range.{code, fits}
use Rattle.integers.proofs.Greatest.{greatest_le}
use Rattle.units.specs.Units.{half_turn}
use Rattle.geodetic_search.specs.Reverse.{from_south_pole, not_above, geodetic}
use Rattle.geodetic_search.proofs.GeodeticLaws.{counted}
use Rattle.geodetic_search.proofs.to_geodetic.Goals as goal

in_span : (c : goal.After-greatest-n) → c.greatest-n.result ≤ half_turn
in_span c = rw c.greatest-n.ensures (greatest_le (not_above c.args.series c.args.beta) half_turn)

pub overflow_cast-result : goal.overflow_cast-result
overflow_cast-result c = record { sfits = omega (arith, in_span c) }

pub overflow_sub-result : goal.overflow_sub-result
overflow_sub-result c = fits (search (code, in_span c) depth 40 fits 20000) tt

pub returns : goal.returns
unfolding geodetic
returns c =
    ap (λ (x : ℤ). record { 0 = x }) (counted c.greatest-n.result (in_span c)) ∙ ap from_south_pole c.greatest-n.ensures
