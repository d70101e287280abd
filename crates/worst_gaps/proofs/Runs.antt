-- A run of the positions: each turn takes the next position off what is left, and with none left the run ends. Assumes nothing.
use Rattle.std.proofs.Common.{◌≡◌, ℕ, suc, ◌+◌, ◌-◌, ◌<◌, ◌≤◌, ap, arith}
use Rattle.parameters.specs.declared.Parameters.{Parameters}
use Rattle.worst_gaps.specs.declared.tally.Tally.{Tally}
use Rattle.worst_gaps.specs.InnerPositions.{next_of}
use Rattle.worst_gaps.specs.InnerTallies.{step_of, run_of}

pub run_turn : (p : Parameters) (count i s : ℕ) (seen : Tally) → i < count →
    run_of p (count - (i + 1)) (next_of (next_of s)) (step_of p s seen) ≡ run_of p (count - i) s seen
unfolding run_of
run_turn p count i s seen h =
    let left : suc (count - (i + 1)) ≡ count - i = omega arith in
    ap (λ (n : ℕ). run_of p n s seen) left

pub run_end : (p : Parameters) (count i s : ℕ) (seen : Tally) → count ≤ i → run_of p (count - i) s seen ≡ seen
unfolding run_of
run_end p count i s seen h =
    let left : count - i ≡ 0 = omega arith in
    ap (λ (n : ℕ). run_of p n s seen) left
