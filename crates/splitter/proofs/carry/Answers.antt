-- `splitter::carry` meets its contract: as many bytes are put behind those carried as there is room for, or all. Assumes nothing.
use Rattle.std.proofs.Common.{ℕ, ap, take}
use Rattle.text.proofs.Pasting.{put_as}
use Rattle.splitter.proofs.Carrying.{more_kept, more_carried}
use Rattle.splitter.proofs.carry.Goals as goal

pub invariant_of-carried : goal.invariant_of-carried
invariant_of-carried c =
    let part = c.args.part.now in
    record { is_carried = more_kept c.args.carried.now part (put_as c.put_bytes-carried.ensures (ap (λ (n : ℕ). take n part) c.min-n.ensures)) }

pub returns : goal.returns
returns c =
    let part = c.args.part.now in
    more_carried c.args.carried.now part (put_as c.put_bytes-carried.ensures (ap (λ (n : ℕ). take n part) c.min-n.ensures)) _
