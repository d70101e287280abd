-- `text::put_bytes` meets its contract: the bytes stand in the place of those that were there, from `at` on. Assumes nothing.
use Rattle.std.proofs.Common.{◌≡◌, ◌+◌, ◌-◌, length, refl, arith}
use Rattle.std.proofs.lemmas.Slice.{put_mid-paste}
use Rattle.text.specs.Pasting.{pasted}
use Rattle.text.proofs.put_bytes.Goals as goal

pub returns : goal.returns
unfolding pasted
returns c =
    let args = c.args in
    let count : length args.bytes.now ≡ args.at + length args.bytes.now - args.at = omega arith in
    record {
      bytes = put_mid-paste args.at _ args.out.now _ args.bytes.now (length args.bytes.now) c.copy_from_slice.ensures.after count refl;
      next = refl;
    }
