-- The fold over the doubles.
use Rattle.std.proofs.Common.{rules, tests, ◌∙◌}
use Rattle.std.proofs.lemmas.Iterator.{YieldsList-from_slice}
use Rattle.std.proofs.lemmas.Iterator.Consumers.{fold_from_yields_List}
use Rattle.judging.specs.InnerDoubles.{bits_of, digest_with}
use Rattle.judging.proofs.Digests.{folded_doubles}
use Rattle.judging.proofs.doubles.Digest.with_doubles.Goals as goal

pub returns : goal.returns
returns c =
    fold_from_yields_List _ (λ e x. digest_with e (bits_of x)) c.args.self c.fold.result c.fold.ensures.ran (YieldsList-from_slice c.args.xs.now (cc))
    (λ a x b q k. search (rules, tests))
    ∙ folded_doubles c.args.self c.args.xs.now
