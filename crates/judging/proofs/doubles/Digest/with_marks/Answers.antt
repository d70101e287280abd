-- The fold over the marks.
use Rattle.std.proofs.Common.{rules, tests, ◌∙◌}
use Rattle.std.proofs.lemmas.Iterator.{YieldsList-from_slice}
use Rattle.std.proofs.lemmas.Iterator.Consumers.{fold_from_yields_List}
use Rattle.judging.specs.InnerDoubles.{digest_with}
use Rattle.judging.proofs.Digests.{folded}
use Rattle.judging.proofs.doubles.Digest.with_marks.Goals as goal

pub returns : goal.returns
returns c =
    fold_from_yields_List _ digest_with c.args.self c.fold.result c.fold.ensures.ran (YieldsList-from_slice c.args.marks.now (cc))
    (λ a x b q k. search (rules, tests))
    ∙ folded c.args.self c.args.marks.now
