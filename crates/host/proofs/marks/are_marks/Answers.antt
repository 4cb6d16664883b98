use Rattle.std.proofs.Common.{true, ◌&&◌, ◌∙◌, leb, rules, tests}
use Rattle.std.proofs.lemmas.Iterator.{YieldsList-from_slice}
use Rattle.std.proofs.lemmas.Iterator.Consumers.{fold_from_yields_List}
use Rattle.graph.proofs.ListLaws.{fold_all}
use Rattle.host.specs.Marks.{are_marks}
use Rattle.host.proofs.marks.are_marks.Goals as goal

pub returns : goal.returns
unfolding are_marks
returns c =
    fold_from_yields_List _ (λ fit b. fit && leb b 1) true _ c.fold.ensures.ran (YieldsList-from_slice c.args.bytes.now cc) (λ a x b q k. search (rules, tests))
    ∙ fold_all (λ b. leb b 1) true c.args.bytes.now
