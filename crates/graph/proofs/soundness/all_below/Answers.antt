use Rattle.std.proofs.Common.{true, ◌&&◌, ◌∙◌, ℕ, rules, tests, ltb}
use Rattle.std.proofs.lemmas.Iterator.{YieldsList-from_slice}
use Rattle.std.proofs.lemmas.Iterator.Consumers.{fold_from_yields_List}
use Rattle.graph.proofs.ListLaws.{fold_all}
use Rattle.graph.proofs.soundness.all_below.Goals as goal

pub returns : goal.returns
returns c =
    fold_from_yields_List _ (λ a (v : ℕ). a && ltb v c.args.n) true _ c.fold.ensures.ran (YieldsList-from_slice c.args.list.now (search rules)) (λ a x b q k. search (rules, tests))
    ∙ fold_all (λ (v : ℕ). ltb v c.args.n) true c.args.list.now
