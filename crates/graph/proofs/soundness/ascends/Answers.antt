use Rattle.std.proofs.Common.{rules, ltb, tests}
use Rattle.std.proofs.lemmas.Fn.{always_returns_same}
use Rattle.graph.proofs.CheckLaws.{adjacent_ascend}
use Rattle.graph.proofs.soundness.ascends.Goals as goal

pub returns : goal.returns
returns c = adjacent_ascend c.args.list.now _ (c.is_sorted_by.ensures.cases ltb (always_returns_same _ _ _ (λ a r q k. search (rules, tests))))
