use Rattle.std.proofs.Common.{sym, ◌∙◌, take, rules, tests}
use Rattle.std.proofs.lemmas.Iterator.{YieldsList-from_slice}
use Rattle.std.proofs.lemmas.Iterator.Search.{any_from_yields_List}
use Rattle.graph.specs.Dag.{present}
use Rattle.links.proofs.EndLaws.{any_listed, any_known}
use Rattle.links.proofs.ends.WorkingEnd.has_qubit.Goals as goal

pub returns : goal.returns
returns c =
    let w = c.self.inside in
    rw (← c.self.view_is) (any_from_yields_List present _ _ _ c.any.ensures.ran (YieldsList-from_slice (take w.top w.end.node) (search rules)) (λ x b q k. search (rules, tests))
    ∙ sym (any_listed present _) ∙ any_known _ _ _ c.self.invariant)
