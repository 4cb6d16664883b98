use Rattle.std.proofs.Common.{rules, Bool, tests}
use Rattle.std.proofs.lemmas.Iterator.{YieldsList-from_slice}
use Rattle.std.proofs.lemmas.Iterator.Search.{any_from_yields_List}
use Rattle.graph.proofs.ListLaws.{any_listed}
use Rattle.graph.proofs.sets.has_member.Goals as goal

pub returns : goal.returns
returns c =
    rw any_listed (any_from_yields_List (λ (b : Bool). b) _ _ _ c.any.ensures.ran (YieldsList-from_slice c.args.marks (search rules)) (λ x b q k. search (rules, tests)))
