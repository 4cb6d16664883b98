use Rattle.std.proofs.Common.{rules, tests}
use Rattle.std.proofs.lemmas.Iterator.{YieldsList-from_slice}
use Rattle.std.proofs.lemmas.Iterator.Search.{all_from_yields_List}
use Rattle.graph.specs.Soundness.{if_present}
use Rattle.graph.specs.Checks.{operates}
use Rattle.graph.proofs.ListLaws.{all_listed}
use Rattle.graph.proofs.soundness.Operations.names_all.Goals as goal

pub returns : goal.returns
returns c =
    rw all_listed (all_from_yields_List (if_present (operates c.args.self.now.g.now.nodes)) _ _ _ c.all.ensures.ran (YieldsList-from_slice c.args.node.now (search rules)) (λ x b q k. search (rules, tests)))
