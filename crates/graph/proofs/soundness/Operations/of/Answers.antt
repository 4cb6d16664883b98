use Rattle.std.proofs.Common.{false, arith, rules, tests}
use Rattle.graph.specs.Checks.{operation_in}
use Rattle.graph.proofs.ListLaws.{from_calls}
use Rattle.graph.proofs.CheckLaws.{operations_marked}
use Rattle.graph.proofs.soundness.Operations.of.Goals as goal

pub invariant_of-result : goal.invariant_of-result
invariant_of-result c =
    let x = c.args.g.now.nodes in
    let made = c.from_fn-marks.ensures.items in record {
      few_nodes = c.requires.0;
      few_edges = c.requires.1;
      known = operations_marked x c.from_fn-marks.result made.long (omega arith) (λ v l. from_calls _ _ _ _ (operation_in x) made (λ i r q k. search (rules, tests)) v false l);
    }
