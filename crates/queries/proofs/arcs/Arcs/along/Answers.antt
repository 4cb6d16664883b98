use Rattle.std.proofs.Common.{sym, ◌∙◌}
use Rattle.queries.proofs.ReachLaws.{ends_on}
use Rattle.queries.proofs.QueryLaws.{sound_ok}
use Rattle.queries.proofs.arcs.Arcs.along.Goals as goal

pub invariant_of-result : goal.invariant_of-result
invariant_of-result c =
    record { below = ends_on c.args.g.now (sound_ok c.args.g.now _ (sym c.check_graph.ensures.value ∙ c.in_ok-check_graph.was)) }
