use Rattle.queries.proofs.MarkLaws.{Marking}
use Rattle.queries.proofs.arcs.Arcs.reached.Given as goal

abbrev pub invariant-loop-i : goal.invariant-loop-i
invariant-loop-i l = Marking l.self.far.now l.self.near.now l.self.count l.chosen l.found l.i
