use Rattle.graph.proofs.CheckLaws.{Stamped}
use Rattle.graph.proofs.soundness.Operations.edges_ascend.Given as goal

abbrev pub invariant-loop-i : goal.invariant-loop-i
invariant-loop-i l = Stamped l.self.g.now.nodes l.self.g.now.first.block l.self.g.now.edges l.stamps l.i
