use Rattle.graph.proofs.CheckLaws.{Seen}
use Rattle.graph.proofs.soundness.Operations.edges_differ.Given as goal

abbrev pub invariant-loop-i : goal.invariant-loop-i
invariant-loop-i l = Seen l.self.g.now.nodes l.self.g.now.first.block l.self.g.now.edges l.seen l.i
