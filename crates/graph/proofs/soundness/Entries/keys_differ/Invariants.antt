use Rattle.graph.proofs.CheckLaws.{KeysApart}
use Rattle.graph.proofs.soundness.Entries.keys_differ.Given as goal

abbrev pub invariant-loop-i : goal.invariant-loop-i
invariant-loop-i l = KeysApart l.self.map.now l.cells l.i
