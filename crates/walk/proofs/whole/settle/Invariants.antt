use Rattle.walk.proofs.NumberingLaws.{Rounds}
use Rattle.walk.proofs.whole.settle.Given as goal

abbrev pub invariant-loop-k : goal.invariant-loop-k
invariant-loop-k l = Rounds l.arcs.far.now l.arcs.near.now l.arcs.count l.n l.initial.num l.num l._k
