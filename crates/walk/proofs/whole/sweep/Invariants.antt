use Rattle.walk.proofs.NumberingLaws.{Sweeping}
use Rattle.walk.proofs.whole.sweep.Given as goal

abbrev pub invariant-loop-i : goal.invariant-loop-i
invariant-loop-i l = Sweeping l.arcs.far.now l.arcs.near.now l.arcs.count l.up l.initial.num l.num l.changed l.i
