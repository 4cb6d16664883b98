use Rattle.walk.proofs.StepLaws.{Taking}
use Rattle.walk.proofs.whole.take_waiting.Given as goal

abbrev pub invariant-loop-i : goal.invariant-loop-i
invariant-loop-i l = Taking l.arcs.far.now l.arcs.near.now l.arcs.count l.num l.initial.found l.found l.i
