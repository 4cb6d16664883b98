use Rattle.walk.proofs.NumberingLaws.{Zeroing}
use Rattle.walk.proofs.whole.number_targets.Given as goal

abbrev pub invariant-loop-t : goal.invariant-loop-t
invariant-loop-t l = Zeroing l.targets l.initial.num l.num l.t-index
