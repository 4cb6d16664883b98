use Rattle.graph.proofs.CheckLaws.{Places}
use Rattle.graph.proofs.soundness.places_fit.Given as goal

abbrev pub invariant-loop-place : goal.invariant-loop-place
invariant-loop-place l = Places l.g l.taken l.place-index
