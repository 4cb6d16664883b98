use Rattle.queries.proofs.MarkLaws.{Settling}
use Rattle.queries.proofs.queries.settle.Given as goal

abbrev pub invariant-loop-i : goal.invariant-loop-i
invariant-loop-i l = Settling l.arcs.near.now l.arcs.far.now l.k l.initial.mark l.mark l.i
