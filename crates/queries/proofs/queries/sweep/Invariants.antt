use Rattle.std.proofs.Common.{cond, ◌-◌}
use Rattle.queries.proofs.MarkLaws.{Sweeping}
use Rattle.queries.proofs.queries.sweep.Given as goal

abbrev pub invariant-loop-i : goal.invariant-loop-i
invariant-loop-i l = Sweeping l.arcs.near.now l.arcs.far.now l.arcs.count l.initial.mark l.mark l.moved (cond l.up 0 (l.arcs.count - l.i)) (cond l.up l.i l.arcs.count)
