use Rattle.std.proofs.Common.{cond, ◌+◌}
use Rattle.queries.specs.Marks.{unmarked}
use Rattle.queries.proofs.MarkLaws.{Spreading}
use Rattle.queries.proofs.queries.spread.Given as goal

abbrev pub invariant-loop-moved : goal.invariant-loop-moved
invariant-loop-moved l = Spreading l.arcs.near.now l.arcs.far.now l.arcs.count l.initial.mark l.mark l.moved

abbrev pub decreases-loop-moved : goal.decreases-loop-moved
decreases-loop-moved l = unmarked l.mark + cond l.moved 1 0
