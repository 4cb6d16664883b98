use Rattle.links.specs.Links.{link}
use Rattle.links.proofs.EdgeLaws.{Added}
use Rattle.links.proofs.others.add_edges.Given as goal

abbrev pub invariant-loop-i : goal.invariant-loop-i
invariant-loop-i l = Added l.initial.edges l.edges (link l.front l.v.0) l.others l.i
