use Rattle.insertion.proofs.NodeLaws.{Listing}
use Rattle.insertion.proofs.nodes.list_nodes.Given as goal

abbrev pub invariant-loop-i : goal.invariant-loop-i
invariant-loop-i l = Listing l.file l.order l.lists l.i-index
