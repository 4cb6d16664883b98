use Rattle.insertion.proofs.NodeLaws.{begin, again, end}
use Rattle.insertion.proofs.nodes.list_nodes.Goals as goal

pub loop-i-init : goal.loop-i-init
loop-i-init c = rw c.new-lists.ensures (begin _ _)

pub loop-i-preserved : goal.loop-i-preserved
loop-i-preserved c = again _ _ _ _ c.loop-i-test.true c.loop-i.invariant _ _ _ c.from.ensures c.part_of.ensures.bytes c.push.ensures

pub returns : goal.returns
returns c = end _ _ _ _ c.loop-i.invariant c.loop-i-test.false
