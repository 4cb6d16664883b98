use Rattle.queries.proofs.MarkLaws.{marking_begin, marking_more}
use Rattle.queries.proofs.arcs.Arcs.reached.Goals as goal

pub loop-i-init : goal.loop-i-init
loop-i-init c = marking_begin _ _ _ _ c.args.self.now.below

pub loop-i-preserved : goal.loop-i-preserved
loop-i-preserved c = marking_more _ _ _ _ c.loop-i.invariant c.loop-i-test.true c.ends-near.ensures.far c.ends-near.ensures.near
