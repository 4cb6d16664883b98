use Rattle.walk.proofs.NumberingLaws.{rounds_still, rounds_more}
use Rattle.walk.proofs.whole.settle.Goals as goal

pub returns-then-not-sweep : goal.returns-then-not-sweep
returns-then-not-sweep c = rounds_still _ _ _ _ _ c.loop-k.invariant c.sweep.ensures c.if-not-sweep.true

pub loop-k-preserved : goal.loop-k-preserved
loop-k-preserved c = rounds_more _ _ _ _ _ c.loop-k.invariant c.sweep.ensures
