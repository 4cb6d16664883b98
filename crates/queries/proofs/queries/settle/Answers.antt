use Rattle.queries.proofs.MarkLaws.{ends_fewer, settles_none, settles_one}
use Rattle.queries.proofs.queries.settle.Goals as goal

pub loop-i-init : goal.loop-i-init
loop-i-init c = settles_none _ _ _ _ (ends_fewer _ _ _ _ c.requires.0 c.args.arcs.now.below) c.requires.1 c.told-mark

pub loop-i-preserved : goal.loop-i-preserved
loop-i-preserved c = settles_one _ _ _ _ _ _ c.loop-i.invariant c.loop-i-test.true _ _ c.ends-near.ensures.near c.ends-near.ensures.far
