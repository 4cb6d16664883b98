use Rattle.queries.proofs.MarkLaws.{spreads_on}
use Rattle.queries.proofs.queries.spread.Goals as goal

pub loop-moved-preserved : goal.loop-moved-preserved
loop-moved-preserved c = spreads_on _ _ _ _ _ _ _ _ c.loop-moved.invariant c.sweep-moved.ensures
