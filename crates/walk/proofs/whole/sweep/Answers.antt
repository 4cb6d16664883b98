use Rattle.walk.proofs.NumberingLaws.{sweep_more}
use Rattle.std.proofs.Common.{refl}
use Rattle.walk.proofs.whole.sweep.Goals as goal

pub loop-i-preserved : goal.loop-i-preserved
loop-i-preserved c = sweep_more _ _ _ _ _ c.loop-i.invariant c.loop-i-test.true _ c.in_turn-j.ensures _ _ _ _ c.from.ensures c.from-t.ensures c.raised-new.ensures refl
