use Rattle.queries.proofs.MarkLaws.{sweeps_begin, sweeps_turn, sweeps_end}
use Rattle.queries.proofs.queries.sweep.Goals as goal

pub loop-i-init : goal.loop-i-init
loop-i-init c = sweeps_begin _ _ _ _ c.args.arcs.now.below c.told-mark _

pub loop-i-preserved : goal.loop-i-preserved
loop-i-preserved c = sweeps_turn _ _ _ _ _ _ _ _ c.loop-i.invariant c.loop-i-test.true _ c.in_turn.ensures _ _ c.carry-moved.ensures

pub returns : goal.returns
returns c = sweeps_end _ _ _ _ _ _ _ _ c.loop-i.invariant c.loop-i-test.false c.loop-i.auto.i-end
