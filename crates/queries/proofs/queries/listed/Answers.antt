use Rattle.queries.proofs.MarkLaws.{lists-none, lists_one, lists_other}
use Rattle.queries.proofs.queries.listed.Goals as goal
use Rattle.queries.proofs.queries.listed.Goals.{then-u-lt512, else-u-lt512}
use Rattle.std.proofs.Common.{refl, arith}

pub loop-u-init : goal.loop-u-init
loop-u-init c = lists-none _

pub loop-u-preserved : goal.loop-u-preserved
loop-u-preserved c = elim c.if-u-lt512.branch [
  | then-u-lt512 w ↦ lists_one _ _ _ c.loop-u.invariant c.loop-u-test.true _ w.from.ensures _ (omega (arith, w.if-u-lt512.true, w.from.ensures)) w.r-is
  | else-u-lt512 w ↦ lists_other _ _ _ c.loop-u.invariant c.loop-u-test.true _ refl _ w.if-u-lt512.false w.r-is
]
