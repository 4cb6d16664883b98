use Rattle.registers.proofs.RegisterNames.{emptied_fits, keep_begin, keep_new, keep_named, keep_other, keep_done}
use Rattle.registers.proofs.entries.RegisterMap.keep_name.Goals as goal
use Rattle.registers.proofs.entries.RegisterMap.keep_name.Goals.{then-self-p, else-self-p}

pub invariant_of-self : goal.invariant_of-self
invariant_of-self c = record { fits = emptied_fits c.args.name c.args.v.0 _ c.args.self.now.fits }

pub loop-p-init : goal.loop-p-init
loop-p-init c = keep_begin _ _ _ _

pub append-requires-clause-is_new : goal.append-requires-clause-is_new
append-requires-clause-is_new c = keep_new _ _ _ _ c.loop-p.invariant c.loop-p-test.true c.if-self-p.true

pub loop-p-preserved : goal.loop-p-preserved
loop-p-preserved c = elim c.if-self-p.branch [
  | then-self-p w ↦ rw w.self-is (keep_named _ _ _ _ c.loop-p.invariant c.loop-p-test.true w.if-self-p.true _ w.append.ensures)
  | else-self-p w ↦ rw w.self-is (keep_other _ _ _ _ c.loop-p.invariant c.loop-p-test.true w.if-self-p.false)
]

pub returns : goal.returns
returns c = keep_done _ _ _ _ c.loop-p.invariant c.loop-p-test.false
