use Rattle.registers.proofs.RegisterNames.{Keeping}
use Rattle.registers.proofs.entries.RegisterMap.keep_name.Given as goal

abbrev pub invariant-loop-p : goal.invariant-loop-p
invariant-loop-p l = Keeping l.name l.v.0 l.fn.self.entries l.fn.self.fits l.self.entries l.p
