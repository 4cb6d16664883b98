use Rattle.registers.proofs.RegisterDefinitions.{Appending}
use Rattle.registers.proofs.entries.RegisterMap.append_unmarked.Given as goal

abbrev pub invariant-loop-index : goal.invariant-loop-index
invariant-loop-index l = Appending l.d.name l.d.length l.d.v.0 l.there l.fn.self.entries l.self.entries l.index
