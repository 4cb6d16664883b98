use Rattle.std.proofs.Common.{◌≡◌}
use Rattle.registers.proofs.RegisterDefinitions.{Marking}
use Rattle.registers.proofs.entries.RegisterMap.mark.Given as goal

abbrev pub invariant-loop-p : goal.invariant-loop-p
invariant-loop-p l = record { all : l.p-end ≡ l.self.entries.count; marking : Marking l.d.name l.d.length l.d.v.0 l.fn.self.entries l.self.entries l.there l.p }
