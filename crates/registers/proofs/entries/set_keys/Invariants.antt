use Rattle.registers.proofs.RegisterSets.{Setting}
use Rattle.registers.proofs.entries.set_keys.Given as goal

abbrev pub invariant-loop-k : goal.invariant-loop-k
invariant-loop-k l = Setting l.part l.v.0 l.c l.fn.near.entries l.fn.far.entries l.near.entries l.far.entries l.k
