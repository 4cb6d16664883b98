use Rattle.writing.specs.Writing.{gate_of}
use Rattle.writing.proofs.WriterLaws.{Gating}
use Rattle.writing.proofs.gates.put_gates.Given as goal

abbrev pub invariant-loop-k : goal.invariant-loop-k
invariant-loop-k l = Gating gate_of l.gates l.initial.out l.out l.k
