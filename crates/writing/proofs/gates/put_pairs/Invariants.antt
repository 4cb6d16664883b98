use Rattle.writing.proofs.WriterLaws.{Pairing}
use Rattle.writing.proofs.gates.put_pairs.Given as goal

abbrev pub invariant-loop-k : goal.invariant-loop-k
invariant-loop-k l = Pairing l.n l.initial.out l.out l.k
