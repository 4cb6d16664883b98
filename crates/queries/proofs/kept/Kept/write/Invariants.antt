use Rattle.queries.specs.Marks.{kept}
use Rattle.queries.proofs.BufferLaws.{Filled}
use Rattle.queries.proofs.kept.Kept.write.Given as goal

abbrev pub invariant-loop-k : goal.invariant-loop-k
invariant-loop-k l = Filled (kept l.self.mark.now l.self.skip.now l.self.n) l.initial.buffer l.yielded l.buffer
