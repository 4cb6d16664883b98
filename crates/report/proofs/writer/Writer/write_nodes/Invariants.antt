use Rattle.report.proofs.LineLaws.{Listing}
use Rattle.report.proofs.writer.Writer.write_nodes.Given as goal

abbrev pub invariant-loop-v : goal.invariant-loop-v
invariant-loop-v l = Listing l.numbers l.t l.initial.self l.self l.v
