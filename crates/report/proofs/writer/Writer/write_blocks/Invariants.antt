use Rattle.report.proofs.LineLaws.{Lining}
use Rattle.report.proofs.writer.Writer.write_blocks.Given as goal

abbrev pub invariant-loop-t : goal.invariant-loop-t
invariant-loop-t l = Lining l.numbers l.count l.initial.self l.self l.t
