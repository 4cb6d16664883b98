use Rattle.report.proofs.writer.Writer.+write_digits.Given as goal

abbrev pub decreases-write_digits : goal.decreases-write_digits
decreases-write_digits l = l.k
