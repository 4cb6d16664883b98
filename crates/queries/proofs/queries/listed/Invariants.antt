use Rattle.queries.proofs.MarkLaws.{Listing}
use Rattle.queries.proofs.queries.listed.Given as goal

abbrev pub invariant-loop-u : goal.invariant-loop-u
invariant-loop-u l = Listing l.list l.r l.u-index
