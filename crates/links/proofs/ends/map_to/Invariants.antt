use Rattle.links.proofs.OtherLaws.{Mapping}
use Rattle.links.proofs.ends.map_to.Given as goal

abbrev pub invariant-loop-u : goal.invariant-loop-u
invariant-loop-u l = Mapping l.v.0 l.initial.entries l.entries l.others l.u-index
