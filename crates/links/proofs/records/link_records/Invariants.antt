use Rattle.links.specs.Links.{rule_of}
use Rattle.links.proofs.LinkingLaws.{SoFar}
use Rattle.links.proofs.records.link_records.Given as goal

abbrev pub invariant-loop-k : goal.invariant-loop-k
invariant-loop-k l = SoFar (rule_of l.rule) l.file l.order l.k l.links.edges l.links.first l.links.last
