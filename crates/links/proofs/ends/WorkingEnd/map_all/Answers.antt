use Rattle.std.proofs.Common.{refl}
use Rattle.links.proofs.EndLaws.{map_known, mapped_known, known_become}
use Rattle.links.proofs.ends.WorkingEnd.map_all.Goals as goal

pub invariant_of-self : goal.invariant_of-self
invariant_of-self c = rw (c.map_to.ensures.nodes, map_known _ _ _ c.self.invariant c.args.v.number.0) (known_become _ _ _ c.self.invariant c.args.v.number.0 c.args.v.low)

pub returns-clause-nodes : goal.returns-clause-nodes
returns-clause-nodes c = rw (c.map_to.ensures.nodes, map_known _ _ _ c.self.invariant c.args.v.number.0, ← c.self.view_is) refl

pub returns-clause-joined : goal.returns-clause-joined
returns-clause-joined c = rw (c.map_to.ensures.joined, ← c.self.view_is) (mapped_known _ _ _ c.self.invariant)
