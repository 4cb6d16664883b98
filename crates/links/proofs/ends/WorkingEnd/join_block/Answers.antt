use Rattle.std.proofs.Common.{arith}
use Rattle.links.proofs.EndLaws.{known_more}
use Rattle.links.proofs.ends.WorkingEnd.join_block.Goals as goal

pub invariant_of-self : goal.invariant_of-self
invariant_of-self c = rw c.index.ensures (known_more _ _ _ c.self.invariant _ c.self.invariant.fits.all c.self.inside.end.block c.args.v.number.0 (omega arith))
