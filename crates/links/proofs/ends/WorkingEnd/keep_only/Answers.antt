use Rattle.std.proofs.Common.{refl}
use Rattle.links.proofs.EndLaws.{known_one}
use Rattle.links.proofs.ends.WorkingEnd.keep_only.Goals as goal

pub invariant_of-self : goal.invariant_of-self
invariant_of-self c = rw (c.clear_block.ensures, c.index.ensures) (known_one _ _ _ c.self.invariant c.args.v)

pub returns : goal.returns
returns c = rw (c.clear_block.ensures, c.index.ensures, ← c.self.view_is) refl
