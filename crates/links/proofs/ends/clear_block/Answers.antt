use Rattle.links.proofs.EndLaws.{clear_one}
use Rattle.links.proofs.ends.clear_block.Goals as goal

pub returns-in-Only : goal.returns-in-Only
returns-in-Only c = rw (c.index.ensures, c.requires c.in-Only.u c.in-Only.is) (clear_one 512 c.in-Only.u.number.0)
