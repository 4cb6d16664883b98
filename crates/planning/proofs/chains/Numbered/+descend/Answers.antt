use Rattle.planning.proofs.DescentLaws.{descend_last, descend_more}
use Rattle.std.proofs.Common.{refl}
use Rattle.planning.proofs.chains.Numbered.+descend.Goals as goal

pub returns-then-block-eq0 : goal.returns-then-block-eq0
returns-then-block-eq0 t c = descend_last _ _ _ _ _ _ _ c.if-block-eq0.true c.requires

pub returns : goal.returns
returns t c =
    descend_more _ _ _ _ _ _ _ _ _ _ c.if-block-eq0.false refl c.requires c.smallest_predecessor-u.ensures c.descend.ensures
