use Rattle.file.proofs.PairLaws.{no_bytes, over, short, there}
use Rattle.file.proofs.pairs.check_header.Goals as goal

pub returns-then-size-lt2-clause-value : goal.returns-then-size-lt2-clause-value
returns-then-size-lt2-clause-value c = no_bytes _ c.if-size-lt2.true

pub returns-then-n-gt512-clause-value : goal.returns-then-n-gt512-clause-value
returns-then-n-gt512-clause-value c = over _ _ c.if-size-lt2.false c.read_u16-n.ensures c.if-n-gt512.true

pub returns-then-size-n-clause-value : goal.returns-then-size-n-clause-value
returns-then-size-n-clause-value c = short _ _ c.if-size-lt2.false c.read_u16-n.ensures c.if-n-gt512.false c.if-size-n.true

pub returns-clause-value : goal.returns-clause-value
returns-clause-value c = there _ _ c.if-size-lt2.false c.read_u16-n.ensures c.if-n-gt512.false c.if-size-n.false
