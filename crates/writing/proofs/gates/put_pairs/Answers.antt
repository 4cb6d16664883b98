use Rattle.writing.proofs.WriterLaws.{pairs_one, pairs_all}
use Rattle.writing.proofs.gates.put_pairs.Goals as goal

pub loop-k-preserved : goal.loop-k-preserved
loop-k-preserved c =
    pairs_one _ _ _ _ c.loop-k.invariant c.loop-k-test.true _ _ c.put_u16.ensures c.put_u16-in-loop-k.ensures

pub returns : goal.returns
returns c = pairs_all _ _ _ _ c.loop-k.invariant c.loop-k-test.false
