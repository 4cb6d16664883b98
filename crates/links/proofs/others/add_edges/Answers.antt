use Rattle.std.proofs.Common.{◌<◌, ap, length, arith}
use Rattle.links.proofs.EdgeLaws.{added_more}
use Rattle.links.proofs.others.add_edges.Goals as goal

pub loop-i-preserved : goal.loop-i-preserved
loop-i-preserved c =
    let more : c.loop-i.i < length c.args.others.now = omega (arith, ap length c.others.view_is) in
    added_more _ _ _ _ _ c.loop-i.invariant more c.requires _ (rw c.others.view_is at c.put_edge.ensures)
