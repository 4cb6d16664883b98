use Rattle.std.proofs.Common.{◌∙◌, sym}
use Rattle.graph.proofs.CheckLaws.{stamps_begin, stamps_more, cell_low}
use Rattle.graph.proofs.soundness.Operations.edges_ascend.Goals as goal

pub loop-i-init : goal.loop-i-init
loop-i-init c = let g = c.args.self.now.g.now in stamps_begin g.nodes g.first.block g.edges

pub loop-i-preserved : goal.loop-i-preserved
loop-i-preserved c =
    let x = c.args.self.now in
    let fits = sym c.edge_fits.ensures ∙ c.if-not-edge_fits.false in
    stamps_more c.loop-i.invariant _ _ fits c.max-stamp.ensures c.older_cell-cell.ensures
    (cell_low x.g.now.nodes x.g.now.first.block _ _ _ x.few_nodes fits c.older_cell-cell.ensures) c.if-stamp-stamps.false
