use Rattle.std.proofs.Common.{◌∙◌, sym}
use Rattle.graph.proofs.CheckLaws.{seen_begin, seen_unfit, seen_twice, seen_more}
use Rattle.graph.proofs.soundness.Operations.edges_differ.Goals as goal

pub loop-i-init : goal.loop-i-init
loop-i-init c = let g = c.args.self.now.g.now in seen_begin g.nodes g.first.block g.edges

pub returns-then-not-edge_fits : goal.returns-then-not-edge_fits
returns-then-not-edge_fits c =
    let g = c.args.self.now.g.now in
    seen_unfit g.nodes g.first.block g.edges c.loop-i.i c.loop-i-test.true (sym c.edge_fits.ensures ∙ c.if-not-edge_fits.true)

pub returns-then-has_bit : goal.returns-then-has_bit
returns-then-has_bit c =
    let fits = sym c.edge_fits.ensures ∙ c.if-not-edge_fits.false in
    seen_twice c.args.self.now.few_nodes c.loop-i.invariant fits c.loop-i-test.true
    (rw (← c.from.ensures, ← c.from-in-loop-i.ensures) (sym c.has_bit.ensures ∙ c.if-has_bit.true))

pub loop-i-preserved : goal.loop-i-preserved
loop-i-preserved c =
    let fits = sym c.edge_fits.ensures ∙ c.if-not-edge_fits.false in
    rw (c.with_bit.ensures, c.from.ensures, c.from-in-loop-i.ensures) (seen_more c.args.self.now.few_nodes c.loop-i.invariant fits
    (rw (← c.from.ensures, ← c.from-in-loop-i.ensures) (sym c.has_bit.ensures ∙ c.if-has_bit.false)))
