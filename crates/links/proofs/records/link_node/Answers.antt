use Rattle.std.proofs.Common.{sym, ◌∙◌}
use Rattle.links.proofs.LinkingLaws.{fit_told, unfit_node, node_full, node_taken, node_refused}
use Rattle.links.proofs.records.link_node.Goals as goal

pub returns-then-not-links_fit : goal.returns-then-not-links_fit
returns-then-not-links_fit c = c.links_kept.ensures ∙ unfit_node _ _ _ _ _ _ _ _ _ c.from-n.ensures (sym c.if-not-links_fit.ensures)

pub returns-then-n-ge512 : goal.returns-then-n-ge512
returns-then-n-ge512 c = c.links_kept-then-n-ge512.ensures ∙ node_full _ _ _ _ _ _ _ _ _ c.from-n.ensures (sym c.if-not-links_fit.ensures) c.if-n-ge512.true

pub of-links-requires : goal.of-links-requires
of-links-requires c = let f = fit_told _ c.args.edges c.args.first c.args.last c.if-n-ge512.false (sym c.if-not-links_fit.ensures) in (f.room, f.first_fits, f.last_fits)

pub returns-in-Ok : goal.returns-in-Ok
returns-in-Ok c =
    let of = c.of-links.ensures in
    c.into_linked.ensures ∙ node_taken _ _ _ _ _ _ _ _ _ c.from-n.ensures (sym c.if-not-links_fit.ensures) _ _ _ (rw (of.edges, of.ends.0, of.ends.1) at c.in-Ok.ensures)

pub returns-in-Err : goal.returns-in-Err
returns-in-Err c =
    let of = c.of-links.ensures in
    c.links_kept-in-Err.ensures ∙ node_refused _ _ _ _ _ _ _ _ _ c.from-n.ensures (sym c.if-not-links_fit.ensures) _ (rw (of.edges, of.ends.0, of.ends.1) at c.in-Err.ensures)
