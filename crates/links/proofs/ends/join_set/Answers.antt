use Rattle.std.proofs.Common.{refl, sym, ap, ◌∙◌}
use Rattle.graph.specs.declared.End.{End}
use borrow.Author.Tests.{eq-eqb, ne_eqb}
use Rattle.links.proofs.LinkLaws.{steady_rule}
use Rattle.links.proofs.JoinLaws.{linking_begins, linking_room, linking_goes, linking_ends}
use Rattle.links.proofs.ends.join_set.Goals as goal

pub loop-q-init : goal.loop-q-init
loop-q-init c = (
  rw (c.into_iter-q-iterator.ensures.into_iter_gives, c.of-q-items.ensures) (linking_begins _ _ _ _ _ _ _ c.fresh_entry-fresh.ensures c.requires),
  c.all-all.ensures,
)

pub link_qubit-requires : goal.link_qubit-requires
link_qubit-requires c = (linking_room _ _ _ _ _ _ _ _ _ _ c.loop-q.invariant.0 _ _ c.in-Some.ensures.steps, c.loop-q.invariant.1)

pub loop-q-preserved : goal.loop-q-preserved
loop-q-preserved c =
    let e = c.link_qubit.ensures in (
      linking_goes _ _ _ _ _ _ _ _ _ _ c.loop-q.invariant.0 (steady_rule c.args.rule) _ _ c.in-Some.ensures.steps _ _ _ e.near e.far e.others,
      c.loop-q.invariant.1 ∙ ap (λ (x : End). x.all.0) (sym e.near),
    )

pub returns-then-len-eq0 : goal.returns-then-len-eq0
returns-then-len-eq0 c =
    let empty = eq-eqb _ _ (sym c.len.ensures.counted ∙ c.if-len-eq0.true) in
    linking_ends _ _ _ _ _ _ _ _ _ _ c.loop-q.invariant.0 c.in-None.ensures.steps.0 _ (rw empty c.join_block.ensures)

pub returns-else-len-eq0 : goal.returns-else-len-eq0
returns-else-len-eq0 c =
    let some = ne_eqb _ _ (λ e. c.if-len-eq0.false (c.len.ensures.counted ∙ e)) in
    linking_ends _ _ _ _ _ _ _ _ _ _ c.loop-q.invariant.0 c.in-None.ensures.steps.0 _ (rw some refl)
