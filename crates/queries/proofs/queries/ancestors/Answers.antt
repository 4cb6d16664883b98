use Rattle.std.proofs.Common.{Bool, List}
use mathlib.Core.Path.{subst}
use Rattle.queries.specs.Marks.{Closed, no_node}
use Rattle.queries.proofs.MarkLaws.{orders_fewer, non_decreasing, leads_whole, settled_above}
use Rattle.queries.proofs.queries.ancestors.Goals as goal

pub leads_above-k-requires : goal.leads_above-k-requires
leads_above-k-requires c =
    non_decreasing _ _ _ _ c.first_ends.ensures.ends c.first_ends.ensures.length (c.is_ordered.ensures c.if-is_ordered.true)

pub settle-requires : goal.settle-requires
settle-requires c =
    let l = leads_whole c.args.arcs.now.far.now _ _ c.args.v.v.0 _ c.first_ends.ensures.ends c.first_ends.ensures.length c.leads_above-k.ensures in
    (l.within, orders_fewer _ _ _ _ l.within (c.is_ordered.ensures c.if-is_ordered.true))

pub returns-then-is_ordered : goal.returns-then-is_ordered
unfolding no_node
returns-then-is_ordered c =
    let a = c.args.arcs.now in
    let l = leads_whole a.far.now _ _ c.args.v.v.0 _ c.first_ends.ensures.ends c.first_ends.ensures.length c.leads_above-k.ensures in
    settled_above a.near.now a.far.now a.count c.leads_above-k.result c.args.v.v.0 c.settle.new.mark c.args.v.low (c.is_ordered.ensures c.if-is_ordered.true) l
    (subst (λ (x : List Bool). Closed a.near.now a.far.now c.leads_above-k.result x c.settle.new.mark) c.marked-mark.ensures c.settle.ensures)
