use Rattle.std.proofs.Common.{rules, tests, false, not, get_or}
use Rattle.graph.proofs.ListLaws.{from_calls}
use Rattle.queries.proofs.MarkLaws.{reached_neighbours}
use Rattle.queries.proofs.queries.waiting.Goals as goal

pub returns : goal.returns
returns c =
    let a = c.args.arcs.now in
    record {
      seeds = c.reached-mark.result;
      begun = reached_neighbours c.args.skip.now c.from_fn.result a.near.now a.far.now a.count _ a.below
          (λ v l. from_calls _ _ _ _ (λ v. not (get_or c.args.skip.now v false)) c.from_fn.ensures.items (λ i r q k. search (rules, tests)) v false l)
          c.reached-mark.ensures;
      ended = c.spread.ensures;
    }
