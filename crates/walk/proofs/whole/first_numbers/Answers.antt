use Rattle.std.proofs.Common.{rules, tests, false, cond, get_or}
use Rattle.graph.proofs.ListLaws.{from_calls}
use Rattle.walk.proofs.whole.first_numbers.Goals as goal

pub returns : goal.returns
returns c = record {
  long = c.from_fn.ensures.items.long;
  each = λ v l.
      from_calls _ _ _ _ (λ v. cond (get_or c.args.block.now v false) 0 65535) c.from_fn.ensures.items
      (λ i r q k. search (rules, tests)) v 0 l;
}
