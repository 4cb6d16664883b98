use Rattle.std.proofs.Common.{rules, tests, false, ◌||◌, get_or}
use Rattle.graph.proofs.ListLaws.{from_calls}
use Rattle.walk.proofs.StepLaws.{joins}
use Rattle.walk.proofs.whole.join_marks.Goals as goal

pub returns : goal.returns
returns c =
    joins c.args.a.now c.args.b.now c.from_fn.result c.told-a c.told-b c.from_fn.ensures.items.long
    (λ v l. from_calls _ _ _ _ (λ v. get_or c.args.a.now v false || get_or c.args.b.now v false) c.from_fn.ensures.items
    (λ i r q k. search (rules, tests)) v false l)
