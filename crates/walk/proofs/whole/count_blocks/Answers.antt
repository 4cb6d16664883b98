use Rattle.std.proofs.Common.{rules, tests, ◌+◌, not, eqb, ◌∙◌, ap, arith}
use Rattle.std.specs.Option.{unwrap_or}
use Rattle.std.proofs.lemmas.Iterator.{YieldsList-from_slice, YieldsList-from_map}
use Rattle.std.proofs.lemmas.Iterator.Consumers.{YieldsList-from_filter, reduce_from_yields_List}
use Rattle.std.proofs.lemmas.List.Folds.{max_of_map}
use Rattle.walk.proofs.NumberingLaws.{named, count-is}
use Rattle.walk.proofs.whole.count_blocks.Goals as goal

pub returns : goal.returns
returns c =
    let most = reduce_from_yields_List _ _ _ c.max.ensures.ran
    (YieldsList-from_map _ (λ x. x + 1)
    (YieldsList-from_filter _ (λ x. not (eqb x 65535)) (YieldsList-from_slice c.args.num.now cc) c.filter.ensures.closure (λ x r q k. search (rules, tests)))
    c.map.ensures.closure (λ x r q k. search (rules, tests))) in
    let e = c.unwrap_or.ensures ∙ ap (λ o. unwrap_or o 0) most ∙ max_of_map (λ x. x + 1) (named c.args.num.now) in
    rw e (count-is c.args.num.now (λ v. omega (arith, c.type_inv.num v)))
