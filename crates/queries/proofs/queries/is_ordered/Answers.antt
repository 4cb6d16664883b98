use Rattle.std.proofs.Common.{ℕ, true, ◌≡◌, ◌-◌, ◌&&◌, leb, ltb, length, take, drop, sym, ◌∙◌, arith, rules, tests}
use lib.ListN.{length-drop}
use lib.Seq.{take_all}
use Rattle.std.proofs.lemmas.Iterator.{YieldsList-from_slice, YieldsList-from_zip}
use Rattle.std.proofs.lemmas.Iterator.Consumers.{fold_from_yields_List}
use Rattle.graph.proofs.ListLaws.{fold_all}
use Rattle.queries.proofs.MarkLaws.{ordered_told}
use Rattle.queries.proofs.queries.is_ordered.Goals as goal

pub returns-then-rises : goal.returns-then-rises
returns-then-rises c = λ t.
    let n = c.first_ends-near.result.now in
    let f = c.first_ends-far.result.now in
    let r = fold_from_yields_List _ (λ a (p : ℕ × ℕ). a && ltb p.0 p.1) true _ c.fold-rises.ensures.ran
    (YieldsList-from_zip (YieldsList-from_slice n cc) (YieldsList-from_slice f cc)) (λ a x b q k. search (rules, tests)) in
    let e : c.zip-2.result.b.rest.now ≡ take (length f - c.min.result) (drop c.min.result f) = cc in
    let s = fold_from_yields_List _ (λ a (p : ℕ × ℕ). a && leb p.0 p.1) true _ c.fold-ascends.ensures.ran
    (YieldsList-from_zip (YieldsList-from_slice f cc) (YieldsList-from_slice (drop c.min.result f) (e ∙ take_all _ _ (omega (arith, length-drop c.min.result f))))) (λ a x b q k. search (rules, tests)) in
    ordered_told _ _ n f _ c.min.result c.first_ends-near.ensures.ends c.first_ends-far.ensures.ends c.first_ends-near.ensures.length c.first_ends-far.ensures.length
    (search (rules, tests)) (sym (r ∙ fold_all _ true _) ∙ c.if-rises.true) (sym (s ∙ fold_all _ true _) ∙ t)
