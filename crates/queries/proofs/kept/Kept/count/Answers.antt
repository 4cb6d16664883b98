use Rattle.std.proofs.Common.{ap, ◌∙◌, ◌&&◌, not, false, ℕ, ◌≡◌, ◌-◌, get_or, length, arith, rules}
use Rattle.std.proofs.lemmas.Iterator.{YieldsList-from_range}
use Rattle.std.proofs.lemmas.Iterator.Consumers.{count_from_yields_List, YieldsList-from_filter}
use Rattle.queries.proofs.BufferLaws.{kept_filtered}
use Rattle.queries.proofs.kept.Kept.count.Goals as goal

pub returns : goal.returns
returns c =
    let k = c.args.self.now in
    let test = λ (u : ℕ). get_or k.mark.now u false && not (get_or k.skip.now u false) in
    let n : k.n - 0 ≡ k.n = omega arith in
    count_from_yields_List c.filter.result _ c.count.ensures.ran (YieldsList-from_filter _ test (YieldsList-from_range 0 k.n k.n c.filter.ensures.source n) c.filter.ensures.closure (λ x b q k. search (rules)))
    ∙ ap length (kept_filtered k.mark.now k.skip.now k.n)
