use Rattle.std.proofs.Common.{sym, ◌∙◌, ltb, rules, tests}
use Rattle.std.proofs.lemmas.Iterator.{YieldsList-from_slice}
use Rattle.std.proofs.lemmas.Iterator.Search.{all_from_yields_List}
use Rattle.graph.specs.Soundness.{if_present}
use Rattle.graph.proofs.ListLaws.{all_here, all_fails}
use Rattle.links.proofs.EndLaws.{all_listed}
use Rattle.links.proofs.records.names_below.Goals as goal

pub returns-then-is_below : goal.returns-then-is_below
returns-then-is_below c =
    all_from_yields_List (if_present (λ u. ltb u c.args.n)) _ _ _ c.all.ensures.ran (YieldsList-from_slice c.args.e.now.node (search rules)) (λ x b q k. search (rules, tests))
    ∙ sym (all_listed _ _) ∙ sym (all_here _ _ _ (sym c.is_below.ensures ∙ c.if-is_below.true))

pub returns-else-is_below : goal.returns-else-is_below
returns-else-is_below c = c.if-is_below.false ∙ sym (all_fails _ _ _ (sym c.is_below.ensures ∙ c.if-is_below.false))
