use Rattle.std.proofs.Common.{◌∙◌, ℕ, rules, tests}
use Rattle.std.proofs.lemmas.Iterator.{YieldsList-from_range}
use Rattle.std.proofs.lemmas.Iterator.Search.{any_from_yields_List}
use Rattle.graph.specs.Dag.{Entry, entry_at, same_key}
use Rattle.graph.proofs.ListLaws.{any_ranged}
use Rattle.graph.proofs.soundness.Entries.is_repeated.Goals as goal

pub returns : goal.returns
returns c =
    any_from_yields_List (λ (j : ℕ). same_key (entry_at c.args.self.now.map.now j) (entry_at c.args.self.now.map.now c.args.i)) _ _ _ c.any.ensures.ran (YieldsList-from_range 0 c.args.i c.args.i (search rules) (search rules)) (λ x b q k. search (rules, tests))
    ∙ any_ranged (λ (x : Entry). same_key x (entry_at c.args.self.now.map.now c.args.i)) (entry_at c.args.self.now.map.now) c.args.i
