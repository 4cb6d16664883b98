use Rattle.std.proofs.Common.{◌∙◌, ℕ, ◌-◌, rules, tests}
use Rattle.std.proofs.lemmas.Iterator.{YieldsList-from_range}
use Rattle.std.proofs.lemmas.Iterator.Search.{all_from_yields_List}
use Rattle.file.specs.Records.{entry_before}
use Rattle.file.proofs.RecordLaws.{all_ascend}
use Rattle.file.proofs.records.is_ascending.Goals as goal

pub returns : goal.returns
returns c =
    all_from_yields_List (λ (k : ℕ). entry_before c.args.s.now (k - 1)) _ _ _ c.all.ensures.ran (YieldsList-from_range 1 c.args.c (c.args.c - 1) (search rules) (search rules)) (λ x b q k. search (rules, tests))
    ∙ all_ascend (c.args.c - 1) 0 c.args.s.now
