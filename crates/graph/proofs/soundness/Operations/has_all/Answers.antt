use Rattle.std.proofs.Common.{Bool, true, ◌&&◌, ◌||◌, ◌∙◌, arith, rules, tests, not}
use Rattle.std.specs.List.{zip}
use Rattle.std.proofs.lemmas.Iterator.{YieldsList-from_slice, YieldsList-from_zip}
use Rattle.std.proofs.lemmas.Iterator.Consumers.{fold_from_yields_List}
use Rattle.graph.specs.Checks.{operation_in}
use Rattle.graph.proofs.ListLaws.{fold_all}
use Rattle.graph.proofs.CheckLaws.{marks_have}
use Rattle.graph.proofs.soundness.Operations.has_all.Goals as goal

pub returns : goal.returns
returns c =
    let x = c.args.self.now in
    let block = c.args.block.now in
    fold_from_yields_List _ (λ a (w : Bool × Bool). a && (not w.0 || w.1)) true _ c.fold.ensures.ran
    (YieldsList-from_zip (YieldsList-from_slice block (search rules)) (YieldsList-from_slice x.marks (search rules))) (λ a y b q k. search (rules, tests))
    ∙ fold_all (λ (w : Bool × Bool). not w.0 || w.1) true (zip block x.marks)
    ∙ marks_have block x.marks (operation_in x.g.now.nodes) (omega arith) (omega arith) x.known
