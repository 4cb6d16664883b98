use Rattle.std.proofs.Common.{◌≡◌, Bool, false, ◌||◌, ◌∙◌, ◌-◌, arith, rules, tests, not, ap, take, drop, min}
use Rattle.std.proofs.lemmas.Iterator.{YieldsList-from_slice}
use Rattle.std.proofs.lemmas.Iterator.Consumers.{fold_from_yields_List}
use Rattle.std.proofs.lemmas.List.{take_all, length-drop}
use Rattle.graph.proofs.ListLaws.{fold_any}
use Rattle.graph.proofs.CheckLaws.{marks_below}
use Rattle.graph.proofs.sets.members_below.Goals as goal

pub returns : goal.returns
returns c =
    let m = min c.args.n 512 in
    let above = drop m c.args.marks in
    let all : take (512 - m) above ≡ above = take_all (512 - m) above (omega (arith, length-drop m c.args.marks)) in
    ap not (rw (← all) (fold_from_yields_List _ (λ a (b : Bool). a || b) false _ c.fold.ensures.ran
    (YieldsList-from_slice (take (512 - m) above) (search rules)) (λ a x b q k. search (rules, tests))) ∙ fold_any (λ (b : Bool). b) false above)
    ∙ marks_below c.args.marks c.args.n (omega arith)
