use Rattle.std.proofs.Common.{◌≡◌, ◌∙◌, refl, sym, ap, arith, ℕ, List, ◌++◌, ◌∷◌, [], take, length, get_or}
use lib.Seq.{take-length}
use Rattle.std.proofs.lemmas.List.{take_more_set, take_more}
use Rattle.queries.proofs.queries.copy_list.Goals as goal

pub loop-i-init : goal.loop-i-init
loop-i-init c = refl

pub loop-i-preserved : goal.loop-i-preserved
loop-i-preserved c =
    let list = c.args.list.now in
    let i = c.loop-i.i in
    take_more_set c.loop-i.part i (get_or list i 0) (omega (arith, c.loop-i.auto.part, c.requires, c.loop-i-test.true))
    ∙ ap (λ (l : List ℕ). l ++ (get_or list i 0 ∷ [])) c.loop-i.invariant
    ∙ sym (take_more list i 0 c.loop-i-test.true)

pub returns : goal.returns
returns c =
    let n : length c.loop-i.part ≡ c.loop-i.i = omega (arith, c.loop-i.auto.part, c.requires, c.loop-i-test.false, c.loop-i.auto.i-end) in
    let m : length c.args.list.now ≡ c.loop-i.i = omega (arith, c.loop-i-test.false, c.loop-i.auto.i-end) in
    sym (take-length c.loop-i.part) ∙ ap (λ (k : ℕ). take k c.loop-i.part) n ∙ c.loop-i.invariant
    ∙ ap (λ (k : ℕ). take k c.args.list.now) (sym m) ∙ take-length c.args.list.now
