use Rattle.std.proofs.lemmas.Result.{MatchResult-weaker}
use Rattle.registers.proofs.RegisterDefinitions.{define_over, define_both}
use Rattle.registers.proofs.entries.RegisterMap.define.Goals as goal

pub returns : goal.returns
returns c = MatchResult-weaker c.append_unmarked.result c.append_unmarked.ensures
    (λ _ e. define_both _ _ _ _ _ _ c.mark-there.ensures _ e)
    (λ _ h. define_over _ _ _ _ _ _ c.mark-there.ensures h)
