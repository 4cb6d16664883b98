use Rattle.std.proofs.Common.{rules}
use Rattle.graph.proofs.AnswerLaws.{sound_parts}
use Rattle.graph.proofs.soundness.is_sound_graph.Goals as goal

pub returns-then-places_fit : goal.returns-then-places_fit
returns-then-places_fit c =
    let g = c.args.g.now in
    rw (← sound_parts g c.counts_fit.ensures.room) (search rules)

pub returns-else-places_fit : goal.returns-else-places_fit
returns-else-places_fit c =
    let g = c.args.g.now in
    rw (← sound_parts g c.counts_fit.ensures.room) (search rules)
