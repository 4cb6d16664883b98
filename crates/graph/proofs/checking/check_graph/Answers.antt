use Rattle.std.proofs.Common.{◌≡◌, true, refl, sym, ◌∙◌}
use Rattle.graph.specs.Soundness.{sound}
use Rattle.graph.proofs.SoundnessLaws.{sound_told}
use Rattle.graph.proofs.checking.check_graph.Goals as goal

pub returns-then-is_sound_graph-clause-value : goal.returns-then-is_sound_graph-clause-value
returns-then-is_sound_graph-clause-value c = rw (sym c.is_sound_graph.ensures.value ∙ c.if-is_sound_graph.true) refl

pub returns-then-is_sound_graph-clause-counts : goal.returns-then-is_sound_graph-clause-counts
returns-then-is_sound_graph-clause-counts c =
    let g = c.args.g.now in
    let told : sound g ≡ true = sym c.is_sound_graph.ensures.value ∙ c.if-is_sound_graph.true in
    let s = sound_told g c.is_sound_graph.ensures.room told in
    record { nodes = s.node-count; edges = s.edge_count; first = s.first_count; last = s.last_count; commuting = s.commuting_count }

pub returns-clause-value : goal.returns-clause-value
returns-clause-value c = rw (sym c.is_sound_graph.ensures.value ∙ c.if-is_sound_graph.false) refl
