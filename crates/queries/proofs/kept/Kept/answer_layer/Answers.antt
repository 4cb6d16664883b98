use Rattle.queries.proofs.BufferLaws.{length_some, length_none, layer_freed, layer_stays, answers_at}
use Rattle.queries.specs.Marks.{kept, without, layer_by}
use mathlib.Core.List.{◌++◌}
use Rattle.queries.proofs.kept.Kept.answer_layer.Goals as goal

pub returns-then-k-eq0 : goal.returns-then-k-eq0
returns-then-k-eq0 c = let a = c.args in
    let freed = kept a.self.now.mark.now a.self.now.skip.now a.self.now.n in
    answers_at (layer_by freed a.layer.now a.i) a.layer.now a.buffer.now _ (layer_stays freed a.layer.now a.i (length_none freed _ c.count-k.ensures c.if-k-eq0.true)) c.answer_list.ensures

pub returns : goal.returns
returns c = let a = c.args in
    let freed = kept a.self.now.mark.now a.self.now.skip.now a.self.now.n in
    answers_at (layer_by freed a.layer.now a.i) (without a.i a.layer.now ++ freed) a.buffer.now _ (layer_freed freed a.layer.now a.i (length_some freed _ c.count-k.ensures c.if-k-eq0.false)) c.answer_next.ensures
