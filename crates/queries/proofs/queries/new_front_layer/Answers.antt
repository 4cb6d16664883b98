use Rattle.std.proofs.Common.{◌≡◌, ◌∙◌, ap, Bool, List, length, ◌++◌, arith}
use Rattle.std.proofs.lemmas.Result.{err_from_is_err_and}
use Rattle.graph.proofs.SizeLaws.{dag_sized}
use Rattle.graph.proofs.SoundnessLaws.{sound_told}
use Rattle.queries.specs.Queries.{answers, new_front_layer}
use Rattle.queries.specs.Marks.{no_node, kept, without}
use Rattle.queries.proofs.MarkLaws.{lists_with}
use Rattle.queries.proofs.QueryLaws.{not-asked, layer_without, layer_answers, layer_alone}
use Rattle.queries.proofs.queries.new_front_layer.Goals as goal

pub returns-in_err-node : goal.returns-in_err-node
unfolding new_front_layer
returns-in_err-node c =
    let p = err_from_is_err_and c.from_residual.result c.from_residual.ensures.1 in
    rw (p.1, p.2) (not-asked _ _ _ _ _ c.in_err-node.ensures)

pub returns-in_default : goal.returns-in_default
returns-in_default c =
    let a = c.args in
    let n = c.in_ok-node.ensures in
    layer_without a.g a.executed.now a.v.0 a.buffer.now a.layer.now n.0.0 n.2 _ c.in_default.ensures.absent (omega arith)

pub returns-then-k-eq0 : goal.returns-then-k-eq0
unfolding no_node
returns-then-k-eq0 c =
    let a = c.args in
    let n = c.in_ok-node.ensures in
    let s = sound_told a.g (dag_sized a.g _ c.well_formed.0).commuting.list n.0.0 in
    let counted : c.count-k.result ≡ length (kept c.neighbours_of-next.result no_node a.g.nodes.count) =
    c.count-k.ensures ∙ ap (λ (s : List Bool). length (kept c.neighbours_of-next.result s a.g.nodes.count)) c.no_marks.ensures in
    layer_alone a.g s n.0.0 a.v.0 n.2 a.buffer.now _ c.neighbours_of-next.result no_node a.executed.now a.layer.now c.in-Some.i
    (rw (n.0.1, n.0.2, n.0.3, n.1) at c.neighbours_of-next.ensures) c.in-Some.ensures.there.0 c.in-Some.ensures.there.1 _ counted c.if-k-eq0.true
    (c.answer_next.ensures ∙ ap (λ (x : List Bool). answers (without c.in-Some.i a.layer.now ++ kept c.neighbours_of-next.result x a.g.nodes.count) a.buffer.now) c.no_marks.ensures)

pub returns : goal.returns
unfolding no_node
returns c =
    let a = c.args in
    let n = c.in_ok-node.ensures in
    let s = sound_told a.g (dag_sized a.g _ c.well_formed.0).commuting.list n.0.0 in
    let counted : c.count-k.result ≡ length (kept c.neighbours_of-next.result no_node a.g.nodes.count) =
    c.count-k.ensures ∙ ap (λ (s : List Bool). length (kept c.neighbours_of-next.result s a.g.nodes.count)) c.no_marks.ensures in
    layer_answers a.g s n.0.0 a.v.0 n.2 a.buffer.now _ c.neighbours_of-next.result c.marked.result a.executed.now a.layer.now c.in-Some.i
    (rw (n.0.1, n.0.2, n.0.3, n.1) at c.neighbours_of-next.ensures) c.in-Some.ensures.there.0 c.in-Some.ensures.there.1 c.waiting.result _ counted c.if-k-eq0.false
    (rw (c.marked.ensures, ← n.1) (lists_with _ _ _ c.listed.ensures c.in_ok-node.node.low)) (rw (n.0.1, n.0.2, n.0.3) at c.waiting.ensures) c.answer_layer.ensures
