use Rattle.std.proofs.lemmas.Result.{err_from_is_err_and}
use Rattle.graph.proofs.SizeLaws.{dag_sized}
use Rattle.graph.proofs.SoundnessLaws.{sound_told}
use Rattle.queries.specs.Queries.{blocking_predecessors}
use Rattle.queries.proofs.QueryLaws.{not-asked, predecessors_answers}
use Rattle.queries.proofs.queries.blocking_predecessors.Goals as goal

pub returns-in_err-node : goal.returns-in_err-node
unfolding blocking_predecessors
returns-in_err-node c =
    let p = err_from_is_err_and c.from_residual.result c.from_residual.ensures.1 in
    rw (p.1, p.2) (not-asked _ _ _ _ _ c.in_err-node.ensures)

pub returns : goal.returns
returns c =
    let a = c.args in
    let n = c.in_ok-node.ensures in
    let s = sound_told a.g (dag_sized a.g _ c.well_formed.0).commuting.list n.0.0 in
    let e = c.reversed.ensures in
    predecessors_answers a.g s n.0.0 a.v.0 n.2 a.buffer.now _ c.neighbours_of.result c.listed.result a.executed.now
    (rw (e.near, e.far, e.count, n.0.1, n.0.2, n.0.3, n.1) at c.neighbours_of.ensures) c.listed.ensures c.answer.ensures
