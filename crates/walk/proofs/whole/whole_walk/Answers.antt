use Rattle.std.proofs.Common.{◌≡◌, length, arith, rules}
use Rattle.std.proofs.lemmas.Result.{err_from_is_err_and}
use Rattle.walk.proofs.NumberingLaws.{counted_first, written}
use Rattle.walk.proofs.WholeLaws.{walk_refused, walk_short, walk_whole}
use Rattle.walk.proofs.whole.whole_walk.Goals as goal

pub returns-in_err-arcs : goal.returns-in_err-arcs
returns-in_err-arcs c =
    let p = err_from_is_err_and c.from_residual.result c.from_residual.ensures.1 in
    rw (p.1, p.2) (walk_refused _ _ _ c.in_err-arcs.ensures.value)

pub returns-then-buffer-n : goal.returns-then-buffer-n
returns-then-buffer-n c = walk_short _ _ c.in_ok-arcs.ensures.value.0 c.if-buffer-n.true

pub returns : goal.returns
returns c =
    let told = c.in_ok-arcs.ensures.value.0 in
    let long : length c.numbers_of-num.result ≡ 512 = search rules in
    walk_whole _ _ told c.if-buffer-n.false c.numbers_of-num.result _ _ c.numbers_of-num.ensures (counted_first (omega (arith, long, c.in_ok-arcs.ensures.counts.nodes)) c.count_blocks.ensures)
    (written _ _ _ _ c.in_ok-arcs.ensures.counts.nodes (search rules) c.if-buffer-n.false c.copy_from_slice.ensures.after)
