use Rattle.std.proofs.Common.{◌≡◌, refl, sym, length, arith, rules}
use Rattle.std.proofs.lemmas.Result.{err_from_is_err_and}
use Rattle.graph.specs.Dag.{size}
use Rattle.std.proofs.lemmas.List.{length-take, length-take-le}
use Rattle.queries.proofs.ReachLaws.{ends_back}
use Rattle.walk.proofs.BlockLaws.{W}
use Rattle.planning.proofs.DescentLaws.{walk_told, walk_refused, chain_short, chain-none, chain-done, smallest_first}
use Rattle.planning.proofs.chains.chain.Goals as goal

pub returns-in_err-count : goal.returns-in_err-count
returns-in_err-count c =
    let p = err_from_is_err_and c.from_residual.result c.from_residual.ensures.1 in
    rw (p.1, p.2) (walk_refused _ _ _ _ _ c.in_err-count.was c.whole_walk.ensures)

pub returns-then-buffer-count : goal.returns-then-buffer-count
returns-then-buffer-count c =
    let t = walk_told _ _ _ _ c.in_ok-count.was c.whole_walk.ensures in
    chain_short _ t.sound _ _ t.count c.if-buffer-count.true

pub returns-then-count-eq0 : goal.returns-then-count-eq0
returns-then-count-eq0 c =
    let t = walk_told _ _ _ _ c.in_ok-count.was c.whole_walk.ensures in
    chain-none _ t.sound _ _ t.count c.if-count-eq0.true

pub smallest_member-v-requires : goal.smallest_member-v-requires
smallest_member-v-requires c =
    let t = walk_told _ _ _ _ c.in_ok-count.was c.whole_walk.ensures in
    omega (arith, length-take (size c.args.dag) c.whole_walk.new.buffer, (W _ t.sound).cap)

pub invariant_of-arcs : goal.invariant_of-arcs
invariant_of-arcs c =
    let t = walk_told _ _ _ _ c.in_ok-count.was c.whole_walk.ensures in
    record { below = ends_back c.args.dag t.sound }

pub returns : goal.returns
returns c =
    let t = walk_told _ _ _ _ c.in_ok-count.was c.whole_walk.ensures in
    let long : length c.whole_walk.new.buffer ≡ 512 = search rules in
    chain-done _ t.sound _ t.same _ _ _ _ _ t.count c.if-buffer-count.false c.if-count-eq0.false refl
    (smallest_first _ _ _ (omega (arith, long, (W _ t.sound).cap)) c.smallest_member-v.ensures) c.descend.ensures

pub slice_bounds-number-end : goal.slice_bounds-number-end
slice_bounds-number-end c =
    let t = walk_told _ _ _ _ c.in_ok-count.was c.whole_walk.ensures in
    let long : length c.whole_walk.new.buffer ≡ 512 = search rules in
    omega (arith, long, (W _ t.sound).cap)

pub slice_bounds-smallest_member-end : goal.slice_bounds-smallest_member-end
slice_bounds-smallest_member-end c =
    let t = walk_told _ _ _ _ c.in_ok-count.was c.whole_walk.ensures in
    let long : length c.whole_walk.new.buffer ≡ 512 = search rules in
    sym (length-take-le (size c.args.dag) c.whole_walk.new.buffer (omega (arith, long, (W _ t.sound).cap)))
