use Rattle.std.proofs.Common.{sym, ◌∙◌, ◌+◌, ◌≤◌, ◌<◌, arith}
use borrow.Author.Tests.{ltb-true, ltb-false}
use Rattle.std.proofs.lemmas.Result.{err_from_is_err_and}
use Rattle.links.proofs.LinkingLaws.{nodes_full, bounded, edges_full, grows}
use Rattle.links.proofs.records.Links.take.Goals as goal

pub returns-in_err-v : goal.returns-in_err-v
returns-in_err-v c =
    let p = err_from_is_err_and c.from_residual.result c.from_residual.ensures.1 in
    rw (p.1, p.2, c.in_err-v.ensures.1) (nodes_full _ _ _ _ _ _ _ _ c.in_err-v.ensures.0)

pub edges_pass-requires : goal.edges_pass-requires
edges_pass-requires c =
    let small : c.args.k < 512 = omega (arith, c.in_ok-v.v.low, c.in_ok-v.ensures) in
    let joined = rw c.in_ok-v.ensures at c.join.ensures.joined in
    let b = bounded _ c.args.i _ _ _ c.args.self.now.edges _ _ small _ _ _ joined (omega (arith, c.len.ensures.counted, c.len.ensures.few)) in
    (rw c.join.ensures.edges c.args.self.now.room, omega (arith, b, c.len.ensures.counted))

pub returns-then-edges_pass : goal.returns-then-edges_pass
returns-then-edges_pass c =
    let small : c.args.k < 512 = omega (arith, c.in_ok-v.v.low, c.in_ok-v.ensures) in
    let joined = rw c.in_ok-v.ensures at c.join.ensures.joined in
    let more : 2048 < c.args.self.now.edges.count + c.len.result = ltb-true _ _ (rw c.join.ensures.edges at (sym c.edges_pass.ensures ∙ c.if-edges_pass.true)) in
    edges_full _ _ _ _ _ _ _ _ small _ _ _ joined (omega (arith, c.len.ensures.counted))

pub returns : goal.returns
returns c =
    let small : c.args.k < 512 = omega (arith, c.in_ok-v.v.low, c.in_ok-v.ensures) in
    let joined = rw c.in_ok-v.ensures at c.join.ensures.joined in
    let room : c.args.self.now.edges.count + c.len.result ≤ 2048 = ltb-false _ _ (rw c.join.ensures.edges at (sym c.edges_pass.ensures ∙ c.if-edges_pass.false)) in
    grows _ _ _ _ _ _ _ _ small _ _ _ joined (omega (arith, c.len.ensures.counted)) _ (rw (c.in_ok-v.ensures, c.join.ensures.edges) at c.add_edges.ensures)
