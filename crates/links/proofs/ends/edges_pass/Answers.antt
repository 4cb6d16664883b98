use native.Mathlib.Omega.{arith}
use Rattle.links.specs.Links.{edge_bound}
use Rattle.links.proofs.LinkLaws.{bound_few, surely_fits}
use Rattle.links.proofs.ends.edges_pass.Goals as goal

pub returns-then-edges-le1984 : goal.returns-then-edges-le1984
returns-then-edges-le1984 c =
    let a = c.args in
    let b = bound_few a.qubits in
    surely_fits a.edges a.k (edge_bound a.qubits) c.requires.1 (omega (arith, c.if-edges-le1984.true, b))

pub overflow_add-edges : goal.overflow_add-edges
overflow_add-edges c = omega (arith, c.edge_bound.ensures, c.requires.0, bound_few c.args.qubits)

pub overflow_add-result : goal.overflow_add-result
overflow_add-result c = omega (arith, c.requires.0, c.requires.1, bound_few c.args.qubits)
