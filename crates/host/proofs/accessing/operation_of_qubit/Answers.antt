use Rattle.std.proofs.Common.{◌∙◌, sym, arith}
use Rattle.host.proofs.NodeLaws.{first_of_qubit, last_of_qubit}
use Rattle.host.proofs.accessing.operation_of_qubit.Goals as goal

pub returns-then-first : goal.returns-then-first
returns-then-first c =
    let m = sym c.is_dag.ensures ∙ c.if-not-is_dag.false in
    rw (c.from-then-first.ensures, c.first_operation_involving_qubit.ensures, c.in-Ok.ensures.1, m, ← c.dag_of-g.ensures, c.if-first.true)
    (first_of_qubit c.dag_of-g.result c.args.qubit (omega arith))

pub returns-else-first : goal.returns-else-first
returns-else-first c =
    let m = sym c.is_dag.ensures ∙ c.if-not-is_dag.false in
    rw (c.from-else-first.ensures, c.last_operation_involving_qubit.ensures, c.in-Ok.ensures.1, m, ← c.dag_of-g.ensures, c.if-first.false)
    (last_of_qubit c.dag_of-g.result c.args.qubit (omega arith))
