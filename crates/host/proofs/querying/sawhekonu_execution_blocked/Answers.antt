use Rattle.std.proofs.Common.{◌<◌, sym, ◌∙◌, rules}
use Rattle.host.proofs.NodeLaws.{blocked_beyond}
use Rattle.host.proofs.querying.sawhekonu_execution_blocked.Goals as goal

pub returns-in_default : goal.returns-in_default
returns-in_default c =
    let far : 65535 < c.args.node = search rules in
    let m = sym c.is_dag.ensures ∙ c.if-not-is_dag.false in
    rw (c.no_node.ensures, m, ← c.dag_of.ensures) (blocked_beyond _ _ _ far _)
