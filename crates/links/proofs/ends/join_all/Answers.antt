use Rattle.std.proofs.Common.{sym, ◌∙◌, true, false}
use Rattle.links.proofs.JoinLaws.{joined_all}
use Rattle.links.proofs.ends.join_all.Goals as goal

pub returns-then-empty : goal.returns-then-empty
returns-then-empty c =
    joined_all c.args.v.number _ _ _ _ _ true (sym c.both_empty-empty.ensures ∙ c.if-empty.true)
    (rw (c.keep_only.ensures, c.zero-zero.ensures) at c.set_node.ensures) (rw (c.admit.ensures, c.zero-zero.ensures) at c.set_node-then-empty.ensures) c.requires

pub returns : goal.returns
returns c =
    joined_all c.args.v.number _ _ _ _ _ false (sym c.both_empty-empty.ensures ∙ c.if-empty.false)
    (rw c.keep_only.ensures at c.map_all.ensures.nodes) c.admit.ensures (rw c.keep_only.ensures at c.map_all.ensures.joined)
