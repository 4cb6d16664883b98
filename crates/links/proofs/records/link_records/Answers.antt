use Rattle.std.proofs.Common.{◌∙◌, arith}
use Rattle.graph.specs.Dag.{empty}
use Rattle.links.proofs.LinkingLaws.{read_taken, read_refused, begin, finish, not_taken, stopped, again}
use Rattle.links.proofs.records.link_records.Goals as goal

pub loop-k-init : goal.loop-k-init
unfolding empty
loop-k-init c = let new = c.new-links.ensures in rw (new.edges, new.ends.0, new.ends.1) (begin _ _ _)

pub returns-in-Err : goal.returns-in-Err
returns-in-Err c =
    c.links_stopped.ensures ∙ not_taken _ _ _ _ _ _ _ c.loop-k.invariant c.loop-k-test.true _ c.from-i.ensures _
    (read_refused _ _ _ _ c.part_of.ensures.bytes c.parse_record.ensures _ c.in-Err.is _ c.record_refusal.ensures)

pub returns-in-Err-take : goal.returns-in-Err-take
returns-in-Err-take c =
    c.links_stopped-in-Err-take.ensures ∙ stopped _ _ _ _ _ _ _ c.loop-k.invariant c.loop-k-test.true _ c.from-i.ensures _
    (read_taken _ _ _ _ c.part_of.ensures.bytes c.parse_record.ensures _ c.in-Ok.is) _ (c.in-Err-take.ensures)

pub loop-k-preserved : goal.loop-k-preserved
loop-k-preserved c =
    again _ _ _ _ _ _ _ c.loop-k.invariant c.loop-k-test.true _ c.from-i.ensures _
    (read_taken _ _ _ _ c.part_of.ensures.bytes c.parse_record.ensures _ c.in-Ok.is) _ _ _ (c.in_default.ensures)

pub returns : goal.returns
returns c = c.into_linked.ensures ∙ finish _ _ _ _ _ _ _ c.loop-k.invariant (omega arith)
