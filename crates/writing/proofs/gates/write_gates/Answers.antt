use Rattle.writing.specs.Writing.{gate_of}
use Rattle.writing.proofs.WritingLaws.{gate-length}
use Rattle.writing.proofs.WriterLaws.{gates_many, gates_short, gates_written}
use Rattle.writing.proofs.gates.write_gates.Goals as goal

pub returns-then-n-gt512 : goal.returns-then-n-gt512
returns-then-n-gt512 c = gates_many gate_of (λ g. gate-length _ _) _ _ c.if-n-gt512.true

pub returns-then-out-size : goal.returns-then-out-size
returns-then-out-size c = gates_short gate_of (λ g. gate-length _ _) _ _ c.if-n-gt512.false c.if-out-size.true

pub returns : goal.returns
returns c =
    gates_written gate_of (λ g. gate-length _ _) _ _ c.if-n-gt512.false c.if-out-size.false _ _ _
    c.put_u16.ensures c.put_pairs.ensures c.put_gates.ensures
