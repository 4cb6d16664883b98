use native.Mathlib.Omega.{arith}
use Rattle.writing.proofs.WritingLaws.{gate-length}
use Rattle.writing.proofs.WriterLaws.{gates_one, gates_all}
use Rattle.writing.proofs.gates.put_gates.Goals as goal

pub loop-k-preserved : goal.loop-k-preserved
loop-k-preserved c = gates_one _ _ _ _ _ c.loop-k.invariant _ (gate-length _ _) c.loop-k-test.true _ c.put_gate.ensures

pub returns : goal.returns
returns c = gates_all _ _ _ _ _ c.loop-k.invariant (omega arith)
