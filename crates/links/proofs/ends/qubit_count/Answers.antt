use mathlib.Core.Path.{sym}
use native.Mathlib.Omega.{arith}
use Rattle.links.proofs.QubitLaws.{count-qubits}
use Rattle.links.proofs.ends.qubit_count.Goals as goal

pub returns : goal.returns
returns c = sym (count-qubits 64 0 c.args.mask (omega arith))
