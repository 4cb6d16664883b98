-- What contracts read of the numbers that carry their bounds. Assumes nothing.
use Rattle.std.specs.Prelude.{List, ℕ, Option, Some, None}
use Rattle.graph.specs.Dag.{absent}
use Rattle.links.specs.declared.numbers.Node.{Node}
use Rattle.links.specs.declared.numbers.MapQubit.{MapQubit}
use Rattle.links.specs.declared.numbers.Qubits.{Qubits}
use Rattle.links.specs.Links.{qubits}

-- the number of a node, or of none: 65535
abbrev pub number_of : Option Node → ℕ
number_of None = absent
number_of (Some v) = v.number.0

-- the number of a qubit
abbrev pub qubit_number : MapQubit → ℕ
qubit_number q = q.number.0

-- the qubits that are still to come
abbrev pub left_of : Qubits → List ℕ
left_of q = qubits q.left
