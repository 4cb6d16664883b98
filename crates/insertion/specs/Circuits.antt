-- The circuits of built graphs, and from an accepted circuit file back to a circuit: the statements. Assumes nothing.
use Rattle.std.specs.Prelude.{◌≡◌, List, map, ℕ, ◌<◌, pos, get_or, Ok}
use Rattle.file.specs.Lists.{up_to}
use Rattle.file.specs.Pairs.{count_of, record_at}
use Rattle.file.specs.Records.{kind, qubit_form, label}
use Rattle.graph.specs.declared.CircuitDag.{CircuitDag}
use Rattle.graph.specs.Dag.{Node, node_at}
use Rattle.queries.specs.Conversion.{circuit_of}
use Rattle.queries.specs.Circuits.{CircuitWhole, EdgesRespected}
use Rattle.links.specs.declared.LoadingRule.{LoadingRule}
use Rattle.insertion.specs.Load.{load_by}
use Rattle.insertion.specs.Calls.{Call, built}
use Rattle.insertion.specs.Conversion.{insertion_order, from_circuit}

-- each node once, and in the order of every edge within kind 0 and within kinds 1 to 5
pub record WholeInOrder (g : CircuitDag) : Type 0 where
  pub whole : CircuitWhole g
  pub in_order : EdgesRespected g

-- the circuit of every graph that is built by a list of insertions, a load or a conversion, with no condition on the bytes
pub record CircuitsBuilt : Type 0 where
  pub inserted : (l : List Call) → WholeInOrder (built l)
  pub loaded : (rule : LoadingRule) (s : List ℕ) → WholeInOrder (load_by rule s).graph
  pub converted : (s : List ℕ) → WholeInOrder (from_circuit s).graph

-- the record whose node has the number v
abbrev pub record_of_node : List ℕ → ℕ → ℕ
record_of_node s v = get_or (insertion_order s) v 0

-- "A node keeps kind, qubit form, label and place": node v, inserted at the back as the v-th, counted from 0, of a record with these bytes
abbrev pub kept_of : List ℕ → ℕ → Node
kept_of b v = record { kind = kind b; form = qubit_form b; label = label b; place = pos v }

-- node v keeps its record's kind, form and label; the circuit has the nodes 0, 1, 2, ..; as record numbers it is kinds 1 to 5 in file
-- order, then kind 0 in file order
pub record CircuitAgain (s : List ℕ) : Type 0 where
  pub nodes : (v : ℕ) → v < count_of s → node_at (from_circuit s).graph v ≡ kept_of (record_at s (record_of_node s v)) v
  pub circuit : circuit_of (from_circuit s).graph ≡ up_to (count_of s)
  pub records : map (record_of_node s) (circuit_of (from_circuit s).graph) ≡ insertion_order s

-- .. of every circuit file that is accepted
abbrev pub ReturnsCircuit : List ℕ → Type 0
ReturnsCircuit s = (from_circuit s).answer ≡ Ok tt → CircuitAgain s
