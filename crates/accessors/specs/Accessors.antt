-- The source's remaining accessors as queries: "queries 11, 8, .. 10". Assumes nothing.
use Rattle.std.specs.Prelude.{cond, List, [], ◌∷◌, ℕ, ltb, Result, Option, Ok, Err, Some, None}
use Rattle.file.specs.Lists.{members}
use Rattle.file.specs.declared.Refusal.TheVariants.{Absent, Unsound}
use Rattle.file.specs.declared.RegisterKey.{RegisterKey}
use Rattle.graph.specs.declared.CircuitDag.{CircuitDag}
use Rattle.graph.specs.declared.Registers.{Registers}
use Rattle.graph.specs.Dag.{Entry, entry, same_key, node, present, size, node_at, commuting_of, entries_of, at_qubit}
use Rattle.graph.specs.Soundness.{sound}
use Rattle.queries.specs.Queries.{Lent, refuses, answers}
use Rattle.accessors.specs.declared.KeptNode.{KeptNode}
use Rattle.file.specs.declared.Refusal.{Refusal}
use Rattle.graph.specs.declared.NodeIndex.{NodeIndex}

-- "A node keeps kind, qubit form, label and place"
abbrev pub kept_at : CircuitDag → ℕ → KeptNode
kept_at g v = let n = node_at g v in record { kind = n.kind; form = n.form; label = n.label; place = n.place }

-- what node v keeps; "graph isn't sound", "node absent"
unfoldable pub get : CircuitDag → ℕ → Result KeptNode Refusal
get g v = cond (sound g) (cond (ltb v (size g)) (Ok (kept_at g v)) (Err Absent)) (Err Unsound)

-- "graph isn't sound", else the list in the lent buffer
abbrev pub lists : CircuitDag → List ℕ → List ℕ → Lent
lists g l buffer = cond (sound g) (answers l buffer) (refuses Unsound buffer)

-- the "commuting list", which ascends
unfoldable pub commuting_operations : CircuitDag → List ℕ → Lent
commuting_operations g buffer = lists g (commuting_of g) buffer

-- "first and last block (sets)": the first, ascending
unfoldable pub first_parallel_block : CircuitDag → List ℕ → Lent
first_parallel_block g buffer = lists g (members g.first.block) buffer

-- .. and the last
unfoldable pub last_parallel_block : CircuitDag → List ℕ → Lent
last_parallel_block g buffer = lists g (members g.last.block) buffer

-- "fixed arrays, an absent entry being marked": the entry of a map
abbrev pub operation_of : ℕ → Option NodeIndex
operation_of v = cond (present v) (Some (node v)) None

-- "graph isn't sound", else the operation
abbrev pub names : CircuitDag → Option NodeIndex → Result (Option NodeIndex) Refusal
names g x = cond (sound g) (Ok x) (Err Unsound)

-- "first and last map from qubit to node": first[q]
unfoldable pub first_involving_qubit : CircuitDag → ℕ → Result (Option NodeIndex) Refusal
first_involving_qubit g q = names g (operation_of (at_qubit g.first q))

-- last[q]
unfoldable pub last_involving_qubit : CircuitDag → ℕ → Result (Option NodeIndex) Refusal
last_involving_qubit g q = names g (operation_of (at_qubit g.last q))

-- "Register maps, keyed (name, index)": the node at a key
unfoldable pub node_of_key : RegisterKey → List Entry → Option NodeIndex
node_of_key k [] = None
node_of_key k (x ∷ l) = cond (same_key x (entry k.name k.index 0)) (Some (node x.node)) (node_of_key k l)

-- first(name, index)
unfoldable pub first_involving_classical : CircuitDag → RegisterKey → Result (Option NodeIndex) Refusal
first_involving_classical g k = names g (node_of_key k (entries_of g.first_registers))

-- last(name, index)
unfoldable pub last_involving_classical : CircuitDag → RegisterKey → Result (Option NodeIndex) Refusal
last_involving_classical g k = names g (node_of_key k (entries_of g.last_registers))
