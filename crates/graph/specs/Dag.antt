-- "Insertion", the state: the graph that starts empty, and how the other rules read it. Assumes nothing.
use Rattle.std.specs.Prelude.{Bool, false, cond, not, ◌&&◌, ◌||◌, List, ◌++◌, map, ℕ, ◌+◌, eqb, ℤ, pos, length, get_or, set, take, replicate}
use Rattle.file.specs.Lists.{any_of, onto, up_to}
use Rattle.graph.specs.declared.NodeIndex.{NodeIndex}
use Rattle.graph.specs.declared.Nodes.{Nodes}
use Rattle.graph.specs.declared.Edges.{Edges}
use Rattle.graph.specs.declared.End.{End}
use Rattle.graph.specs.declared.Registers.{Registers}
use Rattle.graph.specs.declared.CircuitDag.{CircuitDag}

-- "fixed arrays, an absent entry being marked": 65535
abbrev pub absent : ℕ
absent = 65535

-- an entry that names a node
abbrev pub present : ℕ → Bool
present v = not (eqb v absent)

-- a, else b
abbrev pub or_else : ℕ → ℕ → ℕ
or_else a b = cond (present a) a b

-- the node number v
abbrev pub node : ℕ → NodeIndex
node v = record { 0 = v }

-- "first and last map from qubit to node, firstAll and lastAll (absent at first), first and last block (sets)"
unfoldable pub no_end : End
no_end = record { node = replicate 64 absent; all = node absent; block = replicate 512 false }

-- a register map without entries
unfoldable pub no_registers : Registers
no_registers = record { count = 0; name = replicate 256 0; index = replicate 256 0; node = replicate 256 0 }

-- the empty graph
unfoldable pub empty : CircuitDag
empty = record {
  nodes = record { count = 0; kind = replicate 512 0; form = replicate 512 0; label = replicate 512 0; place = replicate 512 (pos 0) };
  edges = record { count = 0; from = replicate 2048 0; to = replicate 2048 0 };
  first = no_end;
  last = no_end;
  first_registers = no_registers;
  last_registers = no_registers;
  commuting = record { count = 0; list = replicate 512 0 };
  backs = 0;
  fronts = 0;
}

-- "A node keeps kind, qubit form, label and place"
pub record Node : Type 0 where
  pub kind : ℕ
  pub form : ℕ
  pub label : ℕ
  pub place : ℤ

-- an edge, from the earlier node to the later
pub record Edge : Type 0 where
  pub from : ℕ
  pub to : ℕ

-- "Register maps, keyed (name, index)": a key and its node
pub record Entry : Type 0 where
  pub name : ℕ
  pub index : ℕ
  pub node : ℕ

-- the edge from a to b
abbrev pub edge : ℕ → ℕ → Edge
edge a b = record { from = a; to = b }

-- the entry of key (n, i) with node v
abbrev pub entry : ℕ → ℕ → ℕ → Entry
entry n i v = record { name = n; index = i; node = v }

-- "Node numbers run from 0 in order of insertion."
abbrev pub size : CircuitDag → ℕ
size g = g.nodes.count

-- what node v keeps
abbrev pub node_at : CircuitDag → ℕ → Node
node_at g v = record {
  kind = get_or g.nodes.kind v 0;
  form = get_or g.nodes.form v 0;
  label = get_or g.nodes.label v 0;
  place = get_or g.nodes.place v (pos 0);
}

-- the place of node v
abbrev pub place_of : CircuitDag → ℕ → ℤ
place_of g v = get_or g.nodes.place v (pos 0)

-- edge i of the list
abbrev pub edge_at : Edges → ℕ → Edge
edge_at es i = edge (get_or es.from i 0) (get_or es.to i 0)

-- entry i of a register map
abbrev pub entry_at : Registers → ℕ → Entry
entry_at r i = entry (get_or r.name i 0) (get_or r.index i 0) (get_or r.node i 0)

-- one node more, in every column: "Node numbers run from 0 in order of insertion."
abbrev pub append_node : Nodes → Node → Nodes
append_node x n = record {
  count = x.count + 1;
  kind = set x.kind x.count n.kind;
  form = set x.form x.count n.form;
  label = set x.label x.count n.label;
  place = set x.place x.count n.place;
}

-- a list appended at the count of an array: what stands after it stays
abbrev pub appended : {A : Type 0} → ℕ → List A → List A → List A
appended n new old = onto (take n old ++ new) old

-- the new edges behind the old ones
abbrev pub with_edges : Edges → List Edge → Edges
with_edges es new = record {
  count = es.count + length new;
  from = appended es.count (map (λ (e : Edge). e.from) new) es.from;
  to = appended es.count (map (λ (e : Edge). e.to) new) es.to;
}

-- the nodes, by their numbers
abbrev pub nodes_of : CircuitDag → List Node
nodes_of g = map (node_at g) (up_to (size g))

-- the edges, in the order in which they came
abbrev pub edges_of : CircuitDag → List Edge
edges_of g = map (edge_at g.edges) (up_to g.edges.count)

-- the commuting list
abbrev pub commuting_of : CircuitDag → List ℕ
commuting_of g = take g.commuting.count g.commuting.list

-- a register map's entries, in the order in which they came
abbrev pub entries_of : Registers → List Entry
entries_of r = map (entry_at r) (up_to r.count)

-- the map from qubit to node of one end: last[q], first[q]
abbrev pub at_qubit : End → ℕ → ℕ
at_qubit e q = get_or e.node q absent

-- "one with qubit form All or Set, of either kind 0 or 5, is a qubit operation"
abbrev pub is_operation : Node → Bool
is_operation n = (eqb n.form 1 || eqb n.form 2) && (eqb n.kind 0 || eqb n.kind 5)

-- the same two nodes
abbrev pub same_edge : Edge → Edge → Bool
same_edge x y = eqb x.from y.from && eqb x.to y.to

-- the same name and index
abbrev pub same_key : Entry → Entry → Bool
same_key x y = eqb x.name y.name && eqb x.index y.index

-- the edge from a to b stands
abbrev pub has_edge : CircuitDag → ℕ → ℕ → Bool
has_edge g a b = any_of (same_edge (edge a b)) (edges_of g)
