-- What the checks of a graph's parts answer, which together are `sound`. Assumes nothing.
use Rattle.std.specs.Prelude.{Bool, false, not, cond, ◌&&◌, ◌||◌, List, map, ℕ, ◌+◌, ◌<◌, ltb, eqb, ℤ, pos, get_or, take, Option, Some, None}
use Rattle.std.specs.Int.Signed.{mag, non_neg, lt_z}
use Rattle.file.specs.Lists.{all_of, any_of, distinct, up_to, members}
use Rattle.file.specs.declared.RegisterKey.{RegisterKey}
use Rattle.graph.specs.declared.Nodes.{Nodes}
use Rattle.graph.specs.declared.Edges.{Edges}
use Rattle.graph.specs.declared.End.{End}
use Rattle.graph.specs.declared.Registers.{Registers}
use Rattle.graph.specs.declared.Commuting.{Commuting}
use Rattle.graph.specs.declared.CircuitDag.{CircuitDag}
use Rattle.graph.specs.Dag.{Edge, Entry, edge_at, entry_at, entries_of, same_edge, same_key}
use Rattle.graph.specs.Soundness.{if_present, same_place, ascends, keys_distinct, register_map_rule}

-- node v has the form and the kind of a qubit operation
abbrev pub operation_in : Nodes → ℕ → Bool
operation_in x v = (eqb (get_or x.form v 0) 1 || eqb (get_or x.form v 0) 2) && (eqb (get_or x.kind v 0) 0 || eqb (get_or x.kind v 0) 5)

-- v is a node, and a qubit operation
abbrev pub operates : Nodes → ℕ → Bool
operates x v = ltb v x.count && operation_in x v

-- a place lies within the ends
abbrev pub within : ℕ → ℕ → ℤ → Bool
within backs fronts p = ltb (mag p) (cond (non_neg p) backs fronts)

-- the number of a place among those within the ends
abbrev pub slot : ℕ → ℤ → ℕ
slot backs p = cond (non_neg p) (mag p) (backs + mag p)

-- .. where it lies there
abbrev pub slot_answer : ℕ → ℕ → ℤ → Option ℕ
slot_answer backs fronts p = cond (within backs fronts p) (Some (slot backs p)) None

-- the places are distinct and lie within the ends
abbrev pub places_fit : CircuitDag → Bool
places_fit g = distinct same_place (map (λ (v : ℕ). get_or g.nodes.place v (pos 0)) (up_to g.nodes.count))
    && all_of (within g.backs g.fronts) (map (λ (v : ℕ). get_or g.nodes.place v (pos 0)) (up_to g.nodes.count))

-- the edges, in the order in which they came
abbrev pub edges_in : Edges → List Edge
edges_in es = map (edge_at es) (up_to es.count)

-- an edge joins two qubit operations, rises in place, and runs to no member of the block
abbrev pub edge_fits : Nodes → List Bool → Edge → Bool
edge_fits x block e = operates x e.from && operates x e.to
    && lt_z (get_or x.place e.from (pos 0)) (get_or x.place e.to (pos 0)) && not (get_or block e.to false)

-- so does every edge
abbrev pub edges_fit : CircuitDag → Bool
edges_fit g = all_of (edge_fits g.nodes g.first.block) (edges_in g.edges)

-- no two edges are the same
abbrev pub edges_differ : Edges → Bool
edges_differ es = distinct same_edge (edges_in es)

-- edge i runs between nodes below 512
abbrev pub low_edge : Edges → ℕ → Type 0
low_edge es i = (get_or es.from i 0 < 512) × (get_or es.to i 0 < 512)

-- an end names qubit operations, and its block holds nodes
abbrev pub end_fits : Nodes → End → Bool
end_fits x e = if_present (operates x) e.all.0 && all_of (if_present (operates x)) e.node
    && all_of (λ (v : ℕ). ltb v x.count) (members e.block)

-- the commuting list ascends strictly, below n
abbrev pub commuting_fits : ℕ → Commuting → Bool
commuting_fits n c = ascends (take c.count c.list) && all_of (λ (v : ℕ). ltb v n) (take c.count c.list)

-- the key of entry i of a map
abbrev pub key_in : Registers → ℕ → RegisterKey
key_in r i = record { name = get_or r.name i 0; index = get_or r.index i 0 }

-- the key of entry i stands before it
abbrev pub is_repeated : Registers → ℕ → Bool
is_repeated r i = any_of (λ (x : Entry). same_key x (entry_at r i)) (map (entry_at r) (up_to i))

-- register keys are distinct, and nodes below n
abbrev pub entries_fit : ℕ → Registers → Bool
entries_fit n r = keys_distinct r && all_of (λ (x : Entry). ltb x.node n) (entries_of r)

-- all but the counts and the places
abbrev pub parts_fit : CircuitDag → Bool
parts_fit g = (edges_fit g && edges_differ g.edges)
    && all_of (operation_in g.nodes) (members g.first.block)
    && end_fits g.nodes g.first
    && end_fits g.nodes g.last
    && commuting_fits g.nodes.count g.commuting
    && register_map_rule g.nodes.count g.first_registers
    && register_map_rule g.nodes.count g.last_registers
