-- "A handed-in graph is sound if": the clauses in the document's order. Assumes nothing.
use Rattle.std.specs.Prelude.{Bool, true, cond, not, ◌&&◌, ◌||◌, List, [], ◌∷◌, ◌++◌, map, ℕ, ◌+◌, ◌≤◌, ltb, leb, eqb, ℤ, pos, negsuc, Result, Ok, Err, ⊤}
use Rattle.std.specs.Int.Signed.{lt_z, le_z}
use Rattle.file.specs.Lists.{any_of, all_of, distinct, members}
use Rattle.file.specs.declared.Refusal.{Refusal}
use Rattle.file.specs.declared.Refusal.TheVariants.{Unsound}
use Rattle.graph.specs.declared.End.{End}
use Rattle.graph.specs.declared.Registers.{Registers}
use Rattle.graph.specs.declared.CircuitDag.{CircuitDag}
use Rattle.graph.specs.Dag.{Node, Edge, Entry, present, size, nodes_of, edges_of, commuting_of, entries_of, node_at, place_of, is_operation, same_edge, same_key}

-- "counts are within these": "512 nodes, 2,048 edges, 256 entries in each register map"
abbrev pub counts_fit : CircuitDag → Bool
counts_fit g = leb (size g) 512 && leb g.edges.count 2048 && leb g.first_registers.count 256
    && leb g.last_registers.count 256 && leb g.commuting.count 512

-- "back and front insertions add up to the nodes"
abbrev pub ends_add_up : CircuitDag → Bool
ends_add_up g = eqb (g.backs + g.fronts) (size g)

-- the nodes that an end's map and its all-qubit node name
abbrev pub named : End → List ℕ
named e = e.all.0 ∷ e.node

-- of an entry that may be absent
abbrev pub if_present : (ℕ → Bool) → ℕ → Bool
if_present p v = not (present v) || p v

-- "every stored node number is below the node count"
abbrev pub numbers_below : CircuitDag → Bool
numbers_below g =
    let below : ℕ → Bool = λ v. ltb v (size g) in
    all_of (λ (e : Edge). below e.from && below e.to) (edges_of g)
    && all_of (if_present below) (named g.first ++ named g.last)
    && all_of below (members g.first.block ++ members g.last.block ++ commuting_of g)
    && all_of (λ (x : Entry). below x.node) (entries_of g.first_registers ++ entries_of g.last_registers)

-- node v is a qubit operation
abbrev pub operation_at : CircuitDag → ℕ → Bool
operation_at g v = is_operation (node_at g v)

-- "the qubit maps, firstAll and lastAll name only qubit operations"
abbrev pub name_operations : CircuitDag → Bool
name_operations g = all_of (if_present (operation_at g)) (named g.first ++ named g.last)

-- the same place
abbrev pub same_place : ℤ → ℤ → Bool
same_place p q = le_z p q && le_z q p

-- between minus the front count and the back count less 1
abbrev pub place_within : CircuitDag → ℤ → Bool
place_within g (pos k) = ltb k g.backs
place_within g (negsuc k) = ltb k g.fronts

-- "the places are distinct and lie between minus the front count and the back count less 1"
abbrev pub places_rule : CircuitDag → Bool
places_rule g = let places = map (λ (n : Node). n.place) (nodes_of g) in distinct same_place places && all_of (place_within g) places

-- strictly from below
unfoldable pub ascends : List ℕ → Bool
ascends [] = true
ascends (u ∷ l) = all_of (ltb u) l && ascends l

-- "the commuting list ascends"
abbrev pub commuting_ascends : CircuitDag → Bool
commuting_ascends g = ascends (commuting_of g)

-- "register keys are distinct within each map"
abbrev pub keys_distinct : Registers → Bool
keys_distinct r = distinct same_key (entries_of r)

-- the clauses on one register map, of a graph with n nodes: "256 entries in each register map", distinct keys, "every stored node number is below
-- the node count"
abbrev pub register_map_rule : ℕ → Registers → Bool
register_map_rule n r = leb r.count 256 && (keys_distinct r && all_of (λ (x : Entry). ltb x.node n) (entries_of r))

-- "edges are distinct, join qubit operations and run from a smaller to a larger place"
abbrev pub edges_rule : CircuitDag → Bool
edges_rule g = distinct same_edge (edges_of g)
    && all_of (λ (e : Edge). operation_at g e.from && operation_at g e.to && lt_z (place_of g e.from) (place_of g e.to)) (edges_of g)

-- "the first block holds only qubit operations without an incoming edge"
abbrev pub first_block_rule : CircuitDag → Bool
first_block_rule g = all_of (λ (v : ℕ). operation_at g v && not (any_of (λ (e : Edge). eqb e.to v) (edges_of g))) (members g.first.block)

-- "A handed-in graph is sound if ..": all clauses
unfoldable pub sound : CircuitDag → Bool
sound g = counts_fit g && ends_add_up g && numbers_below g && name_operations g && places_rule g && commuting_ascends g
    && (keys_distinct g.first_registers && keys_distinct g.last_registers) && edges_rule g && first_block_rule g

-- "512 nodes, 2,048 edges and 256 entries in each register map": what the counts of a sound graph keep to
pub record Counts (g : CircuitDag) : Type 0 where
  pub nodes : g.nodes.count ≤ 512
  pub edges : g.edges.count ≤ 2048
  pub first : g.first_registers.count ≤ 256
  pub last : g.last_registers.count ≤ 256
  pub commuting : g.commuting.count ≤ 512

-- "11, graph isn't sound": what a query on a handed-in graph begins with
abbrev pub check_sound : CircuitDag → Result ⊤ Refusal
check_sound g = cond (sound g) (Ok tt) (Err Unsound)
