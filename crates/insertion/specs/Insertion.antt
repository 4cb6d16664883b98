-- An insertion at either end: the record's node, its links (crate links) and its register maps (crate registers). Assumes nothing.
use Rattle.std.specs.Prelude.{Bool, true, false, ◌&&◌, ◌||◌, List, map, ℕ, ◌+◌, eqb, ℤ, pos, negsuc, set}
use Rattle.file.specs.Records.{front, kind, qubit_form, register_form, label, defines, qubits_of}
use Rattle.graph.specs.declared.Commuting.{Commuting}
use Rattle.graph.specs.declared.CircuitDag.{CircuitDag}
use Rattle.graph.specs.Dag.{Node, append_node, size, entries_of, with_edges}
use Rattle.links.specs.Links.{Linked, FarRule, link_by, link}
use Rattle.registers.specs.Registers.{Maps, registers_after, with_entries}

-- "Front insertion is the mirror: first for last, firstAll for lastAll, edges out of v." The graph seen from its front
abbrev pub facing : Bool → CircuitDag → CircuitDag
facing false g = g
facing true g = record {
  nodes = g.nodes;
  edges = g.edges;
  first = g.last;
  last = g.first;
  first_registers = g.last_registers;
  last_registers = g.first_registers;
  commuting = g.commuting;
  backs = g.fronts;
  fronts = g.backs;
}

-- "The k-th back insertion has place k - 1, the k-th front insertion place -k": after k of them
abbrev pub place_after : Bool → ℕ → ℤ
place_after false k = pos k
place_after true k = negsuc k

-- what the record s does to the graph h, seen from the end of the insertion: the two ends with the new edges ..
abbrev pub linked : FarRule → CircuitDag → List ℕ → Linked
linked rule h s = link_by (qubits_of s) rule (size h) h.last h.first

-- .. and the register maps
abbrev pub registered : CircuitDag → List ℕ → Maps
registered h s = registers_after s (size h) (record { near = entries_of h.last_registers; far = entries_of h.first_registers })

-- "kinds 1 to 4, and records with both forms None, only join the commuting list"
abbrev pub commutes : List ℕ → Bool
commutes s = defines (kind s) || (eqb (qubit_form s) 0 && eqb (register_form s) 0)

-- "A node keeps kind, qubit form, label and place": the record s at a place
abbrev pub node_of : List ℕ → ℤ → Node
node_of s p = record { kind = kind s; form = qubit_form s; label = label s; place = p }

-- "join the commuting list"
abbrev pub with_commuting : CircuitDag → Bool → Commuting
with_commuting h false = h.commuting
with_commuting h true = record { count = h.commuting.count + 1; list = set h.commuting.list h.commuting.count (size h) }

-- the graph h, seen from the end f of the insertion (true: the front), after the record s
abbrev pub extended : Bool → CircuitDag → List ℕ → Linked → Maps → CircuitDag
extended f h s x r = record {
  nodes = append_node h.nodes (node_of s (place_after f h.backs));
  edges = with_edges h.edges (map (link f (size h)) x.others);
  first = x.far;
  last = x.near;
  first_registers = with_entries h.first_registers r.far;
  last_registers = with_entries h.last_registers r.near;
  commuting = with_commuting h (commutes s);
  backs = h.backs + 1;
  fronts = h.fronts;
}

-- the graph g after an accepted record at the end f: turned to that end, extended there, and turned back
abbrev pub grown_at : FarRule → Bool → CircuitDag → List ℕ → CircuitDag
grown_at rule f g s = let h = facing f g in facing f (extended f h s (linked rule h s) (registered h s))

-- "Byte 0 alone makes an insertion a back or a front one"
unfoldable pub grown : FarRule → CircuitDag → List ℕ → CircuitDag
grown rule g s = grown_at rule (front s) g s
