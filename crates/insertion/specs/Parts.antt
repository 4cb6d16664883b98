-- What private functions promise: the nodes of a list of records, and the graph put together. Neither the nodes with the
-- commuting list, nor the ends with their edges (crate links), nor the register maps (crate registers) read the others,
-- so that a load makes each in a loop of its own. Assumes nothing.
use Rattle.std.specs.Prelude.{cond, List, [], ◌∷◌, ℕ, ◌+◌, set}
use Rattle.file.specs.Pairs.{record_at}
use Rattle.file.specs.Records.{front}
use Rattle.graph.specs.declared.CircuitDag.{CircuitDag}
use Rattle.links.specs.declared.LinkedRecords.{LinkedRecords}
use Rattle.registers.specs.declared.Registered.{Registered}
use Rattle.insertion.specs.declared.nodes.NodeLists.{NodeLists}
use Rattle.graph.specs.Dag.{append_node}
use Rattle.insertion.specs.Insertion.{place_after, commutes, node_of}

-- the nodes, the commuting list and the counts of insertions of a graph
abbrev pub node_lists : CircuitDag → NodeLists
node_lists g = record { nodes = g.nodes; commuting = g.commuting; backs = g.backs; fronts = g.fronts }

-- .. and after the record b became the next node
unfoldable pub node_after : List ℕ → NodeLists → NodeLists
node_after b x = let v = x.nodes.count in record {
  nodes = append_node x.nodes (node_of b (place_after (front b) (cond (front b) x.fronts x.backs)));
  commuting = record {
    count = cond (commutes b) (x.commuting.count + 1) x.commuting.count;
    list = cond (commutes b) (set x.commuting.list x.commuting.count v) x.commuting.list;
  };
  backs = cond (front b) x.backs (x.backs + 1);
  fronts = cond (front b) (x.fronts + 1) x.fronts;
}

-- the file's records with these numbers, one after the other
unfoldable pub nodes_after : List ℕ → NodeLists → List ℕ → NodeLists
nodes_after s x [] = x
nodes_after s x (i ∷ l) = nodes_after s (node_after (record_at s i) x) l

-- the graph of the nodes, the ends with their edges, and the register maps
abbrev pub assembled : NodeLists → LinkedRecords → Registered → CircuitDag
assembled n x r = record {
  nodes = n.nodes;
  edges = x.edges;
  first = x.first;
  last = x.last;
  first_registers = r.first;
  last_registers = r.last;
  commuting = n.commuting;
  backs = n.backs;
  fronts = n.fronts;
}
