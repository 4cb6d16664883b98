-- The lengths of a graph's arrays, from what owning the graph tells (`c.good` of a function's place). Assumes nothing.
use mathlib.Core.Path.{◌≡◌, sym, ◌∙◌}
use mathlib.Core.List.{List, map}
use Prim.Native.Nat.{ℕ}
use lib.ListN.{length, length-map}
use mir.Val.{Val}
use denote.Laws.{Is}
use Rattle.graph.specs.declared.Nodes.{Nodes}
use Rattle.graph.specs.declared.Edges.{Edges}
use Rattle.graph.specs.declared.End.{End}
use Rattle.graph.specs.declared.Registers.{Registers}
use Rattle.graph.specs.declared.Commuting.{Commuting}
use Rattle.graph.specs.declared.CircuitDag.{CircuitDag}
use Rattle.graph.specs.contracts.Nodes.{the_row as nodes-row}
use Rattle.graph.specs.contracts.Edges.{the_row as edges-row}
use Rattle.graph.specs.contracts.End.{the_row as End-row}
use Rattle.graph.specs.contracts.Registers.{the_row as registers-row}
use Rattle.graph.specs.contracts.Commuting.{the_row as commuting-row}
use Rattle.graph.specs.contracts.CircuitDag.{the_row as dag-row}

pub length-mapped : (A B : Type 0) (f : A → B) (l : List A) (n : ℕ) → length (map f l) ≡ n → length l ≡ n
length-mapped A B f l n e = sym (length-map l f) ∙ e

pub record NodesSized (x : Nodes) : Type 0 where
  pub kind : length x.kind ≡ 512
  pub form : length x.form ≡ 512
  pub label : length x.label ≡ 512
  pub place : length x.place ≡ 512

pub record EdgesSized (x : Edges) : Type 0 where
  pub from : length x.from ≡ 2048
  pub to : length x.to ≡ 2048

pub record EndSized (x : End) : Type 0 where
  pub node : length x.node ≡ 64
  pub block : length x.block ≡ 512

pub record RegistersSized (x : Registers) : Type 0 where
  pub name : length x.name ≡ 256
  pub index : length x.index ≡ 256
  pub node : length x.node ≡ 256

pub record CommutingSized (x : Commuting) : Type 0 where
  pub list : length x.list ≡ 512

pub record DagSized (g : CircuitDag) : Type 0 where
  pub nodes : NodesSized g.nodes
  pub edges : EdgesSized g.edges
  pub first : EndSized g.first
  pub last : EndSized g.last
  pub first_registers : RegistersSized g.first_registers
  pub last_registers : RegistersSized g.last_registers
  pub commuting : CommutingSized g.commuting

pub nodes_sized : (x : Nodes) (vs : List Val) → Is nodes-row x vs → NodesSized x
nodes_sized x vs h = record { kind = search length-mapped; form = search length-mapped; label = search length-mapped; place = search length-mapped }

pub edges_sized : (x : Edges) (vs : List Val) → Is edges-row x vs → EdgesSized x
edges_sized x vs h = record { from = search length-mapped; to = search length-mapped }

pub end_sized : (x : End) (vs : List Val) → Is End-row x vs → EndSized x
end_sized x vs h = record { node = search length-mapped; block = search length-mapped }

pub registers_sized : (x : Registers) (vs : List Val) → Is registers-row x vs → RegistersSized x
registers_sized x vs h = record { name = search length-mapped; index = search length-mapped; node = search length-mapped }

pub commuting_sized : (x : Commuting) (vs : List Val) → Is commuting-row x vs → CommutingSized x
commuting_sized x vs h = record { list = search length-mapped }

pub dag_sized : (g : CircuitDag) (vs : List Val) → Is dag-row g vs → DagSized g
dag_sized g vs h = record {
  nodes = search (nodes_sized, h);
  edges = search (edges_sized, h.1.1);
  first = search (end_sized, h.1.1.1.1);
  last = search (end_sized, h.1.1.1.1.1);
  first_registers = search (registers_sized, h.1.1.1.1.1.1);
  last_registers = search (registers_sized, h.1.1.1.1.1.1.1);
  commuting = search (commuting_sized, h.1.1.1.1.1.1.1.1);
}
