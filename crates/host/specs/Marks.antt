-- How a graph and a walk cross to C: a set's marks as bytes. Assumes nothing.
use Rattle.std.specs.Prelude.{Bool, cond, ◌&&◌, List, map, ℕ, eqb, leb, Result, Ok, Err}
use Rattle.file.specs.Lists.{all_of}
use Rattle.file.specs.declared.Refusal.{Refusal}
use Rattle.file.specs.declared.Refusal.TheVariants.{Absent}
use Rattle.graph.specs.declared.End.{End}
use Rattle.graph.specs.declared.CircuitDag.{CircuitDag}
use Rattle.graph.specs.Soundness.{sound}
use Rattle.walk.specs.declared.ParallelBlocks.{ParallelBlocks}
use Rattle.host.specs.declared.HostEnd.{HostEnd}
use Rattle.host.specs.declared.HostDag.{HostDag}
use Rattle.host.specs.declared.HostWalk.{HostWalk}

-- a mark crosses as 0 or 1; any other byte is none
unfoldable pub are_marks : List ℕ → Bool
are_marks l = all_of (λ b. leb b 1) l

-- the marks of such bytes
unfoldable pub marks_of : List ℕ → List Bool
marks_of l = map (λ b. eqb b 1) l

-- the bytes of marks
unfoldable pub bytes_of : List Bool → List ℕ
bytes_of l = map (λ b. cond b 1 0) l

-- an end as it came
abbrev pub end_of : HostEnd → End
end_of e = record { node = e.node; all = e.all; block = marks_of e.block }

-- an end as it goes
abbrev pub host_end : End → HostEnd
host_end e = record { node = e.node; all = e.all; block = bytes_of e.block }

-- the graph of what came
unfoldable pub dag_of : HostDag → CircuitDag
dag_of d = record {
  nodes = d.nodes;
  edges = d.edges;
  first = end_of d.first;
  last = end_of d.last;
  first_registers = d.first_registers;
  last_registers = d.last_registers;
  commuting = d.commuting;
  backs = d.backs;
  fronts = d.fronts;
}

-- what goes of a graph
unfoldable pub host_of : CircuitDag → HostDag
host_of g = record {
  nodes = g.nodes;
  edges = g.edges;
  first = host_end g.first;
  last = host_end g.last;
  first_registers = g.first_registers;
  last_registers = g.last_registers;
  commuting = g.commuting;
  backs = g.backs;
  fronts = g.fronts;
}

-- the bytes of both blocks are marks
unfoldable pub is_dag : HostDag → Bool
is_dag d = are_marks d.first.block && are_marks d.last.block

-- "A handed-in graph is sound if", of what came: a byte that is no mark makes no sound graph
abbrev pub host_sound : HostDag → Bool
host_sound d = is_dag d && sound (dag_of d)

-- the walk of what came
unfoldable pub walk_of : HostWalk → ParallelBlocks
walk_of w = record { current = marks_of w.current; executed = marks_of w.executed }

-- what goes of a walk
unfoldable pub host_walk : ParallelBlocks → HostWalk
host_walk w = record { current = bytes_of w.current; executed = bytes_of w.executed }

-- the bytes of both sets are marks
unfoldable pub is_walk : HostWalk → Bool
is_walk w = are_marks w.current && are_marks w.executed

-- the walk of what came, if its bytes are marks: a byte that is no mark names no node, 8
abbrev pub walk_from : HostWalk → Result ParallelBlocks Refusal
walk_from w = cond (is_walk w) (Ok (walk_of w)) (Err Absent)
