-- What the host gets of each answer: two numbers, "this paper's number and values for each of the enum's cases". Assumes nothing.
use Rattle.std.specs.Prelude.{Bool, cond, ◌&&◌, List, ℕ, ltb, pos, Result, Option, Ok, Err, Some, None, ⊤, unwrap_or}
use Rattle.file.specs.Refusals.{number_of, value_of}
use Rattle.file.specs.declared.Refusal.{Refusal}
use Rattle.file.specs.declared.Refusal.TheVariants.{Absent, Unsound}
use Rattle.file.specs.declared.Place.{Place}
use Rattle.file.specs.declared.RegisterKey.{RegisterKey}
use Rattle.queries.specs.Queries.{Lent}
use Rattle.insertion.specs.declared.Inserted.{Inserted}
use Rattle.insertion.specs.declared.Loaded.{Loaded}
use Rattle.accessors.specs.declared.KeptNode.{KeptNode}
use Rattle.accessors.specs.Accessors.{names, get, first_involving_qubit, last_involving_qubit, first_involving_classical, last_involving_classical}
use Rattle.graph.specs.declared.CircuitDag.{CircuitDag}
use Rattle.graph.specs.Soundness.{sound}
use Rattle.links.specs.declared.LoadingRule.{LoadingRule}
use Rattle.links.specs.declared.LoadingRule.TheVariants.{NearAll}
use Rattle.insertion.specs.Limits.{insert_by}
use Rattle.walk.specs.Blocks.{Stepped, Walked, next}
use Rattle.host.specs.declared.HostAnswer.{HostAnswer}
use Rattle.host.specs.declared.HostDag.{HostDag}
use Rattle.host.specs.declared.HostGraph.{HostGraph}
use Rattle.host.specs.declared.HostNode.{HostNode}
use Rattle.host.specs.declared.HostPlace.{HostPlace}
use Rattle.host.specs.declared.HostWalk.{HostWalk}
use Rattle.host.specs.Marks.{is_dag, dag_of, host_of, is_walk, walk_of, host_walk}
use Rattle.graph.specs.declared.NodeIndex.{NodeIndex}

-- refused: the document's number and value
abbrev pub refuses : Refusal → HostAnswer
refuses r = record { refusal = number_of r; value = unwrap_or (value_of r) 65535 }

-- accepted: 0, and what the call found
abbrev pub accepts : ℕ → HostAnswer
accepts n = record { refusal = 0; value = n }

-- the refusal of what no graph has, a node number past 16 bits or a set of bytes that are no marks: "queries 11, 8"
abbrev pub no_node : CircuitDag → HostAnswer
no_node g = cond (sound g) (refuses Absent) (refuses Unsound)

-- a query: how many entries it wrote; the whole walk: how many blocks
abbrev pub of_count : Result ℕ Refusal → HostAnswer
of_count (Ok k) = accepts k
of_count (Err r) = refuses r

-- an insertion: the node
abbrev pub of_inserted : Result NodeIndex Refusal → HostAnswer
of_inserted (Ok v) = accepts v.0
of_inserted (Err r) = refuses r

-- a load, a conversion from a circuit
abbrev pub of_loaded : Result ⊤ Refusal → HostAnswer
of_loaded (Ok _) = accepts 0
of_loaded (Err r) = refuses r

-- a step: how many nodes the block has; 65535 for None
abbrev pub of_step : Result (Option ℕ) Refusal → HostAnswer
of_step (Ok (Some k)) = accepts k
of_step (Ok None) = accepts 65535
of_step (Err r) = refuses r

-- a record's place: 0, its offset and its length
abbrev pub of_place : Result Place Refusal → HostPlace
of_place (Ok p) = record { answer = accepts 0; offset = p.offset; length = p.length }
of_place (Err r) = record { answer = refuses r; offset = 0; length = 0 }

-- where no node is answered: zeros
abbrev pub no_kept : KeptNode
no_kept = record { kind = 0; form = 0; label = 0; place = pos 0 }

-- what a node keeps
abbrev pub of_got : Result KeptNode Refusal → HostNode
of_got (Ok n) = record { answer = accepts 0; node = n }
of_got (Err r) = record { answer = refuses r; node = no_kept }

-- an operation that a map names: its node; 65535 for none
abbrev pub of_operation : Result (Option NodeIndex) Refusal → HostAnswer
of_operation (Ok (Some v)) = accepts v.0
of_operation (Ok None) = accepts 65535
of_operation (Err r) = refuses r

-- the operation at what no map has, a qubit over 63 or a key past 8 and 16 bits: 11, else none
abbrev pub no_operation : CircuitDag → HostAnswer
no_operation g = of_operation (names g None)

-- first[q] or last[q]
abbrev pub involving_qubit : Bool → ℕ → CircuitDag → HostAnswer
involving_qubit first q g = cond (ltb q 64) (of_operation (cond first (first_involving_qubit g q) (last_involving_qubit g q))) (no_operation g)

-- a key past 8 and 16 bits is none
abbrev pub key_of : ℕ → ℕ → Option RegisterKey
key_of name index = cond (ltb name 256 && ltb index 65536) (Some (record { name = name; index = index })) None

-- first(name, index) or last(name, index)
abbrev pub involving_key : Bool → ℕ → ℕ → CircuitDag → HostAnswer
involving_key first name index g = let key : RegisterKey = record { name = name; index = index } in
    cond (ltb name 256 && ltb index 65536) (of_operation (cond first (first_involving_classical g key) (last_involving_classical g key))) (no_operation g)

-- the answer beside the graph
abbrev pub graph_inserted : Inserted → HostGraph
graph_inserted x = record { answer = of_inserted x.answer; graph = host_of x.graph }

-- the answer beside the graph
abbrev pub graph_loaded : Loaded → HostGraph
graph_loaded x = record { answer = of_loaded x.answer; graph = host_of x.graph }

-- an insertion into what came, in either way: bytes that are no marks are refused 11 and come back
abbrev pub inserted_by : LoadingRule → HostDag → List ℕ → HostGraph
inserted_by rule d part = cond (is_dag d) (graph_inserted (insert_by rule (dag_of d) part)) (record { answer = refuses Unsound; graph = d })

-- .. in document 01's way
abbrev pub inserted_into : HostDag → List ℕ → HostGraph
inserted_into d part = inserted_by NearAll d part

-- the answer, and the lent buffer afterwards
pub record HostLent : Type 0 where
  pub answer : HostAnswer
  pub buffer : List ℕ

-- of a query
abbrev pub lent : Lent → HostLent
lent x = record { answer = of_count x.answer; buffer = x.buffer }

-- of the whole walk
abbrev pub walked : Walked → HostLent
walked x = record { answer = of_count x.answer; buffer = x.buffer }

-- a query or a walk of what came: 11 for bytes that are no marks, else what the graph answers
abbrev pub on_dag : HostDag → List ℕ → (CircuitDag → HostLent) → HostLent
on_dag d buffer f = cond (is_dag d) (f (dag_of d)) (record { answer = refuses Unsound; buffer = buffer })

-- an answer about what came, with nothing lent: 11 for bytes that are no marks
abbrev pub asked : HostDag → (CircuitDag → HostAnswer) → HostAnswer
asked d f = cond (is_dag d) (f (dag_of d)) (refuses Unsound)

-- what node v of what came keeps
abbrev pub got_of : HostDag → ℕ → HostNode
got_of d v = cond (is_dag d) (of_got (get (dag_of d) v)) (of_got (Err Unsound))

-- the answer, the walk and the lent buffer afterwards
pub record HostStepped : Type 0 where
  pub answer : HostAnswer
  pub walk : HostWalk
  pub buffer : List ℕ

-- of a step
abbrev pub stepped : Stepped → HostStepped
stepped x = record { answer = of_step x.answer; walk = host_walk x.walk; buffer = x.buffer }

-- a step of what came: 11 for a graph's bytes that are no marks, 8 for a walk's; the walk comes back
abbrev pub stepped_from : HostDag → HostWalk → List ℕ → HostStepped
stepped_from d w buffer = cond (is_dag d)
    (cond (is_walk w) (stepped (next (dag_of d) (walk_of w) buffer)) (record { answer = no_node (dag_of d); walk = w; buffer = buffer }))
    (record { answer = refuses Unsound; walk = w; buffer = buffer })
