-- An insertion with its refusals: "Order: 11, .. then per record 4 to 7", K2's 12 behind 4. Assumes nothing.
use Rattle.std.specs.Prelude.{Bool, true, false, cond, not, List, ℕ, ◌+◌, ltb, leb, length, Result, Ok, Err}
use Rattle.file.specs.Records.{front, good, cause_of}
use Rattle.file.specs.Refusals.{at_record}
use Rattle.file.specs.declared.Refusal.{Refusal}
use Rattle.file.specs.declared.Refusal.TheVariants.{TooManyNodes, TooManyEdges, TooManyRegisters, Unsound}
use Rattle.graph.specs.declared.CircuitDag.{CircuitDag}
use Rattle.insertion.specs.declared.Inserted.{Inserted}
use Rattle.graph.specs.Dag.{node, size}
use Rattle.links.specs.Links.{FarRule, rule_of}
use Rattle.links.specs.declared.LoadingRule.{LoadingRule}
use Rattle.links.specs.declared.LoadingRule.TheVariants.{NearAll}
use Rattle.registers.specs.Registers.{maps_pass}
use Rattle.insertion.specs.Insertion.{facing, linked, registered, grown}
use Rattle.graph.specs.Soundness.{sound}
use Rattle.graph.specs.declared.NodeIndex.{NodeIndex}

-- an answer that accepts
abbrev pub accepts : Result NodeIndex Refusal → Bool
accepts (Ok v) = true
accepts (Err r) = false

-- "left as it was: graph"
abbrev pub refused : Refusal → CircuitDag → Inserted
refused r g = record { answer = Err r; graph = g }

-- "distinct edges would pass 2,048"
abbrev pub edges_pass : FarRule → CircuitDag → List ℕ → Bool
edges_pass rule g s = ltb 2048 (g.edges.count + length (linked rule (facing (front s) g) s).others)

-- "a register map would pass 256"
abbrev pub registers_pass : CircuitDag → List ℕ → Bool
registers_pass g s = maps_pass (registered (facing (front s) g) s)

-- the record s, which is record i of its file, on a sound graph: "then per record 4 to 7", of which 4 is its own, and K2's 12, "checked after 4 and
-- before 5"
unfoldable pub insert_as : FarRule → ℕ → CircuitDag → List ℕ → Inserted
insert_as rule i g s =
    cond (not (good s)) (refused (at_record i (cause_of s)) g)
    (cond (leb 512 (size g)) (refused TooManyNodes g)
    (cond (edges_pass rule g s) (refused (TooManyEdges i) g)
    (cond (registers_pass g s) (refused (TooManyRegisters i) g)
    (record { answer = Ok (node (size g)); graph = grown rule g s }))))

-- one call, by either rule: "graph isn't sound" comes first; "record (0 on insertion)"
unfoldable pub insert_by : LoadingRule → CircuitDag → List ℕ → Inserted
insert_by rule g s = cond (sound g) (insert_as (rule_of rule) 0 g s) (refused Unsound g)

-- document 01's insertion
abbrev pub insert_of : CircuitDag → List ℕ → Inserted
insert_of g s = insert_by NearAll g s
