-- "In loading, each record's part of the file goes to the insertion as it is." Assumes nothing.
use Rattle.std.specs.Prelude.{List, [], ◌∷◌, ℕ, Result, Ok, Err, ⊤}
use Rattle.file.specs.Lists.{up_to}
use Rattle.file.specs.Pairs.{count_of, check_file, record_at}
use Rattle.file.specs.declared.Refusal.{Refusal}
use Rattle.graph.specs.declared.CircuitDag.{CircuitDag}
use Rattle.insertion.specs.declared.Loaded.{Loaded}
use Rattle.graph.specs.Dag.{empty}
use Rattle.links.specs.Links.{FarRule, rule_of}
use Rattle.links.specs.declared.LoadingRule.{LoadingRule}
use Rattle.links.specs.declared.LoadingRule.TheVariants.{NearAll}
use Rattle.insertion.specs.Limits.{insert_as}

-- "A refused load gives the empty graph."
abbrev pub not_loaded : Refusal → Loaded
not_loaded r = record { answer = Err r; graph = empty }

-- what a load answers with: the graph, or that
abbrev pub loaded : Result CircuitDag Refusal → Loaded
loaded (Ok g) = record { answer = Ok tt; graph = g }
loaded (Err r) = not_loaded r

-- the file's records with these numbers, one after the other; the refusal of a record gives its number in the file
unfoldable pub insert_records : FarRule → List ℕ → CircuitDag → List ℕ → Loaded
insert_records rule s g [] = record { answer = (Ok tt); graph = g }
insert_records rule s g (i ∷ l) = let x = insert_as rule i g (record_at s i) in
    elim x.answer [ Ok v ↦ insert_records rule s x.graph l | Err r ↦ not_loaded r ]

-- the records of a file whose header and pairs keep their rules
abbrev pub load_checked : FarRule → Result ⊤ Refusal → List ℕ → Loaded
load_checked rule (Err r) s = not_loaded r
load_checked rule (Ok _) s = insert_records rule s empty (up_to (count_of s))

-- "Order: .. 2 once two bytes are there, 1, 3, then per record 4 to 7", K2's 12 behind 4
unfoldable pub load_by : LoadingRule → List ℕ → Loaded
load_by rule s = load_checked (rule_of rule) (check_file s) s

-- document 01's load
abbrev pub load : List ℕ → Loaded
load s = load_by NearAll s
