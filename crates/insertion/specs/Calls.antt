-- Lists of insertions on the empty graph, as demand 3 has them. Assumes nothing.
use Rattle.std.specs.Prelude.{List, [], ◌∷◌, map, ℕ}
use Rattle.graph.specs.declared.CircuitDag.{CircuitDag}
use Rattle.graph.specs.Dag.{empty}
use Rattle.links.specs.declared.LoadingRule.{LoadingRule}
use Rattle.links.specs.declared.LoadingRule.TheVariants.{NearAll}
use Rattle.insertion.specs.Limits.{insert_by}

-- one insertion: its rule, and its record's bytes
pub record Call : Type 0 where
  pub rule : LoadingRule
  pub bytes : List ℕ

-- the records of a list of insertions
abbrev pub bytes_of : List Call → List (List ℕ)
bytes_of l = map (λ (c : Call). c.bytes) l

-- "Each insertion gets any bytes as its record and the graph that the last one returned, .. nothing else writes it."
unfoldable pub graph_after : CircuitDag → List Call → CircuitDag
graph_after g [] = g
graph_after g (c ∷ l) = graph_after (insert_by c.rule g c.bytes).graph l

-- ".., the first the empty one"; nothing keeps a caller from mixing the two rules
abbrev pub built : List Call → CircuitDag
built l = graph_after empty l

-- insertions all by one rule ..
abbrev pub all_by : LoadingRule → List (List ℕ) → List Call
all_by rule l = map (λ (s : List ℕ). record { rule = rule; bytes = s }) l

-- .. and their graph
abbrev pub final_by : LoadingRule → List (List ℕ) → CircuitDag
final_by rule l = built (all_by rule l)

-- document 01's
abbrev pub final : List (List ℕ) → CircuitDag
final l = final_by NearAll l
