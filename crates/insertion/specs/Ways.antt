-- K6: "the differing inputs are described in docs/DIFFERENCES.md": the lists of insertions whose graphs the two ways make differ, and files whose
-- graphs they make the same. Assumes nothing.
use Rattle.std.specs.Prelude.{◌≡◌, Bool, true, false, cond, not, ◌&&◌, ◌||◌, List, [], ◌∷◌, ◌++◌, ℕ, eqb}
use Rattle.file.specs.Lists.{any_of}
use Rattle.file.specs.Pairs.{records_of}
use Rattle.file.specs.Records.{front, qubits_of}
use Rattle.file.specs.declared.InvolvedQubits.{InvolvedQubits}
use Rattle.file.specs.declared.InvolvedQubits.TheVariants.{None, All, Set}
use Rattle.graph.specs.declared.CircuitDag.{CircuitDag}
use Rattle.graph.specs.declared.End.{End}
use Rattle.graph.specs.Dag.{empty, present, at_qubit}
use Rattle.links.specs.Links.{qubits}
use Rattle.links.specs.declared.LoadingRule.TheVariants.{FarAll}
use Rattle.insertion.specs.Limits.{accepts, insert_of}
use Rattle.insertion.specs.Load.{load_by, load}
use Rattle.insertion.specs.Calls.{final_by, final}

-- a Set with a qubit that is new at the end of the insertion
abbrev pub brings_new : InvolvedQubits → End → Bool
brings_new None near = false
brings_new All near = false
brings_new (Set m) near = any_of (λ q. not (present (at_qubit near q))) (qubits m)

-- the record s, accepted on the graph g, brings a qubit that is new at its end while firstAll and lastAll are different nodes
abbrev pub differs_at : CircuitDag → List ℕ → Bool
differs_at g s = accepts (insert_of g s).answer
    && (brings_new (qubits_of s) (cond (front s) g.first g.last) && not (eqb g.first.all.0 g.last.all.0))

-- some record of the list does, inserted on g in document 01's way
unfoldable pub differs_from : CircuitDag → List (List ℕ) → Bool
differs_from g [] = false
differs_from g (s ∷ l) = differs_at g s || differs_from (insert_of g s).graph l

-- both ways give a list without such a record the same graph, and a file without one the same answer and graph; the first such record makes the two
-- graphs differ
pub record TwoWays : Type 0 where
  pub same : (l : List (List ℕ)) → differs_from empty l ≡ false → final_by FarAll l ≡ final l
  pub loads : (s : List ℕ) → differs_from empty (records_of s) ≡ false → load_by FarAll s ≡ load s
  pub apart : (l : List (List ℕ)) (s : List ℕ) → differs_from empty l ≡ false → differs_at (final l) s ≡ true
      → final_by FarAll (l ++ (s ∷ [])) ≡ final (l ++ (s ∷ [])) → ⊥
