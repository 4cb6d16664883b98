-- What every chain is: on a sound graph it has a node of each block, joined to the next by an edge; on a built one each clashes with the
-- next. Assumes nothing.
use Rattle.std.specs.Prelude.{◌≡◌, Bool, true, List, [], ◌∷◌, map, ℕ, ◌+◌, ◌≤◌, ◌<◌, length, get_or, Ok}
use Rattle.graph.specs.declared.CircuitDag.{CircuitDag}
use Rattle.graph.specs.Dag.{absent, size, has_edge}
use Rattle.graph.specs.Soundness.{sound}
use Rattle.links.specs.declared.LoadingRule.{LoadingRule}
use Rattle.insertion.specs.Calls.{Call, bytes_of, built, all_by}
use Rattle.walk.specs.Blocks.{block_numbers, whole_walk}
use Rattle.guarantee.specs.Guarantee.{Accepted, accepted, takes_qubits, clash, Bytes}
use Rattle.planning.specs.Chain.{chain_of}

-- each entry of a list passes with the next
abbrev pub Consecutive : (ℕ → ℕ → Bool) → List ℕ → Type 0
Consecutive p [] = Unit {0}
Consecutive p (v ∷ []) = Unit {0}
Consecutive p (v ∷ u ∷ l) = (p v u ≡ true) × Consecutive p (u ∷ l)

-- of a sound graph, handed in or built
pub record SoundChain (g : CircuitDag) : Type 0 where
  -- The chain has exactly as many nodes as the walk counted blocks.
  pub count : (buffer : List ℕ) → size g ≤ length buffer → (whole_walk g buffer).answer ≡ Ok (length (chain_of g))
  -- Its entries are in the last block, the one before, and so on to block 0, by the walk's numbers.
  pub falls : (i : ℕ) → i < length (chain_of g) → get_or (block_numbers g) (get_or (chain_of g) i absent) absent + (i + 1) ≡ length (chain_of g)
  -- Consecutive nodes are joined by an edge, from the lower block to the higher.
  pub joined : Consecutive (λ v u. has_edge g u v) (chain_of g)

-- "Node numbers run from 0 in order of insertion": the record that was accepted as node v
abbrev pub record_of : List Call → ℕ → List ℕ
record_of l v = get_or (map (λ (o : Accepted). o.bytes) (accepted l)) v []

-- of the graph after the insertions of l
pub record BuiltChain (l : List Call) : Type 0 where
  -- Each node of the chain is an accepted qubit operation.
  pub taking : (i : ℕ) → i < length (chain_of (built l)) → takes_qubits (record_of l (get_or (chain_of (built l)) i absent)) ≡ true
  -- Each clashes with the next, by what their records take: a schedule that keeps clashing operations in order has a block for each.
  pub clashing : Consecutive (λ v u. clash (record_of l u) (record_of l v)) (chain_of (built l))

-- For every sound graph; and for every list of insertions by one rule on the empty graph, refused ones included, with no condition but that the
-- records are bytes.
pub record Chains : Type 0 where
  pub of_sound : (g : CircuitDag) → sound g ≡ true → SoundChain g
  pub of_built : (rule : LoadingRule) (l : List (List ℕ)) → Bytes l → BuiltChain (all_by rule l)
  -- K6: and of every such list that mixes the two ways
  pub of_mixed : (l : List Call) → Bytes (bytes_of l) → BuiltChain l
