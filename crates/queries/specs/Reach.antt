-- Which nodes are reached from which, along the edges. Assumes nothing.
use Rattle.std.specs.Prelude.{◌≡◌, Bool, true, false, not, ◌&&◌, List, ℕ, zero, suc, ◌<◌, eqb, length, get_or}
use Rattle.file.specs.Lists.{any_of, keep, member, up_to}
use Rattle.graph.specs.declared.CircuitDag.{CircuitDag}
use Rattle.graph.specs.Dag.{Edge, size, edges_of, has_edge}
use Rattle.graph.specs.Soundness.{sound, ascends}

-- "from which it is reached": along one edge, or along one edge and on from where it leads
pub data Reached (g : CircuitDag) : ℕ → ℕ → Type 0 where
  along : {a b : ℕ} → has_edge g a b ≡ true → Reached g a b
  onward : {a c b : ℕ} → has_edge g a c ≡ true → Reached g c b → Reached g a b

-- the same as a test: b is reached from a by at most k edges
unfoldable pub reached_by : ℕ → List Edge → ℕ → ℕ → Bool
reached_by zero es a b = false
reached_by (suc k) es a b = any_of (λ (e : Edge).
    elim (eqb e.from a) [ true ↦ (elim (eqb e.to b) [ true ↦ true | false ↦ reached_by k es e.to b ]) | false ↦ false ]) es

-- edges run from smaller to larger places, so that no path has more edges than there are nodes
abbrev pub reached : CircuitDag → ℕ → ℕ → Bool
reached g a b = reached_by (size g) (edges_of g) a b

-- "all nodes other than the given one from which it is reached, minus those in the executed list, ascending"
unfoldable pub blocking : CircuitDag → List ℕ → ℕ → List ℕ
blocking g executed v = keep (λ u. not (eqb u v) && reached g u v && not (member u executed)) (up_to (size g))

-- the same by the relation: u blocks v
pub record Blocks (g : CircuitDag) (executed : List ℕ) (v u : ℕ) : Type 0 where
  pub node : u < size g
  pub other : u ≡ v → ⊥
  pub reaches : Reached g u v
  pub unexecuted : member u executed ≡ false

-- .. and a list holds just those that do, each once, ascending
pub record BlockingList (g : CircuitDag) (executed : List ℕ) (v : ℕ) (l : List ℕ) : Type 0 where
  pub only : (u : ℕ) → member u l ≡ true → Blocks g executed v u
  pub all : (u : ℕ) → Blocks g executed v u → member u l ≡ true
  pub ascending : ascends l ≡ true

-- of the first m edges the targets of those that start at a chosen node, as marks
pub record Reaching (from to : List ℕ) (m : ℕ) (chosen found : List Bool) : Type 0 where
  pub long : length found ≡ 512
  pub hit : (j : ℕ) → j < m → get_or chosen (get_or from j 0) false ≡ true → get_or found (get_or to j 0) false ≡ true
  pub only : (v : ℕ) → get_or found v false ≡ true → (j : ℕ) × (j < m) × (get_or to j 0 ≡ v) × (get_or chosen (get_or from j 0) false ≡ true)

-- the arcs of a sound graph, along its edges: near ends, far ends and how many
abbrev pub Along : CircuitDag → List ℕ → List ℕ → ℕ → Type 0
Along g near far count = (sound g ≡ true) × (near ≡ g.edges.to) × (far ≡ g.edges.from) × (count ≡ g.edges.count)

-- "direct neighbours, ascending"
abbrev pub predecessors_of : CircuitDag → ℕ → List ℕ
predecessors_of g v = keep (λ u. has_edge g u v) (up_to (size g))

-- .. after the node
abbrev pub successors_of : CircuitDag → ℕ → List ℕ
successors_of g v = keep (λ w. has_edge g v w) (up_to (size g))
