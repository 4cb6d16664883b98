-- The blocking list by direct predecessors, on every sound graph: a node is blocked exactly where a direct predecessor has not run
-- or is blocked itself. So one pass in place order over the edges finds all blocked nodes. Assumes nothing.
use mathlib.Core.Path.{◌≡◌, sym, ◌∙◌, ap}
use mathlib.Core.Bool.{Bool, true, not, ◌&&◌, ◌||◌, not-not}
use mathlib.Core.List.{List}
use Prim.Native.Nat.{ℕ}
use Rattle.file.specs.Lists.{is_empty, member}
use Rattle.graph.specs.declared.CircuitDag.{CircuitDag}
use Rattle.graph.specs.Dag.{size, has_edge}
use Rattle.graph.specs.Soundness.{sound}
use Rattle.queries.specs.Reach.{blocking}
use Rattle.walk.proofs.Bounds.{any, any_ext}
use Rattle.walk.proofs.Heights.{blocks, empty}
use Rattle.walk.proofs.HeightSteps.{waits_by_edge}
use Rattle.walk.proofs.BlockSteps.{blocking-is}
use Rattle.walk.proofs.BlockLaws.{W, edges, rank, upward}

-- the blocking list is not empty
abbrev pub is_blocked : CircuitDag → List ℕ → ℕ → Bool
is_blocked g executed v = not (is_empty (blocking g executed v))

module _ (g : CircuitDag) (s : sound g ≡ true) (executed : List ℕ) where
  blocked_is : (v : ℕ) → is_blocked g executed v ≡ any (size g) (blocks (size g) (edges g s) (λ u. member u executed) v)
  unfolding empty
  blocked_is v = ap not (blocking-is g (W g s) executed v) ∙ not-not _

  pub blocked_by_edges : (v : ℕ) → is_blocked g executed v ≡ any (size g) (λ u. has_edge g u v && (not (member u executed) || is_blocked g executed u))
  blocked_by_edges v = blocked_is v ∙ waits_by_edge (size g) (edges g s) (rank g s) (upward g s) (λ u. member u executed) v
      ∙ any_ext (size g) _ _ (λ u l. ap (λ (b : Bool). has_edge g u v && (not (member u executed) || b)) (sym (blocked_is u)))
