-- What the walk needs of a sound graph: its edges and first block name its own nodes, edges run to larger places, and none leads
-- into the first block. Assumes nothing.
use mathlib.Core.Path.{◌≡◌}
use mathlib.Core.Bool.{true, false, not, ◌&&◌}
use mathlib.Core.List.{◌++◌, map}
use Prim.Native.Nat.{ℕ, ◌+◌, ◌≤◌, ◌<◌}
use lib.Dec.{eqb, ltb, leb}
use lib.IntN.{ℤ}
use lib.Signed.{lt_z}
use lib.ListN.{get_or}
use borrow.Author.Tests.{eqb-true, eq-eqb, ltb-true, leb-true, not-true as not-flip}
use Rattle.file.specs.Lists.{any_of, all_of, distinct, members, up_to}
use Rattle.graph.specs.declared.CircuitDag.{CircuitDag}
use Rattle.graph.specs.Dag.{Edge, Entry, size, edges_of, edge_at, place_of, commuting_of, entries_of, same_edge}
use Rattle.graph.specs.Soundness.{named, if_present, operation_at, same_place, place_within, sound}
use Rattle.file.proofs.BoolLaws.{clash_bool, and_l, and_r}
use Rattle.graph.proofs.ListLaws.{all_up_to, up_to-any, all_members}
use Rattle.graph.proofs.SoundnessLaws.{and3, sound_clauses, places_map, below_of, edge_below, edge_fits, first_fits, all_left}

pub record Ordered (g : CircuitDag) : Type 0 where
  pub node-count : size g ≤ 512
  pub ends : g.backs + g.fronts ≡ size g
  pub from-below : (i : ℕ) → i < g.edges.count → get_or g.edges.from i 0 < size g
  pub to_below : (i : ℕ) → i < g.edges.count → get_or g.edges.to i 0 < size g
  pub rises : (i : ℕ) → i < g.edges.count → lt_z (place_of g (get_or g.edges.from i 0)) (place_of g (get_or g.edges.to i 0)) ≡ true
  pub first_block : (v : ℕ) → get_or g.first.block v false ≡ true → v < size g
  pub first_no_edge : (v : ℕ) → get_or g.first.block v false ≡ true → (i : ℕ) → i < g.edges.count → get_or g.edges.to i 0 ≡ v → ⊥
  pub place_within_lem : (v : ℕ) → v < size g → place_within g (place_of g v) ≡ true

pub sound-ordered : (g : CircuitDag) → sound g ≡ true → Ordered g
sound-ordered g h =
    let c = sound_clauses g h in
    let k = g.edges.count in
    let ea : ℕ → Edge = edge_at g.edges in
    let place : ℕ → ℤ = place_of g in
    let mf = members g.first.block in
    let ml = members g.last.block in
    let n1 = and_l (leb (size g) 512 && leb k 2048 && leb g.first_registers.count 256 && leb g.last_registers.count 256) (leb g.commuting.count 512) c.counts in
    let n2 = and_l (leb (size g) 512 && leb k 2048 && leb g.first_registers.count 256) (leb g.last_registers.count 256) n1 in
    let n3 = and_l (leb (size g) 512 && leb k 2048) (leb g.first_registers.count 256) n2 in
    let b = and3 (all_of (edge_below g) (edges_of g)) (all_of (if_present (below_of g)) (named g.first ++ named g.last)) (all_of (below_of g) (mf ++ ml ++ commuting_of g))
    (and_l (all_of (edge_below g) (edges_of g) && all_of (if_present (below_of g)) (named g.first ++ named g.last) && all_of (below_of g) (mf ++ ml ++ commuting_of g))
    (all_of (λ (x : Entry). ltb x.node (size g)) (entries_of g.first_registers ++ entries_of g.last_registers)) c.numbers) in
    let eb = all_up_to (edge_below g) ea k b.0 in
    let ef = all_up_to (edge_fits g) ea k (and_r (distinct same_edge (edges_of g)) (all_of (edge_fits g) (edges_of g)) c.edges) in
    let ff = all_members (first_fits g) g.first.block c.first in
    let pw = rw (places_map g) at c.places in
    record {
      node-count = leb-true (size g) 512 (and_l (leb (size g) 512) (leb k 2048) n3);
      ends = eqb-true (g.backs + g.fronts) (size g) c.add_up;
      from-below = λ i l. ltb-true (ea i).from (size g) (and_l (ltb (ea i).from (size g)) (ltb (ea i).to (size g)) (eb i l));
      to_below = λ i l. ltb-true (ea i).to (size g) (and_r (ltb (ea i).from (size g)) (ltb (ea i).to (size g)) (eb i l));
      rises = λ i l. (and3 (operation_at g (ea i).from) (operation_at g (ea i).to) (lt_z (place (ea i).from) (place (ea i).to)) (ef i l)).2;
      first_block = λ v m. ltb-true v (size g) (all_members (below_of g) g.first.block (all_left (below_of g) mf ml (all_left (below_of g) (mf ++ ml) (commuting_of g) b.2)) v m);
      first_no_edge = λ v m i l e. clash_bool (up_to-any (λ (e : Edge). eqb e.to v) ea k i l (eq-eqb _ _ e))
          (not-flip (any_of (λ (e : Edge). eqb e.to v) (edges_of g)) (and_r (operation_at g v) (not (any_of (λ (e : Edge). eqb e.to v) (edges_of g))) (ff v m)));
      place_within_lem = all_up_to (place_within g) place (size g) (and_r (distinct same_place (map place (up_to (size g)))) (all_of (place_within g) (map place (up_to (size g)))) pw);
    }
