-- A graph after one accepted record, seen as a net, is the net after the record's insertion. Assumes nothing.
use mathlib.Core.Path.{◌≡◌, refl, sym, ◌∙◌, ap}
use mathlib.Core.Bool.{Bool, true, false, ◌&&◌, ◌||◌, and-false}
use mathlib.Core.Logic.{⊎_elim}
use mathlib.Core.List.{List, [], ◌∷◌, map}
use Prim.Native.Nat.{ℕ, ◌+◌, ◌-◌, ◌≤◌, ◌<◌}
use native.Mathlib.Omega.{arith}
use native.Mathlib.Decide.{dec_lt}
use lib.Dec.{eqb}
use lib.ListN.{length, get_or, length-map}
use Rattle.file.specs.Lists.{any_of, member, up_to}
use Rattle.file.specs.Records.{front, qubits_of}
use Rattle.graph.specs.declared.Edges.{Edges}
use Rattle.graph.specs.declared.End.{End}
use Rattle.graph.specs.declared.CircuitDag.{CircuitDag}
use Rattle.graph.specs.Dag.{Edge, edge, size, edge_at, same_edge, has_edge, with_edges}
use Rattle.file.proofs.BoolLaws.{bool_cases, bool_ext, and_intro, or_cases, or_inl, or_inr}
use Rattle.graph.proofs.ListLaws.{map_at, any_here, any-later, any_at, at-any, any-up_to, up_to-any}
use Rattle.links.specs.Links.{rule_of, is_far, link, link_by}
use Rattle.links.specs.declared.LoadingRule.{LoadingRule}
use Rattle.insertion.specs.Insertion.{grown_at, grown}
use Rattle.insertion.proofs.BuiltLaws.{Safe}
use Rattle.insertion.proofs.SafeEdges.{appended-old, appended-new}
use Rattle.guarantee.proofs.LinkViews.{Sees, Fits, take_by, link_sees}
use Rattle.guarantee.proofs.Nets.{Net, Call, flip, insert}

-- ---- edges behind the old ones

abbrev pub edge_in : Edges → ℕ → ℕ → Bool
edge_in es a b = any_of (same_edge (edge a b)) (map (edge_at es) (up_to es.count))

module _ (es : Edges) (new : List Edge) (ff : es.count ≤ length es.from) (ft : es.count ≤ length es.to) where
  abbrev es' : Edges
  es' = with_edges es new

  edge-old : (i : ℕ) → i < es.count → edge_at es' i ≡ edge_at es i
  edge-old i l = λ t. edge (appended-old es.count (map (λ (e : Edge). e.from) new) es.from ff i l t) (appended-old es.count (map (λ (e : Edge). e.to) new) es.to ft i l t)

  edge-new : (j : ℕ) → j < length new → edge_at es' (es.count + j) ≡ get_or new j (edge 0 0)
  edge-new j l = λ t. edge
      ((appended-new es.count (map (λ (e : Edge). e.from) new) es.from ff j (omega (arith, length-map new (λ (e : Edge). e.from))) ∙ map_at (λ (e : Edge). e.from) new j (edge 0 0) 0 l) t)
      ((appended-new es.count (map (λ (e : Edge). e.to) new) es.to ft j (omega (arith, length-map new (λ (e : Edge). e.to))) ∙ map_at (λ (e : Edge). e.to) new j (edge 0 0) 0 l) t)

  pub edges_in : (a b : ℕ) → edge_in es' a b ≡ (edge_in es a b || any_of (same_edge (edge a b)) new)
  edges_in a b = bool_ext _ _
      (λ h.
      let r = any-up_to (same_edge (edge a b)) (edge_at es') es'.count h in
      elim (dec_lt r.0 es.count) [
        | yes l ↦ or_inl (edge_in es a b) _ (up_to-any (same_edge (edge a b)) (edge_at es) es.count r.0 l (ap (same_edge (edge a b)) (sym (edge-old r.0 l)) ∙ r.2))
        | no l ↦ (let j : ℕ = r.0 - es.count in
            let e : r.0 ≡ es.count + j = omega arith in
            let k : j < length new = omega (arith, r.1) in
            or_inr (edge_in es a b) _ (at-any (same_edge (edge a b)) new (edge 0 0) j k (ap (same_edge (edge a b)) (sym (ap (edge_at es') e ∙ edge-new j k)) ∙ r.2)))
      ])
      (λ h. ⊎_elim
      (λ (x : edge_in es a b ≡ true).
      let r = any-up_to (same_edge (edge a b)) (edge_at es) es.count x in
      up_to-any (same_edge (edge a b)) (edge_at es') es'.count r.0 (omega (arith, r.1)) (ap (same_edge (edge a b)) (edge-old r.0 r.1) ∙ r.2))
      (λ (x : any_of (same_edge (edge a b)) new ≡ true).
      let r = any_at (same_edge (edge a b)) new (edge 0 0) x in
      up_to-any (same_edge (edge a b)) (edge_at es') es'.count (es.count + r.0) (omega (arith, r.1)) (ap (same_edge (edge a b)) (edge-new r.0 r.1) ∙ r.2))
      (or_cases (edge_in es a b) (any_of (same_edge (edge a b)) new) h))

-- the new edges
links-back : (n a b : ℕ) (others : List ℕ) → any_of (same_edge (edge a b)) (map (link false n) others) ≡ (eqb b n && member a others)
unfolding any_of
links-back n a b [] = sym (and-false (eqb b n))
links-back n a b (u ∷ l) = ⊎_elim
    (λ (e : eqb b n ≡ true). ⊎_elim
    (λ (f : eqb a u ≡ true). any_here (same_edge (edge a b)) (edge u n) (map (link false n) l) (and_intro _ _ f e) ∙ sym (and_intro _ _ e (any_here (eqb a) u l f)))
    (λ (f : eqb a u ≡ false). any-later (same_edge (edge a b)) (edge u n) (map (link false n) l) (rw f refl) ∙ links-back n a b l ∙ ap (λ (x : Bool). eqb b n && x) (sym (any-later (eqb a) u l f)))
    (bool_cases (eqb a u)))
    (λ (e : eqb b n ≡ false). any-later (same_edge (edge a b)) (edge u n) (map (link false n) l) (rw e (and-false (eqb a u))) ∙ links-back n a b l ∙ rw e refl)
    (bool_cases (eqb b n))

links-front : (n a b : ℕ) (others : List ℕ) → any_of (same_edge (edge a b)) (map (link true n) others) ≡ (eqb a n && member b others)
unfolding any_of
links-front n a b [] = sym (and-false (eqb a n))
links-front n a b (u ∷ l) = ⊎_elim
    (λ (e : eqb a n ≡ true). ⊎_elim
    (λ (f : eqb b u ≡ true). any_here (same_edge (edge a b)) (edge n u) (map (link true n) l) (and_intro _ _ e f) ∙ sym (and_intro _ _ e (any_here (eqb b) u l f)))
    (λ (f : eqb b u ≡ false). any-later (same_edge (edge a b)) (edge n u) (map (link true n) l) (rw f (and-false (eqb a n))) ∙ links-front n a b l ∙ ap (λ (x : Bool). eqb a n && x) (sym (any-later (eqb b) u l f)))
    (bool_cases (eqb b u)))
    (λ (e : eqb a n ≡ false). any-later (same_edge (edge a b)) (edge n u) (map (link true n) l) (rw e refl) ∙ links-front n a b l ∙ rw e refl)
    (bool_cases (eqb a n))

-- ---- the graph as a net

abbrev pub Seen : CircuitDag → Net → Type 0
Seen g N = Sees (size g) (λ a b. has_edge g a b) g.last g.first N

sees_as : (n : ℕ) (E E' : ℕ → ℕ → Bool) (near far : End) (N : Net) → Sees n E near far N → ((a b : ℕ) → E a b ≡ E' a b) → Sees n E' near far N
sees_as n E E' near far N S h = record {
  size = S.size;
  edges = λ a b. S.edges a b ∙ h a b;
  lasts = S.lasts;
  firsts = S.firsts;
  last_all_lem = S.last_all_lem;
  first_all_lem = S.first_all_lem;
  tails = S.tails;
  heads = S.heads;
}

sees_flip : (n : ℕ) (E : ℕ → ℕ → Bool) (near far : End) (N : Net) → Sees n E near far N → Sees n (λ a b. E b a) far near (flip N)
sees_flip n E near far N S = record {
  size = S.size;
  edges = λ a b. S.edges b a;
  lasts = S.firsts;
  firsts = S.lasts;
  last_all_lem = S.first_all_lem;
  first_all_lem = S.last_all_lem;
  tails = S.heads;
  heads = S.tails;
}

pub grown-at : (rule : LoadingRule) (g : CircuitDag) (s : List ℕ) → grown (rule_of rule) g s ≡ grown_at (rule_of rule) (front s) g s
unfolding grown
grown-at rule g s = refl

abbrev pub call_at : LoadingRule → Bool → List ℕ → Call
call_at far_all b s = record { far = is_far far_all; front = b; takes = take_by (qubits_of s) }

module _ (g : CircuitDag) (s : List ℕ) (G : Safe false g) (low : size g < 512) where
  fits_last : Fits (size g) g.last g.first
  fits_last = record {
    low = low;
    near_nodes = G.near.nodes;
    far_nodes = G.far.nodes;
    near_block = G.near.blocks;
    far-block = G.far.blocks;
    entries = λ q p. (G.near.entry q p).below;
    all = λ p. (G.near.all p).below;
    members = λ u m. (G.far.member u m).below;
  }

  fits_first : Fits (size g) g.first g.last
  fits_first = record {
    low = low;
    near_nodes = G.far.nodes;
    far_nodes = G.near.nodes;
    near_block = G.far.blocks;
    far-block = G.near.blocks;
    entries = λ q p. (G.far.entry q p).below;
    all = λ p. (G.far.all p).below;
    members = λ u m. (G.near.member u m).below;
  }

  in_from : g.edges.count ≤ length g.edges.from
  in_from = omega (arith, G.edges.count, G.edges.from_size)

  in_to : g.edges.count ≤ length g.edges.to
  in_to = omega (arith, G.edges.count, G.edges.to_size)

  pub grown_seen : (far_all : LoadingRule) (b : Bool) (N : Net) → Seen g N → Seen (grown_at (rule_of far_all) b g s) (insert N (call_at far_all b s))
  grown_seen far_all false N S = sees_as (size g + 1) _ _ _ _ _ (link_sees far_all (qubits_of s) (size g) (λ a b. has_edge g a b) g.last g.first N S fits_last)
      (λ a b. sym (edges_in g.edges (map (link false (size g)) (link_by (qubits_of s) (rule_of far_all) (size g) g.last g.first).others) in_from in_to a b
      ∙ ap (λ (x : Bool). has_edge g a b || x) (links-back (size g) a b (link_by (qubits_of s) (rule_of far_all) (size g) g.last g.first).others)))
  grown_seen far_all true N S = sees_as (size g + 1) _ _ _ _ _ (sees_flip (size g + 1) _ _ _ _
      (link_sees far_all (qubits_of s) (size g) (λ a b. has_edge g b a) g.first g.last (flip N) (sees_flip (size g) (λ a b. has_edge g a b) g.last g.first N S) fits_first))
      (λ a b. sym (edges_in g.edges (map (link true (size g)) (link_by (qubits_of s) (rule_of far_all) (size g) g.first g.last).others) in_from in_to a b
      ∙ ap (λ (x : Bool). has_edge g a b || x) (links-front (size g) a b (link_by (qubits_of s) (rule_of far_all) (size g) g.first g.last).others)))
