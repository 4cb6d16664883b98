-- Every graph that is built is sound (specs/Built.antt). Soundness alone is not kept by an insertion: what is kept is `Safe`,
-- which has besides that no node of the last block has an edge out, and that where one end names a node the other end's block
-- is not empty. It is stated as seen from either end, so that one argument serves back and front. Assumes nothing.
use mathlib.Core.Path.{◌≡◌, refl, ◌∙◌, ap, subst, sym}
use mathlib.Core.Bool.{Bool, true, false, not, ◌||◌, not-not}
use mathlib.Core.Logic.{inl, inr}
use mathlib.Core.List.{List, [], ◌∷◌}
use Prim.Native.Nat.{ℕ, ◌+◌, ◌≤◌, ◌<◌}
use native.Mathlib.Omega.{arith}
use lib.Dec.{ltb, leb}
use lib.IntN.{ℤ, pos, negsuc}
use lib.ListN.{length, length-replicate}
use borrow.Author.Tests.{ltb-false, leb-false}
use Rattle.file.specs.Lists.{all_of, count_from}
use Rattle.file.specs.Records.{front, kind, qubit_form, label, record_rule, qubits_of}
use Rattle.file.specs.declared.Refusal.TheVariants.{Unsound}
use Rattle.file.proofs.RecordLaws.{good_keeps}
use Rattle.insertion.proofs.CaseLaws.{never_unsound, insert_cases}
use Rattle.graph.specs.declared.End.{End}
use Rattle.graph.specs.declared.Registers.{Registers}
use Rattle.graph.specs.declared.CircuitDag.{CircuitDag}
use Rattle.graph.specs.Dag.{absent, size, no_end, no_registers, empty, place_of}
use Rattle.graph.specs.Soundness.{place_within, sound}
use Rattle.graph.proofs.ListLaws.{all_same}
use Rattle.file.proofs.BoolLaws.{clash_bool, or_l, or_r}
use Rattle.graph.proofs.SoundnessLaws.{NamesFit, RegistersFit, registers_told, told_sound}
use Rattle.links.specs.Links.{Linked, FarRule, rule_of}
use Rattle.links.specs.declared.LoadingRule.{LoadingRule}
use Rattle.insertion.specs.Insertion.{facing, place_after, linked, registered, commutes, extended, grown}
use Rattle.insertion.specs.Limits.{insert_as, insert_by}
use Rattle.insertion.specs.Calls.{Call, graph_after, built}
use Rattle.insertion.specs.Built.{SoundBuilt}
use Rattle.links.proofs.LinkLaws.{NamesAll, others_distinct, names_all}
use Rattle.registers.proofs.RegisterLaws.{fits_none}
use Rattle.insertion.proofs.SafeEnds.{Side, Joins, named-old, near_side, far_side, joins_by}
use Rattle.insertion.proofs.SafeEdges.{between, lies, link_rises, EdgesSafe, Meets, meets_below, near_meets, far_meets, edges_more}
use Rattle.insertion.proofs.SafeNodes.{operates, record_kind, record_operates, NodesSafe, operates_at, place_at, operates_same}
use Rattle.insertion.proofs.SafeNodes.{operates_here, place_same, place_here, nodes_more, CommutingSafe, commuting_more, RegistersSafe}
use Rattle.insertion.proofs.SafeNodes.{registers_more}
use Rattle.std.specs.Prelude.{Err}

-- ---- what every built graph keeps

-- the graph h, seen from one end (true: the front)
pub record Safe (b : Bool) (h : CircuitDag) : Type 0 where
  pub nodes : NodesSafe b h.nodes h.backs h.fronts
  pub edges : EdgesSafe (size h) (operates_at h.nodes) (place_at h.nodes) h.edges
  pub near : Side (size h) (operates_at h.nodes) (Meets b h.edges) h.last h.first
  pub far : Side (size h) (operates_at h.nodes) (Meets (not b) h.edges) h.first h.last
  pub commuting : CommutingSafe (size h) h.commuting
  pub near_registers : RegistersSafe (size h) h.last_registers
  pub far-registers : RegistersSafe (size h) h.first_registers

-- "Front insertion is the mirror": the graph seen from its other end
mirror : (b : Bool) (h : CircuitDag) → Safe b h → Safe (not b) (facing true h)
mirror b h H = record {
  nodes = record {
    kinds = H.nodes.kinds;
    known = H.nodes.known;
    forms = H.nodes.forms;
    places = H.nodes.places;
    count = H.nodes.count;
    ends = omega (arith, H.nodes.ends);
    within = λ v l. lies_mirror b h.backs h.fronts (place_at h.nodes v) ∙ H.nodes.within v l;
    apart = H.nodes.apart;
  };
  edges = H.edges;
  near = H.far;
  far = subst (λ (c : Bool). Side (size h) (operates_at h.nodes) (Meets c h.edges) h.last h.first) (sym (not-not b)) H.near;
  commuting = H.commuting;
  near_registers = H.far-registers;
  far-registers = H.near_registers;
}
  where
    lies_mirror : (b : Bool) (near far : ℕ) (p : ℤ) → lies (not b) far near p ≡ lies b near far p
    lies_mirror true near far p = refl
    lies_mirror false near far p = refl

-- turned to an end ..
turned : (b : Bool) (g : CircuitDag) → Safe false g → Safe b (facing b g)
turned false g G = G
turned true g G = mirror false g G

-- .. and back
turned_back : (b : Bool) (h : CircuitDag) → Safe b h → Safe false (facing b h)
turned_back false h H = H
turned_back true h H = mirror true h H

-- ---- such a graph is sound

side_names : (g : CircuitDag) (M : ℕ → Type 0) (near far : End) → Side (size g) (operates_at g.nodes) M near far → NamesFit g near
side_names g M near far S = record {
  node-below = λ q p. (S.entry q p).below;
  node-operation = λ q p. (S.entry q p).operation;
  all_below = λ p. (S.all p).below;
  all_operation = λ p. (S.all p).operation;
}

registers_fit : (n : ℕ) (r : Registers) → RegistersSafe n r → RegistersFit n r
registers_fit n r R = registers_told n r R.below R.fits.keys

place_between : (g : CircuitDag) (p : ℤ) → place_within g p ≡ between g.backs g.fronts p
place_between g (pos k) = refl
place_between g (negsuc k) = refl

pub safe_sound : (g : CircuitDag) → Safe false g → sound g ≡ true
safe_sound g G = told_sound g record {
  node-count = G.nodes.count;
  edge_count = G.edges.count;
  first_count = G.far-registers.fits.room;
  last_count = G.near_registers.fits.room;
  commuting_count = omega (arith, G.commuting.few, G.nodes.count);
  ends = G.nodes.ends;
  from-below = λ i l. (G.edges.each i l).from.below;
  to_below = λ i l. (G.edges.each i l).to.below;
  from-operation = λ i l. (G.edges.each i l).from.operation;
  to-operation = λ i l. (G.edges.each i l).to.operation;
  rises = λ i l. (G.edges.each i l).rises;
  edges-distinct = G.edges.apart;
  first_names = side_names g (Meets true g.edges) g.first g.last G.far;
  last_names = side_names g (Meets false g.edges) g.last g.first G.near;
  first_block = λ v m. (G.far.member v m).below;
  last_block = λ v m. (G.near.member v m).below;
  first_operation = λ v m. (G.far.member v m).operation;
  first_no_edge = λ v m i l e. G.far.free v m (i, l, e);
  commuting_below = G.commuting.below;
  commuting_ascends_lem = G.commuting.ascends;
  first_registers = registers_fit (size g) g.first_registers G.far-registers;
  last_registers = registers_fit (size g) g.last_registers G.near_registers;
  place_within_lem = λ v l. place_between g (place_of g v) ∙ G.nodes.within v l;
  places_distinct = G.nodes.apart;
}

-- ---- the empty graph

no_side : (op : ℕ → Bool) (M : ℕ → Type 0) → Side 0 op M no_end no_end
unfolding no_end
no_side op M = record {
  nodes = length-replicate {A = ℕ} 64 absent;
  blocks = length-replicate {A = Bool} 512 false;
  entry = λ q p. absurd (clash_bool p (rw (all_same 64 q absent) refl));
  all = λ p. absurd (clash_bool p refl);
  member = λ u m. absurd (clash_bool m (all_same 512 u false));
  free = λ u m. absurd (clash_bool m (all_same 512 u false));
  entry_some = λ q p. absurd (clash_bool p (rw (all_same 64 q absent) refl));
  all_some = λ p. absurd (clash_bool p refl);
}

no_registers_lem : RegistersSafe 0 no_registers
unfolding no_registers count_from all_of
no_registers_lem = record { fits = fits_none; below = refl }

pub safe_empty : Safe false empty
unfolding empty
safe_empty = record {
  nodes = record {
    kinds = length-replicate {A = ℕ} 512 0;
    known = λ v l. absurd (omega arith);
    forms = length-replicate {A = ℕ} 512 0;
    places = length-replicate {A = ℤ} 512 (pos 0);
    count = omega arith;
    ends = refl;
    within = λ v l. absurd (omega arith);
    apart = λ u v a l. absurd (omega arith);
  };
  edges = record {
    from_size = length-replicate {A = ℕ} 2048 0;
    to_size = length-replicate {A = ℕ} 2048 0;
    count = omega arith;
    each = λ i l. absurd (omega arith);
    apart = λ i j a l. absurd (omega arith);
  };
  near = no_side _ _;
  far = no_side _ _;
  commuting = record {
    long = length-replicate {A = ℕ} 512 0;
    few = omega arith;
    below = λ i l. absurd (omega arith);
    ascends = λ i j a l. absurd (omega arith);
  };
  near_registers = no_registers_lem;
  far-registers = no_registers_lem;
}

-- ---- one record more

-- the record s keeps its rule and nothing passes its limit
record Accepted (rule : FarRule) (h : CircuitDag) (s : List ℕ) : Type 0 where
  keeps : record_rule s ≡ true
  room : size h < 512
  edges : h.edges.count + length (linked rule h s).others ≤ 2048
  near : length (registered h s).near ≤ 256
  far : length (registered h s).far ≤ 256

module _ (rule : FarRule) (names : NamesAll rule) (b : Bool) (h : CircuitDag) (s : List ℕ) (H : Safe b h) (A : Accepted rule h s) where
  abbrev n : ℕ
  n = size h

  abbrev x : Linked
  x = linked rule h s

  abbrev h' : CircuitDag
  h' = extended b h s x (registered h s)

  abbrev op : ℕ → Bool
  op = operates_at h.nodes

  abbrev op' : ℕ → Bool
  op' = operates_at h'.nodes

  abbrev new : Bool
  new = operates (kind s) (qubit_form s)

  same : (u : ℕ) → u < n → op' u ≡ op u
  same = operates_same b h.nodes h.backs h.fronts (kind s) (qubit_form s) (label s) H.nodes A.room

  here : op' n ≡ new
  here = operates_here b h.nodes h.backs h.fronts (kind s) (qubit_form s) (label s) H.nodes A.room

  stays : (u : ℕ) → u < n → place_at h'.nodes u ≡ place_at h.nodes u
  stays = place_same b h.nodes h.backs h.fronts (kind s) (qubit_form s) (label s) H.nodes A.room

  comes : place_at h'.nodes n ≡ place_after b h.backs
  comes = place_here b h.nodes h.backs h.fronts (kind s) (qubit_form s) (label s) H.nodes A.room

  joins : Joins n op new h.last h.first x
  joins = joins_by n op h.last h.first rule names (Meets b h.edges) (Meets (not b) h.edges) H.near H.far A.room (qubits_of s) new (record_operates s A.keeps)

  more_edges : EdgesSafe (n + 1) op' (place_at h'.nodes) h'.edges
  more_edges = edges_more b n op op' (place_at h.nodes) (place_at h'.nodes) h.edges x.others H.edges
      (λ u o. named-old n op op' new same here u (inr o))
      (λ e. named-old n op op' new same here n (inl (refl, joins.joined e)))
      stays
      (λ u l. link_rises h.backs h.fronts b (place_at h'.nodes) n u comes (ap (lies b h.backs h.fronts) (stays u l) ∙ H.nodes.within u l))
      joins.others
      (others_distinct (qubits_of s) rule n h.last h.first)
      A.edges

  in_from : h.edges.count ≤ length h.edges.from
  in_from = omega (arith, H.edges.count, H.edges.from_size)

  in_to : h.edges.count ≤ length h.edges.to
  in_to = omega (arith, H.edges.count, H.edges.to_size)

  safe_extended : Safe b h'
  safe_extended =
      let below : (c : Bool) (u : ℕ) → Meets c h.edges u → u < n = meets_below n op (place_at h.nodes) h.edges H.edges in
      let registers = registers_more n s h.last_registers h.first_registers H.near_registers H.far-registers A.near A.far in
      record {
        nodes = nodes_more b h.nodes h.backs h.fronts (kind s) (qubit_form s) (label s) H.nodes A.room (record_kind s A.keeps);
        edges = more_edges;
        near = near_side n op op' new same here h.last h.first x (Meets b h.edges) (Meets (not b) h.edges) (Meets b h'.edges) (Meets (not b) h'.edges)
            H.near H.far joins (below b) (below (not b)) (near_meets n x.others h.edges in_from in_to b) (far_meets n x.others h.edges in_from in_to b);
        far = far_side n op op' new same here h.last h.first x (Meets b h.edges) (Meets (not b) h.edges) (Meets b h'.edges) (Meets (not b) h'.edges)
            H.near H.far joins (below b) (below (not b)) (near_meets n x.others h.edges in_from in_to b) (far_meets n x.others h.edges in_from in_to b);
        commuting = commuting_more h (commutes s) H.commuting A.room;
        near_registers = registers.0;
        far-registers = registers.1;
      }

safe_grown : (rule : FarRule) → NamesAll rule → (g : CircuitDag) (s : List ℕ) → Safe false g → Accepted rule (facing (front s) g) s → Safe false (grown rule g s)
unfolding grown
safe_grown rule names g s G A =
    let h = facing (front s) g in
    turned_back (front s) (extended (front s) h s (linked rule h s) (registered h s)) (safe_extended rule names (front s) h s (turned (front s) g G) A)

-- ---- an insertion, and a list of them

not-passed : (rule : FarRule) (b : Bool) (g : CircuitDag) (s : List ℕ) → record_rule s ≡ true → leb 512 (size g) ≡ false
    → ltb 2048 (g.edges.count + length (linked rule (facing b g) s).others) ≡ false
    → (ltb 256 (length (registered (facing b g) s).near) || ltb 256 (length (registered (facing b g) s).far)) ≡ false → Accepted rule (facing b g) s
not-passed rule b g s k r e m = record {
  keeps = k;
  room = size_in b;
  edges = edges_in b (ltb-false _ _ e);
  near = ltb-false _ _ (or_l (ltb 256 (length (registered (facing b g) s).near)) (ltb 256 (length (registered (facing b g) s).far)) m);
  far = ltb-false _ _ (or_r (ltb 256 (length (registered (facing b g) s).near)) (ltb 256 (length (registered (facing b g) s).far)) m);
}
  where
    size_in : (b : Bool) → size (facing b g) < 512
    size_in false = leb-false 512 (size g) r
    size_in true = leb-false 512 (size g) r

    edges_in : (b : Bool) → g.edges.count + length (linked rule (facing b g) s).others ≤ 2048 → (facing b g).edges.count + length (linked rule (facing b g) s).others ≤ 2048
    edges_in false h = h
    edges_in true h = h

module _ (rule : FarRule) (i : ℕ) (g : CircuitDag) (s : List ℕ) where
  -- a refusal leaves the graph as it was
  pub safe_as : NamesAll rule → Safe false g → Safe false (insert_as rule i g s).graph
  safe_as names G = insert_cases rule g s i (λ x. Safe false x.graph) (λ r c. G)
      (λ t. safe_grown rule names g s G (not-passed rule (front s) g s (good_keeps s t.whole) t.free t.room t.fit))

  -- "4 to 7", and K2's 12
  as_refused : (insert_as rule i g s).answer ≡ Err Unsound → ⊥
  as_refused = insert_cases rule g s i (λ x. x.answer ≡ Err Unsound → ⊥)
      (λ r c e. never_unsound rule g s i r c cc)
      (λ t e. let z : ◌≡◌ {A = ℕ} 0 1 = cc in omega arith)

insert-sound : (rule : LoadingRule) (g : CircuitDag) (s : List ℕ) → sound g ≡ true → insert_by rule g s ≡ insert_as (rule_of rule) 0 g s
unfolding insert_by
insert-sound rule g s h = rw h refl

pub safe_insert : (rule : LoadingRule) (g : CircuitDag) (s : List ℕ) → Safe false g → Safe false (insert_by rule g s).graph
safe_insert rule g s G = rw (insert-sound rule g s (safe_sound g G)) (safe_as (rule_of rule) 0 g s (names_all rule) G)

safe_after : (l : List Call) (g : CircuitDag) → Safe false g → Safe false (graph_after g l)
unfolding graph_after
safe_after [] g G = G
safe_after (c ∷ l) g G = safe_after l (insert_by c.rule g c.bytes).graph (safe_insert c.rule g c.bytes G)

-- every graph that is built keeps it ..
pub safe_built : (l : List Call) → Safe false (built l)
safe_built l = safe_after l empty safe_empty

-- .. and is sound
pub sound-built : (l : List Call) → SoundBuilt l
sound-built l =
    let h = safe_sound (built l) (safe_built l) in
    record { sound = h; never = λ rule s. insert-sound rule (built l) s h; never_refused = λ rule s. rw (insert-sound rule (built l) s h) (as_refused (rule_of rule) 0 (built l) s) }
