-- What `sound g` says, as one record of plain facts, both ways: `sound_told` takes it apart, `told_sound` puts it together.
-- Assumes nothing.
use mathlib.Core.Path.{◌≡◌, refl, sym, ◌∙◌, ap}
use mathlib.Core.Bool.{Bool, true, false, ◌&&◌, not}
use mathlib.Core.Logic.{⊎_elim}
use mathlib.Core.List.{List, [], ◌∷◌, ◌++◌, map}
use Prim.Native.Nat.{ℕ, zero, suc, ◌+◌, ◌≤◌, ◌<◌}
use native.Mathlib.Omega.{arith}
use native.Mathlib.Decide.{dec_lt}
use lib.Dec.{eqb, ltb, leb}
use lib.IntN.{ℤ, pos, negsuc}
use lib.Signed.{lt_z}
use lib.ListN.{length, get_or, take, length-take, get_or-eq_default}
use lib.Seq.{get_or-take}
use borrow.Author.Tests.{ltb-true, lt-ltb, leb-true, le-leb, eqb-true, eq-eqb, ne_eqb, not-true as not-flip}
use Rattle.file.specs.Lists.{any_of, all_of, distinct, count_from, up_to, marked_from, members}
use Rattle.graph.specs.declared.End.{End}
use Rattle.graph.specs.declared.Registers.{Registers}
use Rattle.graph.specs.declared.CircuitDag.{CircuitDag}
use Rattle.graph.specs.Dag.{no_end, no_registers, empty, Node, Edge, Entry, absent, present, size, at_qubit, node_at, nodes_of, edges_of, edge_at}
use Rattle.graph.specs.Dag.{entry_at, entries_of, commuting_of, place_of, same_edge, same_key}
use Rattle.graph.specs.Soundness.{counts_fit, ends_add_up, named, if_present, numbers_below, operation_at, name_operations, same_place, place_within}
use Rattle.graph.specs.Soundness.{places_rule, ascends, commuting_ascends, keys_distinct, edges_rule, first_block_rule, sound}
use Rattle.file.proofs.BoolLaws.{bool_cases, clash_bool, not-true, and_l, and_r, and_intro, or_cases, or_inl, or_inr, flip-not}
use Rattle.graph.proofs.ListLaws.{all_at, at_all, all_append, all_up_to, up_to_all, distinct-up_to, up_to-distinct, up_to-any, up_to-none}
use Rattle.graph.proofs.ListLaws.{members_all, all_members}

-- ---- the facts

-- what an end names: nodes of the graph, and qubit operations
pub record NamesFit (g : CircuitDag) (e : End) : Type 0 where
  pub node-below : (q : ℕ) → present (at_qubit e q) ≡ true → at_qubit e q < size g
  pub node-operation : (q : ℕ) → present (at_qubit e q) ≡ true → operation_at g (at_qubit e q) ≡ true
  pub all_below : present e.all.0 ≡ true → e.all.0 < size g
  pub all_operation : present e.all.0 ≡ true → operation_at g e.all.0 ≡ true

-- a register map of a graph with n nodes
pub record RegistersFit (n : ℕ) (r : Registers) : Type 0 where
  pub below : (i : ℕ) → i < r.count → get_or r.node i 0 < n
  pub keys : (i j : ℕ) → i < j → j < r.count → get_or r.name i 0 ≡ get_or r.name j 0 → get_or r.index i 0 ≡ get_or r.index j 0 → ⊥

pub record Sound (g : CircuitDag) : Type 0 where
  pub node-count : size g ≤ 512
  pub edge_count : g.edges.count ≤ 2048
  pub first_count : g.first_registers.count ≤ 256
  pub last_count : g.last_registers.count ≤ 256
  pub commuting_count : g.commuting.count ≤ 512
  pub ends : g.backs + g.fronts ≡ size g
  pub from-below : (i : ℕ) → i < g.edges.count → get_or g.edges.from i 0 < size g
  pub to_below : (i : ℕ) → i < g.edges.count → get_or g.edges.to i 0 < size g
  pub from-operation : (i : ℕ) → i < g.edges.count → operation_at g (get_or g.edges.from i 0) ≡ true
  pub to-operation : (i : ℕ) → i < g.edges.count → operation_at g (get_or g.edges.to i 0) ≡ true
  pub rises : (i : ℕ) → i < g.edges.count → lt_z (place_of g (get_or g.edges.from i 0)) (place_of g (get_or g.edges.to i 0)) ≡ true
  pub edges-distinct : (i j : ℕ) → i < j → j < g.edges.count → get_or g.edges.from i 0 ≡ get_or g.edges.from j 0
      → get_or g.edges.to i 0 ≡ get_or g.edges.to j 0 → ⊥
  pub first_names : NamesFit g g.first
  pub last_names : NamesFit g g.last
  pub first_block : (v : ℕ) → get_or g.first.block v false ≡ true → v < size g
  pub last_block : (v : ℕ) → get_or g.last.block v false ≡ true → v < size g
  pub first_operation : (v : ℕ) → get_or g.first.block v false ≡ true → operation_at g v ≡ true
  pub first_no_edge : (v : ℕ) → get_or g.first.block v false ≡ true → (i : ℕ) → i < g.edges.count → get_or g.edges.to i 0 ≡ v → ⊥
  pub commuting_below : (i : ℕ) → i < g.commuting.count → get_or g.commuting.list i 0 < size g
  pub commuting_ascends_lem : (i j : ℕ) → i < j → j < g.commuting.count → get_or g.commuting.list i 0 < get_or g.commuting.list j 0
  pub first_registers : RegistersFit (size g) g.first_registers
  pub last_registers : RegistersFit (size g) g.last_registers
  pub place_within_lem : (v : ℕ) → v < size g → place_within g (place_of g v) ≡ true
  pub places_distinct : (u v : ℕ) → u < v → v < size g → place_of g u ≡ place_of g v → ⊥

-- ---- conjunctions

pub and3 : (a b c : Bool) → (a && b && c) ≡ true → (a ≡ true) × (b ≡ true) × (c ≡ true)
and3 a b c h = let p = and_l (a && b) c h in (and_l a b p, and_r a b p, and_r (a && b) c h)

pub and3_intro : (a b c : Bool) → a ≡ true → b ≡ true → c ≡ true → (a && b && c) ≡ true
and3_intro a b c p q r = rw (p, q, r)

pub and4 : (a b c d : Bool) → (a && b && c && d) ≡ true → (a ≡ true) × (b ≡ true) × (c ≡ true) × (d ≡ true)
and4 a b c d h = let p = and3 a b c (and_l (a && b && c) d h) in (p.0, p.1, p.2, and_r (a && b && c) d h)

pub and5 : (a b c d e : Bool) → (a && b && c && d && e) ≡ true → (a ≡ true) × (b ≡ true) × (c ≡ true) × (d ≡ true) × (e ≡ true)
and5 a b c d e h = let p = and4 a b c d (and_l (a && b && c && d) e h) in (p.0, p.1, p.2, p.3, and_r (a && b && c && d) e h)

-- every clause holds
pub record Clauses (g : CircuitDag) : Type 0 where
  pub counts : counts_fit g ≡ true
  pub add_up : ends_add_up g ≡ true
  pub numbers : numbers_below g ≡ true
  pub names : name_operations g ≡ true
  pub places : places_rule g ≡ true
  pub ascending : commuting_ascends g ≡ true
  pub first_keys : keys_distinct g.first_registers ≡ true
  pub last_keys : keys_distinct g.last_registers ≡ true
  pub edges : edges_rule g ≡ true
  pub first : first_block_rule g ≡ true

nine : (a b c d e f k h i j : Bool) → (a && b && c && d && e && f && (k && h) && i && j) ≡ true
    → (a ≡ true) × (b ≡ true) × (c ≡ true) × (d ≡ true) × (e ≡ true) × (f ≡ true) × (k ≡ true) × (h ≡ true) × (i ≡ true) × (j ≡ true)
nine a b c d e f k h i j t =
    let t1 = and3 (a && b && c && d && e && f && (k && h)) i j t in
    let t2 = and3 (a && b && c && d && e) f (k && h) t1.0 in
    let t3 = and5 a b c d e t2.0 in
    (t3.0, t3.1, t3.2, t3.3, t3.4, t2.1, and_l k h t2.2, and_r k h t2.2, t1.1, t1.2)

pub sound_clauses : (g : CircuitDag) → sound g ≡ true → Clauses g
unfolding sound
sound_clauses g h =
    let t = nine (counts_fit g) (ends_add_up g) (numbers_below g) (name_operations g) (places_rule g) (commuting_ascends g)
    (keys_distinct g.first_registers) (keys_distinct g.last_registers) (edges_rule g) (first_block_rule g) h in
    record { counts = t.0; add_up = t.1; numbers = t.2; names = t.3; places = t.4; ascending = t.5; first_keys = t.6; last_keys = t.7; edges = t.8; first = t.9 }

nine_intro : (a b c d e f k h i j : Bool)
    → a ≡ true → b ≡ true → c ≡ true → d ≡ true → e ≡ true → f ≡ true → k ≡ true → h ≡ true → i ≡ true → j ≡ true
    → (a && b && c && d && e && f && (k && h) && i && j) ≡ true
nine_intro a b c d e f k h i j p1 p2 p3 p4 p5 p6 p7 p8 p9 p10 = rw (p1, p2, p3, p4, p5, p6, p7, p8, p9, p10)

pub clauses_sound : (g : CircuitDag) → Clauses g → sound g ≡ true
unfolding sound
clauses_sound g t = nine_intro (counts_fit g) (ends_add_up g) (numbers_below g) (name_operations g) (places_rule g) (commuting_ascends g)
    (keys_distinct g.first_registers) (keys_distinct g.last_registers) (edges_rule g) (first_block_rule g)
    t.counts t.add_up t.numbers t.names t.places t.ascending t.first_keys t.last_keys t.edges t.first

-- ---- the names of an end

module _ (p : ℕ → Bool) (e : End) where
  if_told : (v : ℕ) → if_present p v ≡ true → present v ≡ true → p v ≡ true
  if_told v h t = ⊎_elim (λ (n : not (present v) ≡ true). absurd (clash_bool t (not-flip (present v) n))) (λ (x : p v ≡ true). x) (or_cases (not (present v)) (p v) h)

  told_if : (v : ℕ) → (present v ≡ true → p v ≡ true) → if_present p v ≡ true
  told_if v h = ⊎_elim
      (λ (t : present v ≡ true). or_inr (not (present v)) (p v) (h t))
      (λ (t : present v ≡ false). or_inl (not (present v)) (p v) (flip-not (present v) t))
      (bool_cases (present v))

  pub named_all : all_of (if_present p) (named e) ≡ true → present e.all.0 ≡ true → p e.all.0 ≡ true
  named_all h t = if_told e.all.0 (all_at (if_present p) (named e) absent h 0 (omega arith)) t

  pub named-node : all_of (if_present p) (named e) ≡ true → (q : ℕ) → present (at_qubit e q) ≡ true → p (at_qubit e q) ≡ true
  named-node h q t = elim (dec_lt q (length e.node)) [
    | yes l ↦ if_told (at_qubit e q) (all_at (if_present p) (named e) absent h (suc q) (omega arith)) t
    | no l ↦ absurd (clash_bool t (ap present (get_or-eq_default e.node absent {n = q} (omega arith))))
  ]

  pub all_named : (present e.all.0 ≡ true → p e.all.0 ≡ true) → ((q : ℕ) → present (at_qubit e q) ≡ true → p (at_qubit e q) ≡ true)
      → all_of (if_present p) (named e) ≡ true
  all_named a n = at_all (if_present p) (named e) absent at
    where
      at : (i : ℕ) → i < length (named e) → if_present p (get_or (named e) i absent) ≡ true
      at zero k = told_if e.all.0 a
      at (suc q) k = told_if (at_qubit e q) (n q)

-- ---- places

pub same_told : (p q : ℤ) → same_place p q ≡ true → p ≡ q
same_told (pos a) (pos b) h =
    let x : a ≤ b = leb-true a b (and_l (leb a b) (leb b a) h) in
    let y : b ≤ a = leb-true b a (and_r (leb a b) (leb b a) h) in
    let z : a ≡ b = omega arith in ap pos z
same_told (pos a) (negsuc b) h = absurd (clash_bool h refl)
same_told (negsuc a) (pos b) h = absurd (clash_bool h refl)
same_told (negsuc a) (negsuc b) h =
    let x : b ≤ a = leb-true b a (and_l (leb b a) (leb a b) h) in
    let y : a ≤ b = leb-true a b (and_r (leb b a) (leb a b) h) in
    let z : a ≡ b = omega arith in ap negsuc z

same_self : (p : ℤ) → same_place p p ≡ true
same_self (pos a) = and_intro (leb a a) (leb a a) (le-leb a a (omega arith)) (le-leb a a (omega arith))
same_self (negsuc a) = and_intro (leb a a) (leb a a) (le-leb a a (omega arith)) (le-leb a a (omega arith))

pub told_same : (p q : ℤ) → p ≡ q → same_place p q ≡ true
told_same p q e = rw (← e) (same_self p)

-- the places of the nodes, by number
map-map : {A B C : Type 0} (f : B → C) (h : A → B) (l : List A) → map f (map h l) ≡ map (λ x. f (h x)) l
map-map f h [] = refl
map-map f h (x ∷ l) = ap (λ (m : List _). f (h x) ∷ m) (map-map f h l)

pub places_map : (g : CircuitDag) → map (λ (n : Node). n.place) (nodes_of g) ≡ map (place_of g) (up_to (size g))
places_map g = map-map (λ (n : Node). n.place) (node_at g) (up_to (size g))

-- ---- a list that ascends

pub ascends_told : (l : List ℕ) → ascends l ≡ true → (i j : ℕ) → i < j → j < length l → get_or l i 0 < get_or l j 0
unfolding ascends
ascends_told [] h i j a b = absurd (omega arith)
ascends_told (u ∷ l) h i zero a b = absurd (omega arith)
ascends_told (u ∷ l) h zero (suc j) a b =
    ltb-true u (get_or l j 0) (all_at (ltb u) l 0 (and_l (all_of (ltb u) l) (ascends l) h) j (omega arith))
ascends_told (u ∷ l) h (suc i) (suc j) a b =
    ascends_told l (and_r (all_of (ltb u) l) (ascends l) h) i j (omega arith) (omega arith)

pub told_ascends : (l : List ℕ) → ((i j : ℕ) → i < j → j < length l → get_or l i 0 < get_or l j 0) → ascends l ≡ true
unfolding ascends
told_ascends [] h = refl
told_ascends (u ∷ l) h = and_intro (all_of (ltb u) l) (ascends l)
    (at_all (ltb u) l 0 (λ j k. lt-ltb u (get_or l j 0) (h 0 (suc j) (omega arith) (omega arith))))
    (told_ascends l (λ i j a b. h (suc i) (suc j) (omega arith) (omega arith)))

-- the first c entries of a list that is long enough
module _ (c : ℕ) (l : List ℕ) where
  pub taken-ascends : ((i j : ℕ) → i < j → j < c → get_or l i 0 < get_or l j 0) → ascends (take c l) ≡ true
  taken-ascends h = told_ascends (take c l)
      (λ i j a b.
      let y : j < c = omega (arith, length-take c l) in
      let x : i < c = omega arith in
      rw (get_or-take c l i 0 x, get_or-take c l j 0 y) (h i j a y))

  pub taken_all : (p : ℕ → Bool) → ((i : ℕ) → i < c → p (get_or l i 0) ≡ true) → all_of p (take c l) ≡ true
  taken_all p h = at_all p (take c l) 0 (λ i k. let x : i < c = omega (arith, length-take c l) in ap p (get_or-take c l i 0 x) ∙ h i x)

  pub ascends-taken : c ≤ length l → ascends (take c l) ≡ true → (i j : ℕ) → i < j → j < c → get_or l i 0 < get_or l j 0
  ascends-taken s h i j a b =
      let x : i < c = omega arith in
      rw (get_or-take c l i 0 x, get_or-take c l j 0 b) at (ascends_told (take c l) h i j a (omega (arith, length-take c l)))

  pub all_taken : (p : ℕ → Bool) → c ≤ length l → all_of p (take c l) ≡ true → (i : ℕ) → i < c → p (get_or l i 0) ≡ true
  all_taken p s h i b = sym (ap p (get_or-take c l i 0 b)) ∙ all_at p (take c l) 0 h i (omega (arith, length-take c l))

-- ---- register maps

module _ (n : ℕ) (r : Registers) where
  abbrev pub entry_below : Entry → Bool
  entry_below x = ltb x.node n

  pub registers_told : all_of entry_below (entries_of r) ≡ true → keys_distinct r ≡ true → RegistersFit n r
  registers_told a b = record {
    below = λ i k. ltb-true (get_or r.node i 0) n (all_up_to entry_below (entry_at r) r.count a i k);
    keys = λ i j x y e f. clash_bool (and_intro (eqb (get_or r.name i 0) (get_or r.name j 0)) (eqb (get_or r.index i 0) (get_or r.index j 0)) (eq-eqb _ _ e) (eq-eqb _ _ f))
        (distinct-up_to same_key (entry_at r) r.count b i j x y);
  }

  pub told_entries : RegistersFit n r → all_of entry_below (entries_of r) ≡ true
  told_entries f = up_to_all entry_below (entry_at r) r.count (λ i k. lt-ltb (get_or r.node i 0) n (f.below i k))

  pub told_keys : RegistersFit n r → keys_distinct r ≡ true
  told_keys f = up_to-distinct same_key (entry_at r) r.count
      (λ i j x y. not-true (λ e. f.keys i j x y
      (eqb-true _ _ (and_l (eqb (get_or r.name i 0) (get_or r.name j 0)) (eqb (get_or r.index i 0) (get_or r.index j 0)) e))
      (eqb-true _ _ (and_r (eqb (get_or r.name i 0) (get_or r.name j 0)) (eqb (get_or r.index i 0) (get_or r.index j 0)) e))))

-- ---- the clauses' parts

abbrev pub below_of : CircuitDag → ℕ → Bool
below_of g v = ltb v (size g)

abbrev pub edge_below : CircuitDag → Edge → Bool
edge_below g e = ltb e.from (size g) && ltb e.to (size g)

abbrev pub edge_fits : CircuitDag → Edge → Bool
edge_fits g e = operation_at g e.from && operation_at g e.to && lt_z (place_of g e.from) (place_of g e.to)

abbrev pub first_fits : CircuitDag → ℕ → Bool
first_fits g v = operation_at g v && not (any_of (λ (e : Edge). eqb e.to v) (edges_of g))

-- numbers_below, by parts
pub record Below (g : CircuitDag) : Type 0 where
  pub edges : all_of (edge_below g) (edges_of g) ≡ true
  pub first : all_of (if_present (below_of g)) (named g.first) ≡ true
  pub last : all_of (if_present (below_of g)) (named g.last) ≡ true
  pub first_block : all_of (below_of g) (members g.first.block) ≡ true
  pub last_block : all_of (below_of g) (members g.last.block) ≡ true
  pub commuting : all_of (below_of g) (commuting_of g) ≡ true
  pub first_registers : all_of (entry_below (size g) g.first_registers) (entries_of g.first_registers) ≡ true
  pub last_registers : all_of (entry_below (size g) g.last_registers) (entries_of g.last_registers) ≡ true

pub all_join : {A : Type 0} (p : A → Bool) (l m : List A) → all_of p l ≡ true → all_of p m ≡ true → all_of p (l ++ m) ≡ true
all_join p l m a b = all_append p l m ∙ and_intro (all_of p l) (all_of p m) a b

pub all_left : {A : Type 0} (p : A → Bool) (l m : List A) → all_of p (l ++ m) ≡ true → all_of p l ≡ true
all_left p l m h = and_l (all_of p l) (all_of p m) (sym (all_append p l m) ∙ h)

pub all_right : {A : Type 0} (p : A → Bool) (l m : List A) → all_of p (l ++ m) ≡ true → all_of p m ≡ true
all_right p l m h = and_r (all_of p l) (all_of p m) (sym (all_append p l m) ∙ h)

module _ (g : CircuitDag) where
  numbers_told : numbers_below g ≡ true → Below g
  numbers_told h =
      let F = g.first in let L = g.last in
      let fr = entries_of g.first_registers in let lr = entries_of g.last_registers in
      let ep : Entry → Bool = λ x. ltb x.node (size g) in
      let mf = members F.block in let ml = members L.block in
      let t = and4 (all_of (edge_below g) (edges_of g)) (all_of (if_present (below_of g)) (named F ++ named L))
      (all_of (below_of g) (mf ++ ml ++ commuting_of g)) (all_of ep (fr ++ lr)) h in
      let b = all_left (below_of g) (mf ++ ml) (commuting_of g) t.2 in
      record {
        edges = t.0;
        first = all_left (if_present (below_of g)) (named F) (named L) t.1;
        last = all_right (if_present (below_of g)) (named F) (named L) t.1;
        first_block = all_left (below_of g) mf ml b;
        last_block = all_right (below_of g) mf ml b;
        commuting = all_right (below_of g) (mf ++ ml) (commuting_of g) t.2;
        first_registers = all_left ep fr lr t.3;
        last_registers = all_right ep fr lr t.3;
      }

  pub told_numbers : Below g → numbers_below g ≡ true
  told_numbers b =
      let F = g.first in let L = g.last in
      let fr = entries_of g.first_registers in let lr = entries_of g.last_registers in
      let ep : Entry → Bool = λ x. ltb x.node (size g) in
      let mf = members F.block in let ml = members L.block in
      and_intro (all_of (edge_below g) (edges_of g) && all_of (if_present (below_of g)) (named F ++ named L) && all_of (below_of g) (mf ++ ml ++ commuting_of g)) (all_of ep (fr ++ lr))
      (and3_intro (all_of (edge_below g) (edges_of g)) (all_of (if_present (below_of g)) (named F ++ named L)) (all_of (below_of g) (mf ++ ml ++ commuting_of g))
      b.edges
      (all_join (if_present (below_of g)) (named F) (named L) b.first b.last)
      (all_join (below_of g) (mf ++ ml) (commuting_of g) (all_join (below_of g) mf ml b.first_block b.last_block) b.commuting))
      (all_join ep fr lr b.first_registers b.last_registers)

  names_told : (e : End) → all_of (if_present (below_of g)) (named e) ≡ true → all_of (if_present (operation_at g)) (named e) ≡ true → NamesFit g e
  names_told e a b = record {
    node-below = λ q t. ltb-true (at_qubit e q) (size g) (named-node (below_of g) e a q t);
    node-operation = named-node (operation_at g) e b;
    all_below = λ t. ltb-true e.all.0 (size g) (named_all (below_of g) e a t);
    all_operation = named_all (operation_at g) e b;
  }

  pub told_below : (e : End) → NamesFit g e → all_of (if_present (below_of g)) (named e) ≡ true
  told_below e f = all_named (below_of g) e (λ t. lt-ltb e.all.0 (size g) (f.all_below t)) (λ q t. lt-ltb (at_qubit e q) (size g) (f.node-below q t))

  pub told_operations : (e : End) → NamesFit g e → all_of (if_present (operation_at g)) (named e) ≡ true
  told_operations e f = all_named (operation_at g) e f.all_operation f.node-operation

  -- `take` reads the list as far as it goes: so its length is asked for (`dag_sized` of SizeLaws has it)
  pub sound_told : length g.commuting.list ≡ 512 → sound g ≡ true → Sound g
  sound_told full h =
      let c = sound_clauses g h in
      let n = and5 (leb (size g) 512) (leb g.edges.count 2048) (leb g.first_registers.count 256) (leb g.last_registers.count 256) (leb g.commuting.count 512) c.counts in
      let len : g.commuting.count ≤ length g.commuting.list = omega (arith, full, leb-true g.commuting.count 512 n.4) in
      let b = numbers_told c.numbers in
      let k = g.edges.count in
      let ea : ℕ → Edge = edge_at g.edges in
      let place : ℕ → ℤ = place_of g in
      let ed = and_l (distinct same_edge (edges_of g)) (all_of (edge_fits g) (edges_of g)) c.edges in
      let ef = all_up_to (edge_fits g) ea k (and_r (distinct same_edge (edges_of g)) (all_of (edge_fits g) (edges_of g)) c.edges) in
      let eb = all_up_to (edge_below g) ea k b.edges in
      let fits : (i : ℕ) → i < k → (operation_at g (ea i).from ≡ true) × (operation_at g (ea i).to ≡ true) × (lt_z (place (ea i).from) (place (ea i).to) ≡ true)
      = λ i l. and3 (operation_at g (ea i).from) (operation_at g (ea i).to) (lt_z (place (ea i).from) (place (ea i).to)) (ef i l) in
      let ff = all_members (first_fits g) g.first.block c.first in
      let pw = rw (places_map g) at c.places in
      record {
        node-count = leb-true (size g) 512 n.0;
        edge_count = leb-true g.edges.count 2048 n.1;
        first_count = leb-true g.first_registers.count 256 n.2;
        last_count = leb-true g.last_registers.count 256 n.3;
        commuting_count = leb-true g.commuting.count 512 n.4;
        ends = eqb-true (g.backs + g.fronts) (size g) c.add_up;
        from-below = λ i l. ltb-true (ea i).from (size g) (and_l (ltb (ea i).from (size g)) (ltb (ea i).to (size g)) (eb i l));
        to_below = λ i l. ltb-true (ea i).to (size g) (and_r (ltb (ea i).from (size g)) (ltb (ea i).to (size g)) (eb i l));
        from-operation = λ i l. (fits i l).0;
        to-operation = λ i l. (fits i l).1;
        rises = λ i l. (fits i l).2;
        edges-distinct = λ i j a l e f. clash_bool (and_intro (eqb (ea i).from (ea j).from) (eqb (ea i).to (ea j).to) (eq-eqb _ _ e) (eq-eqb _ _ f))
            (distinct-up_to same_edge ea k ed i j a l);
        first_names = names_told g.first b.first (all_left (if_present (operation_at g)) (named g.first) (named g.last) c.names);
        last_names = names_told g.last b.last (all_right (if_present (operation_at g)) (named g.first) (named g.last) c.names);
        first_block = λ v m. ltb-true v (size g) (all_members (below_of g) g.first.block b.first_block v m);
        last_block = λ v m. ltb-true v (size g) (all_members (below_of g) g.last.block b.last_block v m);
        first_operation = λ v m. and_l (operation_at g v) (not (any_of (λ (e : Edge). eqb e.to v) (edges_of g))) (ff v m);
        first_no_edge = λ v m i l e. clash_bool (up_to-any (λ (e : Edge). eqb e.to v) ea k i l (eq-eqb _ _ e))
            (not-flip (any_of (λ (e : Edge). eqb e.to v) (edges_of g)) (and_r (operation_at g v) (not (any_of (λ (e : Edge). eqb e.to v) (edges_of g))) (ff v m)));
        commuting_below = λ i l. ltb-true (get_or g.commuting.list i 0) (size g) (all_taken g.commuting.count g.commuting.list (below_of g) len b.commuting i l);
        commuting_ascends_lem = ascends-taken g.commuting.count g.commuting.list len c.ascending;
        first_registers = registers_told (size g) g.first_registers b.first_registers c.first_keys;
        last_registers = registers_told (size g) g.last_registers b.last_registers c.last_keys;
        place_within_lem = all_up_to (place_within g) place (size g) (and_r (distinct same_place (map place (up_to (size g)))) (all_of (place_within g) (map place (up_to (size g)))) pw);
        places_distinct = λ u v a l e. clash_bool (told_same (place u) (place v) e)
            (distinct-up_to same_place place (size g) (and_l (distinct same_place (map place (up_to (size g)))) (all_of (place_within g) (map place (up_to (size g)))) pw) u v a l);
      }

  pub told_sound : Sound g → sound g ≡ true
  told_sound s =
      let k = g.edges.count in
      let ea : ℕ → Edge = edge_at g.edges in
      let place : ℕ → ℤ = place_of g in
      let within : all_of (place_within g) (map place (up_to (size g))) ≡ true = up_to_all (place_within g) place (size g) s.place_within_lem in
      let apart : distinct same_place (map place (up_to (size g))) ≡ true = up_to-distinct same_place place (size g)
      (λ u v a l. not-true (λ e. s.places_distinct u v a l (same_told (place u) (place v) e))) in
      clauses_sound g
      record {
        counts = and3_intro (leb (size g) 512 && leb g.edges.count 2048 && leb g.first_registers.count 256) (leb g.last_registers.count 256) (leb g.commuting.count 512)
            (and3_intro (leb (size g) 512) (leb g.edges.count 2048) (leb g.first_registers.count 256) (le-leb _ _ s.node-count) (le-leb _ _ s.edge_count) (le-leb _ _ s.first_count))
            (le-leb _ _ s.last_count) (le-leb _ _ s.commuting_count);
        add_up = eq-eqb _ _ s.ends;
        numbers = told_numbers record {
          edges = up_to_all (edge_below g) ea k (λ i l. and_intro (ltb (ea i).from (size g)) (ltb (ea i).to (size g)) (lt-ltb _ _ (s.from-below i l)) (lt-ltb _ _ (s.to_below i l)));
          first = told_below g.first s.first_names;
          last = told_below g.last s.last_names;
          first_block = members_all (below_of g) g.first.block (λ v m. lt-ltb v (size g) (s.first_block v m));
          last_block = members_all (below_of g) g.last.block (λ v m. lt-ltb v (size g) (s.last_block v m));
          commuting = taken_all g.commuting.count g.commuting.list (below_of g) (λ i l. lt-ltb _ _ (s.commuting_below i l));
          first_registers = told_entries (size g) g.first_registers s.first_registers;
          last_registers = told_entries (size g) g.last_registers s.last_registers;
        };
        names = all_join (if_present (operation_at g)) (named g.first) (named g.last) (told_operations g.first s.first_names) (told_operations g.last s.last_names);
        places = rw (places_map g) (and_intro (distinct same_place (map place (up_to (size g)))) (all_of (place_within g) (map place (up_to (size g)))) apart within);
        ascending = taken-ascends g.commuting.count g.commuting.list s.commuting_ascends_lem;
        first_keys = told_keys (size g) g.first_registers s.first_registers;
        last_keys = told_keys (size g) g.last_registers s.last_registers;
        edges = and_intro (distinct same_edge (edges_of g)) (all_of (edge_fits g) (edges_of g))
            (up_to-distinct same_edge ea k (λ i j a l. not-true (λ e. s.edges-distinct i j a l
            (eqb-true _ _ (and_l (eqb (ea i).from (ea j).from) (eqb (ea i).to (ea j).to) e))
            (eqb-true _ _ (and_r (eqb (ea i).from (ea j).from) (eqb (ea i).to (ea j).to) e)))))
            (up_to_all (edge_fits g) ea k (λ i l. and3_intro (operation_at g (ea i).from) (operation_at g (ea i).to) (lt_z (place (ea i).from) (place (ea i).to))
            (s.from-operation i l) (s.to-operation i l) (s.rises i l)));
        first = members_all (first_fits g) g.first.block (λ v m. and_intro (operation_at g v) (not (any_of (λ (e : Edge). eqb e.to v) (edges_of g)))
            (s.first_operation v m)
            (flip-not (any_of (λ (e : Edge). eqb e.to v) (edges_of g)) (up_to-none (λ (e : Edge). eqb e.to v) ea k (λ i l. ne_eqb _ _ (s.first_no_edge v m i l)))));
      }

-- the empty graph is sound
pub empty-sound : sound empty ≡ true
unfolding sound empty no_end no_registers all_of distinct count_from marked_from ascends
empty-sound = refl
