-- The answers of the checks of a graph's parts together are `sound g`. Assumes nothing.
use mathlib.Core.Path.{◌≡◌, refl, sym, ◌∙◌}
use mathlib.Core.Bool.{Bool, true, false, not, ◌&&◌}
use mathlib.Core.List.{map}
use Prim.Native.Nat.{ℕ, ◌≤◌, ◌<◌}
use native.Mathlib.Omega.{arith}
use lib.Dec.{eqb, ltb, leb}
use lib.IntN.{ℤ, pos, negsuc}
use lib.Signed.{lt_z}
use lib.ListN.{length, get_or, take}
use borrow.Author.Tests.{ltb-true, lt-ltb, leb-true, le-leb, eqb-true, eq-eqb, not-true as not-flip}
use Rattle.file.specs.Lists.{all_of, distinct, up_to, members}
use Rattle.graph.specs.declared.End.{End}
use Rattle.graph.specs.declared.Registers.{Registers}
use Rattle.graph.specs.declared.CircuitDag.{CircuitDag}
use Rattle.graph.specs.Dag.{Entry, entries_of, size, at_qubit, edge_at, entry_at, place_of, same_edge}
use Rattle.graph.specs.Soundness.{counts_fit, ends_add_up, if_present, operation_at, same_place, place_within, ascends, keys_distinct, register_map_rule, sound}
use Rattle.graph.specs.Checks.{operation_in, operates, within, places_fit, edges_in, edge_fits, end_fits, commuting_fits, parts_fit}
use Rattle.file.proofs.BoolLaws.{clash_bool, not-true, bool_ext, and_l, and_r, and_intro, flip-not}
use Rattle.graph.proofs.ListLaws.{all_first, up_to_all, all_up_to, up_to-distinct, distinct-up_to, members_all, all_members}
use Rattle.graph.proofs.SoundnessLaws.{Sound, NamesFit, RegistersFit, sound_told, told_sound, and3, and3_intro, and4, and5, all_named, named_all, named-node, same_told}
use Rattle.graph.proofs.SoundnessLaws.{told_same, taken-ascends, taken_all, ascends-taken, all_taken, registers_told, told_entries, told_keys}

-- each part's answer, as one field
pub record Parts (g : CircuitDag) : Type 0 where
  pub counts : counts_fit g ≡ true
  pub ends : ends_add_up g ≡ true
  pub places : places_fit g ≡ true
  pub edges : all_of (edge_fits g.nodes g.first.block) (edges_in g.edges) ≡ true
  pub apart : distinct same_edge (edges_in g.edges) ≡ true
  pub starts : all_of (operation_in g.nodes) (members g.first.block) ≡ true
  pub first : end_fits g.nodes g.first ≡ true
  pub last : end_fits g.nodes g.last ≡ true
  pub commuting : commuting_fits (size g) g.commuting ≡ true
  pub first_entries : register_map_rule (size g) g.first_registers ≡ true
  pub last_entries : register_map_rule (size g) g.last_registers ≡ true

within_same : (g : CircuitDag) (p : ℤ) → place_within g p ≡ within g.backs g.fronts p
within_same g (pos k) = refl
within_same g (negsuc k) = refl

module _ (g : CircuitDag) where
  abbrev P : ℕ → ℤ
  P v = get_or g.nodes.place v (pos 0)

  abbrev from : ℕ → ℕ
  from i = get_or g.edges.from i 0

  abbrev to : ℕ → ℕ
  to i = get_or g.edges.to i 0

  abbrev below : ℕ → Bool
  below v = ltb v (size g)

  abbrev free : ℕ → Bool
  free v = not (get_or g.first.block v false)

  parted : Parts g → ((counts_fit g && ends_add_up g) && places_fit g && parts_fit g) ≡ true
  parted p = rw (p.counts, p.ends, p.places, p.edges, p.apart, p.starts, p.first, p.last, p.commuting, p.first_entries, p.last_entries) refl

  parts_told : ((counts_fit g && ends_add_up g) && places_fit g && parts_fit g) ≡ true → Parts g
  parts_told h =
      let all = and3 (counts_fit g && ends_add_up g) (places_fit g) (parts_fit g) h in
      let A : Bool = all_of (edge_fits g.nodes g.first.block) (edges_in g.edges) in
      let D : Bool = distinct same_edge (edges_in g.edges) in
      let B : Bool = all_of (operation_in g.nodes) (members g.first.block) in
      let F : Bool = end_fits g.nodes g.first in
      let L : Bool = end_fits g.nodes g.last in
      let C : Bool = commuting_fits (size g) g.commuting in
      let t = and3 ((A && D) && B && F && L && C) (register_map_rule (size g) g.first_registers) (register_map_rule (size g) g.last_registers) all.2 in
      let u = and5 (A && D) B F L C t.0 in
      record {
        counts = and_l (counts_fit g) (ends_add_up g) all.0;
        ends = and_r (counts_fit g) (ends_add_up g) all.0;
        places = all.1;
        edges = and_l A D u.0;
        apart = and_r A D u.0;
        starts = u.1;
        first = u.2;
        last = u.3;
        commuting = u.4;
        first_entries = t.1;
        last_entries = t.2;
      }

  -- ---- the counts

  counts_told : Sound g → counts_fit g ≡ true
  counts_told s = rw (
    le-leb (size g) 512 s.node-count,
    le-leb g.edges.count 2048 s.edge_count,
    le-leb g.first_registers.count 256 s.first_count,
    le-leb g.last_registers.count 256 s.last_count,
    le-leb g.commuting.count 512 s.commuting_count,
  ) refl

  -- ---- an edge, and an end's names

  edge_told : Sound g → (i : ℕ) → i < g.edges.count → edge_fits g.nodes g.first.block (edge_at g.edges i) ≡ true
  edge_told s i l = rw (lt-ltb (from i) (size g) (s.from-below i l), lt-ltb (to i) (size g) (s.to_below i l)) (and_intro
      (operation_at g (from i) && operation_at g (to i) && lt_z (place_of g (from i)) (place_of g (to i))) (free (to i))
      (and3_intro (operation_at g (from i)) (operation_at g (to i)) (lt_z (place_of g (from i)) (place_of g (to i))) (s.from-operation i l) (s.to-operation i l) (s.rises i l))
      (flip-not (get_or g.first.block (to i) false) (not-true (λ m. s.first_no_edge (to i) m i l refl))))

  end_told : (e : End) → NamesFit g e → ((v : ℕ) → get_or e.block v false ≡ true → v < size g) → end_fits g.nodes e ≡ true
  end_told e f b = and_intro (if_present (operates g.nodes) e.all.0 && all_of (if_present (operates g.nodes)) e.node) (all_of below (members e.block))
      (sym (all_first (if_present (operates g.nodes)) e.all.0 e.node) ∙ all_named (operates g.nodes) e
      (λ t. and_intro (below e.all.0) (operation_at g e.all.0) (lt-ltb _ _ (f.all_below t)) (f.all_operation t))
      (λ q t. and_intro (below (at_qubit e q)) (operation_at g (at_qubit e q)) (lt-ltb _ _ (f.node-below q t)) (f.node-operation q t)))
      (members_all below e.block (λ v m. lt-ltb _ _ (b v m)))

  end_names : (e : End) → end_fits g.nodes e ≡ true → NamesFit g e
  end_names e h =
      let a = all_first (if_present (operates g.nodes)) e.all.0 e.node
      ∙ and_l (if_present (operates g.nodes) e.all.0 && all_of (if_present (operates g.nodes)) e.node) (all_of below (members e.block)) h in
      record {
        node-below = λ q t. ltb-true _ _ (and_l (below (at_qubit e q)) (operation_at g (at_qubit e q)) (named-node (operates g.nodes) e a q t));
        node-operation = λ q t. and_r (below (at_qubit e q)) (operation_at g (at_qubit e q)) (named-node (operates g.nodes) e a q t);
        all_below = λ t. ltb-true _ _ (and_l (below e.all.0) (operation_at g e.all.0) (named_all (operates g.nodes) e a t));
        all_operation = λ t. and_r (below e.all.0) (operation_at g e.all.0) (named_all (operates g.nodes) e a t);
      }

  end_block : (e : End) → end_fits g.nodes e ≡ true → (v : ℕ) → get_or e.block v false ≡ true → v < size g
  end_block e h v m = ltb-true v (size g) (all_members below e.block
      (and_r (if_present (operates g.nodes) e.all.0 && all_of (if_present (operates g.nodes)) e.node) (all_of below (members e.block)) h) v m)

  -- ---- a sound graph's parts

  told : Sound g → Parts g
  told s =
      let m = g.commuting.count in
      let l = g.commuting.list in
      record {
        counts = counts_told s;
        ends = eq-eqb _ _ s.ends;
        places = and_intro (distinct same_place (map P (up_to (size g)))) (all_of (within g.backs g.fronts) (map P (up_to (size g))))
            (up_to-distinct same_place P (size g) (λ u v a k. not-true (λ e. s.places_distinct u v a k (same_told (P u) (P v) e))))
            (up_to_all (within g.backs g.fronts) P (size g) (λ v k. sym (within_same g (P v)) ∙ s.place_within_lem v k));
        edges = up_to_all (edge_fits g.nodes g.first.block) (edge_at g.edges) g.edges.count (edge_told s);
        apart = up_to-distinct same_edge (edge_at g.edges) g.edges.count (λ i j a k. not-true (λ e. s.edges-distinct i j a k
            (eqb-true _ _ (and_l (eqb (from i) (from j)) (eqb (to i) (to j)) e))
            (eqb-true _ _ (and_r (eqb (from i) (from j)) (eqb (to i) (to j)) e))));
        starts = members_all (operation_in g.nodes) g.first.block s.first_operation;
        first = end_told g.first s.first_names s.first_block;
        last = end_told g.last s.last_names s.last_block;
        commuting = and_intro (ascends (take m l)) (all_of below (take m l)) (taken-ascends m l s.commuting_ascends_lem)
            (taken_all m l below (λ i k. lt-ltb _ _ (s.commuting_below i k)));
        first_entries = entries_told g.first_registers (told_keys (size g) g.first_registers s.first_registers) (told_entries (size g) g.first_registers s.first_registers) s.first_count;
        last_entries = entries_told g.last_registers (told_keys (size g) g.last_registers s.last_registers) (told_entries (size g) g.last_registers s.last_registers) s.last_count;
      }
    where
      entries_told : (r : Registers) → keys_distinct r ≡ true → all_of (λ (x : Entry). ltb x.node (size g)) (map (entry_at r) (up_to r.count)) ≡ true
          → r.count ≤ 256 → register_map_rule (size g) r ≡ true
      entries_told r a b few = rw (le-leb r.count 256 few) (and_intro (keys_distinct r) (all_of (λ (x : Entry). ltb x.node (size g)) (map (entry_at r) (up_to r.count))) a b)

  -- ---- and back

  edge_parts : Parts g → (i : ℕ) → i < g.edges.count → (operates g.nodes (from i) ≡ true) × (operates g.nodes (to i) ≡ true)
      × (lt_z (place_of g (from i)) (place_of g (to i)) ≡ true) × (free (to i) ≡ true)
  edge_parts p i l = and4 (operates g.nodes (from i)) (operates g.nodes (to i)) (lt_z (place_of g (from i)) (place_of g (to i))) (free (to i))
      (all_up_to (edge_fits g.nodes g.first.block) (edge_at g.edges) g.edges.count p.edges i l)

  registers_kept : (r : Registers) → register_map_rule (size g) r ≡ true → RegistersFit (size g) r
  registers_kept r h =
      let N : Entry → Bool = λ x. ltb x.node (size g) in
      let e = and_r (leb r.count 256) (keys_distinct r && all_of N (entries_of r)) h in
      registers_told (size g) r (and_r (keys_distinct r) (all_of N (entries_of r)) e) (and_l (keys_distinct r) (all_of N (entries_of r)) e)

  made : length g.commuting.list ≡ 512 → Parts g → Sound g
  made full p =
      let c = and5 (leb (size g) 512) (leb g.edges.count 2048) (leb g.first_registers.count 256) (leb g.last_registers.count 256) (leb g.commuting.count 512) p.counts in
      let m = g.commuting.count in
      let l = g.commuting.list in
      let few : m ≤ 512 = leb-true m 512 c.4 in
      let len : m ≤ length l = omega (arith, full) in
      let pd = and_l (distinct same_place (map P (up_to (size g)))) (all_of (within g.backs g.fronts) (map P (up_to (size g)))) p.places in
      let pw = and_r (distinct same_place (map P (up_to (size g)))) (all_of (within g.backs g.fronts) (map P (up_to (size g)))) p.places in
      record {
        node-count = leb-true _ _ c.0;
        edge_count = leb-true _ _ c.1;
        first_count = leb-true _ _ c.2;
        last_count = leb-true _ _ c.3;
        commuting_count = few;
        ends = eqb-true _ _ p.ends;
        from-below = λ i k. ltb-true _ _ (and_l (below (from i)) (operation_at g (from i)) (edge_parts p i k).0);
        to_below = λ i k. ltb-true _ _ (and_l (below (to i)) (operation_at g (to i)) (edge_parts p i k).1);
        from-operation = λ i k. and_r (below (from i)) (operation_at g (from i)) (edge_parts p i k).0;
        to-operation = λ i k. and_r (below (to i)) (operation_at g (to i)) (edge_parts p i k).1;
        rises = λ i k. (edge_parts p i k).2;
        edges-distinct = λ i j a k x y. clash_bool (and_intro (eqb (from i) (from j)) (eqb (to i) (to j)) (eq-eqb _ _ x) (eq-eqb _ _ y))
            (distinct-up_to same_edge (edge_at g.edges) g.edges.count p.apart i j a k);
        first_names = end_names g.first p.first;
        last_names = end_names g.last p.last;
        first_block = end_block g.first p.first;
        last_block = end_block g.last p.last;
        first_operation = all_members (operation_in g.nodes) g.first.block p.starts;
        first_no_edge = λ v k i a e. clash_bool k (not-flip (get_or g.first.block v false) (rw e at (edge_parts p i a).3));
        commuting_below = λ i k. ltb-true _ _ (all_taken m l below len (and_r (ascends (take m l)) (all_of below (take m l)) p.commuting) i k);
        commuting_ascends_lem = ascends-taken m l len (and_l (ascends (take m l)) (all_of below (take m l)) p.commuting);
        first_registers = registers_kept g.first_registers p.first_entries;
        last_registers = registers_kept g.last_registers p.last_entries;
        place_within_lem = λ v k. within_same g (P v) ∙ all_up_to (within g.backs g.fronts) P (size g) pw v k;
        places_distinct = λ u v a k e. clash_bool (told_same (P u) (P v) e) (distinct-up_to same_place P (size g) pd u v a k);
      }

  pub sound_parts : length g.commuting.list ≡ 512 → ((counts_fit g && ends_add_up g) && places_fit g && parts_fit g) ≡ sound g
  sound_parts full = bool_ext ((counts_fit g && ends_add_up g) && places_fit g && parts_fit g) (sound g)
      (λ h. told_sound g (made full (parts_told h)))
      (λ h. parted (told (sound_told g full h)))
