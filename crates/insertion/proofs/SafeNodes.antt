-- The nodes, the commuting list and the register maps of a graph that is built, and that one node more keeps them. Assumes nothing.
use mathlib.Core.Path.{◌≡◌, refl, sym, ◌∙◌, ap}
use mathlib.Core.Bool.{Bool, true, false, ◌&&◌, ◌||◌}
use mathlib.Core.Logic.{⊎_elim}
use mathlib.Core.List.{List}
use Prim.Native.Nat.{ℕ, zero, suc, ◌+◌, ◌≤◌, ◌<◌}
use native.Mathlib.Omega.{arith}
use lib.Dec.{eqb, ltb, leb}
use lib.IntN.{ℤ, pos}
use lib.ListN.{length, get_or, set, length-set}
use lib.Seq.{get_or-set_same, get_or-set_other}
use borrow.Author.Tests.{lt-ltb, ltb-true, leb-true, eqb-true, eqb-false}
use Rattle.file.specs.Lists.{all_of, distinct}
use Rattle.file.specs.Records.{kind, qubit_form, register_form, mask, defines, definition_rule, qubit_rule, record_rule, qubits_of, form_of, classical_of}
use Rattle.file.proofs.RecordLaws.{rule, form_kept}
use Rattle.graph.specs.declared.Nodes.{Nodes}
use Rattle.graph.specs.declared.Registers.{Registers}
use Rattle.graph.specs.declared.Commuting.{Commuting}
use Rattle.graph.specs.declared.CircuitDag.{CircuitDag}
use Rattle.graph.specs.Dag.{Entry, entry, size, append_node, entries_of, same_key}
use Rattle.file.proofs.BoolLaws.{bool_cases, clash_bool, and_l, and_r, split_lt}
use Rattle.graph.proofs.ListLaws.{all_at, at_all}
use Rattle.registers.specs.Registers.{Maps, registers_after}
use Rattle.registers.specs.Registers.{with_entries}
use Rattle.insertion.specs.Insertion.{place_after, with_commuting}
use Rattle.registers.specs.RegisterMaps.{Fits}
use Rattle.registers.proofs.RegisterLaws.{keys_kept, nodes_below, entries_with, sized_with}
use Rattle.insertion.proofs.SafeEdges.{lies, lies_more, lies-new, lies_apart}

-- ---- qubit operations

-- "one with qubit form All or Set, of either kind 0 or 5, is a qubit operation"
abbrev pub operates : ℕ → ℕ → Bool
operates k f = (eqb f 1 || eqb f 2) && (eqb k 0 || eqb k 5)

form_operates : (k f : ℕ) → (eqb k 0 || eqb k 5) ≡ true → f ≤ 2 → (f ≡ 0 → ⊥) → operates k f ≡ true
form_operates k zero h l z = absurd (z refl)
form_operates k (suc zero) h l z = h
form_operates k (suc (suc zero)) h l z = h
form_operates k (suc (suc (suc f))) h l z = absurd (omega arith)

kind-operates : (k : ℕ) → k ≤ 5 → defines k ≡ false → (eqb k 0 || eqb k 5) ≡ true
kind-operates zero l d = refl
kind-operates (suc zero) l d = absurd (clash_bool refl d)
kind-operates (suc (suc zero)) l d = absurd (clash_bool refl d)
kind-operates (suc (suc (suc zero))) l d = absurd (clash_bool refl d)
kind-operates (suc (suc (suc (suc zero)))) l d = absurd (clash_bool refl d)
kind-operates (suc (suc (suc (suc (suc zero))))) l d = refl
kind-operates (suc (suc (suc (suc (suc (suc k)))))) l d = absurd (omega arith)

-- a record's kind
pub record_kind : (s : List ℕ) → record_rule s ≡ true → kind s ≤ 5
record_kind s keeps = leb-true (kind s) 5 (and_l (leb (kind s) 5) (definition_rule (kind s) (qubit_form s) (register_form s)) (rule s keeps).kinds)

-- a record that involves qubits becomes a qubit operation: kinds 1 to 4 involve none
pub record_operates : (s : List ℕ) → record_rule s ≡ true → eqb (form_of (qubits_of s)) 0 ≡ false → operates (kind s) (qubit_form s) ≡ true
unfolding definition_rule qubit_rule
record_operates s keeps h =
    let r = rule s keeps in
    let some : qubit_form s ≡ 0 → ⊥ = λ (e : qubit_form s ≡ 0). eqb-false (form_of (qubits_of s)) 0 h (form_kept s keeps ∙ e) in
    let low : qubit_form s ≤ 2 = leb-true (qubit_form s) 2 (and_l (leb (qubit_form s) 2) (eqb (qubit_form s) 2 || eqb (mask s) 0) r.qubits) in
    let rest : definition_rule (kind s) (qubit_form s) (register_form s) ≡ true = and_r (leb (kind s) 5) (definition_rule (kind s) (qubit_form s) (register_form s)) r.kinds in
    ⊎_elim
    (λ (d : defines (kind s) ≡ true). absurd (some (eqb-true (qubit_form s) 0 (and_r (eqb (register_form s) 4) (eqb (qubit_form s) 0) (rw d at rest)))))
    (λ (d : defines (kind s) ≡ false). form_operates (kind s) (qubit_form s) (kind-operates (kind s) (record_kind s keeps) d) low some)
    (bool_cases (defines (kind s)))

-- ---- nodes

-- the nodes seen from one end (true: the front), with the counts of insertions there and at the other
pub record NodesSafe (b : Bool) (x : Nodes) (near far : ℕ) : Type 0 where
  pub kinds : length x.kind ≡ 512
  pub known : (v : ℕ) → v < x.count → get_or x.kind v 0 ≤ 5
  pub forms : length x.form ≡ 512
  pub places : length x.place ≡ 512
  pub count : x.count ≤ 512
  pub ends : near + far ≡ x.count
  pub within : (v : ℕ) → v < x.count → lies b near far (get_or x.place v (pos 0)) ≡ true
  pub apart : (u v : ℕ) → u < v → v < x.count → get_or x.place u (pos 0) ≡ get_or x.place v (pos 0) → ⊥

abbrev pub operates_at : Nodes → ℕ → Bool
operates_at x v = operates (get_or x.kind v 0) (get_or x.form v 0)

abbrev pub place_at : Nodes → ℕ → ℤ
place_at x v = get_or x.place v (pos 0)

module _ (b : Bool) (x : Nodes) (near far k f l : ℕ) (N : NodesSafe b x near far) (room : x.count < 512) where
  abbrev x' : Nodes
  x' = append_node x (record { kind = k; form = f; label = l; place = place_after b near })

  pub operates_same : (u : ℕ) → u < x.count → operates_at x' u ≡ operates_at x u
  operates_same u h =
      let ne : u ≡ x.count → ⊥ = omega arith in
      λ t. operates (get_or-set_other x.kind x.count u k 0 ne t) (get_or-set_other x.form x.count u f 0 ne t)

  pub operates_here : operates_at x' x.count ≡ operates k f
  operates_here = λ t. operates
      (get_or-set_same x.kind x.count k 0 (omega (arith, N.kinds)) t)
      (get_or-set_same x.form x.count f 0 (omega (arith, N.forms)) t)

  pub place_same : (u : ℕ) → u < x.count → place_at x' u ≡ place_at x u
  place_same u h = get_or-set_other x.place x.count u (place_after b near) (pos 0) (omega arith)

  pub place_here : place_at x' x.count ≡ place_after b near
  place_here = get_or-set_same x.place x.count (place_after b near) (pos 0) (omega (arith, N.places))

  pub nodes_more : k ≤ 5 → NodesSafe b x' (near + 1) far
  nodes_more few = record {
    kinds = length-set x.kind x.count k ∙ N.kinds;
    known = λ v h. ⊎_elim
        (λ (e : v ≡ x.count). rw (e, get_or-set_same x.kind x.count k 0 (omega (arith, N.kinds))) few)
        (λ (h : v < x.count). rw (get_or-set_other x.kind x.count v k 0 (omega arith)) (N.known v h))
        (split_lt v x.count h);
    forms = length-set x.form x.count f ∙ N.forms;
    places = length-set x.place x.count (place_after b near) ∙ N.places;
    count = omega arith;
    ends = omega (arith, N.ends);
    within = λ v h. ⊎_elim
        (λ (e : v ≡ x.count). ap (lies b (near + 1) far) (ap (place_at x') e ∙ place_here) ∙ lies-new near far b)
        (λ (h : v < x.count). ap (lies b (near + 1) far) (place_same v h) ∙ lies_more near far b (place_at x v) (N.within v h))
        (split_lt v x.count h);
    apart = λ u v a h e. ⊎_elim
        (λ (i : v ≡ x.count).
        let low : u < x.count = omega arith in
        lies_apart near far b (place_at x u) (N.within u low) (sym (place_same u low) ∙ e ∙ ap (place_at x') i ∙ place_here))
        (λ (h : v < x.count).
        let low : u < x.count = omega arith in
        N.apart u v a h (sym (place_same u low) ∙ e ∙ place_same v h))
        (split_lt v x.count h);
  }

-- ---- the commuting list

pub record CommutingSafe (n : ℕ) (c : Commuting) : Type 0 where
  pub long : length c.list ≡ 512
  pub few : c.count ≤ n
  pub below : (i : ℕ) → i < c.count → get_or c.list i 0 < n
  pub ascends : (i j : ℕ) → i < j → j < c.count → get_or c.list i 0 < get_or c.list j 0

module _ (n : ℕ) (c : Commuting) (C : CommutingSafe n c) (room : n < 512) where
  abbrev list' : List ℕ
  list' = set c.list c.count n

  last_is : (i : ℕ) → i ≡ c.count → get_or list' i 0 ≡ n
  last_is i e = ap (λ (j : ℕ). get_or list' j 0) e ∙ get_or-set_same c.list c.count n 0 (omega (arith, C.few, C.long))

  others_stay : (i : ℕ) → i < c.count → get_or list' i 0 ≡ get_or c.list i 0
  others_stay i l = get_or-set_other c.list c.count i n 0 (omega arith)

  joined : CommutingSafe (n + 1) (record { count = c.count + 1; list = list' })
  joined = record {
    long = length-set c.list c.count n ∙ C.long;
    few = omega (arith, C.few);
    below = λ i l. ⊎_elim
        (λ (e : i ≡ c.count). omega (arith, last_is i e))
        (λ (l : i < c.count). omega (arith, others_stay i l, C.below i l))
        (split_lt i c.count l);
    ascends = λ i j a l. ⊎_elim
        (λ (e : j ≡ c.count). let low : i < c.count = omega arith in omega (arith, last_is j e, others_stay i low, C.below i low))
        (λ (l : j < c.count). let low : i < c.count = omega arith in omega (arith, others_stay i low, others_stay j l, C.ascends i j a l))
        (split_lt j c.count l);
  }

pub commuting_more : (h : CircuitDag) (joins : Bool) → CommutingSafe (size h) h.commuting → size h < 512 → CommutingSafe (size h + 1) (with_commuting h joins)
commuting_more h false C room = record {
  long = C.long;
  few = omega (arith, C.few);
  below = λ i l. omega (arith, C.below i l);
  ascends = C.ascends;
}
commuting_more h true C room = joined (size h) h.commuting C room

-- ---- the register maps

pub record RegistersSafe (n : ℕ) (r : Registers) : Type 0 where
  pub fits : Fits r
  pub below : all_of (λ (x : Entry). ltb x.node n) (entries_of r) ≡ true

-- a map with other entries
module _ (n : ℕ) (r : Registers) (R : RegistersSafe n r) where
  stored : (m : ℕ) (l : List Entry) → length l ≤ 256 → distinct same_key l ≡ true → all_of (λ (x : Entry). ltb x.node m) l ≡ true → RegistersSafe m (with_entries r l)
  stored m l room keys low = record {
    fits = record { room = room; keys = ap (distinct same_key) (entries_with r l) ∙ keys; sized = sized_with r l R.fits.sized room };
    below = ap (all_of (λ (x : Entry). ltb x.node m)) (entries_with r l) ∙ low;
  }

  below_more : all_of (λ (x : Entry). ltb x.node (n + 1)) (entries_of r) ≡ true
  below_more = at_all (λ (x : Entry). ltb x.node (n + 1)) (entries_of r) (entry 0 0 0) (λ i h.
      lt-ltb (get_or (entries_of r) i (entry 0 0 0)).node (n + 1)
      (omega (arith, ltb-true (get_or (entries_of r) i (entry 0 0 0)).node n (all_at (λ (x : Entry). ltb x.node n) (entries_of r) (entry 0 0 0) R.below i h))))

module _ (n : ℕ) (s : List ℕ) (near far : Registers) (R : RegistersSafe n near) (Q : RegistersSafe n far) where
  abbrev after : Maps
  after = registers_after s n (record { near = entries_of near; far = entries_of far })

  pub registers_more : length after.near ≤ 256 → length after.far ≤ 256 → RegistersSafe (n + 1) (with_entries near after.near) × RegistersSafe (n + 1) (with_entries far after.far)
  unfolding registers_after
  registers_more a b =
      let m : Maps = record { near = entries_of near; far = entries_of far } in
      let k = keys_kept (classical_of s) s n m R.fits.keys Q.fits.keys in
      let l = nodes_below (n + 1) (classical_of s) s n m (omega arith) (below_more n near R) (below_more n far Q) in
      (stored n near R (n + 1) after.near a k.0 l.0, stored n far Q (n + 1) after.far b k.1 l.1)
