-- Where the two ways to insert give the same graph, and that the first record that they treat differently makes the graphs differ. Assumes nothing.
use mathlib.Core.Path.{◌≡◌, refl, sym, ◌∙◌, ap, subst}
use mathlib.Core.Logic.{◌⊎◌, inl, inr, ⊎_elim}
use mathlib.Core.Bool.{Bool, true, false, cond, not, ◌&&◌}
use mathlib.Core.List.{List, [], ◌∷◌, map}
use Prim.Native.Nat.{ℕ, ◌+◌, ◌<◌}
use native.Mathlib.Omega.{arith}
use native.Mathlib.Decide.{ℕ_discrete, dec_lt}
use lib.Dec.{eqb, ltb}
use lib.ListN.{length, get_or, set}
use lib.Seq.{get_or-set_same, get_or-set_other, set_out}
use borrow.Author.Tests.{eqb-true, eq-eqb, leb-false, not-true, not-false}
use Rattle.file.specs.Lists.{any_of, member, up_to}
use Rattle.file.specs.Pairs.{count_of, check_file, record_at, records_of}
use Rattle.file.specs.Records.{front, qubits_of}
use Rattle.file.specs.declared.InvolvedQubits.{InvolvedQubits}
use Rattle.file.specs.declared.InvolvedQubits.TheVariants.{None, All, Set}
use Rattle.file.specs.declared.Refusal.{Refusal}
use Rattle.file.proofs.BoolLaws.{bool_cases, clash_bool, or_l, or_r, and_l, and_r, and_cases, eqb_same}
use Rattle.graph.specs.declared.CircuitDag.{CircuitDag}
use Rattle.graph.specs.declared.End.{End}
use Rattle.graph.specs.Dag.{absent, present, or_else, at_qubit, node, size, empty}
use Rattle.graph.specs.Soundness.{sound}
use Rattle.graph.proofs.ListLaws.{any_at, at-any}
use Rattle.links.specs.Links.{Linked, FarRule, near_all, far_all, source, near_after, far_after, qubits, link_qubits, link_set, link_by, join_far}
use Rattle.links.proofs.LinkLaws.{low_present, qubits_in, link_one, add_present, set_entries}
use Rattle.insertion.specs.declared.Inserted.{Inserted}
use Rattle.insertion.specs.declared.Loaded.{Loaded}
use Rattle.links.specs.declared.LoadingRule.TheVariants.{NearAll, FarAll}
use Rattle.insertion.specs.Insertion.{facing, linked, registered, extended, grown_at, grown}
use Rattle.insertion.specs.Limits.{accepts, edges_pass, insert_as, insert_by, insert_of}
use Rattle.insertion.specs.Load.{not_loaded, insert_records, load_checked, load_by}
use Rattle.insertion.specs.Calls.{graph_after, all_by, final}
use Rattle.insertion.specs.Ways.{brings_new, differs_at, differs_from, TwoWays}
use Rattle.insertion.proofs.CaseLaws.{Taken, Cause, itself, nodes, edges, entries, accepted}
use Rattle.insertion.proofs.CaseLaws.{taken-or-refused, taken_inserts, cause_refuses, insert_cases}
use Rattle.insertion.proofs.BuiltLaws.{Safe, safe_empty, safe_sound, safe_insert, safe_built}
use Rattle.insertion.proofs.BuiltLoads.{after_last}
use Rattle.std.specs.Prelude.{Result, Ok, Err, ⊤}

-- ---- the nodes that a record is joined with do not depend on the rule

module _ (r t : FarRule) (v : ℕ) where
  others_qubits : (qs : List ℕ) (x y : Linked) → x.near ≡ y.near → x.others ≡ y.others → (link_qubits r qs v x).others ≡ (link_qubits t qs v y).others
  unfolding link_qubits
  others_qubits [] x y n o = o
  others_qubits (q ∷ qs) x y n o = others_qubits qs (link_one r v q x) (link_one t v q y) (λ i. near_after (n i) q v) (λ i. add_present (source (n i) q) (o i))

  others_same : (k : InvolvedQubits) (near far : End) → (link_by k r v near far).others ≡ (link_by k t v near far).others
  unfolding link_set
  others_same None near far = refl
  others_same All near far = refl
  others_same (Set m) near far = let x : Linked = record { near = near; far = far; others = [] } in others_qubits (qubits m) x x refl refl

-- ---- so the same records are accepted, and refused for the same cause

module _ (r t : FarRule) (g : CircuitDag) (s : List ℕ) where
  edges_same : edges_pass r g s ≡ edges_pass t g s
  edges_same = let h = facing (front s) g in
      ap (λ (o : List ℕ). ltb 2048 (g.edges.count + length o)) (others_same r t (size h) (qubits_of s) h.last h.first)

  taken_by : Taken r g s → Taken t g s
  taken_by x = record { whole = x.whole; free = x.free; room = sym edges_same ∙ x.room; fit = x.fit }

  cause_by : (c : Refusal) → Cause r g s c → Cause t g s c
  cause_by c (itself a q) = itself a q
  cause_by c (nodes a b q) = nodes a b q
  cause_by c (edges a b e q) = edges a b (sym edges_same ∙ e) q
  cause_by c (entries a b e d q) = entries a b (sym edges_same ∙ e) d q

  -- an insertion by two rules, where the graphs of an accepted record are the same
  insert_alike : (i : ℕ) → (Taken r g s → grown r g s ≡ grown t g s) → insert_as r i g s ≡ insert_as t i g s
  insert_alike i e = insert_cases r g s i (λ x. x ≡ insert_as t i g s)
      (λ c k. sym (cause_refuses t g s i c (cause_by c k)))
      (λ x. ap (λ (y : CircuitDag). record { answer = Ok (node (size g)); graph = y }) (e x) ∙ sym (taken_inserts t g s i (taken_by x)))

-- ---- linking alike

-- every qubit of the list has an entry
abbrev Entered : End → List ℕ → Type 0
Entered near [] = Unit {0}
Entered near (q ∷ qs) = (present (at_qubit near q) ≡ true) × Entered near qs

any_head : (b c : Bool) → elim b [ true ↦ true | false ↦ c ] ≡ false → (b ≡ false) × (c ≡ false)
any_head true c h = absurd (clash_bool refl h)
any_head false c h = (refl, h)

entered_of : (near : End) (qs : List ℕ) → any_of (λ q. not (present (at_qubit near q))) qs ≡ false → Entered near qs
unfolding any_of
entered_of near [] h = tt
entered_of near (q ∷ qs) h = let w = any_head (not (present (at_qubit near q))) _ h in (not-false _ w.0, entered_of near qs w.1)

-- an entry that becomes a node leaves the others present
present_set : (l : List ℕ) (q r v : ℕ) → present v ≡ true → present (get_or l r absent) ≡ true → present (get_or (set l q v) r absent) ≡ true
present_set l q r v p h = elim (ℕ_discrete r q) [
  | no e ↦ ap present (get_or-set_other l q r v absent e) ∙ h
  | yes e ↦ elim (dec_lt q (length l)) [
    | yes k ↦ rw e (ap present (get_or-set_same l q v absent k) ∙ p)
    | no k ↦ ap (λ (z : List ℕ). present (get_or z r absent)) (set_out l q v (omega (arith, k))) ∙ h
  ]
]

entered_step : (near : End) (q v : ℕ) (qs : List ℕ) → present v ≡ true → Entered near qs → Entered (near_after near q v) qs
entered_step near q v [] p k = tt
entered_step near q v (r ∷ qs) p k = (present_set near.node q r v p k.0, entered_step near q v qs p k.1)

-- what the far end becomes: nothing new, or by the same all-qubit node
abbrev with_node : End → List ℕ → End
with_node far l = record { node = l; all = far.all; block = far.block }

far_entered : (rule : FarRule) (near far : End) (q v : ℕ) → present (at_qubit near q) ≡ true → far_after rule near far q v ≡ with_node far far.node
far_entered rule near far q v h = ap (λ (b : Bool). with_node far (cond b far.node (set far.node q (or_else (rule near far) v)))) h

far_same : (near far : End) (q v : ℕ) → near.all.0 ≡ far.all.0 → far_after near_all near far q v ≡ far_after far_all near far q v
far_same near far q v e = ap (λ (a : ℕ). with_node far (cond (present (at_qubit near q)) far.node (set far.node q (or_else a v)))) e

abbrev with_far : ℕ → ℕ → Linked → End → Linked
with_far v q x f = record { near = near_after x.near q v; far = f; others = add_present (source x.near q) x.others }

agree_entered : (qs : List ℕ) (v : ℕ) (x : Linked) → present v ≡ true → Entered x.near qs → link_qubits near_all qs v x ≡ link_qubits far_all qs v x
unfolding link_qubits
agree_entered [] v x p k = refl
agree_entered (q ∷ qs) v x p k =
    agree_entered qs v (link_one near_all v q x) p (entered_step x.near q v qs p k.1)
    ∙ ap (λ (f : End). link_qubits far_all qs v (with_far v q x f))
    (far_entered near_all x.near x.far q v k.0 ∙ sym (far_entered far_all x.near x.far q v k.0))

agree_same : (qs : List ℕ) (v : ℕ) (x : Linked) → x.near.all.0 ≡ x.far.all.0 → link_qubits near_all qs v x ≡ link_qubits far_all qs v x
unfolding link_qubits
agree_same [] v x e = refl
agree_same (q ∷ qs) v x e =
    agree_same qs v (link_one near_all v q x) e
    ∙ ap (λ (f : End). link_qubits far_all qs v (with_far v q x f)) (far_same x.near x.far q v e)

same_by : (k : InvolvedQubits) (v : ℕ) (near far : End) → present v ≡ true → (near.all.0 ≡ far.all.0) ⊎ (brings_new k near ≡ false)
    → link_by k near_all v near far ≡ link_by k far_all v near far
unfolding link_set
same_by None v near far p c = refl
same_by All v near far p c = refl
same_by (Set m) v near far p c = ap (join_far v) (⊎_elim
    (λ e. agree_same (qubits m) v (record { near = near; far = far; others = [] }) e)
    (λ e. agree_entered (qubits m) v (record { near = near; far = far; others = [] }) p (entered_of near (qubits m) e))
    c)

-- the two ends as the record's end sees them
linked_same : (b : Bool) (g : CircuitDag) (s : List ℕ) → present (size g) ≡ true
    → (g.first.all.0 ≡ g.last.all.0) ⊎ (brings_new (qubits_of s) (cond b g.first g.last) ≡ false)
    → linked near_all (facing b g) s ≡ linked far_all (facing b g) s
linked_same true g s p c = same_by (qubits_of s) (size g) g.first g.last p c
linked_same false g s p c = same_by (qubits_of s) (size g) g.last g.first p (⊎_elim (λ e. inl (sym e)) (λ e. inr e) c)

-- ---- the same graph

either : (a : Bool) (u v : ℕ) → (a && not (eqb u v)) ≡ false → (u ≡ v) ⊎ (a ≡ false)
either a u v e = ⊎_elim (λ z. inr z) (λ z. inl (eqb-true u v (not-false (eqb u v) z))) (and_cases a (not (eqb u v)) e)

module _ (g : CircuitDag) (s : List ℕ) where
  -- the end of the insertion
  abbrev near : End
  near = cond (front s) g.first g.last

  -- what makes the two ways differ, of an accepted record
  abbrev differs : Bool
  differs = brings_new (qubits_of s) near && not (eqb g.first.all.0 g.last.all.0)

  grown_same : size g < 512 → differs ≡ false → grown near_all g s ≡ grown far_all g s
  unfolding grown
  grown_same l h = ap (λ (x : Linked). facing (front s) (extended (front s) (facing (front s) g) s x (registered (facing (front s) g) s)))
      (linked_same (front s) g s (low_present (size g) l) (either (brings_new (qubits_of s) near) g.first.all.0 g.last.all.0 h))

  -- an accepted record of a sound graph
  taken_of : sound g ≡ true → Taken near_all g s → insert_of g s ≡ accepted near_all g s
  unfolding insert_by
  taken_of h t = rw h (taken_inserts near_all g s 0 t)

  -- where no accepted record differs here, none that is taken does
  taken_same : sound g ≡ true → differs_at g s ≡ false → Taken near_all g s → grown near_all g s ≡ grown far_all g s
  taken_same h d t = grown_same (leb-false 512 (size g) t.free) (ap (λ (x : Inserted). accepts x.answer && differs) (sym (taken_of h t)) ∙ d)

  -- a record that does not differ is inserted alike
  insert_same : differs_at g s ≡ false → insert_by FarAll g s ≡ insert_by NearAll g s
  unfolding insert_by
  insert_same d = ⊎_elim
      (λ (h : sound g ≡ true). rw h (sym (insert_alike near_all far_all g s 0 (taken_same h d))))
      (λ (h : sound g ≡ false). rw h refl)
      (bool_cases (sound g))

-- .. and so is a list of them
lists_same : (l : List (List ℕ)) (g : CircuitDag) → differs_from g l ≡ false → graph_after g (all_by FarAll l) ≡ graph_after g (all_by NearAll l)
unfolding graph_after differs_from
lists_same [] g h = refl
lists_same (s ∷ l) g h =
    ap (λ (x : Inserted). graph_after x.graph (all_by FarAll l)) (insert_same g s (or_l (differs_at g s) (differs_from (insert_of g s).graph l) h))
    ∙ lists_same l (insert_of g s).graph (or_r (differs_at g s) (differs_from (insert_of g s).graph l) h)

-- .. and a file of them
module _ (s : List ℕ) where
  records_same : (l : List ℕ) (g : CircuitDag) → Safe false g → differs_from g (map (record_at s) l) ≡ false
      → insert_records far_all s g l ≡ insert_records near_all s g l
  unfolding insert_records differs_from
  records_same [] g G h = refl
  records_same (i ∷ l) g G h =
      ap (step far_all) (sym (insert_alike near_all far_all g b i (taken_same g b (safe_sound g G) d)))
      ∙ ⊎_elim
      (λ (t : Taken near_all g b).
      let e = taken_of g b (safe_sound g G) t in
      let graph = ap (λ (x : Inserted). x.graph) e in
      ap (step far_all) (taken_inserts near_all g b i t)
      ∙ records_same l (grown near_all g b) (subst (λ (x : CircuitDag). Safe false x) graph (safe_insert NearAll g b G))
      (subst (λ (x : CircuitDag). differs_from x (map (record_at s) l) ≡ false) graph
      (or_r (differs_at g b) (differs_from (insert_of g b).graph (map (record_at s) l)) h))
      ∙ sym (ap (step near_all) (taken_inserts near_all g b i t)))
      (λ (c : (r : Refusal) × Cause near_all g b r).
      ap (step far_all) (cause_refuses near_all g b i c.0 c.1) ∙ sym (ap (step near_all) (cause_refuses near_all g b i c.0 c.1)))
      (taken-or-refused near_all g b)
    where
      b : List ℕ
      b = record_at s i

      d : differs_at g b ≡ false
      d = or_l (differs_at g b) (differs_from (insert_of g b).graph (map (record_at s) l)) h

      step : FarRule → Inserted → Loaded
      step rule x = elim x.answer as (λ y. Loaded) [ Ok v ↦ insert_records rule s x.graph l | Err r ↦ not_loaded r ]

  loads_same : differs_from empty (records_of s) ≡ false → load_by FarAll s ≡ load_by NearAll s
  unfolding load_by
  loads_same h = checked (check_file s)
    where
      checked : (c : Result ⊤ Refusal) → load_checked far_all c s ≡ load_checked near_all c s
      checked (Err r) = refl
      checked (Ok _) = records_same (up_to (count_of s)) empty safe_empty h

-- ---- the first record that differs

un_present : (a : ℕ) → present a ≡ false → a ≡ absent
un_present a h = eqb-true a absent (not-false (eqb a absent) h)

-- of two all-qubit nodes that give the same entry
else_same : (v a b : ℕ) → (present a ≡ true → a < v) → (present b ≡ true → b < v) → or_else a v ≡ or_else b v → a ≡ b
else_same v a b p q e = ⊎_elim
    (λ (x : present a ≡ true). ⊎_elim
    (λ (y : present b ≡ true). rw (x, y) at e)
    (λ (y : present b ≡ false). let z : a ≡ v = rw (x, y) at e in absurd (omega (arith, p x)))
    (bool_cases (present b)))
    (λ (x : present a ≡ false). ⊎_elim
    (λ (y : present b ≡ true). let z : v ≡ b = rw (x, y) at e in absurd (omega (arith, q y)))
    (λ (y : present b ≡ false). un_present a x ∙ sym (un_present b y))
    (bool_cases (present b)))
    (bool_cases (present a))

-- the far end's entry of the new qubit tells them apart
far_apart : (k : InvolvedQubits) (v : ℕ) (near far : End) → length near.node ≡ 64 → length far.node ≡ 64
    → (present near.all.0 ≡ true → near.all.0 < v) → (present far.all.0 ≡ true → far.all.0 < v)
    → brings_new k near ≡ true → (link_by k far_all v near far).far ≡ (link_by k near_all v near far).far → far.all.0 ≡ near.all.0
far_apart None v near far n f p r h e = absurd (clash_bool h refl)
far_apart All v near far n f p r h e = absurd (clash_bool h refl)
far_apart (Set m) v near far n f p r h e =
    let w = any_at (λ q. not (present (at_qubit near q))) (qubits m) 0 h in
    let q : ℕ = get_or (qubits m) w.0 0 in
    let i : member q (qubits m) ≡ true = at-any (eqb q) (qubits m) 0 w.0 w.1 (eqb_same q) in
    let new : present (at_qubit near q) ≡ false = not-true (present (at_qubit near q)) w.2 in
    let b : q < 64 = qubits_in 64 0 m q i in
    let x : at_qubit (link_set far_all m v near far).far q ≡ or_else far.all.0 v =
    (set_entries far_all (λ near far v q. refl) m v q near far i (omega arith) (omega arith)).1 ∙ rw new refl in
    let y : at_qubit (link_set near_all m v near far).far q ≡ or_else near.all.0 v =
    (set_entries near_all (λ near far v q. refl) m v q near far i (omega arith) (omega arith)).1 ∙ rw new refl in
    else_same v far.all.0 near.all.0 r p (sym x ∙ ap (λ (z : End). at_qubit z q) e ∙ y)

grown_apart : (g : CircuitDag) → Safe false g → (s : List ℕ) (b : Bool) → brings_new (qubits_of s) (cond b g.first g.last) ≡ true
    → grown_at far_all b g s ≡ grown_at near_all b g s → g.first.all.0 ≡ g.last.all.0
grown_apart g G s true h e = sym (far_apart (qubits_of s) (size g) g.first g.last G.far.nodes G.near.nodes
    (λ p. (G.far.all p).below) (λ p. (G.near.all p).below) h (ap (λ (z : CircuitDag). z.last) e))
grown_apart g G s false h e = far_apart (qubits_of s) (size g) g.last g.first G.near.nodes G.far.nodes
    (λ p. (G.near.all p).below) (λ p. (G.far.all p).below) h (ap (λ (z : CircuitDag). z.first) e)

-- a record that differs, on a safe graph
insert_apart : (g : CircuitDag) → Safe false g → (s : List ℕ) → differs_at g s ≡ true → (insert_by FarAll g s).graph ≡ (insert_by NearAll g s).graph → ⊥
unfolding insert_by grown
insert_apart g G s h e =
    let r = and_r (accepts (insert_of g s).answer) (differs g s) h in
    let n = and_l (brings_new (qubits_of s) (near g s)) _ r in
    let d = and_r (brings_new (qubits_of s) (near g s)) (not (eqb g.first.all.0 g.last.all.0)) r in
    let a : (insert_as far_all 0 g s).graph ≡ (insert_as near_all 0 g s).graph = rw (safe_sound g G) at e in
    ⊎_elim
    (λ (t : Taken near_all g s).
    let far = ap (λ (x : Inserted). x.graph) (taken_inserts far_all g s 0 (taken_by near_all far_all g s t)) in
    let old = ap (λ (x : Inserted). x.graph) (taken_inserts near_all g s 0 t) in
    clash_bool d (ap not (eq-eqb g.first.all.0 g.last.all.0 (grown_apart g G s (front s) n (sym far ∙ a ∙ old)))))
    (λ (c : (r : Refusal) × Cause near_all g s r).
    let k : accepts (insert_as near_all 0 g s).answer ≡ true = rw (safe_sound g G) at (and_l (accepts (insert_of g s).answer) (differs g s) h) in
    clash_bool k (ap (λ (x : Inserted). accepts x.answer) (cause_refuses near_all g s 0 c.0 c.1)))
    (taken-or-refused near_all g s)

pub two_ways : TwoWays
two_ways = record {
  same = λ l h. lists_same l empty h;
  loads = loads_same;
  apart = λ l s h p e. insert_apart (final l) (safe_built (all_by NearAll l)) s p
      (ap (λ (g : CircuitDag). (insert_by FarAll g s).graph) (sym (lists_same l empty h)) ∙ sym (after_last FarAll l empty s) ∙ e ∙ after_last NearAll l empty s);
}
