-- Document 01's sentences on the edges and entries of one insertion, as laws of the rules. Assumes nothing.
use mathlib.Core.Path.{◌≡◌, refl, sym, ◌∙◌}
use mathlib.Core.Bool.{Bool, true, false, cond, ◌&&◌}
use mathlib.Core.List.{List, [], ◌∷◌, ◌++◌}
use mathlib.Core.Logic.{◌⊎◌, inl, inr, ⊎_elim}
use Prim.Native.Nat.{ℕ, zero, suc, ◌+◌, ◌/◌, ◌%◌, ◌<◌, ◌≤◌}
use native.Mathlib.Omega.{arith}
use native.Mathlib.Decide.{ℕ_discrete}
use lib.Dec.{eqb, ltb}
use lib.ListN.{length, get_or, set, length-append, length-set}
use lib.Seq.{get_or-set_same, get_or-set_other}
use borrow.Author.Tests.{lt-ltb, le-ltb, ltb-true, eqb-true, eqb-false, eq-eqb, ne_eqb}
use Rattle.file.specs.Lists.{any_of, all_of, distinct, member, add, cons_if}
use Rattle.file.specs.declared.InvolvedQubits.{InvolvedQubits}
use Rattle.file.specs.declared.InvolvedQubits.TheVariants.{None, All, Set}
use Rattle.graph.specs.declared.End.{End}
use Rattle.graph.specs.Dag.{absent, present, or_else, at_qubit}
use Rattle.graph.specs.Soundness.{ascends}
use Rattle.file.proofs.BoolLaws.{bool_cases, clash_bool, both_true, flip-not}
use Rattle.graph.proofs.ListLaws.{distinct_first, distinct-rest, distinct_more, any-later}
use Rattle.links.specs.Links.{Linked, FarRule, near_all, far_all, source, near_after, far_after, no_qubit, qubits}
use Rattle.links.specs.declared.LoadingRule.{LoadingRule}
use Rattle.links.specs.declared.LoadingRule.TheVariants.{NearAll, FarAll}
use Rattle.links.specs.Links.{link_qubits, link_set, mapped, link_all, link_by}
use Rattle.links.specs.Links.{link_at, rule_of, qubits_from, edge_bound}
use Rattle.links.proofs.QubitLaws.{few_qubits, all_more, all_first, all_rest, qubits_ascend}

-- ---- tests and lists

module _ {A : Type 0} (p : A → Bool) where
  -- no entry passes
  none_more : (x : A) (l : List A) → p x ≡ false → any_of p l ≡ false → any_of p (x ∷ l) ≡ false
  unfolding any_of
  none_more x l e r = rw (any_of, e) r

  pub none_first : (x : A) (l : List A) → any_of p (x ∷ l) ≡ false → p x ≡ false
  unfolding any_of
  none_first x l h = ⊎_elim (λ (e : p x ≡ true). absurd (clash_bool refl (rw (any_of, e) at h))) (λ (e : p x ≡ false). e) (bool_cases (p x))

  pub none_rest : (x : A) (l : List A) → any_of p (x ∷ l) ≡ false → any_of p l ≡ false
  unfolding any_of
  none_rest x l h = let e = none_first x l h in rw (any_of, e) at h

  none_last : (l : List A) (x : A) → any_of p l ≡ false → p x ≡ false → any_of p (l ++ (x ∷ [])) ≡ false
  unfolding any_of
  none_last [] x h e = none_more x [] e h
  none_last (y ∷ l) x h e = none_more y (l ++ (x ∷ [])) (none_first y l h) (none_last l x (none_rest y l h) e)

  all_last : (l : List A) (x : A) → all_of p l ≡ true → p x ≡ true → all_of p (l ++ (x ∷ [])) ≡ true
  unfolding all_of
  all_last [] x h e = all_more p x [] e h
  all_last (y ∷ l) x h e = all_more p y (l ++ (x ∷ [])) (all_first p y l h) (all_last l x (all_rest p y l h) e)

distinct_last : (l : List ℕ) (x : ℕ) → distinct eqb l ≡ true → member x l ≡ false → distinct eqb (l ++ (x ∷ [])) ≡ true
unfolding distinct any_of
distinct_last [] x h e = refl
distinct_last (y ∷ l) x h e =
    let apart : eqb y x ≡ false = ne_eqb y x (λ (s : y ≡ x). eqb-false x y (none_first (eqb x) y l e) (sym s)) in
    distinct_more eqb y (l ++ (x ∷ [])) (none_last (eqb y) l x (distinct_first eqb y l h) apart) (distinct_last l x (distinct-rest eqb y l h) (none_rest (eqb x) y l e))

-- what ascends has no two the same
pub ascend_distinct : (l : List ℕ) → ascends l ≡ true → distinct eqb l ≡ true
unfolding ascends distinct any_of
ascend_distinct [] h = refl
ascend_distinct (x ∷ l) h = let b = both_true (all_of (ltb x) l) (ascends l) h in distinct_more eqb x l (apart l b.0) (ascend_distinct l b.1)
  where
    apart : (l : List ℕ) → all_of (ltb x) l ≡ true → member x l ≡ false
    apart [] h = refl
    apart (y ∷ l) h =
        let less : x < y = ltb-true x y (all_first (ltb x) y l h) in
        none_more (eqb x) y l (ne_eqb x y (omega arith)) (apart l (all_rest (ltb x) y l h))

-- ---- nodes and qubits

-- a node number is not that of an absent node
pub low_present : (v : ℕ) → v < 512 → present v ≡ true
low_present v l = flip-not (eqb v absent) (ne_eqb v absent (omega arith))

-- the qubits of any mask, a number of any size, are below 64
pub qubits_in : (k j m q : ℕ) → member q (qubits_from k j m) ≡ true → q < j + k
unfolding qubits_from any_of
qubits_in zero j m q h = absurd (clash_bool h refl)
qubits_in (suc k) j m q h = go (eqb (m % 2) 1) (λ t. omega (arith, qubits_in k (j + 1) (m / 2) q t)) h
  where
    rest : List ℕ
    rest = qubits_from k (j + 1) (m / 2)

    go : (b : Bool) → (member q rest ≡ true → q < j + suc k) → member q (cons_if b j rest) ≡ true → q < j + suc k
    go false later t = later t
    go true later t = elim (ℕ_discrete q j) [
      | yes e ↦ omega arith
      | no e ↦ later (sym (any-later (eqb q) j rest (ne_eqb q j e)) ∙ t)
    ]

-- ---- the other nodes of one insertion

-- the node u, which may be absent, comes to a set kept as a list
abbrev pub add_present : ℕ → List ℕ → List ℕ
add_present u l = cond (present u) (add u l) l

pub add-length : (u : ℕ) (l : List ℕ) → length (add_present u l) ≤ length l + 1
add-length u l = go (present u) (member u l)
  where
    go : (a b : Bool) → length (cond a (cond b l (l ++ (u ∷ []))) l) ≤ length l + 1
    go true true = omega arith
    go true false = rw (length-append l (u ∷ [])) (omega arith)
    go false b = omega arith

add-distinct : (u : ℕ) (l : List ℕ) → distinct eqb l ≡ true → distinct eqb (add_present u l) ≡ true
add-distinct u l h =
    ⊎_elim
    (λ (e : member u l ≡ true). rw e (go (present u) l h h))
    (λ (e : member u l ≡ false). rw e (go (present u) (l ++ (u ∷ [])) (distinct_last l u h e) h))
    (bool_cases (member u l))
  where
    go : (a : Bool) (r : List ℕ) → distinct eqb r ≡ true → distinct eqb l ≡ true → distinct eqb (cond a r l) ≡ true
    go true r x y = x
    go false r x y = y

add-below : (v u : ℕ) (l : List ℕ) → (present u ≡ true → u < v) → all_of (λ w. ltb w v) l ≡ true → all_of (λ w. ltb w v) (add_present u l) ≡ true
add-below v u l small h =
    ⊎_elim
    (λ (e : present u ≡ true). rw e (go (member u l) (all_last (λ w. ltb w v) l u h (lt-ltb u v (small e)))))
    (λ (e : present u ≡ false). rw e h)
    (bool_cases (present u))
  where
    go : (b : Bool) → all_of (λ w. ltb w v) (l ++ (u ∷ [])) ≡ true → all_of (λ w. ltb w v) (cond b l (l ++ (u ∷ []))) ≡ true
    go true x = h
    go false x = x

-- one qubit of a Set
abbrev pub link_one : FarRule → ℕ → ℕ → Linked → Linked
link_one rule v q x = record {
  near = near_after x.near q v;
  far = far_after rule x.near x.far q v;
  others = add_present (source x.near q) x.others;
}

module _ (rule : FarRule) (v : ℕ) where
  link-length : (qs : List ℕ) (x : Linked) → length (link_qubits rule qs v x).others ≤ length x.others + length qs
  unfolding link_qubits
  link-length [] x = omega arith
  link-length (q ∷ qs) x =
      let r = link-length qs (link_one rule v q x) in
      let a = add-length (source x.near q) x.others in
      omega (arith, r, a)

  link-distinct : (qs : List ℕ) (x : Linked) → distinct eqb x.others ≡ true → distinct eqb (link_qubits rule qs v x).others ≡ true
  unfolding link_qubits
  link-distinct [] x h = h
  link-distinct (q ∷ qs) x h = link-distinct qs (link_one rule v q x) (add-distinct (source x.near q) x.others h)

  link-below : (qs : List ℕ) (x : Linked) → distinct eqb qs ≡ true
      → ((q : ℕ) → member q qs ≡ true → present (at_qubit x.near q) ≡ true → at_qubit x.near q < v)
      → (present x.near.all.0 ≡ true → x.near.all.0 < v) → all_of (λ w. ltb w v) x.others ≡ true
      → all_of (λ w. ltb w v) (link_qubits rule qs v x).others ≡ true
  unfolding link_qubits any_of
  link-below [] x d h a o = o
  link-below (q ∷ qs) x d h a o =
      link-below qs (link_one rule v q x) (distinct-rest eqb q qs d) rest a (add-below v (source x.near q) x.others small o)
    where
      here : member q (q ∷ qs) ≡ true
      here = rw (any_of, eq-eqb q q refl) refl

      later : (j : ℕ) → member j qs ≡ true → member j (q ∷ qs) ≡ true
      later j m = ⊎_elim (λ (e : eqb j q ≡ true). rw (any_of, e) refl) (λ (e : eqb j q ≡ false). rw (any_of, e) m) (bool_cases (eqb j q))

      small : present (source x.near q) ≡ true → source x.near q < v
      small =
          ⊎_elim
          (λ (e : present (at_qubit x.near q) ≡ true). rw e (h q here))
          (λ (e : present (at_qubit x.near q) ≡ false). rw e a)
          (bool_cases (present (at_qubit x.near q)))

      rest : (j : ℕ) → member j qs ≡ true → present (get_or (set x.near.node q v) j absent) ≡ true → get_or (set x.near.node q v) j absent < v
      rest j m =
          let apart : j ≡ q → ⊥ = λ (e : j ≡ q). clash_bool (rw e at m) (distinct_first eqb q qs d) in
          rw (get_or-set_other x.near.node q j v absent apart) (h j (later j m))

-- "every node in the last map", once
mapped-length : (l seen : List ℕ) → length (mapped l seen) ≤ length seen + length l
unfolding mapped
mapped-length [] seen = omega arith
mapped-length (u ∷ l) seen = let r = mapped-length l (add_present u seen) in let a = add-length u seen in omega (arith, r, a)

mapped-distinct : (l seen : List ℕ) → distinct eqb seen ≡ true → distinct eqb (mapped l seen) ≡ true
unfolding mapped
mapped-distinct [] seen h = h
mapped-distinct (u ∷ l) seen h = mapped-distinct l (add_present u seen) (add-distinct u seen h)

mapped-below : (v : ℕ) (l seen : List ℕ) → ((q : ℕ) → present (get_or l q absent) ≡ true → get_or l q absent < v) → all_of (λ w. ltb w v) seen ≡ true
    → all_of (λ w. ltb w v) (mapped l seen) ≡ true
unfolding mapped
mapped-below v [] seen h o = o
mapped-below v (u ∷ l) seen h o = mapped-below v l (add_present u seen) (λ q. h (suc q)) (add-below v u seen (h 0) o)

-- "their count bounds the edges added": "count of ones bounds edges added by a Set"
pub set_bound : (rule : FarRule) (m v : ℕ) (near far : End) → length (link_set rule m v near far).others ≤ length (qubits m)
unfolding link_set
set_bound rule m v near far = let b = link-length rule v (qubits m) (record { near = near; far = far; others = [] }) in omega (arith, b)

-- an All adds at most an edge for each entry of the map
all_bound : (v : ℕ) (near far : End) → length (link_all v near far).others ≤ length near.node
unfolding link_all
all_bound v near far = let b = mapped-length near.node [] in go (no_qubit near && no_qubit far) (omega (arith, b))
  where
    go : (e : Bool) → length (mapped near.node []) ≤ length near.node → length (cond e [] (mapped near.node [])) ≤ length near.node
    go true h = omega arith
    go false h = h

-- .. and any record no more than its bound
pub others_bound : (q : InvolvedQubits) (rule : FarRule) (v : ℕ) (near far : End) → length near.node ≡ 64 → length (link_by q rule v near far).others ≤ edge_bound q
others_bound None rule v near far h = omega arith
others_bound All rule v near far h = omega (arith, all_bound v near far, h)
others_bound (Set m) rule v near far h = set_bound rule m v near far

pub surely_fits : (n k b : ℕ) → k ≤ b → n + b ≤ 2048 → false ≡ ltb 2048 (n + k)
surely_fits n k b h f = sym (le-ltb 2048 (n + k) (omega arith))

pub bound_few : (q : InvolvedQubits) → edge_bound q ≤ 64
bound_few None = omega arith
bound_few All = omega arith
bound_few (Set m) = few_qubits 64 0 m

-- "the edge stands once, however often added"
pub others_distinct : (q : InvolvedQubits) (rule : FarRule) (v : ℕ) (near far : End) → distinct eqb (link_by q rule v near far).others ≡ true
unfolding distinct link_set link_all
others_distinct None rule v near far = refl
others_distinct All rule v near far = go (no_qubit near && no_qubit far)
  where
    go : (e : Bool) → distinct eqb (cond e [] (mapped near.node [])) ≡ true
    go true = refl
    go false = mapped-distinct near.node [] refl
others_distinct (Set m) rule v near far = link-distinct rule v (qubits m) (record { near = near; far = far; others = [] }) refl

-- every new edge joins v with a node that stood before
pub others_below : (q : InvolvedQubits) (rule : FarRule) (v : ℕ) (near far : End) → ((j : ℕ) → present (at_qubit near j) ≡ true → at_qubit near j < v)
    → (present near.all.0 ≡ true → near.all.0 < v) → all_of (λ w. ltb w v) (link_by q rule v near far).others ≡ true
unfolding all_of link_set link_all
others_below None rule v near far h a = refl
others_below All rule v near far h a = go (no_qubit near && no_qubit far)
  where
    go : (e : Bool) → all_of (λ w. ltb w v) (cond e [] (mapped near.node [])) ≡ true
    go true = refl
    go false = mapped-below v near.node [] h refl
others_below (Set m) rule v near far h a =
    link-below rule v (qubits m) (record { near = near; far = far; others = [] }) (ascend_distinct (qubits m) (qubits_ascend 64 0 m)) (λ j i. h j) a refl

-- ---- the entries of the maps

-- one step at qubit r leaves the entry of another qubit as it is
near_other : (near : End) (r v q : ℕ) → (q ≡ r → ⊥) → at_qubit (near_after near r v) q ≡ at_qubit near q
near_other near r v q apart = get_or-set_other near.node r q v absent apart

far_other : (rule : FarRule) (near far : End) (r v q : ℕ) → (q ≡ r → ⊥) → at_qubit (far_after rule near far r v) q ≡ at_qubit far q
far_other rule near far r v q apart =
    ⊎_elim
    (λ (e : present (at_qubit near r) ≡ true). rw e refl)
    (λ (e : present (at_qubit near r) ≡ false). rw e (get_or-set_other far.node r q (or_else (rule near far) v) absent apart))
    (bool_cases (present (at_qubit near r)))

far-length : (rule : FarRule) (near far : End) (r v : ℕ) → length (far_after rule near far r v).node ≡ length far.node
far-length rule near far r v =
    ⊎_elim
    (λ (e : present (at_qubit near r) ≡ true). rw e refl)
    (λ (e : present (at_qubit near r) ≡ false). rw (e, length-set) refl)
    (bool_cases (present (at_qubit near r)))

-- "If q was new, first[q] becomes lastAll, or v if that is absent." Otherwise it stays
abbrev pub far_entry : FarRule → End → End → ℕ → ℕ → ℕ
far_entry rule near far v q = cond (present (at_qubit near q)) (at_qubit far q) (or_else (rule near far) v)

far_here : (rule : FarRule) (near far : End) (v q : ℕ) → q < length far.node → at_qubit (far_after rule near far q v) q ≡ far_entry rule near far v q
far_here rule near far v q h =
    ⊎_elim
    (λ (e : present (at_qubit near q) ≡ true). rw e refl)
    (λ (e : present (at_qubit near q) ≡ false). rw e (get_or-set_same far.node q (or_else (rule near far) v) absent h))
    (bool_cases (present (at_qubit near q)))

-- where the rule names a node, one of the ends names that node as its all-qubit node
abbrev pub NamesAll : FarRule → Type 0
NamesAll rule = (near far : End) → present (rule near far) ≡ true → (rule near far ≡ near.all.0) ⊎ (rule near far ≡ far.all.0)

pub names_all : (b : LoadingRule) → NamesAll (rule_of b)
names_all NearAll near far p = inl refl
names_all FarAll near far p = inr refl

-- what the rule names is the same after one qubit
abbrev pub Steady : FarRule → Type 0
Steady rule = (near far : End) (v q : ℕ) → rule (near_after near q v) (far_after rule near far q v) ≡ rule near far

pub steady_rule : (b : LoadingRule) → Steady (rule_of b)
steady_rule NearAll near far v q = refl
steady_rule FarAll near far v q = refl

module _ (rule : FarRule) (v q : ℕ) where
  -- a qubit that is not among them keeps its entries
  link_outside : (qs : List ℕ) (x : Linked) → member q qs ≡ false
      → (at_qubit (link_qubits rule qs v x).near q ≡ at_qubit x.near q) × (at_qubit (link_qubits rule qs v x).far q ≡ at_qubit x.far q)
  unfolding link_qubits
  link_outside [] x m = (refl, refl)
  link_outside (r ∷ qs) x m =
      let apart : q ≡ r → ⊥ = eqb-false q r (none_first (eqb q) r qs m) in
      let i = link_outside qs (link_one rule v r x) (none_rest (eqb q) r qs m) in
      (i.0 ∙ near_other x.near r v q apart, i.1 ∙ far_other rule x.near x.far r v q apart)

  -- one that is among them gets v in near, and its entry in far
  link_inside : Steady rule → (qs : List ℕ) (x : Linked) → distinct eqb qs ≡ true → member q qs ≡ true → q < length x.near.node → q < length x.far.node
      → (at_qubit (link_qubits rule qs v x).near q ≡ v) × (at_qubit (link_qubits rule qs v x).far q ≡ far_entry rule x.near x.far v q)
  unfolding link_qubits any_of
  link_inside steady [] x d m hn hf = absurd (clash_bool m refl)
  link_inside steady (r ∷ qs) x d m hn hf =
      ⊎_elim
      (λ (e : eqb q r ≡ true).
      let s : q ≡ r = eqb-true q r e in
      let o = link_outside qs (link_one rule v r x) (rw s (distinct_first eqb r qs d)) in
      let n : at_qubit (near_after x.near r v) q ≡ v = rw (← s) (get_or-set_same x.near.node q v absent hn) in
      let f : at_qubit (far_after rule x.near x.far r v) q ≡ far_entry rule x.near x.far v q = rw (← s) (far_here rule x.near x.far v q hf) in
      (o.0 ∙ n, o.1 ∙ f))
      (λ (e : eqb q r ≡ false).
      let apart : q ≡ r → ⊥ = eqb-false q r e in
      let hn' : q < length (set x.near.node r v) = rw length-set hn in
      let hf' : q < length (far_after rule x.near x.far r v).node = rw (far-length rule x.near x.far r v) hf in
      let i = link_inside steady qs (link_one rule v r x) (distinct-rest eqb r qs d) (rw (any_of, e) at m) hn' hf' in
      (i.0, i.1 ∙ rw (near_other x.near r v q apart, far_other rule x.near x.far r v q apart, steady x.near x.far v r) refl))
      (bool_cases (eqb q r))

-- "last[q] becomes v": the entries of a Set's qubit
pub set_entries : (rule : FarRule) → Steady rule → (m v q : ℕ) (near far : End) → member q (qubits m) ≡ true → q < length near.node → q < length far.node
    → (at_qubit (link_set rule m v near far).near q ≡ v) × (at_qubit (link_set rule m v near far).far q ≡ far_entry rule near far v q)
unfolding link_set
set_entries rule steady m v q near far i hn hf =
    link_inside rule v q steady (qubits m) (record { near = near; far = far; others = [] }) (ascend_distinct (qubits m) (qubits_ascend 64 0 m)) i hn hf

-- a qubit outside the Set keeps its entries
pub set_outside : (rule : FarRule) (m v q : ℕ) (near far : End) → member q (qubits m) ≡ false
    → (at_qubit (link_set rule m v near far).near q ≡ at_qubit near q) × (at_qubit (link_set rule m v near far).far q ≡ at_qubit far q)
unfolding link_set
set_outside rule m v q near far i = link_outside rule v q (qubits m) (record { near = near; far = far; others = [] }) i

module _ (m v q : ℕ) (first last : End) (among : member q (qubits m) ≡ true) (in_first : q < length first.node) (in-last : q < length last.node) where
  -- back: "If q was new, first[q] becomes lastAll"
  pub new-back : present (at_qubit last q) ≡ false → present last.all.0 ≡ true → at_qubit (link_at near_all false (Set m) v first last).far q ≡ last.all.0
  new-back n a = (set_entries near_all (λ near far v q. refl) m v q last first among in-last in_first).1 ∙ rw (n, a) refl

  -- ".. or v if that is absent"
  pub new_alone : present (at_qubit last q) ≡ false → present last.all.0 ≡ false → at_qubit (link_at near_all false (Set m) v first last).far q ≡ v
  new_alone n a = (set_entries near_all (λ near far v q. refl) m v q last first among in-last in_first).1 ∙ rw (n, a) refl

  -- front: "So a new q gets last[q] = firstAll."
  pub new-front : present (at_qubit first q) ≡ false → present first.all.0 ≡ true → at_qubit (link_at near_all true (Set m) v first last).far q ≡ first.all.0
  new-front n a = (set_entries near_all (λ near far v q. refl) m v q first last among in_first in-last).1 ∙ rw (n, a) refl

  -- K6: "a new qubit added at the back gets first[q] = firstAll, ..
  pub far-back : present (at_qubit last q) ≡ false → present first.all.0 ≡ true → at_qubit (link_at far_all false (Set m) v first last).far q ≡ first.all.0
  far-back n a = (set_entries far_all (λ near far v q. refl) m v q last first among in-last in_first).1 ∙ rw (n, a) refl

  -- .. and one added at the front gets last[q] = lastAll, ..
  pub far-front : present (at_qubit first q) ≡ false → present last.all.0 ≡ true → at_qubit (link_at far_all true (Set m) v first last).far q ≡ last.all.0
  far-front n a = (set_entries far_all (λ near far v q. refl) m v q first last among in_first in-last).1 ∙ rw (n, a) refl

  -- .. or the new node itself where that is absent", at the back ..
  pub far_alone : present (at_qubit last q) ≡ false → present first.all.0 ≡ false → at_qubit (link_at far_all false (Set m) v first last).far q ≡ v
  far_alone n a = (set_entries far_all (λ near far v q. refl) m v q last first among in-last in_first).1 ∙ rw (n, a) refl

  -- .. and at the front
  pub far_alone_front : present (at_qubit first q) ≡ false → present last.all.0 ≡ false → at_qubit (link_at far_all true (Set m) v first last).far q ≡ v
  far_alone_front n a = (set_entries far_all (λ near far v q. refl) m v q first last among in_first in-last).1 ∙ rw (n, a) refl
