-- One insertion on the graph's two ends is the insertion on a net: "Set", "All" and records without qubits. near is the end of
-- the insertion, far the other. Assumes nothing.
use mathlib.Core.Path.{◌≡◌, refl, sym, ◌∙◌, ap}
use mathlib.Core.Bool.{Bool, true, false, cond, not, ◌&&◌, ◌||◌, or-false, or-true, or_assoc, and-false, and-true}
use mathlib.Core.Logic.{⊎_elim}
use mathlib.Core.Option.{Option, none, some}
use mathlib.Core.List.{List, [], ◌∷◌}
use Prim.Native.Nat.{ℕ, ◌+◌, ◌<◌}
use native.Mathlib.Omega.{arith}
use native.Mathlib.Decide.{dec_lt, ℕ_discrete}
use lib.Dec.{eqb}
use lib.ListN.{length, get_or, set, replicate, length-set, length-replicate, get_or-eq_default, get_or-map}
use lib.Seq.{get_or-set_same, get_or-set_other}
use borrow.Author.Tests.{eqb-true, ne_eqb, not-true as not-flip}
use Rattle.file.specs.Lists.{any_of, distinct, is_empty, member}
use Rattle.file.specs.declared.InvolvedQubits.{InvolvedQubits}
use Rattle.file.specs.declared.InvolvedQubits.TheVariants.{None, All, Set}
use Rattle.graph.specs.declared.End.{End}
use Rattle.graph.specs.Dag.{absent, present, or_else, at_qubit}
use Rattle.file.proofs.BoolLaws.{bool_cases, clash_bool, not-true, bool_ext, and_l, and_r, and_intro, or_inl, or_inr, flip-not, eqb_same, eqb-flip}
use Rattle.graph.proofs.ListLaws.{any_here, any-later, any_at, at-any, any_snoc, distinct_first, distinct-rest}
use Rattle.links.specs.Links.{Linked, FarRule, rule_of, is_far, source, near_after, no_qubit, qubits, link_qubits, link_set, mapped, link_all, link_by}
use Rattle.links.specs.declared.LoadingRule.{LoadingRule}
use Rattle.links.specs.declared.LoadingRule.TheVariants.{NearAll, FarAll}
use Rattle.links.proofs.QubitLaws.{qubits_ascend}
use Rattle.links.proofs.LinkLaws.{low_present, qubits_in, add_present, link_one, ascend_distinct, steady_rule, set_entries, set_outside, far_entry}
use Rattle.graph.proofs.ListLaws.{all_same}
use Rattle.walk.proofs.Bounds.{any, any_intro, any_elim, any-and, and-any, any_ext, any_none, none_any}
use Rattle.walk.proofs.BlockSteps.{any_list, not-empty, empty-not}
use Rattle.guarantee.proofs.Nets.{Net, Take, nothing, every, these, is}
use Rattle.guarantee.proofs.Nets.{or_else as else, present as option_is_some, or, source as source_in, far as far_in, back_these}
use Rattle.guarantee.proofs.Nets.{back_every, back_nothing, back, no_qubits}

-- ---- an entry that may be absent

abbrev pub found : ℕ → Option ℕ
found v = cond (present v) (some v) none

abbrev pub is_at : ℕ → ℕ → Bool
is_at s u = present s && eqb s u

found_some : (v : ℕ) → option_is_some (found v) ≡ present v
found_some v = go (present v)
  where
    go : (b : Bool) → option_is_some (cond b (some v) none) ≡ b
    go true = refl
    go false = refl

found-is : (v a : ℕ) → is (found v) a ≡ is_at v a
found-is v a = go (present v)
  where
    go : (b : Bool) → is (cond b (some v) none) a ≡ (b && eqb v a)
    go true = refl
    go false = refl

found_else : (a b : ℕ) → else (found a) (found b) ≡ found (or_else a b)
found_else a b = ⊎_elim
    (λ (e : present a ≡ true). rw e (rw e refl))
    (λ (e : present a ≡ false). rw e refl)
    (bool_cases (present a))

found-or : (a v : ℕ) → v < 512 → some (or (found a) v) ≡ found (or_else a v)
found-or a v l = ⊎_elim
    (λ (e : present a ≡ true). rw e (rw e refl))
    (λ (e : present a ≡ false). rw (e, low_present v l) refl)
    (bool_cases (present a))

found_low : (v : ℕ) → v < 512 → found v ≡ some v
found_low v l = rw (low_present v l) refl

-- ---- a node that joins a block

no_more : (x y : Bool) → (x || (y && false)) ≡ x
no_more x y = ap (λ (b : Bool). x || b) (and-false y) ∙ or-false x

block_joins : (l : List Bool) (n u : ℕ) → n < length l → (get_or l u false || (eqb u n && true)) ≡ get_or (set l n true) u false
block_joins l n u h = elim (ℕ_discrete u n) [
  | yes e ↦ rw (e, eqb_same n) (or-true (get_or l n false) ∙ sym (get_or-set_same l n true false h))
  | no e ↦ rw (ne_eqb u n e) (or-false (get_or l u false) ∙ sym (get_or-set_other l n u true false e))
]

-- ---- lists

any_cons : {A : Type 0} (p : A → Bool) (x : A) (l : List A) → any_of p (x ∷ l) ≡ (p x || any_of p l)
any_cons p x l = ⊎_elim
    (λ (e : p x ≡ true). any_here p x l e ∙ sym (or_inl (p x) (any_of p l) e))
    (λ (e : p x ≡ false). any-later p x l e ∙ rw e refl)
    (bool_cases (p x))

any_cong : (l : List ℕ) (p r : ℕ → Bool) → ((q : ℕ) → member q l ≡ true → p q ≡ r q) → any_of p l ≡ any_of r l
unfolding any_of
any_cong [] p r h = refl
any_cong (x ∷ l) p r h = any_cons p x l
    ∙ (λ i. h x (any_here (eqb x) x l (eqb_same x)) i || any_cong l p r (λ q m. h q (any_cons (eqb q) x l ∙ or_inr (eqb q x) (member q l) m)) i)
    ∙ sym (any_cons r x l)

member-any : (p : ℕ → Bool) (l : List ℕ) (q : ℕ) → member q l ≡ true → p q ≡ true → any_of p l ≡ true
member-any p l q m h =
    let r = any_at (eqb q) l 0 m in
    let e : q ≡ get_or l r.0 0 = eqb-true q (get_or l r.0 0) r.2 in
    at-any p l 0 r.0 r.1 (rw (← e) h)

any-member : (p : ℕ → Bool) (l : List ℕ) → any_of p l ≡ true → (q : ℕ) × (member q l ≡ true) × (p q ≡ true)
any-member p l h = let r = any_at p l 0 h in (get_or l r.0 0, at-any (eqb (get_or l r.0 0)) l 0 r.0 r.1 (eqb_same (get_or l r.0 0)), r.2)

member-add : (a u : ℕ) (l : List ℕ) → member a (add_present u l) ≡ (member a l || is_at u a)
member-add a u l = ⊎_elim
    (λ (p : present u ≡ true). rw p (⊎_elim
    (λ (m : member u l ≡ true). rw m (elim (ℕ_discrete u a) [
      | yes e ↦ (let t : member a l ≡ true = rw (← e) m in rw t refl)
      | no e ↦ rw (ne_eqb u a e) (sym (or-false (member a l)))
    ]))
    (λ (m : member u l ≡ false). rw m (any_snoc (eqb a) l u ∙ ap (λ (b : Bool). member a l || b) (eqb-flip a u)))
    (bool_cases (member u l))))
    (λ (p : present u ≡ false). rw p (sym (or-false (member a l))))
    (bool_cases (present u))

-- ---- the qubits of a mask

-- which qubits a mask has
abbrev pub has : ℕ → ℕ → Bool
has m q = member q (qubits m)

pub has-any : (m : ℕ) (p : ℕ → Bool) → any_of p (qubits m) ≡ any 64 (λ q. has m q && p q)
has-any m p = bool_ext _ _
    (λ h. let r = any-member p (qubits m) h in and-any 64 (has m) p r.0 (omega (arith, qubits_in 64 0 m r.0 r.1)) r.1 r.2)
    (λ h. let r = any-and 64 (has m) p h in member-any p (qubits m) r.0 r.2 r.3)

pub has_some : (m : ℕ) → any 64 (has m) ≡ not (is_empty (qubits m))
has_some m = bool_ext _ _
    (λ h. let r = any_elim 64 (has m) h in flip-not _ (not-true (λ e. clash_bool r.2 (empty-not (qubits m) e r.0))))
    (λ h. let w = not-empty (qubits m) (not-flip _ h) in any_intro 64 (has m) w.0 (omega (arith, qubits_in 64 0 m w.0 w.1)) w.1)

-- ---- "Set, each qubit q"

module _ (v : ℕ) where
  source_other : (near : End) (q j : ℕ) → (j ≡ q → ⊥) → source (near_after near q v) j ≡ source near j
  source_other near q j h = ap (λ (u : ℕ). or_else u near.all.0) (get_or-set_other near.node q j v absent h)

  link_all_lem : (rule : FarRule) (qs : List ℕ) (x : Linked)
      → ((link_qubits rule qs v x).near.all ≡ x.near.all) × ((link_qubits rule qs v x).far.all ≡ x.far.all) × ((link_qubits rule qs v x).far.block ≡ x.far.block)
  unfolding link_qubits
  link_all_lem rule [] x = (refl, refl, refl)
  link_all_lem rule (q ∷ qs) x = link_all_lem rule qs (link_one rule v q x)

  others_other : (near : End) (q u : ℕ) (qs : List ℕ) → member q qs ≡ false → any_of (λ j. is_at (source (near_after near q v) j) u) qs ≡ any_of (λ j. is_at (source near j) u) qs
  others_other near q u qs m = any_cong qs _ _ (λ j i. ap (λ (s : ℕ). is_at s u) (source_other near q j (λ (e : j ≡ q). clash_bool (rw e at i) m)))

  link_others : (rule : FarRule) (qs : List ℕ) (x : Linked) → distinct eqb qs ≡ true → (a : ℕ)
      → member a (link_qubits rule qs v x).others ≡ (member a x.others || any_of (λ q. is_at (source x.near q) a) qs)
  unfolding link_qubits any_of
  link_others rule [] x d a = sym (or-false (member a x.others))
  link_others rule (q ∷ qs) x d a = link_others rule qs (link_one rule v q x) (distinct-rest eqb q qs d) a
      ∙ (λ i. member-add a (source x.near q) x.others i || others_other x.near q a qs (distinct_first eqb q qs d) i)
      ∙ or_assoc (member a x.others) (is_at (source x.near q) a) _
      ∙ ap (λ (b : Bool). member a x.others || b) (sym (any_cons (λ q. is_at (source x.near q) a) q qs))

  taken_at : (b : List Bool) (s u : ℕ) → length b ≡ 512 → (present s ≡ true → s < 512) → get_or (cond (present s) (set b s false) b) u false ≡ (get_or b u false && not (is_at s u))
  taken_at b s u n l = ⊎_elim
      (λ (p : present s ≡ true). rw p (elim (ℕ_discrete u s) [
        | yes e ↦ rw (e, eqb_same s) (get_or-set_same b s false false (omega (arith, l p)) ∙ sym (and-false (get_or b s false)))
        | no e ↦ rw (ne_eqb s u (λ k. e (sym k))) (get_or-set_other b s u false false e ∙ sym (and-true (get_or b u false)))
      ]))
      (λ (p : present s ≡ false). rw p (sym (and-true (get_or b u false))))
      (bool_cases (present s))

  taken-length : (b : List Bool) (s : ℕ) (c : Bool) → length (cond c (set b s false) b) ≡ length b
  taken-length b s true = length-set b s false
  taken-length b s false = refl

  block_one : (near : End) (q u : ℕ) → v < 512 → length near.block ≡ 512 → (present (source near q) ≡ true → source near q < 512)
      → get_or (near_after near q v).block u false ≡ (eqb u v || (get_or near.block u false && not (is_at (source near q) u)))
  block_one near q u l n s = elim (ℕ_discrete u v) [
    | yes e ↦ rw (e, eqb_same v) (get_or-set_same taken v true false (omega (arith, taken-length near.block (source near q) (present (source near q)))))
    | no e ↦ rw (ne_eqb u v e) (get_or-set_other taken v u true false e ∙ taken_at near.block (source near q) u n s)
  ]
    where
      taken : List Bool
      taken = cond (present (source near q)) (set near.block (source near q) false) near.block

  tail_table : (E N T I A : Bool) → (A ≡ true → N ≡ true) → ((E && N) || ((E || (T && not I)) && not A)) ≡ ((E && true) || (T && not (I || A)))
  tail_table true true T I A h = refl
  tail_table true false T I true h = absurd (clash_bool (h refl) refl)
  tail_table true false T I false h = refl
  tail_table false N true true A h = refl
  tail_table false N true false A h = refl
  tail_table false N false I A h = refl

  nil_table : (E T : Bool) → T ≡ ((E && false) || (T && true))
  nil_table true true = refl
  nil_table true false = refl
  nil_table false true = refl
  nil_table false false = refl

  link-block : (rule : FarRule) (qs : List ℕ) (x : Linked) → distinct eqb qs ≡ true → v < 512 → length x.near.block ≡ 512
      → ((q : ℕ) → present (source x.near q) ≡ true → source x.near q < 512) → (u : ℕ)
      → get_or (link_qubits rule qs v x).near.block u false
      ≡ ((eqb u v && not (is_empty qs)) || (get_or x.near.block u false && not (any_of (λ q. is_at (source x.near q) u) qs)))
  unfolding link_qubits any_of
  link-block rule [] x d l n s u = nil_table (eqb u v) (get_or x.near.block u false)
  link-block rule (q ∷ qs) x d l n s u = link-block rule qs (link_one rule v q x) (distinct-rest eqb q qs d) l length_one after u
      ∙ (λ i. (eqb u v && not (is_empty qs)) || (block_one x.near q u l n (s q) i && not (others_other x.near q u qs (distinct_first eqb q qs d) i)))
      ∙ tail_table (eqb u v) (not (is_empty qs)) (get_or x.near.block u false) (is_at (source x.near q) u) (any_of (λ j. is_at (source x.near j) u) qs) (some_in qs)
      ∙ ap (λ (b : Bool). (eqb u v && true) || (get_or x.near.block u false && not b)) (sym (any_cons (λ j. is_at (source x.near j) u) q qs))
    where
      some_in : (l : List ℕ) → any_of (λ j. is_at (source x.near j) u) l ≡ true → not (is_empty l) ≡ true
      some_in [] h = h
      some_in (j ∷ l) h = refl

      length_one : length (near_after x.near q v).block ≡ 512
      length_one = length-set (cond (present (source x.near q)) (set x.near.block (source x.near q) false) x.near.block) v true ∙ taken-length x.near.block (source x.near q) (present (source x.near q)) ∙ n

      after : (j : ℕ) → present (source (near_after x.near q v) j) ≡ true → source (near_after x.near q v) j < 512
      after j = elim (ℕ_discrete j q) [
        | yes e ↦ elim (dec_lt q (length x.near.node)) [
          | yes k ↦ (let z : source (near_after x.near q v) j ≡ v = ap (λ (t : ℕ). source (near_after x.near q v) t) e ∙ rw (get_or-set_same x.near.node q v absent k, low_present v l) refl in λ p. omega arith)
          | no k ↦ (let z : source (near_after x.near q v) j ≡ source x.near j = ap (λ (t : ℕ). or_else t x.near.all.0) (get_or-eq_default (set x.near.node q v) absent {n = j} (rw length-set (omega arith)) ∙ sym (get_or-eq_default x.near.node absent {n = j} (omega arith))) in
              rw z (s j))
        ]
        | no e ↦ rw (source_other x.near q j e) (s j)
      ]

-- ---- the net of a graph's two ends

-- what the net N and the graph have in common: n nodes, the edges E, the maps and the blocks
pub record Sees (n : ℕ) (E : ℕ → ℕ → Bool) (near far : End) (N : Net) : Type 0 where
  pub size : N.size ≡ n
  pub edges : (a b : ℕ) → N.edge a b ≡ E a b
  pub lasts : (q : ℕ) → q < 64 → N.last q ≡ found (at_qubit near q)
  pub firsts : (q : ℕ) → q < 64 → N.first q ≡ found (at_qubit far q)
  pub last_all_lem : N.last_all ≡ found near.all.0
  pub first_all_lem : N.first_all ≡ found far.all.0
  pub tails : (u : ℕ) → N.tail u ≡ get_or near.block u false
  pub heads : (u : ℕ) → N.head u ≡ get_or far.block u false

-- the arrays' lengths, and that all they name stands below n
pub record Fits (n : ℕ) (near far : End) : Type 0 where
  pub low : n < 512
  pub near_nodes : length near.node ≡ 64
  pub far_nodes : length far.node ≡ 64
  pub near_block : length near.block ≡ 512
  pub far-block : length far.block ≡ 512
  pub entries : (q : ℕ) → present (at_qubit near q) ≡ true → at_qubit near q < n
  pub all : present near.all.0 ≡ true → near.all.0 < n
  pub members : (u : ℕ) → get_or far.block u false ≡ true → u < n

-- the edges with n's new ones from the others
abbrev pub joined_edges : ℕ → (ℕ → ℕ → Bool) → List ℕ → ℕ → ℕ → Bool
joined_edges n E others a b = E a b || (eqb b n && member a others)

module _ (n : ℕ) (E : ℕ → ℕ → Bool) (near far : End) (N : Net) (S : Sees n E near far N) (F : Fits n near far) where
  source_low : (q : ℕ) → present (source near q) ≡ true → source near q < 512
  source_low q = ⊎_elim
      (λ (e : present (at_qubit near q) ≡ true). rw e (λ p. omega (arith, F.entries q e, F.low)))
      (λ (e : present (at_qubit near q) ≡ false). rw e (λ p. omega (arith, F.all p, F.low)))
      (bool_cases (present (at_qubit near q)))

  source_is : (q : ℕ) → q < 64 → source_in N q ≡ found (source near q)
  source_is q l = (λ i. else (S.lasts q l i) (S.last_all_lem i)) ∙ found_else (at_qubit near q) near.all.0

  -- a record without qubits
  pub none_sees : Sees (n + 1) (joined_edges n E []) near far (back_nothing N)
  unfolding any_of
  none_sees = record {
    size = (let e = S.size in omega arith);
    edges = λ a b. S.edges a b ∙ sym (no_more (E a b) (eqb b n));
    lasts = S.lasts;
    firsts = S.firsts;
    last_all_lem = S.last_all_lem;
    first_all_lem = S.first_all_lem;
    tails = S.tails;
    heads = S.heads;
  }

  module _ (far_all : LoadingRule) (m : ℕ) where
    abbrev began : Linked
    began = record { near = near; far = far; others = [] }

    abbrev x : Linked
    x = link_set (rule_of far_all) m n near far

    once : distinct eqb (qubits m) ≡ true
    once = ascend_distinct (qubits m) (qubits_ascend 64 0 m)

    -- the sources are the others
    set_others : (a : ℕ) → any 64 (λ q. has m q && is (source_in N q) a) ≡ member a x.others
    unfolding link_set any_of
    set_others a =
        any_ext 64 _ _ (λ q l. ap (λ (b : Bool). has m q && b) (ap (λ (o : Option ℕ). is o a) (source_is q l) ∙ found-is (source near q) a))
        ∙ sym (has-any m (λ q. is_at (source near q) a))
        ∙ sym (link_others n (rule_of far_all) (qubits m) began once a)

    set_pointed : any 64 (λ q. has m q && option_is_some (source_in N q)) ≡ not (is_empty x.others)
    set_pointed = bool_ext _ _
        (λ h.
        let r = any-and 64 (has m) (λ q. option_is_some (source_in N q)) h in
        let p : present (source near r.0) ≡ true = sym (ap option_is_some (source_is r.0 r.1) ∙ found_some (source near r.0)) ∙ r.3 in
        let i : is (source_in N r.0) (source near r.0) ≡ true = ap (λ (o : Option ℕ). is o (source near r.0)) (source_is r.0 r.1) ∙ found-is (source near r.0) (source near r.0) ∙ and_intro _ _ p (eqb_same (source near r.0)) in
        let k = sym (set_others (source near r.0)) ∙ and-any 64 (has m) (λ q. is (source_in N q) (source near r.0)) r.0 r.1 r.2 i in
        flip-not _ (not-true (λ e. clash_bool k (empty-not x.others e (source near r.0)))))
        (λ h.
        let w = not-empty x.others (not-flip _ h) in
        let r = any-and 64 (has m) (λ q. is (source_in N q) w.0) (set_others w.0 ∙ w.1) in
        and-any 64 (has m) (λ q. option_is_some (source_in N q)) r.0 r.1 r.2 (is_there (source_in N r.0) w.0 r.3))
      where
        is_there : (o : Option ℕ) (a : ℕ) → is o a ≡ true → option_is_some o ≡ true
        is_there none a h = h
        is_there (some b) a h = refl

    set_lasts : (q : ℕ) → q < 64 → cond (has m q) (some N.size) (N.last q) ≡ found (at_qubit x.near q)
    set_lasts q l = ⊎_elim
        (λ (e : has m q ≡ true). rw e (ap some S.size ∙ sym (found_low n F.low)
        ∙ ap found (sym (set_entries (rule_of far_all) (steady_rule far_all) m n q near far e (omega (arith, F.near_nodes)) (omega (arith, F.far_nodes))).0)))
        (λ (e : has m q ≡ false). rw e (S.lasts q l ∙ ap found (sym (set_outside (rule_of far_all) m n q near far e).0)))
        (bool_cases (has m q))

    set_firsts : (q : ℕ) → q < 64 → cond (has m q && not (option_is_some (N.last q))) (some (far_in (is_far far_all) N N.size)) (N.first q) ≡ found (at_qubit x.far q)
    set_firsts q l = ⊎_elim
        (λ (e : has m q ≡ true). rw e (new (present (at_qubit near q)) refl
        ∙ ap found (sym (set_entries (rule_of far_all) (steady_rule far_all) m n q near far e (omega (arith, F.near_nodes)) (omega (arith, F.far_nodes))).1)))
        (λ (e : has m q ≡ false). rw e (S.firsts q l ∙ ap found (sym (set_outside (rule_of far_all) m n q near far e).1)))
        (bool_cases (has m q))
      where
        known : option_is_some (N.last q) ≡ present (at_qubit near q)
        known = ap option_is_some (S.lasts q l) ∙ found_some (at_qubit near q)

        fresh : (b : LoadingRule) → some (far_in (is_far b) N N.size) ≡ found (or_else (rule_of b near far) n)
        fresh FarAll = (λ i. some (or (S.first_all_lem i) (S.size i))) ∙ found-or far.all.0 n F.low
        fresh NearAll = (λ i. some (or (S.last_all_lem i) (S.size i))) ∙ found-or near.all.0 n F.low

        new : (b : Bool) → present (at_qubit near q) ≡ b
            → cond (not (option_is_some (N.last q))) (some (far_in (is_far far_all) N N.size)) (N.first q) ≡ found (far_entry (rule_of far_all) near far n q)
        new true e = rw (known ∙ e, e) (S.firsts q l)
        new false e = rw (known ∙ e, e) (fresh far_all)

    set_heads : (u : ℕ) → (N.head u || (eqb u N.size && not (any 64 (λ q. has m q && option_is_some (source_in N q))))) ≡ get_or x.far.block u false
    unfolding link_set
    set_heads u = (λ i. S.heads u i || (eqb u (S.size i) && not (set_pointed i))) ∙ go (is_empty x.others)
        ∙ ap (λ (b : List Bool). get_or (cond (is_empty x.others) (set b n true) b) u false) (sym (link_all_lem n (rule_of far_all) (qubits m) began).2)
      where
        go : (b : Bool) → (get_or far.block u false || (eqb u n && not (not b))) ≡ get_or (cond b (set far.block n true) far.block) u false
        go true = block_joins far.block n u (omega (arith, F.far-block, F.low))
        go false = no_more (get_or far.block u false) (eqb u n)

    set_tails : (u : ℕ) → ((eqb u N.size && any 64 (has m)) || (N.tail u && not (any 64 (λ q. has m q && is (source_in N q) u)))) ≡ get_or x.near.block u false
    unfolding link_set
    set_tails u = (λ i. (eqb u (S.size i) && has_some m i) || (S.tails u i && not (sources i)))
        ∙ sym (link-block n (rule_of far_all) (qubits m) began once F.low F.near_block source_low u)
      where
        sources : any 64 (λ q. has m q && is (source_in N q) u) ≡ any_of (λ q. is_at (source near q) u) (qubits m)
        sources = any_ext 64 _ _ (λ q l. ap (λ (b : Bool). has m q && b) (ap (λ (o : Option ℕ). is o u) (source_is q l) ∙ found-is (source near q) u))
            ∙ sym (has-any m (λ q. is_at (source near q) u))

    pub set_sees : Sees (n + 1) (joined_edges n E x.others) x.near x.far (back_these (is_far far_all) N (has m))
    unfolding link_set
    set_sees = record {
      size = (let e = S.size in omega arith);
      edges = λ a b. λ i. S.edges a b i || (eqb b (S.size i) && set_others a i);
      lasts = set_lasts;
      firsts = set_firsts;
      last_all_lem = S.last_all_lem ∙ ap (λ (v : _). found v.0) (sym (link_all_lem n (rule_of far_all) (qubits m) began).0);
      first_all_lem = S.first_all_lem ∙ ap (λ (v : _). found v.0) (sym (link_all_lem n (rule_of far_all) (qubits m) began).1);
      tails = set_tails;
      heads = set_heads;
    }

-- ---- "All"

mapped-member : (l seen : List ℕ) (a : ℕ) → member a (mapped l seen) ≡ (member a seen || any_of (λ u. is_at u a) l)
unfolding mapped any_of
mapped-member [] seen a = sym (or-false (member a seen))
mapped-member (u ∷ l) seen a = mapped-member l (add_present u seen) a
    ∙ ap (λ (b : Bool). b || any_of (λ u. is_at u a) l) (member-add a u seen)
    ∙ or_assoc (member a seen) (is_at u a) _
    ∙ ap (λ (b : Bool). member a seen || b) (sym (any_cons (λ u. is_at u a) u l))

module _ (n : ℕ) (E : ℕ → ℕ → Bool) (near far : End) (N : Net) (S : Sees n E near far N) (F : Fits n near far) where
  abbrev y : Linked
  y = link_all n near far

  abbrev both_empty : Bool
  both_empty = no_qubit near && no_qubit far

  near_known : (q : ℕ) → q < 64 → option_is_some (N.last q) ≡ present (at_qubit near q)
  near_known q l = ap option_is_some (S.lasts q l) ∙ found_some (at_qubit near q)

  far_known : (q : ℕ) → q < 64 → option_is_some (N.first q) ≡ present (at_qubit far q)
  far_known q l = ap option_is_some (S.firsts q l) ∙ found_some (at_qubit far q)

  near_any : any 64 (λ q. option_is_some (N.last q)) ≡ any_of present near.node
  near_any = any_ext 64 _ _ near_known ∙ sym (any_list present near.node absent 64 F.near_nodes)

  far-any : any 64 (λ q. option_is_some (N.first q)) ≡ any_of present far.node
  far-any = any_ext 64 _ _ far_known ∙ sym (any_list present far.node absent 64 F.far_nodes)

  no_qubits-is : no_qubits N ≡ both_empty
  no_qubits-is = λ i. not (near_any i) && not (far-any i)

  near_none : both_empty ≡ true → (q : ℕ) → q < 64 → present (at_qubit near q) ≡ false
  near_none e q l = any_none 64 (λ q. present (at_qubit near q)) (sym (any_list present near.node absent 64 F.near_nodes) ∙ not-flip _ (and_l (no_qubit near) (no_qubit far) e)) q l

  far_none : both_empty ≡ true → (q : ℕ) → q < 64 → present (at_qubit far q) ≡ false
  far_none e q l = any_none 64 (λ q. present (at_qubit far q)) (sym (any_list present far.node absent 64 F.far_nodes) ∙ not-flip _ (and_r (no_qubit near) (no_qubit far) e)) q l

  first_qubit : (l : List ℕ) → length l ≡ 64 → (q : ℕ) → present (get_or l q absent) ≡ false → cond (eqb q 0) (some N.size) none ≡ found (get_or (set l 0 n) q absent)
  first_qubit l k q p = elim (ℕ_discrete q 0) [
    | yes e ↦ rw (e, get_or-set_same l 0 n absent (omega arith)) (ap some S.size ∙ sym (found_low n F.low))
    | no e ↦ rw (ne_eqb q 0 e, get_or-set_other l 0 q n absent e, p) refl
  ]

  all_lasts : (q : ℕ) → q < 64 → cond (no_qubits N) (cond (eqb q 0) (some N.size) none) (cond (option_is_some (N.last q)) (some N.size) none) ≡ found (at_qubit y.near q)
  unfolding link_all
  all_lasts q l = ⊎_elim
      (λ (e : both_empty ≡ true). rw (no_qubits-is ∙ e, e) (first_qubit near.node F.near_nodes q (near_none e q l)))
      (λ (e : both_empty ≡ false). rw (no_qubits-is ∙ e, e, get_or-map (λ (u : ℕ). cond (present u) n u) near.node q absent, near_known q l) (go (present (at_qubit near q)) refl))
      (bool_cases both_empty)
    where
      go : (b : Bool) → present (at_qubit near q) ≡ b → cond b (some N.size) none ≡ found (cond b n (at_qubit near q))
      go true e = ap some S.size ∙ sym (found_low n F.low)
      go false e = rw e refl

  all_firsts : (q : ℕ) → q < 64 → cond (no_qubits N) (cond (eqb q 0) (some N.size) none) (N.first q) ≡ found (at_qubit y.far q)
  unfolding link_all
  all_firsts q l = ⊎_elim
      (λ (e : both_empty ≡ true). rw (no_qubits-is ∙ e, e) (first_qubit far.node F.far_nodes q (far_none e q l)))
      (λ (e : both_empty ≡ false). rw (no_qubits-is ∙ e, e) (S.firsts q l))
      (bool_cases both_empty)

  all_others : (a : ℕ) → any 64 (λ q. is (N.last q) a) ≡ member a y.others
  unfolding link_all any_of
  all_others a = ⊎_elim
      (λ (e : both_empty ≡ true). rw e (named ∙ none_any 64 _ (λ q l h. clash_bool (and_l (present (at_qubit near q)) (eqb (at_qubit near q) a) h) (near_none e q l))))
      (λ (e : both_empty ≡ false). rw e (named ∙ sym (any_list (λ u. is_at u a) near.node absent 64 F.near_nodes) ∙ sym (mapped-member near.node [] a)))
      (bool_cases both_empty)
    where
      named : any 64 (λ q. is (N.last q) a) ≡ any 64 (λ q. is_at (at_qubit near q) a)
      named = any_ext 64 _ _ (λ q l. ap (λ (o : Option ℕ). is o a) (S.lasts q l) ∙ found-is (at_qubit near q) a)

  head_some : any N.size N.head ≡ any_of (λ b. b) far.block
  head_some = bool_ext _ _
      (λ h. let r = any_elim N.size N.head h in at-any (λ b. b) far.block false r.0 (let z = S.size in omega (arith, r.1, F.far-block, F.low)) (sym (S.heads r.0) ∙ r.2))
      (λ h. let r = any_at (λ b. b) far.block false h in any_intro N.size N.head r.0 (let z = S.size in omega (arith, F.members r.0 r.2)) (S.heads r.0 ∙ r.2))

  all_heads : (u : ℕ) → (N.head u || (eqb u N.size && not (any N.size N.head))) ≡ get_or y.far.block u false
  unfolding link_all
  all_heads u = (λ i. S.heads u i || (eqb u (S.size i) && not (head_some i))) ∙ go (any_of (λ b. b) far.block)
    where
      go : (b : Bool) → (get_or far.block u false || (eqb u n && not b)) ≡ get_or (cond b far.block (set far.block n true)) u false
      go true = no_more (get_or far.block u false) (eqb u n)
      go false = block_joins far.block n u (omega (arith, F.far-block, F.low))

  all_tails : (u : ℕ) → eqb u N.size ≡ get_or y.near.block u false
  unfolding link_all
  all_tails u = ap (eqb u) S.size ∙ elim (ℕ_discrete u n) [
    | yes e ↦ rw (e, eqb_same n) (sym (get_or-set_same (replicate 512 false) n true false (omega (arith, length-replicate {A = Bool} 512 false, F.low))))
    | no e ↦ rw (ne_eqb u n e) (sym (get_or-set_other (replicate 512 false) n u true false e ∙ all_same 512 u false))
  ]

  all_first : else N.first_all (some N.size) ≡ found (or_else far.all.0 n)
  all_first = (λ i. else (S.first_all_lem i) (some (S.size i))) ∙ ap (else (found far.all.0)) (sym (found_low n F.low)) ∙ found_else far.all.0 n

  pub all_sees : Sees (n + 1) (joined_edges n E y.others) y.near y.far (back_every N)
  unfolding link_all
  all_sees = record {
    size = (let e = S.size in omega arith);
    edges = λ a b. λ i. S.edges a b i || (eqb b (S.size i) && all_others a i);
    lasts = all_lasts;
    firsts = all_firsts;
    last_all_lem = ap some S.size ∙ sym (found_low n F.low);
    first_all_lem = all_first;
    tails = all_tails;
    heads = all_heads;
  }

-- ---- every record

-- what a record takes
abbrev pub take_by : InvolvedQubits → Take
take_by None = nothing
take_by All = every
take_by (Set m) = these (has m)

pub link_sees : (far_all : LoadingRule) (k : InvolvedQubits) (n : ℕ) (E : ℕ → ℕ → Bool) (near far : End) (N : Net) → Sees n E near far N → Fits n near far
    → let x = link_by k (rule_of far_all) n near far in Sees (n + 1) (joined_edges n E x.others) x.near x.far (back (is_far far_all) N (take_by k))
link_sees far_all None n E near far N S F = none_sees n E near far N S F
link_sees far_all All n E near far N S F = all_sees n E near far N S F
link_sees far_all (Set m) n E near far N S F = set_sees n E near far N S F far_all m
