-- Which nodes are reached from which, on a sound graph: the test is the relation, and marks that the edges can carry no
-- further are ancestors, or the nodes that wait. Assumes nothing.
use mathlib.Core.Path.{◌≡◌, refl, sym, ◌∙◌, ap}
use mathlib.Core.Bool.{Bool, true, false, not, ◌&&◌, ◌||◌, not-not}
use mathlib.Core.Logic.{◌⊎◌, inl, inr, ⊎_elim}
use mathlib.Core.List.{List, [], ◌∷◌}
use Prim.Native.Nat.{ℕ, zero, suc, ◌+◌, ◌-◌, ◌≤◌, ◌<◌}
use native.Mathlib.Omega.{arith}
use native.Mathlib.Decide.{ℕ_discrete}
use lib.Dec.{eqb, ltb, leb}
use lib.IntN.{ℤ, pos, negsuc}
use lib.Signed.{lt_z}
use lib.ListN.{get_or, set}
use borrow.Author.Tests.{ltb-true, leb-true, lt-ltb, eqb-true, eq-eqb, ne_eqb, not-true as not-flip}
use Rattle.file.specs.Lists.{any_of, all_of, keep, count_from, up_to, member, is_empty}
use Rattle.graph.specs.declared.CircuitDag.{CircuitDag}
use Rattle.graph.specs.Dag.{Edge, edge, edge_at, size, edges_of, has_edge, same_edge, place_of}
use Rattle.graph.specs.Soundness.{sound, ascends, place_within}
use Rattle.queries.specs.Reach.{Reached, along, onward, reached_by, reached, blocking, Blocks, BlockingList, predecessors_of, successors_of, Reaching}
use Rattle.queries.specs.Queries.{freed}
use Rattle.queries.specs.Marks.{no_node, kept, Listed, EndsBelow, Closed, Waiting}
use Rattle.file.proofs.BoolLaws.{bool_cases, clash_bool, bool_ext, and_l, and_r, and_intro, or_cases, or_inl, or_inr, flip-not, eqb_same}
use Rattle.graph.proofs.ListLaws.{any_here, any-later, any_at, at-any, all_here, all_at, keep-any, up_to-any, any-up_to, all_up_to}
use Rattle.graph.proofs.SoundnessLaws.{Sound, and4, and5, edge_below, sound_clauses}
use Rattle.queries.proofs.MarkLaws.{none_marked, only_marked, member_cons}

-- ---- an edge by its index

module _ (g : CircuitDag) where
  abbrev F : ℕ → ℕ
  F i = get_or g.edges.from i 0

  abbrev T : ℕ → ℕ
  T i = get_or g.edges.to i 0

  pub edge-at : (i : ℕ) → i < g.edges.count → has_edge g (F i) (T i) ≡ true
  edge-at i l = up_to-any (same_edge (edge (F i) (T i))) (edge_at g.edges) g.edges.count i l
      (and_intro (eqb (F i) (F i)) (eqb (T i) (T i)) (eqb_same (F i)) (eqb_same (T i)))

  pub edge_index : (a b : ℕ) → has_edge g a b ≡ true → (i : ℕ) × (i < g.edges.count) × (F i ≡ a) × (T i ≡ b)
  edge_index a b h =
      let r = any-up_to (same_edge (edge a b)) (edge_at g.edges) g.edges.count h in
      (r.0, r.1, sym (eqb-true a (F r.0) (and_l (eqb a (F r.0)) (eqb b (T r.0)) r.2)), sym (eqb-true b (T r.0) (and_r (eqb a (F r.0)) (eqb b (T r.0)) r.2)))

-- ---- the test is the relation

-- one step of the test
abbrev step_test : ℕ → List Edge → ℕ → ℕ → Edge → Bool
step_test k es a b e = elim (eqb e.from a) [ true ↦ (elim (eqb e.to b) [ true ↦ true | false ↦ reached_by k es e.to b ]) | false ↦ false ]

step_told : (x y r : Bool) → (elim x [ true ↦ (elim y [ true ↦ true | false ↦ r ]) | false ↦ false ]) ≡ true → (x ≡ true) × ((y ≡ true) ⊎ (r ≡ true))
step_told true true r h = (refl, inl refl)
step_told true false r h = (refl, inr h)
step_told false y r h = absurd (clash_bool h refl)

told_step : (x y r : Bool) → x ≡ true → (y ≡ true) ⊎ (r ≡ true) → (elim x [ true ↦ (elim y [ true ↦ true | false ↦ r ]) | false ↦ false ]) ≡ true
told_step true true r e h = refl
told_step true false r e h = ⊎_elim (λ t. absurd (clash_bool t refl)) (λ t. t) h
told_step false y r e h = absurd (clash_bool e refl)

-- a place's number from the front place that is furthest ahead
unfoldable rank_of : ℕ → ℤ → ℕ
rank_of f (pos k) = f + k
rank_of f (negsuc k) = f - suc k

module _ (g : CircuitDag) where
  rank-top : (p : ℤ) → place_within g p ≡ true → rank_of g.fronts p < g.backs + g.fronts
  unfolding rank_of
  rank-top (pos k) h = omega (arith, ltb-true k g.backs h)
  rank-top (negsuc k) h = omega (arith, ltb-true k g.fronts h)

  rank_up : (p q : ℤ) → place_within g p ≡ true → place_within g q ≡ true → lt_z p q ≡ true → rank_of g.fronts p < rank_of g.fronts q
  unfolding rank_of
  rank_up (pos a) (pos b) h k l = omega (arith, ltb-true a b l)
  rank_up (pos a) (negsuc b) h k l = absurd (clash_bool l refl)
  rank_up (negsuc a) (pos b) h k l = omega (arith, ltb-true a g.fronts h)
  rank_up (negsuc a) (negsuc b) h k l = omega (arith, ltb-true b a l, ltb-true a g.fronts h)

  rank : ℕ → ℕ
  rank v = rank_of g.fronts (place_of g v)

  pub test_told : (k a b : ℕ) → reached_by k (edges_of g) a b ≡ true → Reached g a b
  unfolding reached_by
  test_told zero a b h = absurd (clash_bool h refl)
  test_told (suc k) a b h =
      let r = any-up_to (step_test k (edges_of g) a b) (edge_at g.edges) g.edges.count h in
      let s = step_told (eqb (F g r.0) a) (eqb (T g r.0) b) (reached_by k (edges_of g) (T g r.0) b) r.2 in
      let x : F g r.0 ≡ a = eqb-true _ _ s.0 in
      let e : has_edge g a (T g r.0) ≡ true = rw x at (edge-at g r.0 r.1) in
      ⊎_elim
      (λ (t : eqb (T g r.0) b ≡ true). let y : T g r.0 ≡ b = eqb-true _ _ t in along (rw y at e))
      (λ (t : reached_by k (edges_of g) (T g r.0) b ≡ true). onward e (test_told k (T g r.0) b t))
      s.1

  module _ (S : Sound g) where
    pub edge-below : (a b : ℕ) → has_edge g a b ≡ true → (a < size g) × (b < size g)
    edge-below a b h = let r = edge_index g a b h in (omega (arith, S.from-below r.0 r.1, r.2), omega (arith, S.to_below r.0 r.1, r.3))

    edge_up : (a b : ℕ) → has_edge g a b ≡ true → rank a < rank b
    unfolding rank
    edge_up a b h =
        let r = edge_index g a b h in
        let l = edge-below a b h in
        rank_up (place_of g a) (place_of g b) (S.place_within_lem a l.0) (S.place_within_lem b l.1) (rw (r.2, r.3) at (S.rises r.0 r.1))

    reached_up : {a b : ℕ} → Reached g a b → rank a < rank b
    reached_up (along e) = edge_up _ _ e
    reached_up (onward e r) = omega (arith, edge_up _ _ e, reached_up r)

    reached-from : {a b : ℕ} → Reached g a b → a < size g
    reached-from (along e) = (edge-below _ _ e).0
    reached-from (onward e r) = (edge-below _ _ e).0

    reached-to : {a b : ℕ} → Reached g a b → b < size g
    reached-to (along e) = (edge-below _ _ e).1
    reached-to (onward e r) = reached-to r

    -- no node is reached from itself
    pub reached_other : {a b : ℕ} → Reached g a b → a ≡ b → ⊥
    reached_other {a} {b} r e = omega (arith, reached_up r, ap rank e)

    told_test : (k : ℕ) {a b : ℕ} → Reached g a b → rank b ≤ rank a + k → reached_by k (edges_of g) a b ≡ true
    unfolding reached_by
    told_test zero r h = absurd (omega (arith, reached_up r))
    told_test (suc k) {a} {b} (along e) h =
        let i = edge_index g a b e in
        up_to-any (step_test k (edges_of g) a b) (edge_at g.edges) g.edges.count i.0 i.1
        (told_step (eqb (F g i.0) a) (eqb (T g i.0) b) (reached_by k (edges_of g) (T g i.0) b) (eq-eqb _ _ i.2) (inl (eq-eqb _ _ i.3)))
    told_test (suc k) {a} {b} (onward {c = c} e r) h =
        let i = edge_index g a c e in
        up_to-any (step_test k (edges_of g) a b) (edge_at g.edges) g.edges.count i.0 i.1
        (told_step (eqb (F g i.0) a) (eqb (T g i.0) b) (reached_by k (edges_of g) (T g i.0) b) (eq-eqb _ _ i.2)
        (inr (rw i.3 (told_test k r (omega (arith, edge_up a c e))))))

    -- the test and the relation agree on every sound graph
    pub reached_told : (a b : ℕ) → reached g a b ≡ true → Reached g a b
    reached_told a b h = test_told (size g) a b h

    pub told_reached : {a b : ℕ} → Reached g a b → reached g a b ≡ true
    unfolding rank
    told_reached {a} {b} r = told_test (size g) r (omega (arith, rank-top (place_of g b) (S.place_within_lem b (reached-to r)), S.ends))

    -- an edge after a way
    pub reached-on : {a c b : ℕ} → Reached g a c → has_edge g c b ≡ true → Reached g a b
    reached-on (along e) h = onward e (along h)
    reached-on (onward e r) h = onward e (reached-on r h)

-- ---- lists of nodes

keep_ext : (p q : ℕ → Bool) (l : List ℕ) → ((u : ℕ) → member u l ≡ true → p u ≡ q u) → keep p l ≡ keep q l
unfolding keep
keep_ext p q [] h = refl
keep_ext p q (x ∷ l) h =
    let e : p x ≡ q x = h x (any_here (eqb x) x l (eqb_same x)) in
    rw (e, keep_ext p q l (λ u m. h u (later u m))) refl
  where
    later : (u : ℕ) → member u l ≡ true → member u (x ∷ l) ≡ true
    later u m = ⊎_elim
        (λ (t : eqb u x ≡ true). any_here (eqb u) x l t)
        (λ (t : eqb u x ≡ false). any-later (eqb u) x l t ∙ m)
        (bool_cases (eqb u x))

count_from-below : (n k u : ℕ) → member u (count_from n k) ≡ true → (k ≤ u) × (u < k + n)
unfolding any_of count_from
count_from-below zero k u h = absurd (clash_bool h refl)
count_from-below (suc n) k u h = ⊎_elim
    (λ (t : eqb u k ≡ true). let e : u ≡ k = eqb-true u k t in (omega arith, omega arith))
    (λ (t : eqb u k ≡ false). let r = count_from-below n (k + 1) u (sym (any-later (eqb u) k (count_from n (k + 1)) t) ∙ h) in (omega (arith, r.0), omega (arith, r.1)))
    (bool_cases (eqb u k))

below-count_from : (n k u : ℕ) → k ≤ u → u < k + n → member u (count_from n k) ≡ true
unfolding count_from
below-count_from zero k u h l = absurd (omega arith)
below-count_from (suc n) k u h l = elim (ℕ_discrete u k) [
  | yes e ↦ any_here (eqb u) k (count_from n (k + 1)) (eq-eqb u k e)
  | no m ↦ any-later (eqb u) k (count_from n (k + 1)) (ne_eqb u k m) ∙ below-count_from n (k + 1) u (omega arith) (omega arith)
]

-- the nodes that pass two tests alike
pub keep_same : (p q : ℕ → Bool) (n : ℕ) → ((u : ℕ) → u < n → p u ≡ q u) → keep p (up_to n) ≡ keep q (up_to n)
keep_same p q n h = keep_ext p q (up_to n) (λ u m. h u (omega (arith, (count_from-below n 0 u m).1)))

-- one test after another
pub keep-keep : (p q : ℕ → Bool) (l : List ℕ) → keep q (keep p l) ≡ keep (λ u. p u && q u) l
unfolding keep
keep-keep p q [] = refl
keep-keep p q (x ∷ l) = ⊎_elim
    (λ (t : p x ≡ true). rw t (ap (λ (z : List ℕ). Rattle.file.specs.Lists.cons_if (q x) x z) (keep-keep p q l)))
    (λ (t : p x ≡ false). rw t (keep-keep p q l))
    (bool_cases (p x))

-- the nodes below n that pass
module _ (p : ℕ → Bool) (n : ℕ) where
  pub kept_told : (u : ℕ) → member u (keep p (up_to n)) ≡ true → (u < n) × (p u ≡ true)
  kept_told u h =
      let r = any_at (λ x. p x && eqb u x) (up_to n) 0 (sym (keep-any p (eqb u) (up_to n)) ∙ h) in
      let x = get_or (up_to n) r.0 0 in
      let e : u ≡ x = eqb-true u x (and_r (p x) (eqb u x) r.2) in
      let m : member u (up_to n) ≡ true = at-any (eqb u) (up_to n) 0 r.0 r.1 (and_r (p x) (eqb u x) r.2) in
      (omega (arith, (count_from-below n 0 u m).1), ap p e ∙ and_l (p x) (eqb u x) r.2)

  pub told_kept : (u : ℕ) → u < n → p u ≡ true → member u (keep p (up_to n)) ≡ true
  told_kept u l h =
      let r = any_at (eqb u) (up_to n) 0 (below-count_from n 0 u (omega arith) (omega arith)) in
      let x = get_or (up_to n) r.0 0 in
      let e : u ≡ x = eqb-true u x r.2 in
      keep-any p (eqb u) (up_to n) ∙ at-any (λ x. p x && eqb u x) (up_to n) 0 r.0 r.1 (and_intro (p x) (eqb u x) (sym (ap p e) ∙ h) r.2)

all_above : (p : ℕ → Bool) (n k j : ℕ) → j < k → all_of (ltb j) (keep p (count_from n k)) ≡ true
unfolding keep count_from all_of
all_above p zero k j h = refl
all_above p (suc n) k j h = ⊎_elim
    (λ (t : p k ≡ true). rw t (all_here (ltb j) k (keep p (count_from n (k + 1))) (lt-ltb j k h) ∙ all_above p n (k + 1) j (omega arith)))
    (λ (t : p k ≡ false). rw t (all_above p n (k + 1) j (omega arith)))
    (bool_cases (p k))

keep-ascends : (p : ℕ → Bool) (n k : ℕ) → ascends (keep p (count_from n k)) ≡ true
unfolding keep count_from ascends
keep-ascends p zero k = refl
keep-ascends p (suc n) k = ⊎_elim
    (λ (t : p k ≡ true). rw t (and_intro (all_of (ltb k) (keep p (count_from n (k + 1)))) (ascends (keep p (count_from n (k + 1)))) (all_above p n (k + 1) k (omega arith)) (keep-ascends p n (k + 1))))
    (λ (t : p k ≡ false). rw t (keep-ascends p n (k + 1)))
    (bool_cases (p k))

-- what is kept ascends, so that nothing stands twice
pub kept-ascends : (p : ℕ → Bool) (n : ℕ) → ascends (keep p (up_to n)) ≡ true
kept-ascends p n = keep-ascends p n 0

-- two ascending lists with the same members are the same list
above_first : (x u : ℕ) (l : List ℕ) → ascends (x ∷ l) ≡ true → member u l ≡ true → x < u
unfolding ascends
above_first x u l a h =
    let r = any_at (eqb u) l 0 h in
    let e : u ≡ get_or l r.0 0 = eqb-true u (get_or l r.0 0) r.2 in
    let k : x < get_or l r.0 0 = ltb-true x (get_or l r.0 0) (all_at (ltb x) l 0 (and_l (all_of (ltb x) l) (ascends l) a) r.0 r.1) in
    omega arith

rest-ascends : (x : ℕ) (l : List ℕ) → ascends (x ∷ l) ≡ true → ascends l ≡ true
unfolding ascends
rest-ascends x l a = and_r (all_of (ltb x) l) (ascends l) a

in_rest : (u x : ℕ) (l : List ℕ) → member u (x ∷ l) ≡ true → (u ≡ x → ⊥) → member u l ≡ true
in_rest u x l h n = sym (any-later (eqb u) x l (ne_eqb u x n)) ∙ h

in_front : (u x : ℕ) (l : List ℕ) → member u l ≡ true → member u (x ∷ l) ≡ true
in_front u x l h = member_cons u x l ∙ or_inl (member u l) (eqb u x) h

no_more : (x : ℕ) (l : List ℕ) → ((u : ℕ) → member u (x ∷ l) ≡ member u []) → ⊥
unfolding any_of
no_more x l e = clash_bool (any_here (eqb x) x l (eqb_same x)) (e x)

ascends_same : (l k : List ℕ) → ascends l ≡ true → ascends k ≡ true → ((u : ℕ) → member u l ≡ member u k) → l ≡ k
ascends_same [] [] a b e = refl
ascends_same [] (y ∷ k) a b e = absurd (no_more y k (λ u. sym (e u)))
ascends_same (x ∷ l) [] a b e = absurd (no_more x l e)
ascends_same (x ∷ l) (y ∷ k) a b e = elim (ℕ_discrete x y) [
  | yes q ↦ (λ t. q t ∷ ascends_same l k (rest-ascends x l a) (rest-ascends y k b) (λ u. bool_ext (member u l) (member u k)
      (λ h. in_rest u y k (sym (e u) ∙ in_front u x l h) (λ z. omega (arith, above_first x u l a h)))
      (λ h. in_rest u x l (e u ∙ in_front u y k h) (λ z. omega (arith, above_first y u k b h)))) t)
  | no m ↦ absurd (omega (
    arith,
    above_first y x k b (in_rest x y k (sym (e x) ∙ any_here (eqb x) x l (eqb_same x)) m),
    above_first x y l a (in_rest y x l (e y ∙ any_here (eqb y) y k (eqb_same y)) (λ z. m (sym z))),
  ))
]

some_member : (l : List ℕ) → not (is_empty l) ≡ true → (u : ℕ) × (member u l ≡ true)
some_member [] h = absurd (clash_bool h refl)
some_member (x ∷ l) h = (x, any_here (eqb x) x l (eqb_same x))

member_some : (l : List ℕ) (u : ℕ) → member u l ≡ true → not (is_empty l) ≡ true
unfolding any_of
member_some [] u h = absurd (clash_bool h refl)
member_some (x ∷ l) u h = refl

-- ---- "all nodes other than the given one from which it is reached, minus those in the executed list, ascending"

module _ (g : CircuitDag) (S : Sound g) (executed : List ℕ) (v : ℕ) where
  abbrev B : ℕ → Bool
  B u = not (eqb u v) && reached g u v && not (member u executed)

  blocking_told : (u : ℕ) → member u (blocking g executed v) ≡ true → Blocks g executed v u
  unfolding blocking
  blocking_told u h =
      let r = kept_told B (size g) u h in
      let a = and_l (not (eqb u v) && reached g u v) (not (member u executed)) r.1 in
      record {
        node = r.0;
        other = λ e. clash_bool (eq-eqb u v e) (not-flip (eqb u v) (and_l (not (eqb u v)) (reached g u v) a));
        reaches = reached_told g S u v (and_r (not (eqb u v)) (reached g u v) a);
        unexecuted = not-flip (member u executed) (and_r (not (eqb u v) && reached g u v) (not (member u executed)) r.1);
      }

  told_blocking : (u : ℕ) → Reached g u v → member u executed ≡ false → member u (blocking g executed v) ≡ true
  unfolding blocking
  told_blocking u r o = told_kept B (size g) u (reached-from g S r)
      (and_intro (not (eqb u v) && reached g u v) (not (member u executed))
      (and_intro (not (eqb u v)) (reached g u v) (flip-not (eqb u v) (ne_eqb u v (reached_other g S r))) (told_reached g S r))
      (flip-not (member u executed) o))

  -- the rule's list is the one list that the relation describes
  pub blocking_list : BlockingList g executed v (blocking g executed v)
  unfolding blocking
  blocking_list = record { only = blocking_told; all = λ u t. told_blocking u t.reaches t.unexecuted; ascending = kept-ascends B (size g) }

  pub blocking_only : (l : List ℕ) → BlockingList g executed v l → l ≡ blocking g executed v
  blocking_only l K = ascends_same l (blocking g executed v) K.ascending blocking_list.ascending
      (λ u. bool_ext (member u l) (member u (blocking g executed v)) (λ h. blocking_list.all u (K.only u h)) (λ h. K.all u (blocking_list.only u h)))

-- the other lists of neighbours ascend, so that nothing stands twice
pub successors_ascend : (g : CircuitDag) (v : ℕ) → ascends (successors_of g v) ≡ true
successors_ascend g v = kept-ascends (λ w. has_edge g v w) (size g)

pub predecessors_ascend : (g : CircuitDag) (executed : List ℕ) (v : ℕ) → ascends (keep (λ u. not (member u executed)) (predecessors_of g v)) ≡ true
predecessors_ascend g executed v = ap ascends (keep-keep (λ u. has_edge g u v) (λ u. not (member u executed)) (up_to (size g)))
    ∙ kept-ascends (λ u. has_edge g u v && not (member u executed)) (size g)

pub freed_ascend : (g : CircuitDag) (executed : List ℕ) (v : ℕ) → ascends (freed g executed v) ≡ true
freed_ascend g executed v = ap ascends (keep-keep (λ w. has_edge g v w) (λ w. is_empty (blocking g (v ∷ executed) w)) (up_to (size g)))
    ∙ kept-ascends (λ w. has_edge g v w && is_empty (blocking g (v ∷ executed) w)) (size g)

-- ---- marks

-- the ends of a sound graph's edges are nodes: no array's length is asked for, which is not known behind a reference
module _ (g : CircuitDag) (h : sound g ≡ true) where
  few : (size g ≤ 512) × (g.edges.count ≤ 2048)
  few =
      let n = and5 (leb (size g) 512) (leb g.edges.count 2048) (leb g.first_registers.count 256) (leb g.last_registers.count 256) (leb g.commuting.count 512) (sound_clauses g h).counts in
      (leb-true (size g) 512 n.0, leb-true g.edges.count 2048 n.1)

  edge_nodes : (i : ℕ) → i < g.edges.count → (F g i < 512) × (T g i < 512)
  edge_nodes i l =
      let b = all_up_to (edge_below g) (edge_at g.edges) g.edges.count (and4 _ _ _ _ (sound_clauses g h).numbers).0 i l in (
        omega (arith, few.0, ltb-true (F g i) (size g) (and_l (ltb (F g i) (size g)) (ltb (T g i) (size g)) b)),
        omega (arith, few.0, ltb-true (T g i) (size g) (and_r (ltb (F g i) (size g)) (ltb (T g i) (size g)) b)),
      )

  -- the edges against their direction, and along it
  pub ends_back : EndsBelow g.edges.from g.edges.to g.edges.count
  ends_back = record { count = few.1; near_below = λ i l. (edge_nodes i l).0; far_below = λ i l. (edge_nodes i l).1 }

  pub ends_on : EndsBelow g.edges.to g.edges.from g.edges.count
  ends_on = record { count = few.1; near_below = λ i l. (edge_nodes i l).1; far_below = λ i l. (edge_nodes i l).0 }

module _ (g : CircuitDag) (S : Sound g) where
  abbrev m : ℕ
  m = g.edges.count

  module _ (v : ℕ) (low : v < size g) where
    -- marks from v against the edges: v and its ancestors
    A : ℕ → Bool
    A u = eqb u v || reached g u v

    ancestor_passes : (i : ℕ) → i < m → A (T g i) ≡ true → A (F g i) ≡ true
    unfolding A
    ancestor_passes i l h = or_inr (eqb (F g i) v) (reached g (F g i) v) (told_reached g S (⊎_elim
        (λ (t : eqb (T g i) v ≡ true). let e : T g i ≡ v = eqb-true (T g i) v t in along (rw e at (edge-at g i l)))
        (λ (t : reached g (T g i) v ≡ true). onward (edge-at g i l) (reached_told g S (T g i) v t))
        (or_cases (eqb (T g i) v) (reached g (T g i) v) h)))

    starts : (u : ℕ) → get_or (set no_node v true) u false ≡ eqb u v
    starts u = only_marked v u (omega (arith, S.node-count))

    module _ (mark : List Bool) (C : Closed g.edges.from g.edges.to m (set no_node v true) mark) where
      marks-edge : (a b : ℕ) → has_edge g a b ≡ true → get_or mark b false ≡ true → get_or mark a false ≡ true
      marks-edge a b h t =
          let i = edge_index g a b h in
          ap (λ (x : ℕ). get_or mark x false) (sym i.2) ∙ C.quiet i.0 i.1 (ap (λ (x : ℕ). get_or mark x false) i.3 ∙ t)

      marks-reached : {a b : ℕ} → Reached g a b → get_or mark b false ≡ true → get_or mark a false ≡ true
      marks-reached (along e) t = marks-edge _ _ e t
      marks-reached (onward e r) t = marks-edge _ _ e (marks-reached r t)

      pub ancestor_marks : (u : ℕ) → get_or mark u false ≡ (eqb u v || reached g u v)
      unfolding A
      ancestor_marks u = bool_ext (get_or mark u false) (eqb u v || reached g u v)
          (λ h. C.spread.only A ancestor_passes (λ x t. or_inl (eqb x v) (reached g x v) (sym (starts x) ∙ t)) u h)
          (λ h. ⊎_elim
          (λ (t : eqb u v ≡ true). C.spread.more u (starts u ∙ t))
          (λ (t : reached g u v ≡ true). marks-reached (reached_told g S u v t) (C.spread.more v (starts v ∙ eqb_same v)))
          (or_cases (eqb u v) (reached g u v) h))

      -- the nodes that block v
      pub blocking-kept : (executed : List ℕ) (skip : List Bool) → Listed (v ∷ executed) skip → kept mark skip (size g) ≡ blocking g executed v
      unfolding blocking
      blocking-kept executed skip L = keep_same (λ u. get_or mark u false && not (get_or skip u false)) (B g S executed v) (size g)
          (λ u l. (λ t. ancestor_marks u t && not ((L.each u (omega (arith, S.node-count)) ∙ member_cons u v executed) t)) ∙ table (eqb u v) (reached g u v) (member u executed))
        where
          table : (x y z : Bool) → ((x || y) && not (z || x)) ≡ (not x && y && not z)
          table true y true = refl
          table true y false = refl
          table false true true = refl
          table false true false = refl
          table false false z = refl

    -- the direct neighbours of v: x tells that an edge has u near and v far
    neighbour_marks : (near far : List ℕ) (mark : List Bool) → Reaching far near m (set no_node v true) mark → (u : ℕ) (x : Bool)
        → (x ≡ true → (i : ℕ) × (i < m) × (get_or near i 0 ≡ u) × (get_or far i 0 ≡ v)) → ((i : ℕ) → i < m → get_or near i 0 ≡ u → get_or far i 0 ≡ v → x ≡ true)
        → get_or mark u false ≡ x
    neighbour_marks near far mark R u x told tells = bool_ext (get_or mark u false) x
        (λ h. let r = R.only u h in tells r.0 r.1 r.2 (eqb-true (get_or far r.0 0) v (sym (starts (get_or far r.0 0)) ∙ r.3)))
        (λ h. let i = told h in rw i.2 at (R.hit i.0 i.1 (starts (get_or far i.0 0) ∙ eq-eqb (get_or far i.0 0) v i.3)))

    predecessor_marks : (mark : List Bool) → Reaching g.edges.to g.edges.from m (set no_node v true) mark → (u : ℕ) → get_or mark u false ≡ has_edge g u v
    predecessor_marks mark R u = neighbour_marks g.edges.from g.edges.to mark R u (has_edge g u v)
        (edge_index g u v) (λ i l p q. rw (p, q) at (edge-at g i l))

    successor_marks : (mark : List Bool) → Reaching g.edges.from g.edges.to m (set no_node v true) mark → (w : ℕ) → get_or mark w false ≡ has_edge g v w
    successor_marks mark R w = neighbour_marks g.edges.to g.edges.from mark R w (has_edge g v w)
        (λ h. let i = edge_index g v w h in (i.0, i.1, i.3, i.2)) (λ i l p q. rw (p, q) at (edge-at g i l))

  -- the nodes that wait: marks along the edges from the ends of unexecuted nodes' edges
  module _ (executed : List ℕ) (skip : List Bool) (L : Listed executed skip) where
    W : ℕ → Bool
    W w = not (is_empty (blocking g executed w))

    waits_by : (u w : ℕ) → Reached g u w → member u executed ≡ false → W w ≡ true
    unfolding W
    waits_by u w r o = member_some (blocking g executed w) u (told_blocking g S executed w u r o)

    waits_told : (w : ℕ) → W w ≡ true → (u : ℕ) × Blocks g executed w u
    unfolding W
    waits_told w h = let r = some_member (blocking g executed w) h in (r.0, blocking_told g S executed w r.0 r.1)

    waits_passes : (i : ℕ) → i < m → W (F g i) ≡ true → W (T g i) ≡ true
    waits_passes i l h = let r = waits_told (F g i) h in waits_by r.0 (T g i) (reached-on g S r.1.reaches (edge-at g i l)) r.1.unexecuted

    module _ (bad : List Bool) (N : Waiting skip g.edges.to g.edges.from m bad) where
      waits_start : (u : ℕ) → get_or N.seeds u false ≡ true → W u ≡ true
      waits_start u h =
          let r = N.begun.only u h in
          let o : member (F g r.0) executed ≡ false = sym (L.each (F g r.0) (omega (arith, S.from-below r.0 r.1, S.node-count))) ∙ r.3 in
          ap W (sym r.2) ∙ waits_by (F g r.0) (T g r.0) (along (edge-at g r.0 r.1)) o

      bad_edge : (a b : ℕ) → has_edge g a b ≡ true → (get_or bad a false ≡ true) ⊎ (member a executed ≡ false) → get_or bad b false ≡ true
      bad_edge a b h t =
          let i = edge_index g a b h in
          ap (λ (x : ℕ). get_or bad x false) (sym i.3) ∙ ⊎_elim
          (λ (t : get_or bad a false ≡ true). N.ended.quiet i.0 i.1 (ap (λ (x : ℕ). get_or bad x false) i.2 ∙ t))
          (λ (t : member a executed ≡ false). N.ended.spread.more (T g i.0) (N.begun.hit i.0 i.1
          (L.each (F g i.0) (omega (arith, S.from-below i.0 i.1, S.node-count)) ∙ ap (λ (x : ℕ). member x executed) i.2 ∙ t)))
          t

      bad_reached : {a b : ℕ} → Reached g a b → (get_or bad a false ≡ true) ⊎ (member a executed ≡ false) → get_or bad b false ≡ true
      bad_reached (along e) t = bad_edge _ _ e t
      bad_reached (onward e r) t = bad_reached r (inl (bad_edge _ _ e t))

      pub waiting_marks : (w : ℕ) → get_or bad w false ≡ not (is_empty (blocking g executed w))
      unfolding W
      waiting_marks w = bool_ext (get_or bad w false) (not (is_empty (blocking g executed w)))
          (λ h. N.ended.spread.only W waits_passes waits_start w h)
          (λ h. let r = waits_told w h in bad_reached r.1.reaches (inr r.1.unexecuted))

  module _ (v : ℕ) (low : v < size g) (mark : List Bool) where
    -- the direct predecessors that are not executed
    pub predecessors_kept : Reaching g.edges.to g.edges.from m (set no_node v true) mark → (executed : List ℕ) (skip : List Bool) → Listed executed skip
        → kept mark skip (size g) ≡ keep (λ u. not (member u executed)) (predecessors_of g v)
    predecessors_kept N executed skip L =
        keep_same (λ u. get_or mark u false && not (get_or skip u false)) (λ u. has_edge g u v && not (member u executed)) (size g)
        (λ u l t. predecessor_marks v low mark N u t && not (L.each u (omega (arith, S.node-count)) t))
        ∙ sym (keep-keep (λ u. has_edge g u v) (λ u. not (member u executed)) (up_to (size g)))

    -- the direct successors, and those of them that do not wait
    pub successors-kept : Reaching g.edges.from g.edges.to m (set no_node v true) mark → kept mark no_node (size g) ≡ successors_of g v
    successors-kept N = keep_same (λ u. get_or mark u false && not (get_or no_node u false)) (λ w. has_edge g v w) (size g)
        (λ u l. (λ t. successor_marks v low mark N u t && not (none_marked u t)) ∙ and_all (has_edge g v u))
      where
        and_all : (b : Bool) → (b && not false) ≡ b
        and_all true = refl
        and_all false = refl

    pub freed-kept : Reaching g.edges.from g.edges.to m (set no_node v true) mark → (executed : List ℕ) (skip bad : List Bool) → Listed (v ∷ executed) skip
        → Waiting skip g.edges.to g.edges.from m bad → kept mark bad (size g) ≡ freed g executed v
    freed-kept N executed skip bad L X =
        keep_same (λ u. get_or mark u false && not (get_or bad u false)) (λ w. has_edge g v w && is_empty (blocking g (v ∷ executed) w)) (size g)
        (λ w l t. successor_marks v low mark N w t && (ap not (waiting_marks (v ∷ executed) skip L bad X w) ∙ not-not (is_empty (blocking g (v ∷ executed) w))) t)
        ∙ sym (keep-keep (λ w. has_edge g v w) (λ w. is_empty (blocking g (v ∷ executed) w)) (up_to (size g)))
