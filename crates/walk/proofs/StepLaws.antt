-- A step of the walk by passes over the edges: each loop's invariant, and what the passes find. Assumes nothing.
use mathlib.Core.Path.{◌≡◌, refl, sym, ◌∙◌, ap}
use mathlib.Core.Bool.{Bool, true, false, cond, not, ◌&&◌, ◌||◌}
use mathlib.Core.Logic.{◌⊎◌, inl, inr, ⊎_elim}
use mathlib.Core.List.{List, [], ◌∷◌}
use Prim.Native.Nat.{ℕ, zero, suc, ◌+◌, ◌≤◌, ◌<◌}
use native.Mathlib.Omega.{arith}
use native.Mathlib.Nat.{zero-add}
use native.Mathlib.Decide.{dec_lt, ℕ_discrete}
use lib.Dec.{eqb}
use lib.ListN.{length, get_or, set, length-set, get_or-eq_default}
use lib.Seq.{get_or-set_same, get_or-set_other, ext_get_or}
use borrow.Author.Tests.{eq-eqb, ne_eqb}
use Rattle.file.specs.Lists.{any_of, keep, cons_if, is_empty, member, members, marked_from, count_from}
use Rattle.graph.specs.declared.CircuitDag.{CircuitDag}
use Rattle.graph.specs.Dag.{size, has_edge}
use Rattle.graph.specs.Soundness.{sound}
use Rattle.queries.specs.Reach.{blocking, Reaching}
use Rattle.file.proofs.BoolLaws.{bool_cases, clash_bool, bool_ext, not-true, not-false, and_l, and_r, and_intro, or_cases, or_inl, or_inr, flip-not, split_lt}
use Rattle.graph.proofs.ListLaws.{members-any, any-members, member_marked}
use Rattle.walk.specs.Blocks.{joined, marks}
use Rattle.walk.specs.Numbering.{at, Joined, Above, Rises, Settled, Begun, Freed, free_after}
use Rattle.walk.proofs.Bounds.{and-any, any-and}
use Rattle.walk.proofs.BlockSteps.{edge-at, at_edge, marks-length, marks-at, joined_at, joined_length}
use Rattle.walk.proofs.BlockLaws.{W, rank, upward}
use Rattle.walk.proofs.BlockingLaws.{is_blocked, blocked_by_edges}

pub and-not : (a b : Bool) → b ≡ true → (a && not b) ≡ false
and-not true b e = rw e
and-not false b e = refl

pub and-true : (a b : Bool) → b ≡ false → (a && not b) ≡ a
and-true true b e = rw e
and-true false b e = refl

mark-stored : (l : List Bool) (t : ℕ) (x : Bool) (v : ℕ) → t < length l
    → ((v ≡ t) × (get_or (set l t x) v false ≡ x)) ⊎ (get_or (set l t x) v false ≡ get_or l v false)
mark-stored l t x v h = elim (ℕ_discrete v t) [
  | yes e ↦ inl (e, ap (λ (u : ℕ). get_or (set l t x) u false) e ∙ get_or-set_same l t x false h)
  | no e ↦ inr (get_or-set_other l t v x false e)
]

-- ---- an array made by calls

pub joins : (a b all : List Bool) → length a ≡ 512 → length b ≡ 512 → length all ≡ 512
    → ((v : ℕ) → v < 512 → get_or all v false ≡ (get_or a v false || get_or b v false)) → all ≡ joined a b
joins a b all one other long each =
    ext_get_or false all (joined a b) (long ∙ sym (joined_length a b (one ∙ sym other) ∙ other))
    (λ v l. each v (omega (arith, long)) ∙ sym (joined_at a b v))

-- ---- the nodes that wait taken away

module _ (from to : List ℕ) (m : ℕ) (num : List ℕ) (old : List Bool) where
  pub record Taking (found : List Bool) (i : ℕ) : Type 0 where
    pub joins : Joined from to m
    pub low : i ≤ m
    pub so_far : Freed from to i num old found

  pub taking_begin : Joined from to m → length old ≡ 512 → Taking old 0
  taking_begin J l = record { joins = J; low = omega arith; so_far = record { long = l; off = λ j k. absurd (omega arith); kept = λ v e. e; stays = λ v e h. e } }

  module _ {found : List Bool} {i : ℕ} (I : Taking found i) (h : i < m) where
    abbrev free : Bool
    free = get_or found (at to i) false && not (eqb (at num (at from i)) 65535)

    within : at to i < length found
    within = omega (arith, I.joins.to_low i h, I.so_far.long)

    taken-on : Taking (set found (at to i) free) (i + 1)
    taken-on = record {
      joins = I.joins;
      low = omega arith;
      so_far = record {
        long = length-set found (at to i) free ∙ I.so_far.long;
        off = λ j l c. ⊎_elim
            (λ (q : j ≡ i). ap (λ (x : ℕ). get_or (set found (at to i) free) (at to x) false) q ∙ get_or-set_same found (at to i) free false within
            ∙ and-not (get_or found (at to i) false) (eqb (at num (at from i)) 65535) (eq-eqb _ _ (sym (ap (λ (x : ℕ). at num (at from x)) q) ∙ c)))
            (λ (q : j < i). ⊎_elim
            (λ (p : (at to j ≡ at to i) × (get_or (set found (at to i) free) (at to j) false ≡ free)).
            let z : get_or found (at to i) false ≡ false = sym (ap (λ (x : ℕ). get_or found x false) p.0) ∙ I.so_far.off j q c in p.1 ∙ rw z refl)
            (λ (p : get_or (set found (at to i) free) (at to j) false ≡ get_or found (at to j) false). p ∙ I.so_far.off j q c)
            (mark-stored found (at to i) free (at to j) within))
            (split_lt j i l);
        kept = λ v c. ⊎_elim
            (λ (p : (v ≡ at to i) × (get_or (set found (at to i) free) v false ≡ free)).
            ap (λ (x : ℕ). get_or old x false) p.0 ∙ I.so_far.kept (at to i) (and_l (get_or found (at to i) false) (not (eqb (at num (at from i)) 65535)) (sym p.1 ∙ c)))
            (λ (p : get_or (set found (at to i) free) v false ≡ get_or found v false). I.so_far.kept v (sym p ∙ c))
            (mark-stored found (at to i) free v within);
        stays = λ v c k. let f = I.so_far.stays v c (λ j l. k j (omega arith)) in ⊎_elim
            (λ (p : (v ≡ at to i) × (get_or (set found (at to i) free) v false ≡ free)).
            p.1 ∙ and_intro (get_or found (at to i) false) (not (eqb (at num (at from i)) 65535)) (sym (ap (λ (x : ℕ). get_or found x false) p.0) ∙ f) (flip-not _ (ne_eqb _ _ (k i (omega arith) (sym p.0)))))
            (λ (p : get_or (set found (at to i) free) v false ≡ get_or found v false). p ∙ f)
            (mark-stored found (at to i) free v within);
      };
    }

    pub taking_more : (f t : ℕ) (x : Bool) → f ≡ at from i → t ≡ at to i → x ≡ (get_or found t false && not (eqb (at num f) 65535)) → Taking (set found t x) (i + 1)
    taking_more f t x ef et ex = rw (ex, et, ef) taken-on

  pub taking_done : {found : List Bool} {i : ℕ} → Taking found i → m ≤ i → Freed from to m num old found
  taking_done {i = i} I le = let z : i ≡ m = omega (arith, I.low) in rw z at I.so_far

-- ---- sets and lists

-- marks that p tells below n, and that are clear from n on
pub marked_keep : (p : ℕ → Bool) (s : List Bool) (k n : ℕ) → ((i : ℕ) → i < n → get_or s i false ≡ p (k + i))
    → ((i : ℕ) → n ≤ i → get_or s i false ≡ false) → marked_from k s ≡ keep p (count_from n k)
unfolding marked_from keep count_from
marked_keep p [] k zero h o = refl
marked_keep p [] k (suc n) h o =
    let z : k + 0 ≡ k = omega arith in
    let r = marked_keep p [] (k + 1) n (λ i m. let y : k + suc i ≡ (k + 1) + i = omega arith in h (suc i) (omega arith) ∙ ap p y) (λ i m. refl) in
    r ∙ ap (λ (c : Bool). cons_if c k (keep p (count_from n (k + 1)))) (h 0 (omega arith) ∙ ap p z)
marked_keep p (b ∷ s) k zero h o = ap (λ (c : Bool). cons_if c k (marked_from (k + 1) s)) (o 0 (omega arith))
    ∙ marked_keep p s (k + 1) 0 (λ i m. absurd (omega arith)) (λ i m. o (suc i) (omega arith))
marked_keep p (b ∷ s) k (suc n) h o =
    let z : k + 0 ≡ k = omega arith in
    let r = marked_keep p s (k + 1) n (λ i m. let y : k + suc i ≡ (k + 1) + i = omega arith in h (suc i) (omega arith) ∙ ap p y) (λ i m. o (suc i) (omega arith)) in
    ap (λ (c : Bool). cons_if c k (marked_from (k + 1) s)) (h 0 (omega arith) ∙ ap p z) ∙ ap (cons_if (p k) k) r

pub marks-members : (s : List Bool) → length s ≡ 512 → marks (members s) ≡ s
marks-members s l = ext_get_or false (marks (members s)) s (marks-length (members s) ∙ sym l)
    (λ v h. marks-at (members s) (λ u e. inside u (sym (member_marked s u) ∙ e)) v ∙ member_marked s v)
  where
    inside : (u : ℕ) → get_or s u false ≡ true → u < 512
    inside u e = elim (dec_lt u 512) [ yes k ↦ k | no k ↦ absurd (clash_bool e (get_or-eq_default s false {n = u} (omega arith))) ]

-- ---- who waits

module _ (g : CircuitDag) (s : sound g ≡ true) (all : List Bool) where
  abbrev n : ℕ
  n = size g

  abbrev ran : List ℕ
  ran = members all

  -- a node that has not run, or waits for one
  abbrev ripe : ℕ → Bool
  ripe u = not (member u ran) || is_blocked g ran u

  edge-waits : (u v : ℕ) → has_edge g u v ≡ true → ripe u ≡ true → is_blocked g ran v ≡ true
  edge-waits u v e r = blocked_by_edges g s ran v ∙ and-any n (λ u. has_edge g u v) ripe u ((W g s).from u v e) e r

  waits-edge : (v : ℕ) → is_blocked g ran v ≡ true → (u : ℕ) × (u < n) × (has_edge g u v ≡ true) × (ripe u ≡ true)
  waits-edge v h = any-and n (λ u. has_edge g u v) ripe (sym (blocked_by_edges g s ran v) ∙ h)

  pick : (b : Bool) (x y k : ℕ) → (b ≡ true → k ≤ x) → (b ≡ false → k ≤ y) → k ≤ cond b x y
  pick true x y k f h = f refl
  pick false x y k f h = h refl

  module _ (num₀ num : List ℕ) (B : Begun all num₀) (S : Settled g.edges.from g.edges.to g.edges.count n num₀ num) where
    begun_ran : (v : ℕ) → v < 512 → member v ran ≡ true → at num₀ v ≡ 0
    begun_ran v l e = B.each v l ∙ ap (λ (b : Bool). cond b 0 65535) (sym (member_marked all v) ∙ e)

    begun_not : (v : ℕ) → v < 512 → member v ran ≡ false → at num₀ v ≡ 65535
    begun_not v l e = B.each v l ∙ ap (λ (b : Bool). cond b 0 65535) (sym (member_marked all v) ∙ e)

    -- an upper bound: 65535 for who waits, the place for who does not
    most : ℕ → ℕ
    most v = cond (ripe v) 65535 (rank g s v)

    most_ripe : (v : ℕ) → ripe v ≡ true → most v ≡ 65535
    unfolding most
    most_ripe v e = ap (λ (b : Bool). cond b 65535 (rank g s v)) e

    most_free : (v : ℕ) → ripe v ≡ false → most v ≡ rank g s v
    unfolding most
    most_free v e = ap (λ (b : Bool). cond b 65535 (rank g s v)) e

    most_begun : (v : ℕ) → at num₀ v ≤ most v
    most_begun v = elim (dec_lt v 512) [
      | yes l ↦ ⊎_elim
          (λ (e : member v ran ≡ true). omega (arith, begun_ran v l e))
          (λ (e : member v ran ≡ false). omega (arith, begun_not v l e, most_ripe v (or_inl (not (member v ran)) _ (flip-not _ e))))
          (bool_cases (member v ran))
      | no l ↦ omega (arith, get_or-eq_default num₀ 0 {n = v} (omega (arith, B.long)))
    ]

    most_above : Above g.edges.from g.edges.to g.edges.count most
    most_above j l = let u = at g.edges.from j in let v = at g.edges.to j in let e = at_edge g j l in ⊎_elim
        (λ (r : ripe u ≡ true). omega (arith, most_ripe v (or_inr (not (member v ran)) _ (edge-waits u v e r))))
        (λ (r : ripe u ≡ false). let up = (upward g s).up u v e in ⊎_elim
        (λ (q : ripe v ≡ true). omega (arith, most_ripe v q))
        (λ (q : ripe v ≡ false). omega (arith, most_free u r, most_free v q))
        (bool_cases (ripe v)))
        (bool_cases (ripe u))

    least : ℕ → ℕ
    least v = cond (ripe v) 65535 0

    least-ripe : (v : ℕ) → ripe v ≡ true → least v ≡ 65535
    unfolding least
    least-ripe v e = ap (λ (b : Bool). cond b 65535 0) e

    least-free : (v : ℕ) → ripe v ≡ false → least v ≡ 0
    unfolding least
    least-free v e = ap (λ (b : Bool). cond b 65535 0) e

    least_rises : Rises g.edges.from g.edges.to g.edges.count n num₀ least (rank g s)
    least_rises = record {
      top = (upward g s).top;
      round = λ k x y h b c v l r. ⊎_elim
          (λ (q : ripe v ≡ true). ⊎_elim
          (λ (a : not (member v ran) ≡ true). omega (arith, least-ripe v q, b v, begun_not v (omega (arith, (W g s).cap)) (not-true (λ t. clash_bool a (ap not t)))))
          (λ (a : is_blocked g ran v ≡ true).
          let w = waits-edge v a in
          let p = edge-at g w.0 v w.2 in
          omega (arith, least-ripe v q, h w.0 w.1 (omega (arith, (upward g s).up w.0 v w.2)), least-ripe w.0 w.3, c p.0 p.1, ap (at x) p.2, ap (at y) p.3))
          (or_cases (not (member v ran)) (is_blocked g ran v) q))
          (λ (q : ripe v ≡ false). omega (arith, least-free v q))
          (bool_cases (ripe v));
    }

    top-ripe : (v : ℕ) → v < n → at num v ≡ 65535 → ripe v ≡ true
    top-ripe v l e = not-false (λ (q : ripe v ≡ false). omega (arith, S.within most most_begun most_above v, most_free v q, (upward g s).top v l, (W g s).cap))

    ripe-top : (v : ℕ) → v < n → ripe v ≡ true → at num v ≡ 65535
    ripe-top v l e = omega (arith, S.within most most_begun most_above v, most_ripe v e, S.reaches least (rank g s) least_rises v l, least-ripe v e)

    module _ (current hits found : List Bool) (R : Reaching g.edges.from g.edges.to g.edges.count current hits)
        (T : Freed g.edges.from g.edges.to g.edges.count num hits found) where
      abbrev before : ℕ → Bool
      before v = any_of (λ u. has_edge g u v) (members current)

      abbrev unheld : ℕ → Bool
      unheld v = is_empty (blocking g ran v)

      edge_here : (j v : ℕ) → j < g.edges.count → at g.edges.to j ≡ v → has_edge g (at g.edges.from j) v ≡ true
      edge_here j v l e = sym (ap (λ (x : ℕ). has_edge g (at g.edges.from j) x) e) ∙ at_edge g j l

      found-free : (v : ℕ) → get_or found v false ≡ true → (before v && unheld v) ≡ true
      found-free v h =
          let r = R.only v (T.kept v h) in
          and_intro (before v) (unheld v)
          (members-any (λ u. has_edge g u v) current (at g.edges.from r.0) r.3 (edge_here r.0 v r.1 r.2))
          (not-false (λ (q : unheld v ≡ false).
          let w = waits-edge v (ap not q) in
          let p = edge-at g w.0 v w.2 in
          clash_bool h (ap (λ (x : ℕ). get_or found x false) p.3 ∙ T.off p.0 p.1 (sym (ap (at num) p.2) ∙ ripe-top w.0 w.1 w.3))))

      free-found : (v : ℕ) → (before v && unheld v) ≡ true → get_or found v false ≡ true
      free-found v h =
          let c = any-members (λ u. has_edge g u v) current (and_l (before v) (unheld v) h) in
          let p = edge-at g c.0 v c.2 in
          T.stays v (ap (λ (x : ℕ). get_or hits x false) p.3 ∙ R.hit p.0 p.1 (sym (ap (λ (x : ℕ). get_or current x false) p.2) ∙ c.1))
          (λ j l e q. let d = edge_here j v l e in
          clash_bool (and_r (before v) (unheld v) h) (unblocked (unheld v) (edge-waits (at g.edges.from j) v d (top-ripe (at g.edges.from j) ((W g s).from _ v d) q))))
        where
          unblocked : (b : Bool) → not b ≡ true → b ≡ false
          unblocked true e = sym e
          unblocked false e = refl

      found_low : (v : ℕ) → n ≤ v → get_or found v false ≡ false
      found_low v l = not-true (λ h. let r = R.only v (T.kept v h) in omega (arith, (W g s).to _ v (edge_here r.0 v r.1 r.2)))

      pub followers-found : members found ≡ free_after g current all
      followers-found = marked_keep (λ v. before v && unheld v) found 0 n
          (λ i l. bool_ext _ _ (found-free i) (free-found i) ∙ ap (λ (v : ℕ). before v && unheld v) (sym (zero-add i))) found_low
