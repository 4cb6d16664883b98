-- The passes over a sound graph's edges find the numbers that the whole walk writes. Assumes nothing.
use mathlib.Core.Path.{◌≡◌, refl, sym, ◌∙◌, ap}
use mathlib.Core.Bool.{Bool, true, false, cond, not, ◌&&◌}
use mathlib.Core.Logic.{◌⊎◌, inl, inr, ⊎_elim}
use mathlib.Core.List.{List, map}
use Prim.Native.Nat.{ℕ, zero, suc, ◌≤◌, ◌<◌}
use native.Mathlib.Omega.{arith}
use native.Mathlib.Decide.{dec_lt}
use lib.Dec.{ltb}
use lib.ListN.{length, get_or, take, drop, get_or-eq_default, get_or-append}
use borrow.Author.Tests.{ltb-true, lt-ltb, le-ltb, not-true as not-flip}
use Rattle.file.specs.Lists.{is_empty, onto, up_to}
use Rattle.file.specs.declared.Refusal.TheVariants.{ShortBuffer}
use Rattle.graph.specs.declared.CircuitDag.{CircuitDag}
use Rattle.graph.specs.Dag.{absent, size}
use Rattle.graph.specs.Soundness.{sound, check_sound}
use Rattle.file.specs.declared.Refusal.{Refusal}
use Rattle.queries.proofs.QueryLaws.{not_sound}
use Rattle.file.proofs.BoolLaws.{bool_cases, clash_bool, not-true, not-false, and_intro, flip-not}
use Rattle.graph.proofs.ListLaws.{up_to_ext, up_to-at, length-up_to}
use Rattle.graph.proofs.SoundnessLaws.{sound_told}
use Rattle.walk.specs.Blocks.{Walked, blocks, number_from, block_numbers, whole_walk, block_of_step}
use Rattle.walk.specs.Numbering.{at, following, Joined, Above, Rises, Settled, Begun, Zeroed, Counted}
use Rattle.walk.proofs.NumberingLaws.{zeroed_first}
use Rattle.walk.proofs.Bounds.{any, any_elim, any_none, any-and, greatest_le, greatest-at}
use Rattle.walk.proofs.BlockSteps.{edge-at, at_edge, not-empty, empty-not, block-at}
use Rattle.walk.proofs.BlockLaws.{W, edges, firsts, rank, upward, first_start, block-number, last_step, before_last, past_last, number_is}
use Rattle.walk.proofs.NumberLaws.{number_of, Numbered, in_block, in_none, number_cases, number_first, greatest_before, number-next, number_alone}
use Rattle.walk.proofs.NumberLaws.{number_behind}
use Rattle.std.specs.Prelude.{Ok, Err}

module _ (g : CircuitDag) (s : sound g ≡ true) where
  abbrev n : ℕ
  n = size g

  abbrev E : ℕ → ℕ → Bool
  E = edges g s

  abbrev F : ℕ → Bool
  F = firsts g s

  abbrev N : ℕ → ℕ
  N = number_of g s

  number_low : (v : ℕ) → (N v < n) ⊎ (N v ≡ 65535)
  number_low v = go (number_cases g s v)
    where
      go : Numbered g s v → (N v < n) ⊎ (N v ≡ 65535)
      go (in_block b l) = inl l
      go (in_none f e) = inr e

  number-top : (v : ℕ) → N v ≤ 65535
  number-top v = ⊎_elim (λ (l : N v < n). omega (arith, (W g s).cap)) (λ (e : N v ≡ 65535). omega arith) (number_low v)

  later : (u v : ℕ) → E u v ≡ true → F v ≡ false
  later u v e = not-true (λ h. clash_bool e ((first_start g s v h).1 u))

  -- the last of the direct predecessors
  record Last (u v : ℕ) : Type 0 where
    here : E u v ≡ true
    next : N v ≡ suc (N u)
    most : (w : ℕ) → E w v ≡ true → N w ≤ N u

  before_le : (u v : ℕ) → E u v ≡ true → N u ≤ greatest_before g s v
  before_le u v e = let z = greatest_le n (λ u. cond (E u v) (N u) 0) u ((W g s).from u v e) in rw e at z

  greatest_one : (v p k : ℕ) → E p v ≡ true → greatest_before g s v ≡ k → (u : ℕ) × (E u v ≡ true) × (N u ≡ k)
  greatest_one v p zero e h = (p, e, omega (arith, before_le p v e))
  greatest_one v p (suc k) e h = let r = greatest-at n (λ u. cond (E u v) (N u) 0) k h in let x = pick (E r.0 v) (N r.0) r.2 in (r.0, x.0, x.1)
    where
      pick : (b : Bool) (x : ℕ) → cond b x 0 ≡ suc k → (b ≡ true) × (x ≡ suc k)
      pick true x h = (refl, h)
      pick false x h = absurd (omega arith)

  -- a predecessor without a number, or the last of them
  by_last : (p v : ℕ) → E p v ≡ true → ((u : ℕ) × (E u v ≡ true) × (N u ≡ 65535)) ⊎ ((u : ℕ) × Last u v)
  by_last p v e = ⊎_elim
      (λ (h : any n (λ u. E u v && not (ltb (N u) 65535)) ≡ true).
      let r = any-and n (λ u. E u v) (λ u. not (ltb (N u) 65535)) h in
      inl (r.0, r.2, top r.0 (not-flip _ r.3)))
      (λ (h : any n (λ u. E u v && not (ltb (N u) 65535)) ≡ false).
      let low : (w : ℕ) → E w v ≡ true → N w < 65535 = λ w d. ltb-true (N w) 65535 (not-false (λ q. clash_bool (and_intro (E w v) (not (ltb (N w) 65535)) d (flip-not _ q)) (any_none n (λ u. E u v && not (ltb (N u) 65535)) h w ((W g s).from w v d)))) in
      let r = greatest_one v p (greatest_before g s v) e refl in
      inr (r.0, record { here = r.1; next = omega (arith, number-next g s v p e low, r.2); most = λ w d. omega (arith, before_le w v d, r.2) }))
      (bool_cases (any n (λ u. E u v && not (ltb (N u) 65535))))
    where
      top : (u : ℕ) → ltb (N u) 65535 ≡ false → N u ≡ 65535
      top u h = elim (dec_lt (N u) 65535) [ yes l ↦ absurd (clash_bool (lt-ltb (N u) 65535 l) h) | no l ↦ omega (arith, number-top u) ]

  edge_le : (u v : ℕ) → E u v ≡ true → following (N u) ≤ N v
  edge_le u v e = ⊎_elim
      (λ (r : (w : ℕ) × (E w v ≡ true) × (N w ≡ 65535)). omega (arith, number_behind g s v (later u v e) r.0 r.1 r.2))
      (λ (r : (w : ℕ) × Last w v). omega (arith, r.1.next, r.1.most u e))
      (by_last u v e)

  pub above : Above g.edges.from g.edges.to g.edges.count N
  above j l = edge_le _ _ (at_edge g j l)

  pub joined : length g.commuting.list ≡ 512 → Joined g.edges.from g.edges.to g.edges.count
  joined full = let O = sound_told g full s in record {
    room = O.edge_count;
    from_low = λ j l. omega (arith, O.from-below j l, O.node-count);
    to_low = λ j l. omega (arith, O.to_below j l, O.node-count);
  }

  module _ (num₀ num₁ : List ℕ) (B : Begun g.first.block num₀) (many : g.edges.count ≤ length g.edges.to) (Z : Zeroed (take g.edges.count g.edges.to) num₀ num₁) where
    kept : (v : ℕ) → v < 512 → ((u : ℕ) → E u v ≡ false) → at num₁ v ≡ cond (F v) 0 65535
    kept v l h = (zeroed_first _ _ many Z).2 v (λ j k e. clash_bool (ap (λ (x : ℕ). E (at g.edges.from j) x) (sym e) ∙ at_edge g j k) (h (at g.edges.from j)))
        ∙ B.each v l

    alone : (v : ℕ) → any n (λ u. E u v) ≡ false → (u : ℕ) → E u v ≡ false
    alone v h u = not-true (λ e. clash_bool e (any_none n (λ u. E u v) h u ((W g s).from u v e)))

    zero_there : (u v : ℕ) → E u v ≡ true → at num₁ v ≡ 0
    zero_there u v e = let r = edge-at g u v e in ap (at num₁) r.3 ∙ (zeroed_first _ _ many Z).1 r.0 r.1

    -- no number is above its node's
    low_inside : (v : ℕ) → v < 512 → at num₁ v ≤ N v
    low_inside v l = ⊎_elim
        (λ (h : F v ≡ true). let k = kept v l (first_start g s v h).1 in let z : at num₁ v ≡ 0 = rw h at k in omega arith)
        (λ (h : F v ≡ false). ⊎_elim
        (λ (a : any n (λ u. E u v) ≡ true). let r = any_elim n (λ u. E u v) a in omega (arith, zero_there r.0 v r.2))
        (λ (a : any n (λ u. E u v) ≡ false). let k = kept v l (alone v a) in let z : at num₁ v ≡ 65535 = rw h at k in omega (arith, number_alone g s v h (alone v a)))
        (bool_cases (any n (λ u. E u v))))
        (bool_cases (F v))

    begun_low : (v : ℕ) → at num₁ v ≤ N v
    begun_low v = elim (dec_lt v 512) [ yes l ↦ low_inside v l | no l ↦ omega (arith, get_or-eq_default num₁ 0 {n = v} (omega (arith, Z.long))) ]

    pub rises : Rises g.edges.from g.edges.to g.edges.count n num₁ N (rank g s)
    rises = record { round = round; top = (upward g s).top }
      where
        round : (k : ℕ) (x y : List ℕ) → ((v : ℕ) → v < n → rank g s v < k → N v ≤ at x v) → ((v : ℕ) → at num₁ v ≤ at y v)
            → ((j : ℕ) → j < g.edges.count → following (at x (at g.edges.from j)) ≤ at y (at g.edges.to j)) → (v : ℕ) → v < n → rank g s v < suc k → N v ≤ at y v
        round k x y h b c v l r = ⊎_elim
            (λ (f : F v ≡ true). omega (arith, number_first g s v f))
            (λ (f : F v ≡ false). ⊎_elim
            (λ (a : any n (λ u. E u v) ≡ true). let p = any_elim n (λ u. E u v) a in ⊎_elim
            (λ (q : (u : ℕ) × (E u v ≡ true) × (N u ≡ 65535)). omega (arith, covered q.0 q.1, reached q.0 q.1, q.2, number-top v))
            (λ (q : (u : ℕ) × Last u v). omega (arith, covered q.0 q.1.here, reached q.0 q.1.here, q.1.next, number-top v))
            (by_last p.0 v p.2))
            (λ (a : any n (λ u. E u v) ≡ false). let z = kept v (omega (arith, (W g s).cap)) (alone v a) in let t : at num₁ v ≡ 65535 = rw f at z in omega (arith, b v, number-top v))
            (bool_cases (any n (λ u. E u v))))
            (bool_cases (F v))
          where
            reached : (u : ℕ) → E u v ≡ true → N u ≤ at x u
            reached u e = h u ((W g s).from u v e) (omega (arith, (upward g s).up u v e))

            covered : (u : ℕ) → E u v ≡ true → following (at x u) ≤ at y v
            covered u e = let q = edge-at g u v e in omega (arith, c q.0 q.1, ap (at x) q.2, ap (at y) q.3)

    pub numbers-found : (num : List ℕ) → Settled g.edges.from g.edges.to g.edges.count n num₁ num → (v : ℕ) → v < n → at num v ≡ N v
    numbers-found num S v l = omega (arith, S.within N begun_low above v, S.reaches N (rank g s) rises v l)

  -- ---- the count

  count_low : (num : List ℕ) (r : ℕ) → ((v : ℕ) → v < n → at num v ≡ N v) → Counted num n r → (k : ℕ) → r ≡ k → k ≤ length (blocks g)
  count_low num r h C zero e = omega arith
  count_low num r h C (suc k) e = let x = C.reached k e in go x.0 (h x.0 x.1) x.2 x.3 (number_cases g s x.0)
    where
      go : (v : ℕ) → at num v ≡ N v → at num v ≡ k → k < 65535 → Numbered g s v → k < length (blocks g)
      go v e f l (in_block b _) = elim (dec_lt (N v) (length (blocks g))) [
        | yes q ↦ omega arith
        | no q ↦ absurd (clash_bool (block-at g (W g s) (N v) v ∙ b) (empty-not (block_of_step g (N v)) (ap is_empty (past_last g s (N v) (omega arith))) v))
      ]
      go v e f l (in_none _ q) = absurd (omega arith)

  count_high : (num : List ℕ) (r : ℕ) → ((v : ℕ) → v < n → at num v ≡ N v) → Counted num n r → (k : ℕ) → length (blocks g) ≡ k → k ≤ r
  count_high num r h C zero e = omega arith
  count_high num r h C (suc t) e =
      let x = not-empty (block_of_step g t) (before_last g s t (omega arith)) in
      let b = block-number g s t x.0 x.1 in
      let q = h x.0 b.0 in
      let w = number_is g s t x.0 x.1 in
      omega (arith, C.above x.0 b.0 (omega (arith, q, w, last_step g s t x.0 x.1, (W g s).cap)), q, w)

  pub blocks-counted : (num : List ℕ) (r : ℕ) → ((v : ℕ) → v < n → at num v ≡ N v) → Counted num n r → r ≡ length (blocks g)
  blocks-counted num r h C = omega (arith, count_low num r h C r refl, count_high num r h C (length (blocks g)) refl)

-- ---- the whole outcome

pub walk_refused : (g : CircuitDag) (buffer : List ℕ) (c : Refusal) → check_sound g ≡ Err c → record { answer = Err c; buffer = buffer } ≡ whole_walk g buffer
unfolding whole_walk
walk_refused g buffer c e = let p = not_sound g c e in rw (p.0, p.1) refl

pub walk_short : (g : CircuitDag) (buffer : List ℕ) → sound g ≡ true → length buffer < size g → record { answer = Err ShortBuffer; buffer = buffer } ≡ whole_walk g buffer
unfolding whole_walk
walk_short g buffer e h = rw (e, lt-ltb _ _ h) refl

module _ (g : CircuitDag) (s : sound g ≡ true) (buffer : List ℕ) where
  pub walk_done : size g ≤ length buffer → whole_walk g buffer ≡ record { answer = Ok (length (blocks g)); buffer = onto (block_numbers g) buffer }
  unfolding whole_walk
  walk_done h = rw (s, le-ltb (length buffer) (size g) h) refl

  pub walk_entry : size g ≤ length buffer → (v : ℕ) → v < size g → get_or (whole_walk g buffer).buffer v absent ≡ number_from 0 (blocks g) v
  walk_entry h v l = ap (λ (x : Walked). get_or x.buffer v absent) (walk_done h)
      ∙ get_or-append (block_numbers g) (drop (length (block_numbers g)) buffer) absent v (omega (arith, length-up_to (number_from 0 (blocks g)) (size g)))
      ∙ up_to-at (number_from 0 (blocks g)) (size g) v absent l

pub walk_whole : (g : CircuitDag) (buffer : List ℕ) (s : sound g ≡ true) → size g ≤ length buffer → (num : List ℕ) (r : ℕ) (written : List ℕ)
    → ((v : ℕ) → v < size g → at num v ≡ number_from 0 (blocks g) v) → Counted num (size g) r → written ≡ onto (map (at num) (up_to (size g))) buffer
    → record { answer = Ok r; buffer = written } ≡ whole_walk g buffer
unfolding whole_walk
walk_whole g buffer s h num r written e C w =
    rw (s, le-ltb _ _ h, w, up_to_ext (at num) (number_from 0 (blocks g)) (size g) e, blocks-counted g s num r e C) refl
