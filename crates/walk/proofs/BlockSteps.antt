-- The walk's rules, on lists and arrays, are the walk on sets of Heights: on every graph whose edges and first block name only
-- its own nodes. Assumes nothing.
use mathlib.Core.Path.{◌≡◌, refl, sym, ◌∙◌, ap}
use mathlib.Core.Bool.{Bool, true, false, not, ◌&&◌, ◌||◌, or-false, and_assoc}
use mathlib.Core.Logic.{◌⊎◌, inl, inr, ⊎_elim}
use mathlib.Core.List.{List, [], ◌∷◌}
use Prim.Native.Nat.{ℕ, zero, suc, ◌+◌, ◌≤◌, ◌<◌}
use native.Mathlib.Numerals.{add-one}
use native.Mathlib.Omega.{arith}
use native.Mathlib.Decide.{dec_lt, ℕ_discrete}
use lib.Dec.{eqb}
use lib.ListN.{length, get_or, length-set, length-replicate, get_or-eq_default}
use lib.Seq.{get_or-set_same, get_or-set_other}
use borrow.Author.Tests.{eqb-true, eq-eqb, ne_eqb, ltb-true, lt-ltb, not-true as not-flip}
use Rattle.file.specs.Lists.{any_of, keep, is_empty, member, members, up_to}
use Rattle.graph.specs.declared.CircuitDag.{CircuitDag}
use Rattle.graph.specs.Dag.{Edge, edge, size, edge_at, edges_of, same_edge, has_edge}
use Rattle.graph.specs.Soundness.{sound}
use Rattle.queries.specs.Reach.{reached_by, reached, blocking}
use Rattle.file.proofs.BoolLaws.{bool_cases, clash_bool, not-true, not-false, bool_ext, and_l, and_r, and_intro, or_cases, or_inl, or_inr, eqb_same}
use Rattle.graph.proofs.ListLaws.{any_here, any-later, any_at, at-any, any-up_to, up_to-any, any-members, members-any, member_marked, any-numbers}
use Rattle.graph.proofs.ListLaws.{member-up_to, member-keep}
use Rattle.graph.proofs.ListLaws.{all_same}
use Rattle.walk.specs.declared.ParallelBlocks.{ParallelBlocks}
use Rattle.walk.specs.Blocks.{marks, start, unstarted, joined, followers, next_block, next_state, blocks_from, number_from, state_after, block_of_step}
use Rattle.walk.proofs.SoundOrder.{sound-ordered}
use Rattle.walk.proofs.Bounds.{any, any_intro, any_elim, any-and, and-any, any_ext}
use Rattle.walk.proofs.Heights.{reach_in, reach, Walk, none, join, empty, follow, next, after, block, blocks, steps_from, steps_from_stop}
use Rattle.walk.proofs.Heights.{steps_from_go, no_empty, empty_no}

-- ---- edges

pub edge-at : (g : CircuitDag) (a b : ℕ) → has_edge g a b ≡ true → (i : ℕ) × (i < g.edges.count) × (a ≡ get_or g.edges.from i 0) × (b ≡ get_or g.edges.to i 0)
edge-at g a b h =
    let r = any-up_to (same_edge (edge a b)) (edge_at g.edges) g.edges.count h in
    let x = eqb a (get_or g.edges.from r.0 0) in
    let y = eqb b (get_or g.edges.to r.0 0) in
    (r.0, r.1, eqb-true _ _ (and_l x y r.2), eqb-true _ _ (and_r x y r.2))

pub at_edge : (g : CircuitDag) (i : ℕ) → i < g.edges.count → has_edge g (get_or g.edges.from i 0) (get_or g.edges.to i 0) ≡ true
at_edge g i h = up_to-any (same_edge (edge_at g.edges i)) (edge_at g.edges) g.edges.count i h
    (and_intro _ _ (eqb_same (get_or g.edges.from i 0)) (eqb_same (get_or g.edges.to i 0)))

-- the edges and the first block name nodes of the graph
pub record Within (g : CircuitDag) : Type 0 where
  pub cap : size g ≤ 512
  pub from : (a b : ℕ) → has_edge g a b ≡ true → a < size g
  pub to : (a b : ℕ) → has_edge g a b ≡ true → b < size g
  pub first : (v : ℕ) → get_or g.first.block v false ≡ true → v < size g

pub sound-within : (g : CircuitDag) → sound g ≡ true → Within g
sound-within g s = let S = sound-ordered g s in record {
  cap = S.node-count;
  from = λ a b h. let r = edge-at g a b h in omega (arith, S.from-below r.0 r.1, r.2);
  to = λ a b h. let r = edge-at g a b h in omega (arith, S.to_below r.0 r.1, r.3);
  first = S.first_block;
}

-- ---- lists as tests of numbers

-- some entry of a list passes
pub any_list : {A : Type 0} (p : A → Bool) (l : List A) (d : A) (n : ℕ) → length l ≡ n → any_of p l ≡ any n (λ v. p (get_or l v d))
any_list p l d n e = bool_ext (any_of p l) (any n (λ v. p (get_or l v d)))
    (λ h. let r = any_at p l d h in any_intro n (λ v. p (get_or l v d)) r.0 (omega (arith, r.1)) r.2)
    (λ h. let r = any_elim n (λ v. p (get_or l v d)) h in at-any p l d r.0 (omega (arith, r.1)) r.2)

pub any_below : (p : ℕ → Bool) (n : ℕ) → any_of p (up_to n) ≡ any n p
any_below p n = bool_ext (any_of p (up_to n)) (any n p)
    (λ h. let r = any-up_to p (λ (i : ℕ). i) n (any-numbers p n ∙ h) in any_intro n p r.0 r.1 r.2)
    (λ h. let r = any_elim n p h in sym (any-numbers p n) ∙ up_to-any p (λ (i : ℕ). i) n r.0 r.1 r.2)

pub keep-empty : (p : ℕ → Bool) (l : List ℕ) → is_empty (keep p l) ≡ not (any_of p l)
unfolding keep any_of
keep-empty p [] = refl
keep-empty p (x ∷ l) = ⊎_elim
    (λ (e : p x ≡ true). rw (e, any_here p x l e))
    (λ (e : p x ≡ false). rw (e, any-later p x l e) (keep-empty p l))
    (bool_cases (p x))

pub not-empty : (l : List ℕ) → is_empty l ≡ false → (v : ℕ) × (member v l ≡ true)
not-empty [] h = absurd (clash_bool refl h)
not-empty (v ∷ l) h = (v, any_here (eqb v) v l (eqb_same v))

pub empty-not : (l : List ℕ) → is_empty l ≡ true → (v : ℕ) → member v l ≡ false
unfolding any_of
empty-not [] h v = refl
empty-not (x ∷ l) h v = absurd (clash_bool h refl)

-- ---- the reachability test

abbrev test : Bool → Bool → Bool → Bool
test x y z = elim x [ true ↦ (elim y [ true ↦ true | false ↦ z ]) | false ↦ false ]

test_cases : (x y z : Bool) → test x y z ≡ true → (x ≡ true) × ((y ≡ true) ⊎ (z ≡ true))
test_cases true true z h = (refl, inl refl)
test_cases true false z h = (refl, inr h)
test_cases false y z h = absurd (clash_bool h refl)

test_intro : (x y z : Bool) → x ≡ true → (y ≡ true) ⊎ (z ≡ true) → test x y z ≡ true
test_intro x y z h k = rw h (⊎_elim (λ (e : y ≡ true). rw e) (λ (e : z ≡ true). go y e) k)
  where
    go : (y : Bool) → z ≡ true → test true y z ≡ true
    go true e = refl
    go false e = e

module _ (g : CircuitDag) (W : Within g) where
  abbrev n : ℕ
  n = size g

  abbrev edges : ℕ → ℕ → Bool
  edges a b = has_edge g a b

  abbrev firsts : ℕ → Bool
  firsts v = get_or g.first.block v false

  reached_in : (k a b : ℕ) → reached_by k (edges_of g) a b ≡ reach_in n edges k a b
  unfolding reached_by reach_in
  reached_in zero a b = refl
  reached_in (suc k) a b = bool_ext
      (any_of (λ (e : Edge). test (eqb e.from a) (eqb e.to b) (reached_by k (edges_of g) e.to b)) (edges_of g))
      (edges a b || any n (λ w. edges a w && reach_in n edges k w b))
      (λ h.
      let r = any-up_to (λ (e : Edge). test (eqb e.from a) (eqb e.to b) (reached_by k (edges_of g) e.to b)) (edge_at g.edges) g.edges.count h in
      let u = get_or g.edges.from r.0 0 in
      let w = get_or g.edges.to r.0 0 in
      let c = test_cases (eqb u a) (eqb w b) (reached_by k (edges_of g) w b) r.2 in
      let e : edges a w ≡ true = rw (eqb-true u a c.0) at (at_edge g r.0 r.1) in
      ⊎_elim
      (λ (x : eqb w b ≡ true). or_inl (edges a b) _ (rw (eqb-true w b x) at e))
      (λ (x : reached_by k (edges_of g) w b ≡ true). or_inr (edges a b) _ (and-any n (edges a) (λ w. reach_in n edges k w b) w (W.to a w e) e (sym (reached_in k w b) ∙ x)))
      c.1)
      (λ h. ⊎_elim
      (λ (e : edges a b ≡ true). let r = edge-at g a b e in step r.0 r.1 r.2 (inl (eq-eqb _ _ (sym r.3))))
      (λ (x : any n (λ w. edges a w && reach_in n edges k w b) ≡ true).
      let s = any-and n (edges a) (λ w. reach_in n edges k w b) x in
      let r = edge-at g a s.0 s.2 in
      step r.0 r.1 r.2 (inr (reached_in k _ b ∙ (rw r.3 at s.3))))
      (or_cases (edges a b) (any n (λ w. edges a w && reach_in n edges k w b)) h))
    where
      step : (i : ℕ) → i < g.edges.count → a ≡ get_or g.edges.from i 0
          → (eqb (get_or g.edges.to i 0) b ≡ true) ⊎ (reached_by k (edges_of g) (get_or g.edges.to i 0) b ≡ true)
          → any_of (λ (e : Edge). test (eqb e.from a) (eqb e.to b) (reached_by k (edges_of g) e.to b)) (edges_of g) ≡ true
      step i l e x = up_to-any (λ (e : Edge). test (eqb e.from a) (eqb e.to b) (reached_by k (edges_of g) e.to b)) (edge_at g.edges) g.edges.count i l
          (test_intro _ _ _ (eq-eqb _ _ (sym e)) x)

  pub reached-is : (a b : ℕ) → reached g a b ≡ reach n edges a b
  unfolding reach
  reached-is a b = reached_in n a b

-- ---- sets kept as marks

pub marks-length : (l : List ℕ) → length (marks l) ≡ 512
unfolding marks
marks-length [] = length-replicate 512 false
marks-length (v ∷ l) = length-set (marks l) v true ∙ marks-length l

pub marks-at : (l : List ℕ) → ((v : ℕ) → member v l ≡ true → v < 512) → (v : ℕ) → get_or (marks l) v false ≡ member v l
unfolding marks any_of
marks-at [] h v = all_same 512 v false
marks-at (x ∷ l) h v = elim (ℕ_discrete v x) [
  | yes e ↦ (let k : x < 512 = h x (any_here (eqb x) x l (eqb_same x)) in
      rw e (get_or-set_same (marks l) x true false (omega (arith, marks-length l)) ∙ sym (any_here (eqb x) x l (eqb_same x))))
  | no e ↦ get_or-set_other (marks l) x v true false e ∙ marks-at l (λ w m. h w (more w m)) v ∙ sym (any-later (eqb v) x l (ne_eqb v x e))
]
  where
    more : (w : ℕ) → member w l ≡ true → member w (x ∷ l) ≡ true
    more w m = ⊎_elim
        (λ (e : eqb w x ≡ true). any_here (eqb w) x l e)
        (λ (e : eqb w x ≡ false). any-later (eqb w) x l e ∙ m)
        (bool_cases (eqb w x))

pub joined_at : (s t : List Bool) (v : ℕ) → get_or (joined s t) v false ≡ (get_or s v false || get_or t v false)
unfolding joined
joined_at [] t v = refl
joined_at (b ∷ s) [] v = sym (or-false (get_or (b ∷ s) v false))
joined_at (b ∷ s) (c ∷ t) zero = refl
joined_at (b ∷ s) (c ∷ t) (suc v) = joined_at s t v

pub joined_length : (s t : List Bool) → length s ≡ length t → length (joined s t) ≡ length t
unfolding joined
joined_length [] t h = refl
joined_length (b ∷ s) [] h = h
joined_length (b ∷ s) (c ∷ t) h = ap suc (joined_length s t (omega arith))

-- ---- one step

pub record Sized (w : ParallelBlocks) : Type 0 where
  pub current : length w.current ≡ 512
  pub executed : length w.executed ≡ 512

-- the two sets of a state
abbrev pub sets : ParallelBlocks → Walk
sets w = record { cur = λ v. get_or w.current v false; exe = λ v. get_or w.executed v false }

pub unstarted-is : (w : ParallelBlocks) → Sized w → unstarted w ≡ (empty 512 (sets w).cur && empty 512 (sets w).exe)
unfolding empty
unstarted-is w S = λ i. not (any_list (λ b. b) w.current false 512 S.current i) && not (any_list (λ b. b) w.executed false 512 S.executed i)

module _ (g : CircuitDag) (W : Within g) where
  -- "blocked by none"
  pub blocking-is : (executed : List ℕ) (v : ℕ) → is_empty (blocking g executed v) ≡ empty (size g) (blocks (size g) (edges g W) (λ u. member u executed) v)
  unfolding blocking empty blocks
  blocking-is executed v =
      keep-empty (λ u. not (eqb u v) && reached g u v && not (member u executed)) (up_to (size g))
      ∙ ap not (any_below (λ u. not (eqb u v) && reached g u v && not (member u executed)) (size g)
      ∙ any_ext (size g) _ _ (λ u l. (λ i. not (eqb u v) && reached-is g W u v i && not (member u executed))
      ∙ and_assoc (not (eqb u v)) (reach (size g) (edges g W) u v) _))

  blocked_is : (cur exe : List Bool) (v : ℕ)
      → is_empty (blocking g (members (joined cur exe)) v) ≡ empty (size g) (blocks (size g) (edges g W) (join (λ v. get_or cur v false) (λ v. get_or exe v false)) v)
  unfolding join
  blocked_is cur exe v = blocking-is (members (joined cur exe)) v
      ∙ ap (λ (f : ℕ → Bool). empty (size g) (blocks (size g) (edges g W) f v)) (λ i u. (member_marked (joined cur exe) u ∙ joined_at cur exe u) i)

  followers-at : (w : ParallelBlocks) (v : ℕ) → member v (followers g w) ≡ follow (size g) (edges g W) (sets w).cur (sets w).exe v
  unfolding followers follow
  followers-at w v =
      member-keep (λ v. any_of (λ u. has_edge g u v) (members w.current) && is_empty (blocking g (members (joined w.current w.executed)) v)) v (up_to (size g))
      ∙ bool_ext _ _
      (λ h. (λ i. sym before i && sym (blocked_is w.current w.executed v) i) ∙ and_l _ (member v (up_to (size g))) h)
      (λ h. let k = (λ i. before i && blocked_is w.current w.executed v i) ∙ h in
      and_intro _ (member v (up_to (size g))) k (member-up_to v (size g) ∙ lt-ltb v (size g) (below (and_l _ (empty (size g) (blocks (size g) (edges g W) (join (sets w).cur (sets w).exe) v)) h))))
    where
      before : any_of (λ u. has_edge g u v) (members w.current) ≡ any (size g) (λ u. (sets w).cur u && has_edge g u v)
      before = bool_ext _ _
          (λ h. let r = any-members (λ u. has_edge g u v) w.current h in and-any (size g) (sets w).cur (λ u. has_edge g u v) r.0 (W.from _ _ r.2) r.1 r.2)
          (λ h. let r = any-and (size g) (sets w).cur (λ u. has_edge g u v) h in members-any (λ u. has_edge g u v) w.current r.0 r.2 r.3)

      below : any (size g) (λ u. (sets w).cur u && has_edge g u v) ≡ true → v < size g
      below h = let r = any-and (size g) (sets w).cur (λ u. has_edge g u v) h in W.to _ _ r.3

  pub next_low : (w : ParallelBlocks) (v : ℕ) → member v (next_block g w) ≡ true → v < size g
  unfolding followers
  next_low w v = ⊎_elim
      (λ (e : unstarted w ≡ true). rw e (λ (h : member v (members g.first.block) ≡ true). W.first v (sym (member_marked g.first.block v) ∙ h)))
      (λ (e : unstarted w ≡ false). rw e (λ (h : member v (followers g w) ≡ true). ltb-true v (size g) (sym (member-up_to v (size g)) ∙ and_r (any_of (λ u. has_edge g u v) (members w.current) && is_empty (blocking g (members (joined w.current w.executed)) v)) (member v (up_to (size g)))
      (sym (member-keep (λ v. any_of (λ u. has_edge g u v) (members w.current) && is_empty (blocking g (members (joined w.current w.executed)) v)) v (up_to (size g))) ∙ h))))
      (bool_cases (unstarted w))

  pub next_marked : (w : ParallelBlocks) (v : ℕ) → get_or (marks (next_block g w)) v false ≡ member v (next_block g w)
  next_marked w = marks-at (next_block g w) (λ v h. omega (arith, next_low w v h, W.cap))

  next_sized : (w : ParallelBlocks) → Sized w → Sized (next_state g w)
  next_sized w S = record { current = marks-length (next_block g w); executed = joined_length w.current w.executed (S.current ∙ sym S.executed) ∙ S.executed }

  begun : (w : ParallelBlocks) → unstarted w ≡ true → (v : ℕ) → member v (next_block g w) ≡ firsts g W v
  begun w e v = rw e (member_marked g.first.block v)

  followed : (w : ParallelBlocks) → unstarted w ≡ false → (v : ℕ) → member v (next_block g w) ≡ follow (size g) (edges g W) (sets w).cur (sets w).exe v
  followed w e v = rw e (followers-at w v)

  next-sets : (w : ParallelBlocks) → Sized w → sets (next_state g w) ≡ next (size g) (edges g W) (firsts g W) (sets w)
  unfolding next none join empty
  next-sets w S = ⊎_elim
      (λ (e : unstarted w ≡ true).
      let f = sym (unstarted-is w S) ∙ e in
      rw f (λ i. record {
        cur = λ v. (next_marked w v ∙ begun w e v) i;
        exe = λ v. (joined_at w.current w.executed v
            ∙ (λ j. blank w.current S.current (and_l _ (empty 512 (sets w).exe) f) v j || blank w.executed S.executed (and_r (empty 512 (sets w).cur) _ f) v j)) i;
      }))
      (λ (e : unstarted w ≡ false).
      rw (sym (unstarted-is w S) ∙ e) (λ i. record {
        cur = λ v. (next_marked w v ∙ followed w e v) i;
        exe = λ v. joined_at w.current w.executed v i;
      }))
      (bool_cases (unstarted w))
    where
      blank : (l : List Bool) → length l ≡ 512 → empty 512 (λ v. get_or l v false) ≡ true → (v : ℕ) → get_or l v false ≡ false
      blank l k e v = elim (dec_lt v 512) [
        | yes b ↦ not-true (λ t. clash_bool (any_intro 512 (λ v. get_or l v false) v b t) (not-flip _ e))
        | no b ↦ get_or-eq_default l false {n = v} (omega arith)
      ]

  pub state_sized : (t : ℕ) → Sized (state_after g t)
  unfolding state_after start
  state_sized zero = record { current = length-replicate {A = Bool} 512 false; executed = length-replicate {A = Bool} 512 false }
  state_sized (suc t) = next_sized (state_after g t) (state_sized t)

  pub state_sets : (t : ℕ) → sets (state_after g t) ≡ after (size g) (edges g W) (firsts g W) t
  unfolding state_after start after none
  state_sets zero = λ i. record { cur = λ v. all_same 512 v false i; exe = λ v. all_same 512 v false i }
  state_sets (suc t) = next-sets (state_after g t) (state_sized t) ∙ ap (next (size g) (edges g W) (firsts g W)) (state_sets t)

  -- the block of step t, as a set
  pub block-at : (t v : ℕ) → member v (block_of_step g t) ≡ block (size g) (edges g W) (firsts g W) t v
  unfolding block state_after
  block-at t v = sym (next_marked (state_after g t) v) ∙ ap (λ (x : Walk). x.cur v) (state_sets (suc t))

-- ---- the whole walk

pub stop_here : (k : ℕ) (g : CircuitDag) (w : ParallelBlocks) → is_empty (next_block g w) ≡ true → blocks_from (suc k) g w ≡ []
unfolding blocks_from
stop_here k g w e = rw (e, blocks_from)

pub go_on : (k : ℕ) (g : CircuitDag) (w : ParallelBlocks) → is_empty (next_block g w) ≡ false → blocks_from (suc k) g w ≡ next_block g w ∷ blocks_from k g (next_state g w)
unfolding blocks_from
go_on k g w e = rw (e, blocks_from)

module _ (g : CircuitDag) (W : Within g) where
  abbrev pub block_at : ℕ → ℕ → Bool
  block_at = block (size g) (edges g W) (firsts g W)

  abbrev pub steps_at : ℕ → ℕ → ℕ
  steps_at = steps_from (size g) (edges g W) (firsts g W)

  pub empty-at : (t : ℕ) → is_empty (block_of_step g t) ≡ empty (size g) (block_at t)
  empty-at t = bool_ext _ _
      (λ h. no_empty (size g) (block_at t) (λ v l b. clash_bool (block-at g W t v ∙ b) (empty-not (block_of_step g t) h v)))
      (λ h. not-false (λ f. let r = not-empty (block_of_step g t) f in
      clash_bool (sym (block-at g W t r.0) ∙ r.1) (empty_no (size g) (block_at t) h r.0 (next_low g W (state_after g t) r.0 r.1))))

  -- how many blocks
  pub count_at : (k t : ℕ) → t + length (blocks_from k g (state_after g t)) ≡ steps_at k t
  unfolding blocks_from steps_from state_after
  count_at zero t = omega arith
  count_at (suc k) t = ⊎_elim
      (λ (e : is_empty (block_of_step g t) ≡ true). rw (stop_here k g (state_after g t) e, steps_from_stop (size g) (edges g W) (firsts g W) k t (sym (empty-at t) ∙ e)) (omega arith))
      (λ (e : is_empty (block_of_step g t) ≡ false). rw (go_on k g (state_after g t) e, steps_from_go (size g) (edges g W) (firsts g W) k t (sym (empty-at t) ∙ e)) (omega (arith, count_at k (suc t))))
      (bool_cases (is_empty (block_of_step g t)))

  -- the number of the one block that holds v
  pub number_in : (k j t v : ℕ) → block_at t v ≡ true → ((i : ℕ) → block_at i v ≡ true → i ≡ t) → j ≤ t → t < steps_at k j
      → number_from j (blocks_from k g (state_after g j)) v ≡ t
  unfolding blocks_from steps_from state_after number_from
  number_in zero j t v b o l m = absurd (omega arith)
  number_in (suc k) j t v b o l m = ⊎_elim
      (λ (e : is_empty (block_of_step g j) ≡ true). let z = rw (steps_from_stop (size g) (edges g W) (firsts g W) k j (sym (empty-at j) ∙ e)) at m in absurd (omega arith))
      (λ (e : is_empty (block_of_step g j) ≡ false).
      let z = rw (steps_from_go (size g) (edges g W) (firsts g W) k j (sym (empty-at j) ∙ e)) at m in
      rw (go_on k g (state_after g j) e) (⊎_elim
      (λ (f : member v (block_of_step g j) ≡ true). rw f (o j (sym (block-at g W j v) ∙ f)))
      (λ (f : member v (block_of_step g j) ≡ false). rw (f, add-one) (number_in k (suc j) t v b o (later f) z))
      (bool_cases (member v (block_of_step g j)))))
      (bool_cases (is_empty (block_of_step g j)))
    where
      later : member v (block_of_step g j) ≡ false → suc j ≤ t
      later f = elim (dec_lt j t) [
        | yes r ↦ r
        | no r ↦ (let q : j ≡ t = omega arith in absurd (clash_bool b (rw (← q) (sym (block-at g W j v) ∙ f))))
      ]

  pub number_out : (k j v : ℕ) → ((i : ℕ) → block_at i v ≡ false) → number_from j (blocks_from k g (state_after g j)) v ≡ 65535
  unfolding blocks_from state_after number_from
  number_out zero j v o = refl
  number_out (suc k) j v o = ⊎_elim
      (λ (e : is_empty (block_of_step g j) ≡ true). rw (stop_here k g (state_after g j) e) refl)
      (λ (e : is_empty (block_of_step g j) ≡ false). rw (go_on k g (state_after g j) e, block-at g W j v ∙ o j, add-one) (number_out k (suc j) v o))
      (bool_cases (is_empty (block_of_step g j)))
