-- A finite graph with edges upwards in rank: reach, height, the walk, and what the walk's numbers are.
-- Sets of nodes and the edge relation are Boolean functions; only nodes below n count. Assumes nothing.
use mathlib.Core.Path.{◌≡◌, refl, sym, ◌∙◌, ap}
use mathlib.Core.Bool.{Bool, true, false, ◌&&◌, ◌||◌, not, cond}
use mathlib.Core.Logic.{◌⊎◌, inl, inr, ⊎_elim}
use Prim.Native.Nat.{ℕ, zero, suc, ◌+◌, ◌≤◌, ◌<◌}
use native.Mathlib.Omega.{arith}
use native.Mathlib.Decide.{dec_lt, ℕ_discrete}
use lib.Dec.{eqb}
use borrow.Author.Tests.{eqb-true, eq-eqb, ne_eqb, not-true as not-flip}
use Rattle.file.proofs.BoolLaws.{bool_cases, clash_bool, not-true, not-false, and_l, and_r, and_intro, or_cases, or_inl, or_inr, flip-not, eqb_same}
use Rattle.walk.proofs.Bounds.{split_lt, any, any_intro, any_elim, any-and, and-any, any_none, none_any, greatest, greatest_le, greatest-at}
use Rattle.walk.proofs.Bounds.{greatest_ext, greatest_bound, count, count_mono, count-hit, count_all}

-- ---- definitions

-- the edges from u lead to v
pub data Reach (edge : ℕ → ℕ → Bool) : ℕ → ℕ → Type 0 where
  one : {u v : ℕ} → edge u v ≡ true → Reach edge u v
  more : {u w v : ℕ} → edge u w ≡ true → Reach edge w v → Reach edge u v

pub reach_snoc : {e : ℕ → ℕ → Bool} {u w v : ℕ} → Reach e u w → e w v ≡ true → Reach e u v
reach_snoc (one x) y = more x (one y)
reach_snoc (more x r) y = more x (reach_snoc r y)

-- the same as a test: along at most k edges, through nodes below n
unfoldable pub reach_in : (n : ℕ) (edge : ℕ → ℕ → Bool) → ℕ → ℕ → ℕ → Bool
reach_in n edge zero u v = false
reach_in n edge (suc k) u v = edge u v || any n (λ w. edge u w && reach_in n edge k w v)

unfoldable pub reach : (n : ℕ) (edge : ℕ → ℕ → Bool) → ℕ → ℕ → Bool
reach n edge u v = reach_in n edge n u v

-- the edges join nodes below n and go up in rank, which is below n
pub record Upward (n : ℕ) (edge : ℕ → ℕ → Bool) (rank : ℕ → ℕ) : Type 0 where
  pub from : (u v : ℕ) → edge u v ≡ true → u < n
  pub to : (u v : ℕ) → edge u v ≡ true → v < n
  pub up : (u v : ℕ) → edge u v ≡ true → rank u < rank v
  pub top : (v : ℕ) → v < n → rank v < n
  pub cap : n ≤ 512

-- u keeps v waiting while exe has run
unfoldable pub blocks : (n : ℕ) (edge : ℕ → ℕ → Bool) (exe : ℕ → Bool) (v u : ℕ) → Bool
blocks n edge exe v u = not (eqb u v) && (reach n edge u v && not (exe u))

pub record Walk : Type 0 where
  pub cur : ℕ → Bool
  pub exe : ℕ → Bool

unfoldable pub none : ℕ → Bool
none v = false

unfoldable pub join : (ℕ → Bool) → (ℕ → Bool) → ℕ → Bool
join a b v = a v || b v

unfoldable pub empty : ℕ → (ℕ → Bool) → Bool
empty n s = not (any n s)

unfoldable pub follow : (n : ℕ) (edge : ℕ → ℕ → Bool) (cur exe : ℕ → Bool) → ℕ → Bool
follow n edge cur exe v = any n (λ u. cur u && edge u v) && empty n (blocks n edge (join cur exe) v)

unfoldable pub next : (n : ℕ) (edge : ℕ → ℕ → Bool) (first : ℕ → Bool) → Walk → Walk
next n edge first w = cond (empty 512 w.cur && empty 512 w.exe)
    (record { cur = first; exe = none })
    (record { cur = follow n edge w.cur w.exe; exe = join w.cur w.exe })

-- the walk's state after k calls, from two empty sets
unfoldable pub after : (n : ℕ) (edge : ℕ → ℕ → Bool) (first : ℕ → Bool) → ℕ → Walk
after n edge first zero = record { cur = none; exe = none }
after n edge first (suc k) = next n edge first (after n edge first k)

-- step k's block, counted from 0
unfoldable pub block : (n : ℕ) (edge : ℕ → ℕ → Bool) (first : ℕ → Bool) → ℕ → ℕ → Bool
block n edge first k = (after n edge first (suc k)).cur

-- what had run before step k
unfoldable pub done : (n : ℕ) (edge : ℕ → ℕ → Bool) (first : ℕ → Bool) → ℕ → ℕ → Bool
done n edge first k = (after n edge first (suc k)).exe

-- from step k on: the number of the first step whose block is empty
unfoldable pub steps_from : (n : ℕ) (edge : ℕ → ℕ → Bool) (first : ℕ → Bool) (fuel k : ℕ) → ℕ
steps_from n edge first zero k = k
steps_from n edge first (suc f) k = elim (empty n (block n edge first k)) [ true ↦ k | false ↦ steps_from n edge first f (suc k) ]

unfoldable pub steps : (n : ℕ) (edge : ℕ → ℕ → Bool) (first : ℕ → Bool) → ℕ
steps n edge first = steps_from n edge first n 0

-- the number that the first k steps write for v
unfoldable pub written : (n : ℕ) (edge : ℕ → ℕ → Bool) (first : ℕ → Bool) → ℕ → ℕ → ℕ
written n edge first zero v = 65535
written n edge first (suc k) v = cond (block n edge first k v) k (written n edge first k v)

unfoldable pub number : (n : ℕ) (edge : ℕ → ℕ → Bool) (first : ℕ → Bool) → ℕ → ℕ
number n edge first v = written n edge first (steps n edge first) v

-- ---- reach

module _ (n : ℕ) (edge : ℕ → ℕ → Bool) where
  pub reach_in-sound : (k u v : ℕ) → reach_in n edge k u v ≡ true → Reach edge u v
  unfolding reach_in
  reach_in-sound zero u v h = absurd (clash_bool h refl)
  reach_in-sound (suc k) u v h = ⊎_elim
      (λ e. one e)
      (λ e. let r = any-and n (edge u) (λ w. reach_in n edge k w v) e in more r.2 (reach_in-sound k r.0 v r.3))
      (or_cases (edge u v) (any n (λ w. edge u w && reach_in n edge k w v)) h)

module _ (n : ℕ) (edge : ℕ → ℕ → Bool) (rank : ℕ → ℕ) (U : Upward n edge rank) where
  pub reach_up : {u v : ℕ} → Reach edge u v → rank u < rank v
  reach_up (one e) = U.up _ _ e
  reach_up (more e r) = omega (arith, U.up _ _ e, reach_up r)

  pub reach-from : {u v : ℕ} → Reach edge u v → u < n
  reach-from (one e) = U.from _ _ e
  reach-from (more e r) = U.from _ _ e

  pub reach-to : {u v : ℕ} → Reach edge u v → v < n
  reach-to (one e) = U.to _ _ e
  reach-to (more e r) = reach-to r

  reach_in_complete : (k : ℕ) {u v : ℕ} → Reach edge u v → rank v ≤ rank u + k → reach_in n edge k u v ≡ true
  unfolding reach_in
  reach_in_complete zero r h = absurd (omega (arith, reach_up r))
  reach_in_complete (suc k) (one e) h = or_inl _ _ e
  reach_in_complete (suc k) {u} {v} (more {w = w} e r) h =
      or_inr (edge u v) _ (and-any n (edge u) (λ x. reach_in n edge k x v) w (U.to _ _ e) e (reach_in_complete k r (omega (arith, U.up _ _ e))))

  pub reach-sound : (u v : ℕ) → reach n edge u v ≡ true → Reach edge u v
  unfolding reach
  reach-sound u v h = reach_in-sound n edge n u v h

  pub reach_complete : {u v : ℕ} → Reach edge u v → reach n edge u v ≡ true
  unfolding reach
  reach_complete {u} {v} r = reach_in_complete n r (omega (arith, U.top v (reach-to r)))

-- ---- height: the length of the longest path in

unfoldable pub height_in : (n : ℕ) (edge : ℕ → ℕ → Bool) → ℕ → ℕ → ℕ
height_in n edge zero v = 0
height_in n edge (suc k) v = greatest n (λ u. cond (edge u v) (suc (height_in n edge k u)) 0)

unfoldable pub height : (n : ℕ) (edge : ℕ → ℕ → Bool) → ℕ → ℕ
height n edge v = height_in n edge n v

cond_cases : (b : Bool) (x k : ℕ) → cond b (suc x) 0 ≡ suc k → (b ≡ true) × (x ≡ k)
cond_cases true x k h = (refl, omega arith)
cond_cases false x k h = absurd (omega arith)

module _ (n : ℕ) (edge : ℕ → ℕ → Bool) (rank : ℕ → ℕ) (U : Upward n edge rank) where
  height_in_stable : (k v : ℕ) → rank v < k → height_in n edge (suc k) v ≡ height_in n edge k v
  unfolding height_in
  height_in_stable zero v h = absurd (omega arith)
  height_in_stable (suc k) v h = greatest_ext n
      (λ u. cond (edge u v) (suc (height_in n edge (suc k) u)) 0)
      (λ u. cond (edge u v) (suc (height_in n edge k u)) 0)
      (λ u l. ⊎_elim
      (λ e. rw (e, height_in_stable k u (omega (arith, U.up u v e))))
      (λ e. rw e)
      (bool_cases (edge u v)))

  pub height_eq : (v : ℕ) → v < n → height n edge v ≡ greatest n (λ u. cond (edge u v) (suc (height n edge u)) 0)
  unfolding height height_in
  height_eq v l = sym (height_in_stable n v (U.top v l))

  pub height_up : (u v : ℕ) → edge u v ≡ true → height n edge u < height n edge v
  height_up u v e =
      let l = greatest_le n (λ x. cond (edge x v) (suc (height n edge x)) 0) u (U.from u v e) in
      rw (height_eq v (U.to u v e)) (rw e at l)

  pub height_pred : (v k : ℕ) → v < n → height n edge v ≡ suc k → (u : ℕ) × (edge u v ≡ true) × (height n edge u ≡ k)
  height_pred v k l h =
      let r = greatest-at n (λ u. cond (edge u v) (suc (height n edge u)) 0) k (sym (height_eq v l) ∙ h) in
      let c = cond_cases (edge r.0 v) (height n edge r.0) k r.2 in
      (r.0, c.0, c.1)

  pub height-reach : {u v : ℕ} → Reach edge u v → height n edge u < height n edge v
  height-reach (one e) = height_up _ _ e
  height-reach (more e r) = omega (arith, height_up _ _ e, height-reach r)

  -- no rank below n is passed, so no height is
  height_in-rank : (k v : ℕ) → v < n → height_in n edge k v ≤ rank v
  unfolding height_in
  height_in-rank zero v l = omega arith
  height_in-rank (suc k) v l = greatest_bound n (λ u. cond (edge u v) (suc (height_in n edge k u)) 0) (rank v)
      (λ u m. ⊎_elim
      (λ e. rw e (omega (arith, U.up u v e, height_in-rank k u m)))
      (λ e. rw e (omega arith))
      (bool_cases (edge u v)))

  pub height_low : (v : ℕ) → v < n → height n edge v < n
  unfolding height
  height_low v l = omega (arith, height_in-rank n v l, U.top v l)

-- ---- the walk on any upward graph whose first block has no edge in

empty-none : (n : ℕ) → empty n none ≡ true
unfolding empty none
empty-none n = rw (none_any n (λ v. false) (λ i l e. clash_bool e refl))

pub join_cases : (a b : ℕ → Bool) (v : ℕ) → join a b v ≡ true → (a v ≡ true) ⊎ (b v ≡ true)
unfolding join
join_cases a b v h = or_cases (a v) (b v) h

pub join_inl : (a b : ℕ → Bool) (v : ℕ) → a v ≡ true → join a b v ≡ true
unfolding join
join_inl a b v h = or_inl (a v) (b v) h

pub join_inr : (a b : ℕ → Bool) (v : ℕ) → b v ≡ true → join a b v ≡ true
unfolding join
join_inr a b v h = or_inr (a v) (b v) h

pub empty_no : (n : ℕ) (s : ℕ → Bool) → empty n s ≡ true → (v : ℕ) → v < n → s v ≡ false
unfolding empty
empty_no n s h v l = any_none n s (not-flip (any n s) h) v l

pub no_empty : (n : ℕ) (s : ℕ → Bool) → ((v : ℕ) → v < n → s v ≡ true → ⊥) → empty n s ≡ true
unfolding empty
no_empty n s h = rw (none_any n s h)

pub filled : (n : ℕ) (s : ℕ → Bool) → empty n s ≡ false → (v : ℕ) × (v < n) × (s v ≡ true)
unfolding empty
filled n s h = any_elim n s (not-false λ e. clash_bool (flip-not (any n s) e) h)

pub fill : (n : ℕ) (s : ℕ → Bool) (v : ℕ) → v < n → s v ≡ true → empty n s ≡ false
unfolding empty
fill n s v l h = rw (any_intro n s v l h)

module _ (n : ℕ) (edge : ℕ → ℕ → Bool) (rank : ℕ → ℕ) (U : Upward n edge rank) where
  -- v is blocked by nothing: each predecessor has run
  pub free_pred : (exe : ℕ → Bool) (u v : ℕ) → empty n (blocks n edge exe v) ≡ true → edge u v ≡ true → exe u ≡ true
  unfolding blocks
  free_pred exe u v h e = not-false λ x. clash_bool
      (and_intro _ _ (flip-not _ (ne_eqb u v (λ q. omega (arith, U.up u v e, ap rank q))))
      (and_intro _ _ (reach_complete n edge rank U (one e)) (flip-not _ x)))
      (empty_no n (blocks n edge exe v) h u (U.from u v e))

  pub free_intro : (exe : ℕ → Bool) (v : ℕ) → ((u : ℕ) → Reach edge u v → exe u ≡ true) → empty n (blocks n edge exe v) ≡ true
  unfolding blocks
  free_intro exe v h = no_empty n (blocks n edge exe v) λ u l b.
      let c = and_r (not (eqb u v)) (reach n edge u v && not (exe u)) b in
      clash_bool
      (h u (reach-sound n edge rank U u v (and_l (reach n edge u v) (not (exe u)) c)))
      (not-flip (exe u) (and_r (reach n edge u v) (not (exe u)) c))

module _ (n : ℕ) (edge : ℕ → ℕ → Bool) (rank : ℕ → ℕ) (U : Upward n edge rank) (first : ℕ → Bool)
    (start : (v : ℕ) → first v ≡ true → (v < n) × ((u : ℕ) → edge u v ≡ false)) (some : any n first ≡ true) where
  abbrev pub cur : ℕ → ℕ → Bool
  cur = block n edge first

  abbrev pub exe : ℕ → ℕ → Bool
  exe = done n edge first

  after_one : after n edge first 1 ≡ record { cur = first; exe = none }
  unfolding after next
  after_one = rw empty-none

  pub cur-zero : cur 0 ≡ first
  unfolding block
  cur-zero = ap (λ w. w.cur) after_one

  pub exe-zero : exe 0 ≡ none
  unfolding done
  exe-zero = ap (λ w. w.exe) after_one

  Held : ℕ → Type 0
  Held k = (v : ℕ) × (v < n) × (join (cur k) (exe k) v ≡ true)

  busy : (k : ℕ) → Held k → (empty 512 (cur k) && empty 512 (exe k)) ≡ false
  unfolding Held
  busy k r = not-true λ e. ⊎_elim
      (λ c. clash_bool c (empty_no 512 (cur k) (and_l _ (empty 512 (exe k)) e) r.0 (omega (arith, r.1, U.cap))))
      (λ c. clash_bool c (empty_no 512 (exe k) (and_r (empty 512 (cur k)) _ e) r.0 (omega (arith, r.1, U.cap))))
      (join_cases (cur k) (exe k) r.0 r.2)

  after_more : (k : ℕ) → Held k → after n edge first (suc (suc k)) ≡ record { cur = follow n edge (cur k) (exe k); exe = join (cur k) (exe k) }
  unfolding after next block done
  after_more k r = rw (busy k r)

  held : (k : ℕ) → Held k
  unfolding Held done
  held zero = let r = any_elim n first some in (r.0, r.1, join_inl (cur 0) (exe 0) r.0 (rw cur-zero r.2))
  held (suc k) = let r = held k in
      (r.0, r.1, join_inr (cur (suc k)) (exe (suc k)) r.0 (ap (λ w. w.exe r.0) (after_more k r) ∙ r.2))

  -- once started, the two sets are never both empty again
  pub stays_busy : (k : ℕ) → (empty 512 (cur k) && empty 512 (exe k)) ≡ false
  stays_busy k = busy k (held k)

  pub cur-suc : (k : ℕ) → cur (suc k) ≡ follow n edge (cur k) (exe k)
  unfolding block
  cur-suc k = ap (λ w. w.cur) (after_more k (held k))

  pub exe-suc : (k : ℕ) → exe (suc k) ≡ join (cur k) (exe k)
  unfolding done
  exe-suc k = ap (λ w. w.exe) (after_more k (held k))

  -- who is in block k has height k
  record At (k : ℕ) : Type 0 where
    now : (v : ℕ) → cur k v ≡ true → (v < n) × (height n edge v ≡ k)
    ran : (v : ℕ) → exe k v ≡ true → height n edge v < k

  at_zero : At 0
  unfolding none
  at_zero = record {
    now = λ v h. let s = start v (rw cur-zero at h) in (s.0, go v s (height n edge v) refl);
    ran = λ v h. absurd (clash_bool (rw exe-zero at h) refl);
  }
    where
      go : (v : ℕ) (s : (v < n) × ((u : ℕ) → edge u v ≡ false)) (m : ℕ) → height n edge v ≡ m → height n edge v ≡ 0
      go v s zero e = e
      go v s (suc m) e = let p = height_pred n edge rank U v m s.0 e in absurd (clash_bool p.1 (s.1 p.0))

  at_suc : (k : ℕ) → At k → At (suc k)
  unfolding follow
  at_suc k A = record {
    now = λ v h. new v (rw (cur-suc k) at h);
    ran = λ v h. ⊎_elim
        (λ c. omega (arith, (A.now v c).1))
        (λ c. omega (arith, A.ran v c))
        (join_cases (cur k) (exe k) v (rw (exe-suc k) at h));
  }
    where
      same : (v : ℕ) → v < n → empty n (blocks n edge (join (cur k) (exe k)) v) ≡ true → (m : ℕ) → height n edge v ≡ m → suc k ≤ height n edge v → height n edge v ≡ suc k
      same v l f zero e g = absurd (omega arith)
      same v l f (suc m) e g =
          let q = height_pred n edge rank U v m l e in
          ⊎_elim
          (λ c. omega (arith, (A.now q.0 c).1, q.2))
          (λ c. absurd (omega (arith, A.ran q.0 c, q.2)))
          (join_cases (cur k) (exe k) q.0 (free_pred n edge rank U (join (cur k) (exe k)) q.0 v f q.1))

      new : (v : ℕ) → follow n edge (cur k) (exe k) v ≡ true → (v < n) × (height n edge v ≡ suc k)
      new v h =
          let p = any-and n (cur k) (λ u. edge u v) (and_l (any n (λ u. cur k u && edge u v)) (empty n (blocks n edge (join (cur k) (exe k)) v)) h) in
          let f = and_r (any n (λ u. cur k u && edge u v)) (empty n (blocks n edge (join (cur k) (exe k)) v)) h in
          (U.to _ v p.3, same v (U.to _ v p.3) f (height n edge v) refl (omega (arith, height_up n edge rank U _ v p.3, (A.now p.0 p.2).1)))

  at : (k : ℕ) → At k
  at zero = at_zero
  at (suc k) = at_suc k (at k)

  pub block-height : (k v : ℕ) → block n edge first k v ≡ true → (v < n) × (height n edge v ≡ k)
  unfolding block
  block-height k v h = (at k).now v h

-- ---- the walk where the first block is whole: op are the nodes that count

pub record Whole (n : ℕ) (op : ℕ → Bool) (edge : ℕ → ℕ → Bool) (first : ℕ → Bool) : Type 0 where
  pub op_low : (v : ℕ) → op v ≡ true → v < n
  pub op-from : (u v : ℕ) → edge u v ≡ true → op u ≡ true
  pub op-to : (u v : ℕ) → edge u v ≡ true → op v ≡ true
  pub first_op : (v : ℕ) → first v ≡ true → op v ≡ true
  pub first_no : (u v : ℕ) → first v ≡ true → edge u v ≡ false
  pub first_all_lem : (v : ℕ) → op v ≡ true → ((u : ℕ) → edge u v ≡ false) → first v ≡ true

module _ (n : ℕ) (op : ℕ → Bool) (edge : ℕ → ℕ → Bool) (rank : ℕ → ℕ) (U : Upward n edge rank) (first : ℕ → Bool)
    (W : Whole n op edge first) where
  start : (v : ℕ) → first v ≡ true → (v < n) × ((u : ℕ) → edge u v ≡ false)
  start v h = (W.op_low v (W.first_op v h), λ u. W.first_no u v h)

  height-zero : (u v : ℕ) → height n edge v ≡ 0 → edge u v ≡ false
  height-zero u v h = not-true λ e. omega (arith, height_up n edge rank U u v e)

  -- below an operation of height m stands one of each height up to m
  pub descend : (m v k : ℕ) → op v ≡ true → height n edge v ≡ m → k ≤ m → (u : ℕ) × (op u ≡ true) × (height n edge u ≡ k)
  descend zero v k o e l = (v, o, omega arith)
  descend (suc m) v k o e l = elim (ℕ_discrete k (suc m)) [
    | yes q ↦ (v, o, e ∙ sym q)
    | no q ↦ let p = height_pred n edge rank U v m (W.op_low v o) e in descend m p.0 k (W.op-from _ _ p.1) p.2 (omega arith)
  ]

  first_some : (v : ℕ) → op v ≡ true → any n first ≡ true
  first_some v o =
      let r = descend (height n edge v) v 0 o refl (omega arith) in
      any_intro n first r.0 (W.op_low _ r.1) (W.first_all_lem r.0 r.1 (λ u. height-zero u r.0 r.2))

  reach-op : {u v : ℕ} → Reach edge u v → op u ≡ true
  reach-op (one e) = W.op-from _ _ e
  reach-op (more e r) = W.op-from _ _ e

  module _ (some : any n first ≡ true) where
    record In (k : ℕ) : Type 0 where
      now : (v : ℕ) → op v ≡ true → height n edge v ≡ k → block n edge first k v ≡ true
      ran : (v : ℕ) → op v ≡ true → height n edge v < k → done n edge first k v ≡ true

    in_zero : In 0
    in_zero = record {
      now = λ v o h. rw (cur-zero n edge rank U first start some) (W.first_all_lem v o (λ u. height-zero u v h));
      ran = λ v o h. absurd (omega arith);
    }

    in_join : (k : ℕ) → In k → (v : ℕ) → op v ≡ true → height n edge v < suc k → join (block n edge first k) (done n edge first k) v ≡ true
    in_join k A v o h = ⊎_elim
        (λ e. join_inl (block n edge first k) (done n edge first k) v (A.now v o e))
        (λ l. join_inr (block n edge first k) (done n edge first k) v (A.ran v o l))
        (split_lt (height n edge v) k h)

    in_suc : (k : ℕ) → In k → In (suc k)
    unfolding follow
    in_suc k A = record {
      now = λ v o h. rw (cur-suc n edge rank U first start some k)
          (let p = height_pred n edge rank U v k (W.op_low v o) h in
          and_intro _ _
          (and-any n (block n edge first k) (λ u. edge u v) p.0 (U.from _ _ p.1) (A.now p.0 (W.op-from _ _ p.1) p.2) p.1)
          (free_intro n edge rank U (join (block n edge first k) (done n edge first k)) v
          (λ u r. in_join k A u (reach-op r) (omega (arith, height-reach n edge rank U r)))));
      ran = λ v o h. rw (exe-suc n edge rank U first start some k) (in_join k A v o h);
    }

    inn : (k : ℕ) → In k
    inn zero = in_zero
    inn (suc k) = in_suc k (inn k)

  -- the walk's block k holds exactly the operations of height k
  pub block_of : (v : ℕ) → op v ≡ true → block n edge first (height n edge v) v ≡ true
  block_of v o = (inn (first_some v o) (height n edge v)).now v o refl

  pub of_block : (k v : ℕ) → op v ≡ true → block n edge first k v ≡ true → height n edge v ≡ k
  of_block k v o h = (block-height n edge rank U first start (first_some v o) k v h).1

-- ---- the number of steps

pub record Stop (n : ℕ) (edge : ℕ → ℕ → Bool) (first : ℕ → Bool) (f k s : ℕ) : Type 0 where
  pub low : k ≤ s
  pub high : s ≤ k + f
  pub full : (j : ℕ) → k ≤ j → j < s → empty n (block n edge first j) ≡ false
  pub out : s < k + f → empty n (block n edge first s) ≡ true

pub steps_from_stop : (n : ℕ) (edge : ℕ → ℕ → Bool) (first : ℕ → Bool) (f k : ℕ) → empty n (block n edge first k) ≡ true
    → steps_from n edge first (suc f) k ≡ k
unfolding steps_from
steps_from_stop n edge first f k e = rw (e, steps_from)

pub steps_from_go : (n : ℕ) (edge : ℕ → ℕ → Bool) (first : ℕ → Bool) (f k : ℕ) → empty n (block n edge first k) ≡ false
    → steps_from n edge first (suc f) k ≡ steps_from n edge first f (suc k)
unfolding steps_from
steps_from_go n edge first f k e = rw (e, steps_from)

pub stop : (n : ℕ) (edge : ℕ → ℕ → Bool) (first : ℕ → Bool) (f k : ℕ) → Stop n edge first f k (steps_from n edge first f k)
unfolding steps_from
stop n edge first zero k = record { low = omega arith; high = omega arith; full = λ j a b. absurd (omega arith); out = λ l. absurd (omega arith) }
stop n edge first (suc f) k = ⊎_elim
    (λ (e : empty n (block n edge first k) ≡ true). rw (steps_from_stop n edge first f k e)
    (record { low = omega arith; high = omega arith; full = λ j a b. absurd (omega arith); out = λ l. e }))
    (λ (e : empty n (block n edge first k) ≡ false). rw (steps_from_go n edge first f k e)
    (let r = stop n edge first f (suc k) in
    record {
      low = omega (arith, r.low);
      high = omega (arith, r.high);
      full = λ j a b. ⊎_elim
          (λ (q : k ≡ j). rw (← q) e)
          (λ l. r.full j l b)
          (split_lt k j (omega arith));
      out = λ l. r.out (omega arith);
    }))
    (bool_cases (empty n (block n edge first k)))

next_cases : (n : ℕ) (edge : ℕ → ℕ → Bool) (first : ℕ → Bool) (w : Walk) (v : ℕ) → (next n edge first w).cur v ≡ true
    → (first v ≡ true) ⊎ ((u : ℕ) × (edge u v ≡ true))
unfolding next follow
next_cases n edge first w v h = ⊎_elim
    (λ e. inl (rw e at h))
    (λ e. inr (let r : (i : ℕ) × (i < n) × (w.cur i ≡ true) × (edge i v ≡ true) = any-and n w.cur (λ u. edge u v) (fol (rw e at h)) in (r.0, r.3)))
    (bool_cases (empty 512 w.cur && empty 512 w.exe))
  where
    fol : follow n edge w.cur w.exe v ≡ true → any n (λ u. w.cur u && edge u v) ≡ true
    fol e = and_l _ (empty n (blocks n edge (join w.cur w.exe) v)) e

module _ (n : ℕ) (op : ℕ → Bool) (edge : ℕ → ℕ → Bool) (rank : ℕ → ℕ) (U : Upward n edge rank) (first : ℕ → Bool)
    (W : Whole n op edge first) where
  pub block-op : (k v : ℕ) → block n edge first k v ≡ true → op v ≡ true
  unfolding block after
  block-op k v h = ⊎_elim
      (λ e. W.first_op v e)
      (λ r. W.op-to r.0 v r.1)
      (next_cases n edge first (after n edge first k) v h)

  steps_stop : Stop n edge first n 0 (steps n edge first)
  unfolding steps
  steps_stop = stop n edge first n 0

  -- every operation has its block before the walk ends
  pub height-steps : (v : ℕ) → op v ≡ true → height n edge v < steps n edge first
  height-steps v o = elim (dec_lt (height n edge v) (steps n edge first)) [
    | yes l ↦ l
    | no m ↦
        let d = descend n op edge rank U first W (height n edge v) v (steps n edge first) o refl (omega arith) in
        let b : block n edge first (steps n edge first) d.0 ≡ true = rw d.2 at (block_of n op edge rank U first W d.0 d.1) in
        absurd (clash_bool
        (steps_stop.out (omega (arith, height_low n edge rank U v (W.op_low v o))))
        (fill n (block n edge first (steps n edge first)) d.0 (W.op_low _ d.1) b))
  ]

  written_at : (m v : ℕ) → op v ≡ true → height n edge v < m → written n edge first m v ≡ height n edge v
  unfolding written
  written_at zero v o l = absurd (omega arith)
  written_at (suc m) v o l = ⊎_elim
      (λ e. rw e (sym (of_block n op edge rank U first W m v o e)))
      (λ e. rw e (written_at m v o (⊎_elim
      (λ (q : height n edge v ≡ m). absurd (clash_bool (rw q at (block_of n op edge rank U first W v o)) e))
      (λ k. k)
      (split_lt (height n edge v) m l))))
      (bool_cases (block n edge first m v))

  written_no : (m v : ℕ) → op v ≡ false → written n edge first m v ≡ 65535
  unfolding written
  written_no zero v o = refl
  written_no (suc m) v o = rw (not-true λ e. clash_bool (block-op m v e) o) (written_no m v o)

  pub number-op : (v : ℕ) → op v ≡ true → number n edge first v ≡ height n edge v
  unfolding number
  number-op v o = written_at (steps n edge first) v o (height-steps v o)

  pub number_no : (v : ℕ) → op v ≡ false → number n edge first v ≡ 65535
  unfolding number
  number_no v o = written_no (steps n edge first) v o

  pub steps_low : steps n edge first ≤ n
  steps_low = omega (arith, steps_stop.high)

  pub steps_full : (k : ℕ) → k < steps n edge first → (v : ℕ) × (op v ≡ true) × (height n edge v ≡ k)
  steps_full k l =
      let r = filled n (block n edge first k) (steps_stop.full k (omega arith) l) in
      (r.0, block-op k r.0 r.2, of_block n op edge rank U first W k r.0 (block-op k r.0 r.2) r.2)

-- ---- the guarantee

-- how many numbers ρ gives to operations
unfoldable pub different : (n : ℕ) (op : ℕ → Bool) (ρ : ℕ → ℕ) → ℕ
different n op ρ = count (suc (greatest n (λ v. cond (op v) (ρ v) 0))) (λ k. any n (λ v. op v && eqb (ρ v) k))

-- ρ is a numbering that puts the earlier of two clashing operations lower
abbrev pub Keeps : (op : ℕ → Bool) (clash earlier : ℕ → ℕ → Bool) (ρ : ℕ → ℕ) → Type 0
Keeps op clash earlier ρ = (u v : ℕ) → op u ≡ true → op v ≡ true → clash u v ≡ true → earlier u v ≡ true → ρ u < ρ v

-- the edges say neither more nor less than the clashes
pub record Tells (op : ℕ → Bool) (clash earlier edge : ℕ → ℕ → Bool) : Type 0 where
  pub joins : (u v : ℕ) → edge u v ≡ true → clash u v ≡ true
  pub rises : (u v : ℕ) → edge u v ≡ true → earlier u v ≡ true
  pub leads : (u v : ℕ) → op u ≡ true → op v ≡ true → clash u v ≡ true → earlier u v ≡ true → Reach edge u v

pub record Guarantee (n : ℕ) (op : ℕ → Bool) (clash earlier edge : ℕ → ℕ → Bool) (first : ℕ → Bool) : Type 0 where
  -- each operation is in the block of exactly one step, and its entry is that step's number
  pub held : (v : ℕ) → op v ≡ true → block n edge first (number n edge first v) v ≡ true
  pub once : (k v : ℕ) → op v ≡ true → block n edge first k v ≡ true → k ≡ number n edge first v
  pub within : (v : ℕ) → op v ≡ true → number n edge first v < steps n edge first
  pub others : (v : ℕ) → op v ≡ false → number n edge first v ≡ 65535
  pub only : (k v : ℕ) → block n edge first k v ≡ true → op v ≡ true
  -- of two clashing ones the earlier is in the earlier block
  pub keeps : Keeps op clash earlier (number n edge first)
  -- every rival puts no operation lower and uses at least as many blocks
  pub least : (ρ : ℕ → ℕ) → Keeps op clash earlier ρ → (v : ℕ) → op v ≡ true → number n edge first v ≤ ρ v
  pub fewest : (ρ : ℕ → ℕ) → Keeps op clash earlier ρ → steps n edge first ≤ different n op ρ
  -- the count is that of the different numbers written
  pub exact : steps n edge first ≡ count 65535 (λ k. any n (λ v. eqb (number n edge first v) k))

module _ (n : ℕ) (op : ℕ → Bool) (clash earlier edge : ℕ → ℕ → Bool) (first : ℕ → Bool) (rank : ℕ → ℕ)
    (U : Upward n edge rank) (W : Whole n op edge first) (C : Tells op clash earlier edge) where
  rise : (ρ : ℕ → ℕ) → Keeps op clash earlier ρ → (u v : ℕ) → edge u v ≡ true → ρ u < ρ v
  rise ρ K u v e = K u v (W.op-from u v e) (W.op-to u v e) (C.joins u v e) (C.rises u v e)

  low : (ρ : ℕ → ℕ) → Keeps op clash earlier ρ → (k v : ℕ) → op v ≡ true → height n edge v ≡ k → k ≤ ρ v
  low ρ K zero v o e = omega arith
  low ρ K (suc k) v o e =
      let p = height_pred n edge rank U v k (W.op_low v o) e in
      omega (arith, rise ρ K p.0 v p.1, low ρ K k p.0 (W.op-from _ _ p.1) p.2)

  abbrev used : (ρ : ℕ → ℕ) → ℕ → Bool
  used ρ k = any n (λ v. op v && eqb (ρ v) k)

  used-at : (ρ : ℕ → ℕ) (v : ℕ) → op v ≡ true → used ρ (ρ v) ≡ true
  used-at ρ v o = and-any n op (λ w. eqb (ρ w) (ρ v)) v (W.op_low v o) o (eqb_same (ρ v))

  -- the chain: one more number for each step down
  chain : (ρ : ℕ → ℕ) → Keeps op clash earlier ρ → (k v : ℕ) → op v ≡ true → height n edge v ≡ k → suc k ≤ count (suc (ρ v)) (used ρ)
  chain ρ K zero v o e = omega (arith, count-hit (ρ v) (used ρ) (used-at ρ v o))
  chain ρ K (suc k) v o e =
      let p = height_pred n edge rank U v k (W.op_low v o) e in
      omega (
        arith,
        count-hit (ρ v) (used ρ) (used-at ρ v o),
        chain ρ K k p.0 (W.op-from _ _ p.1) p.2,
        count_mono (suc (ρ p.0)) (ρ v) (used ρ) (rise ρ K p.0 v p.1),
      )

  below_top : (ρ : ℕ → ℕ) (v : ℕ) → op v ≡ true → ρ v ≤ greatest n (λ w. cond (op w) (ρ w) 0)
  below_top ρ v o = let l = greatest_le n (λ w. cond (op w) (ρ w) 0) v (W.op_low v o) in rw o at l

  fewest_of : (ρ : ℕ → ℕ) → Keeps op clash earlier ρ → (s : ℕ) → steps n edge first ≡ s → s ≤ different n op ρ
  unfolding different
  fewest_of ρ K zero e = omega arith
  fewest_of ρ K (suc m) e =
      let r = steps_full n op edge rank U first W m (omega arith) in
      omega (
        arith,
        chain ρ K m r.0 r.1 r.2,
        count_mono (suc (ρ r.0)) (suc (greatest n (λ v. cond (op v) (ρ v) 0))) (used ρ) (omega (arith, below_top ρ r.0 r.1)),
      )

  pub guarantee : Guarantee n op clash earlier edge first
  guarantee = record {
    held = λ v o. rw (number-op n op edge rank U first W v o) (block_of n op edge rank U first W v o);
    once = λ k v o b. sym (number-op n op edge rank U first W v o ∙ of_block n op edge rank U first W k v o b);
    within = λ v o. rw (number-op n op edge rank U first W v o) (height-steps n op edge rank U first W v o);
    others = number_no n op edge rank U first W;
    only = block-op n op edge rank U first W;
    keeps = λ u v a b c l. rw (number-op n op edge rank U first W u a, number-op n op edge rank U first W v b)
        (height-reach n edge rank U (C.leads u v a b c l));
    least = λ ρ K v o. rw (number-op n op edge rank U first W v o) (low ρ K (height n edge v) v o refl);
    fewest = λ ρ K. fewest_of ρ K (steps n edge first) refl;
    exact = sym (count_all 65535 (steps n edge first) (λ k. any n (λ v. eqb (number n edge first v) k))
        (omega (arith, steps_low n op edge rank U first W, U.cap))
        (λ k l. let r = steps_full n op edge rank U first W k l in
        any_intro n (λ v. eqb (number n edge first v) k) r.0 (W.op_low _ r.1)
        (eq-eqb _ _ (number-op n op edge rank U first W r.0 r.1 ∙ r.2)))
        (λ k a b. none_any n (λ v. eqb (number n edge first v) k) (λ v l e.
        let q = eqb-true (number n edge first v) k e in
        ⊎_elim
        (λ o. omega (arith, height-steps n op edge rank U first W v o, number-op n op edge rank U first W v o))
        (λ o. omega (arith, number_no n op edge rank U first W v o))
        (bool_cases (op v)))));
  }
