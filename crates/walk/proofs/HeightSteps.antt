-- What the code of the walk leans on: ancestors as a closed set, who waits by one edge, the end of the walk, the chain. Assumes nothing.
use mathlib.Core.Path.{◌≡◌, refl, sym, ◌∙◌, ap}
use mathlib.Core.Bool.{Bool, true, false, ◌&&◌, ◌||◌, not, cond}
use mathlib.Core.Logic.{◌⊎◌, inl, inr, ⊎_elim}
use mathlib.Core.List.{List, [], ◌∷◌}
use Prim.Native.Nat.{ℕ, zero, suc, ◌≤◌, ◌<◌}
use native.Mathlib.Omega.{arith}
use lib.Dec.{eqb}
use lib.ListN.{length}
use borrow.Author.Tests.{ne_eqb, not-true as not-flip}
use Rattle.file.proofs.BoolLaws.{bool_cases, clash_bool, bool_ext, and_l, and_r, and_intro, or_cases, or_inl, or_inr, flip-not}
use Rattle.walk.proofs.Bounds.{any, any_intro, any_elim, any-and, and-any}
use Rattle.walk.proofs.Heights.{Reach, one, more, Upward, reach, reach-sound, reach_complete, reach_up, blocks, block, done, follow, join, reach_snoc}
use Rattle.walk.proofs.Heights.{empty, height_low, block-height, cur-suc}

-- the last edge of a path
pub last_edge : {e : ℕ → ℕ → Bool} {u v : ℕ} → Reach e u v → (w : ℕ) × (e w v ≡ true) × ((u ≡ w) ⊎ Reach e u w)
last_edge (one {u = u} x) = (u, x, inl refl)
last_edge {e} (more {u = u} {w = w} x r) =
    let s = last_edge r in
    let y : Reach e u w = one x in
    (s.0, s.1, inr (⊎_elim (λ (k : w ≡ s.0). rw k at y) (λ k. more x k) s.2))

module _ (n : ℕ) (edge : ℕ → ℕ → Bool) (rank : ℕ → ℕ) (U : Upward n edge rank) where
  -- a set that holds v's predecessors, is closed under predecessors and holds nothing else is v's ancestors
  pub closed_is-reach : (v : ℕ) (A : ℕ → Bool) → ((u : ℕ) → A u ≡ true → Reach edge u v) → ((u : ℕ) → edge u v ≡ true → A u ≡ true)
      → ((u w : ℕ) → edge u w ≡ true → A w ≡ true → A u ≡ true) → (u : ℕ) → A u ≡ reach n edge u v
  closed_is-reach v A s b c u = bool_ext (A u) (reach n edge u v)
      (λ h. reach_complete n edge rank U (s u h))
      (λ h. go (reach-sound n edge rank U u v h) b)
    where
      go : {x y : ℕ} → Reach edge x y → ((z : ℕ) → edge z y ≡ true → A z ≡ true) → A x ≡ true
      go (one k) d = d _ k
      go (more k r) d = c _ _ k (go r d)

  abbrev pub waits : (ℕ → Bool) → ℕ → Bool
  waits exe v = any n (blocks n edge exe v)

  pub block_intro : (exe : ℕ → Bool) {u v : ℕ} → Reach edge u v → exe u ≡ false → blocks n edge exe v u ≡ true
  unfolding blocks
  block_intro exe {u} {v} r h = and_intro _ _ (flip-not _ (ne_eqb u v (λ q. omega (arith, reach_up n edge rank U r, ap rank q))))
      (and_intro _ _ (reach_complete n edge rank U r) (flip-not _ h))

  pub block_elim : (exe : ℕ → Bool) (u v : ℕ) → blocks n edge exe v u ≡ true → Reach edge u v × (exe u ≡ false)
  unfolding blocks
  block_elim exe u v h =
      let c = and_r (not (eqb u v)) (reach n edge u v && not (exe u)) h in
      (reach-sound n edge rank U u v (and_l (reach n edge u v) (not (exe u)) c), not-flip (exe u) (and_r (reach n edge u v) (not (exe u)) c))

  -- a node waits exactly where a direct predecessor has not run or waits itself: one pass in place order finds all that wait
  pub waits_by_edge : (exe : ℕ → Bool) (v : ℕ) → waits exe v ≡ any n (λ u. edge u v && (not (exe u) || waits exe u))
  waits_by_edge exe v = bool_ext (waits exe v) (any n (λ u. edge u v && (not (exe u) || waits exe u)))
      (λ h. let x = any_elim n (blocks n edge exe v) h in
      let b = block_elim exe x.0 v x.2 in
      let s = last_edge b.0 in
      and-any n (λ u. edge u v) (λ u. not (exe u) || waits exe u) s.0 (U.from _ _ s.1) s.1
      (⊎_elim
      (λ (k : x.0 ≡ s.0). or_inl (not (exe s.0)) _ (flip-not (exe s.0) (rw k at b.1)))
      (λ k. or_inr (not (exe s.0)) _ (any_intro n (blocks n edge exe s.0) x.0 x.1 (block_intro exe k b.1)))
      s.2))
      (λ h. let x = any-and n (λ u. edge u v) (λ u. not (exe u) || waits exe u) h in
      ⊎_elim
      (λ k. any_intro n (blocks n edge exe v) x.0 x.1 (block_intro exe (one x.2) (not-flip (exe x.0) k)))
      (λ k. let y = any_elim n (blocks n edge exe x.0) k in
      let b = block_elim exe y.0 x.0 y.2 in
      any_intro n (blocks n edge exe v) y.0 y.1 (block_intro exe (reach_snoc b.0 x.2) b.1))
      (or_cases (not (exe x.0)) (waits exe x.0) x.3))

  module _ (first : ℕ → Bool) (start : (v : ℕ) → first v ≡ true → (v < n) × ((u : ℕ) → edge u v ≡ false)) (some : any n first ≡ true) where
    -- on any sound graph: a node of a later block has a direct predecessor in the block before
    pub block_pred : (k v : ℕ) → block n edge first (suc k) v ≡ true → (u : ℕ) × (block n edge first k u ≡ true) × (edge u v ≡ true)
    unfolding follow
    block_pred k v h =
        let c = ap (λ s. s v) (cur-suc n edge rank U first start some k) in
        let x = any-and n (block n edge first k) (λ u. edge u v) (and_l _ (empty n (blocks n edge (join (block n edge first k) (done n edge first k)) v)) (sym c ∙ h)) in
        (x.0, x.2, x.3)

    -- and no block from n on has a node, so the walk ends
    pub block_low : (k v : ℕ) → block n edge first k v ≡ true → k < n
    block_low k v h = let b = block-height n edge rank U first start some k v h in omega (arith, height_low n edge rank U v b.0, b.1)

-- ---- the chain: from the smallest node of the last block down to block 0, each time to the smallest predecessor one block lower

-- the smallest i below n with p; n where there is none
unfoldable pub least : ℕ → (ℕ → Bool) → ℕ
least zero p = zero
least (suc n) p = cond (any n p) (least n p) (cond (p n) n (suc n))

pub least-has : (n : ℕ) (p : ℕ → Bool) → any n p ≡ true → p (least n p) ≡ true
unfolding any least
least-has zero p h = absurd (clash_bool h refl)
least-has (suc n) p h = ⊎_elim
    (λ (a : any n p ≡ true). rw a (least-has n p a))
    (λ (a : any n p ≡ false). ⊎_elim
    (λ (b : p n ≡ true). rw (a, b) b)
    (λ b. absurd (clash_bool b a))
    (or_cases (p n) (any n p) h))
    (bool_cases (any n p))

-- the chain from v, in block k
unfoldable pub chain_from : (n : ℕ) (edge : ℕ → ℕ → Bool) (first : ℕ → Bool) → ℕ → ℕ → List ℕ
chain_from n edge first zero v = v ∷ []
chain_from n edge first (suc k) v = v ∷ chain_from n edge first k (least n (λ u. block n edge first k u && edge u v))

-- each next one is a direct predecessor, one block lower
pub data Falls (edge : ℕ → ℕ → Bool) (blk : ℕ → ℕ → Bool) : ℕ → List ℕ → Type 0 where
  bottom : {v : ℕ} → blk 0 v ≡ true → Falls edge blk 0 (v ∷ [])
  fall : {k u v : ℕ} {l : List ℕ} → blk (suc k) v ≡ true → edge u v ≡ true → Falls edge blk k (u ∷ l) → Falls edge blk (suc k) (v ∷ u ∷ l)

module _ (n : ℕ) (edge : ℕ → ℕ → Bool) (rank : ℕ → ℕ) (U : Upward n edge rank) (first : ℕ → Bool)
    (start : (v : ℕ) → first v ≡ true → (v < n) × ((u : ℕ) → edge u v ≡ false)) (some : any n first ≡ true) where
  pub chain_length : (k v : ℕ) → length (chain_from n edge first k v) ≡ suc k
  unfolding chain_from
  chain_length zero v = refl
  chain_length (suc k) v = ap suc (chain_length k (least n (λ u. block n edge first k u && edge u v)))

  under : (k v : ℕ) → block n edge first (suc k) v ≡ true
      → (block n edge first k (least n (λ u. block n edge first k u && edge u v)) ≡ true) × (edge (least n (λ u. block n edge first k u && edge u v)) v ≡ true)
  under k v h =
      let x = block_pred n edge rank U first start some k v h in
      let y = least-has n (λ u. block n edge first k u && edge u v) (and-any n (block n edge first k) (λ u. edge u v) x.0 (U.from _ _ x.2) x.1 x.2) in
      (and_l (block n edge first k (least n (λ u. block n edge first k u && edge u v))) _ y, and_r (block n edge first k (least n (λ u. block n edge first k u && edge u v))) _ y)

  pub chain_falls : (k v : ℕ) → block n edge first k v ≡ true → Falls edge (block n edge first) k (chain_from n edge first k v)
  unfolding chain_from
  chain_falls zero v h = bottom h
  chain_falls (suc zero) v h = let y = under zero v h in fall h y.1 (bottom y.0)
  chain_falls (suc (suc k)) v h = let y = under (suc k) v h in fall h y.1 (chain_falls (suc k) _ y.0)

-- ---- two ways for the code to find all that wait

module _ (n : ℕ) (edge : ℕ → ℕ → Bool) (rank : ℕ → ℕ) (U : Upward n edge rank) (exe : ℕ → Bool) where
  -- a set that holds only such as wait, and that no edge can make larger, is the set of those that wait
  pub closed_is-waits : (bad : ℕ → Bool) → ((v : ℕ) → bad v ≡ true → waits n edge rank U exe v ≡ true)
      → ((u v : ℕ) → edge u v ≡ true → (not (exe u) || bad u) ≡ true → bad v ≡ true) → (v : ℕ) → bad v ≡ waits n edge rank U exe v
  closed_is-waits bad s c v = bool_ext (bad v) (waits n edge rank U exe v) (s v) (λ h. go (rank v) v (omega arith) h)
    where
      go : (k v : ℕ) → rank v ≤ k → waits n edge rank U exe v ≡ true → bad v ≡ true
      go zero v l h = let x = any-and n (λ u. edge u v) (λ u. not (exe u) || waits n edge rank U exe u) (sym (waits_by_edge n edge rank U exe v) ∙ h) in
          absurd (omega (arith, U.up _ _ x.2))
      go (suc k) v l h =
          let x = any-and n (λ u. edge u v) (λ u. not (exe u) || waits n edge rank U exe u) (sym (waits_by_edge n edge rank U exe v) ∙ h) in
          c x.0 v x.2 (⊎_elim
          (λ i. or_inl (not (exe x.0)) _ i)
          (λ i. or_inr (not (exe x.0)) _ (go k x.0 (omega (arith, U.up _ _ x.2)) i))
          (or_cases (not (exe x.0)) (waits n edge rank U exe x.0) x.3))

  -- after k rounds over the edges all that wait with a rank below k are found, so n rounds find all
  pub rounds_find : (bad : ℕ → ℕ → Bool)
      → ((k u v : ℕ) → edge u v ≡ true → (not (exe u) || bad k u) ≡ true → bad (suc k) v ≡ true)
      → (k v : ℕ) → rank v < k → waits n edge rank U exe v ≡ true → bad k v ≡ true
  rounds_find bad c zero v l h = absurd (omega arith)
  rounds_find bad c (suc k) v l h =
      let x = any-and n (λ u. edge u v) (λ u. not (exe u) || waits n edge rank U exe u) (sym (waits_by_edge n edge rank U exe v) ∙ h) in
      c k x.0 v x.2 (⊎_elim
      (λ i. or_inl (not (exe x.0)) _ i)
      (λ i. or_inr (not (exe x.0)) _ (rounds_find bad c k x.0 (omega (arith, U.up _ _ x.2)) i))
      (or_cases (not (exe x.0)) (waits n edge rank U exe x.0) x.3))
