-- The numbers that the whole walk writes, by direct predecessors only, on every sound graph: a node of the first block has 0, another
-- node one more than the greatest of its predecessors', 65535 if it has none or one of them has 65535. So one pass in place order
-- over the edges finds them all. Assumes nothing.
use mathlib.Core.Path.{◌≡◌, refl, sym, ◌∙◌, ap}
use mathlib.Core.Bool.{Bool, true, false, cond, ◌&&◌}
use mathlib.Core.Logic.{⊎_elim}
use Prim.Native.Nat.{ℕ, zero, suc, ◌≤◌, ◌<◌}
use native.Mathlib.Omega.{arith}
use Rattle.graph.specs.declared.CircuitDag.{CircuitDag}
use Rattle.graph.specs.Dag.{size}
use Rattle.graph.specs.Soundness.{sound}
use Rattle.file.proofs.BoolLaws.{bool_cases, clash_bool, not-true, not-false, and_r, and_intro}
use Rattle.walk.specs.Blocks.{blocks, number_from}
use Rattle.walk.proofs.Bounds.{any, any_elim, any_none, and-any, any_intro, split_lt, greatest, greatest_le, greatest-at}
use Rattle.walk.proofs.Heights.{Reach, one, more, none, join, follow, empty_no, join_cases, join_inl, join_inr, block, done, cur-zero, cur-suc}
use Rattle.walk.proofs.Heights.{exe-zero, exe-suc, free_intro}
use Rattle.walk.proofs.HeightSteps.{last_edge, block_intro, block_pred}
use Rattle.walk.proofs.BlockSteps.{block-at}
use Rattle.walk.proofs.BlockLaws.{W, edges, firsts, rank, upward, first_start, no_block, last_step, number_is, number-none}

module _ (g : CircuitDag) (s : sound g ≡ true) where
  abbrev n : ℕ
  n = size g

  abbrev E : ℕ → ℕ → Bool
  E = edges g s

  abbrev F : ℕ → Bool
  F = firsts g s

  abbrev blk : ℕ → ℕ → Bool
  blk = block n E F

  abbrev exe : ℕ → ℕ → Bool
  exe = done n E F

  -- in a block up to step t
  abbrev ran : ℕ → ℕ → Bool
  ran t = join (blk t) (exe t)

  module _ (some : any n F ≡ true) where
    first_is : (v : ℕ) → blk 0 v ≡ F v
    first_is v = ap (λ (f : ℕ → Bool). f v) (cur-zero n E (rank g s) (upward g s) F (first_start g s) some)

    next-is : (t v : ℕ) → blk (suc t) v ≡ follow n E (blk t) (exe t) v
    next-is t v = ap (λ (f : ℕ → Bool). f v) (cur-suc n E (rank g s) (upward g s) F (first_start g s) some t)

    ran-is : (t v : ℕ) → exe (suc t) v ≡ ran t v
    ran-is t v = ap (λ (f : ℕ → Bool). f v) (exe-suc n E (rank g s) (upward g s) F (first_start g s) some t)

    not-before : (v : ℕ) → exe 0 v ≡ false
    unfolding none
    not-before v = ap (λ (f : ℕ → Bool). f v) (exe-zero n E (rank g s) (upward g s) F (first_start g s) some)

    ran-block : (t u : ℕ) → ran t u ≡ true → (i : ℕ) × (i ≤ t) × (blk i u ≡ true)
    ran-block zero u h = ⊎_elim
        (λ (c : blk 0 u ≡ true). (0, omega arith, c))
        (λ (c : exe 0 u ≡ true). absurd (clash_bool c (not-before u)))
        (join_cases (blk 0) (exe 0) u h)
    ran-block (suc t) u h = ⊎_elim
        (λ (c : blk (suc t) u ≡ true). (suc t, omega arith, c))
        (λ (c : exe (suc t) u ≡ true). let r = ran-block t u (sym (ran-is t u) ∙ c) in (r.0, omega (arith, r.1), r.2))
        (join_cases (blk (suc t)) (exe (suc t)) u h)

    block-ran : (t i u : ℕ) → i ≤ t → blk i u ≡ true → ran t u ≡ true
    block-ran zero i u l h = let z : i ≡ 0 = omega arith in join_inl (blk 0) (exe 0) u (ap (λ (k : ℕ). blk k u) (sym z) ∙ h)
    block-ran (suc t) i u l h = ⊎_elim
        (λ (e : i ≡ suc t). join_inl (blk (suc t)) (exe (suc t)) u (ap (λ (k : ℕ). blk k u) (sym e) ∙ h))
        (λ (k : i < suc t). join_inr (blk (suc t)) (exe (suc t)) u (ran-is t u ∙ block-ran t i u (omega arith) h))
        (split_lt i (suc t) (omega arith))

    -- who is blocked by none has all that lead to it behind it
    all_ran : (t u v : ℕ) → blk (suc t) v ≡ true → Reach E u v → ran t u ≡ true
    unfolding follow
    all_ran t u v h r = not-false (λ e. clash_bool (block_intro n E (rank g s) (upward g s) (ran t) r e)
        (empty_no n _ (and_r (any n (λ w. blk t w && E w v)) _ (sym (next-is t v) ∙ h)) u (from r)))
      where
        from : {a b : ℕ} → Reach E a b → a < n
        from (one x) = (W g s).from _ _ x
        from (more x y) = (W g s).from _ _ x

    -- so has who ran
    closed : (t : ℕ) (w u : ℕ) → ran t u ≡ true → Reach E w u → ran t w ≡ true
    closed zero w u h r = ⊎_elim
        (λ (c : blk 0 u ≡ true). let l = last_edge r in absurd (clash_bool l.1 ((first_start g s u (sym (first_is u) ∙ c)).1 l.0)))
        (λ (c : exe 0 u ≡ true). absurd (clash_bool c (not-before u)))
        (join_cases (blk 0) (exe 0) u h)
    closed (suc t) w u h r = join_inr (blk (suc t)) (exe (suc t)) w (ran-is t w ∙ ⊎_elim
        (λ (c : blk (suc t) u ≡ true). all_ran t w u c r)
        (λ (c : exe (suc t) u ≡ true). closed t w u (sym (ran-is t u) ∙ c) r)
        (join_cases (blk (suc t)) (exe (suc t)) u h))

    next_by_edges : (t p v : ℕ) → blk t p ≡ true → E p v ≡ true → ((u : ℕ) → E u v ≡ true → ran t u ≡ true) → blk (suc t) v ≡ true
    unfolding follow
    next_by_edges t p v b e h = next-is t v ∙ and_intro _ _ (and-any n (blk t) (λ w. E w v) p ((W g s).from p v e) b e)
        (free_intro n E (rank g s) (upward g s) (ran t) v (λ u r. let l = last_edge r in ⊎_elim
        (λ (q : u ≡ l.0). ap (ran t) q ∙ h l.0 l.1)
        (λ (q : Reach E u l.0). closed t u l.0 (h l.0 l.1) q)
        l.2))

  -- what the whole walk writes for v
  abbrev pub number_of : ℕ → ℕ
  number_of v = number_from 0 (blocks g) v

  pub some_first : (t v : ℕ) → blk t v ≡ true → any n F ≡ true
  some_first t v h = not-false (λ e. clash_bool h (no_block g s e t v))

  pub number-block : (t v : ℕ) → blk t v ≡ true → number_of v ≡ t
  number-block t v h = number_is g s t v (block-at g (W g s) t v ∙ h)

  pub block_low : (t v : ℕ) → blk t v ≡ true → t < n
  block_low t v h = last_step g s t v (block-at g (W g s) t v ∙ h)

  -- v is in the block of its number, or in none
  pub data Numbered (v : ℕ) : Type 0 where
    in_block : blk (number_of v) v ≡ true → number_of v < n → Numbered v
    in_none : ((t : ℕ) → blk t v ≡ false) → number_of v ≡ 65535 → Numbered v

  pub number_cases : (v : ℕ) → Numbered v
  number_cases v = ⊎_elim
      (λ (h : any n (λ t. blk t v) ≡ true).
      let r = any_elim n (λ t. blk t v) h in
      let e = number-block r.0 v r.2 in
      in_block (ap (λ (t : ℕ). blk t v) e ∙ r.2) (omega (arith, r.1)))
      (λ (h : any n (λ t. blk t v) ≡ false).
      let f : (t : ℕ) → blk t v ≡ false = λ t. not-true (λ b. clash_bool b (any_none n (λ t. blk t v) h t (block_low t v b))) in
      in_none f (number-none g s v (λ t. block-at g (W g s) t v ∙ f t)))
      (bool_cases (any n (λ t. blk t v)))

  pub number_first : (v : ℕ) → F v ≡ true → number_of v ≡ 0
  number_first v h = number-block 0 v (first_is (any_intro n F v (first_start g s v h).0 h) v ∙ h)

  -- the greatest number of the direct predecessors
  abbrev pub greatest_before : ℕ → ℕ
  greatest_before v = greatest n (λ u. cond (E u v) (number_of u) 0)

  before_le : (u v : ℕ) → E u v ≡ true → number_of u ≤ greatest_before v
  before_le u v e = let z = greatest_le n (λ u. cond (E u v) (number_of u) 0) u ((W g s).from u v e) in rw e at z

  numbered-block : (u : ℕ) → number_of u < 65535 → blk (number_of u) u ≡ true
  numbered-block u l = go (number_cases u)
    where
      go : Numbered u → blk (number_of u) u ≡ true
      go (in_block b k) = b
      go (in_none f e) = absurd (omega arith)

  greatest_one : (v p k : ℕ) → E p v ≡ true → greatest_before v ≡ k → (u : ℕ) × (E u v ≡ true) × (number_of u ≡ k)
  greatest_one v p zero e h = (p, e, omega (arith, before_le p v e))
  greatest_one v p (suc k) e h = let r = greatest-at n (λ u. cond (E u v) (number_of u) 0) k h in let x = pick (E r.0 v) (number_of r.0) r.2 in (r.0, x.0, x.1)
    where
      pick : (b : Bool) (x : ℕ) → cond b x 0 ≡ suc k → (b ≡ true) × (x ≡ suc k)
      pick true x h = (refl, h)
      pick false x h = absurd (omega arith)

  pub number-next : (v p : ℕ) → E p v ≡ true → ((u : ℕ) → E u v ≡ true → number_of u < 65535) → number_of v ≡ suc (greatest_before v)
  number-next v p e h =
      let r = greatest_one v p (greatest_before v) e refl in
      let b = numbered-block r.0 (h r.0 r.1) in
      let some = some_first _ _ b in
      number-block (suc (greatest_before v)) v (next_by_edges some (greatest_before v) r.0 v (ap (λ (t : ℕ). blk t r.0) (sym r.2) ∙ b) r.1
      (λ u d. block-ran some (greatest_before v) (number_of u) u (before_le u v d) (numbered-block u (h u d))))

  module _ (v : ℕ) (later : F v ≡ false) where
    no_number : ((t u : ℕ) → blk (suc t) v ≡ true → E u v ≡ true → ⊥) → number_of v ≡ 65535
    no_number h = go (number_cases v)
      where
        in_some : (t : ℕ) → blk t v ≡ true → ⊥
        in_some zero b = clash_bool (sym (first_is (some_first 0 v b) v) ∙ b) later
        in_some (suc t) b = let r = block_pred n E (rank g s) (upward g s) F (first_start g s) (some_first (suc t) v b) t v b in h t r.0 b r.2

        go : Numbered v → number_of v ≡ 65535
        go (in_block b k) = absurd (in_some (number_of v) b)
        go (in_none f e) = e

    pub number_alone : ((u : ℕ) → E u v ≡ false) → number_of v ≡ 65535
    number_alone h = no_number (λ t u b e. clash_bool e (h u))

    pub number_behind : (u : ℕ) → E u v ≡ true → number_of u ≡ 65535 → number_of v ≡ 65535
    number_behind u e k = no_number (λ t w b d.
        let some = some_first (suc t) v b in
        let r = ran-block some t u (all_ran some t u v b (one e)) in
        omega (arith, number-block r.0 u r.2, block_low r.0 u r.2, (W g s).cap))
