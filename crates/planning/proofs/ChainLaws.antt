-- The chain on every sound graph: by the walk's blocks it is the chain of least direct predecessors, one in each block. Assumes nothing.
use mathlib.Core.Path.{◌≡◌, refl, sym, ◌∙◌, ap, subst}
use mathlib.Core.Bool.{Bool, true, false, ◌&&◌}
use mathlib.Core.Logic.{⊎_elim}
use mathlib.Core.List.{List, [], ◌∷◌, ◌++◌}
use Prim.Native.Nat.{ℕ, zero, suc, ◌+◌, ◌≤◌, ◌<◌}
use native.Mathlib.Omega.{arith}
use native.Mathlib.Numerals.{add-one}
use native.Mathlib.Decide.{dec_lt}
use lib.Dec.{eqb}
use lib.ListN.{length, get_or, get_or-eq_default}
use borrow.Author.Tests.{eqb-true, eq-eqb, ne_eqb}
use Rattle.file.specs.Lists.{keep, up_to}
use Rattle.graph.specs.declared.CircuitDag.{CircuitDag}
use Rattle.graph.specs.Dag.{absent, size}
use Rattle.graph.specs.Soundness.{sound}
use Rattle.file.proofs.BoolLaws.{bool_cases, clash_bool, not-true, bool_ext, and_l}
use Rattle.graph.proofs.ListLaws.{length-up_to, up_to-at}
use Rattle.queries.proofs.BufferLaws.{keep_yes, keep_no}
use Rattle.insertion.proofs.ConversionLaws.{keep-none}
use Rattle.walk.specs.Blocks.{Walked, blocks, number_from, block_numbers, block_of_step}
use Rattle.walk.proofs.Bounds.{any, any_intro, any_elim, any_none, and-any, split_lt}
use Rattle.walk.proofs.Heights.{block}
use Rattle.walk.proofs.HeightSteps.{block_pred, least, least-has, chain_from as least_from, Falls, bottom, fall, chain_length, chain_falls}
use Rattle.walk.proofs.BlockSteps.{block-at, not-empty}
use Rattle.walk.proofs.BlockLaws.{W, edges, firsts, rank, upward, first_start, block_told, blocks_few, before_last}
use Rattle.walk.proofs.NumberLaws.{number_of, Numbered, in_block as in_its_block, in_none, number_cases, some_first, number-block, block_low}
use Rattle.walk.proofs.WholeLaws.{walk_done}
use Rattle.planning.specs.Chain.{in_block, chain_from, chain_down, chain_of}
use Rattle.planning.specs.Chains.{Consecutive, SoundChain}
use Rattle.std.specs.Prelude.{Ok}

-- ---- the smallest that passes

-- the first one kept is the least
pub least_kept : (n : ℕ) (p : ℕ → Bool) → any n p ≡ true → (l : List ℕ) × (keep p (up_to n) ≡ least n p ∷ l)
unfolding any least
least_kept zero p h = absurd (clash_bool h refl)
least_kept (suc n) p h = ⊎_elim
    (λ (a : any n p ≡ true). let r = least_kept n p a in ⊎_elim
    (λ (b : p n ≡ true). rw (a, ← add-one n) (r.0 ++ (n ∷ []), keep_yes p n b ∙ ap (λ (k : List ℕ). k ++ (n ∷ [])) r.1))
    (λ (b : p n ≡ false). rw (a, ← add-one n) (r.0, keep_no p n b ∙ r.1))
    (bool_cases (p n)))
    (λ (a : any n p ≡ false). ⊎_elim
    (λ (b : p n ≡ true). rw (a, b, ← add-one n) ([], keep_yes p n b ∙ ap (λ (k : List ℕ). k ++ (n ∷ [])) (keep-none p n 0 (λ k l. any_none n p a k (omega arith)))))
    (λ (b : p n ≡ false). absurd (clash_bool (rw b at h) a))
    (bool_cases (p n)))
    (bool_cases (any n p))

-- one that passes with none below it is the least
pub least-is : (n : ℕ) (p : ℕ → Bool) (r : ℕ) → r < n → p r ≡ true → ((u : ℕ) → p u ≡ true → r ≤ u) → least n p ≡ r
unfolding least
least-is zero p r l e h = absurd (omega arith)
least-is (suc n) p r l e h = ⊎_elim
    (λ (a : any n p ≡ true). let x = any_elim n p a in rw a (least-is n p r (omega (arith, x.1, h x.0 x.2)) e h))
    (λ (a : any n p ≡ false). ⊎_elim
    (λ (q : r ≡ n). let b : p n ≡ true = rw q at e in rw (a, b) (sym q))
    (λ (k : r < n). absurd (clash_bool (any_intro n p r k e) a))
    (split_lt r n l))
    (bool_cases (any n p))

-- ---- one node a block

module _ {edge : ℕ → ℕ → Bool} {blk : ℕ → ℕ → Bool} where
  falls_joined : {k : ℕ} {l : List ℕ} → Falls edge blk k l → Consecutive (λ v u. edge u v) l
  falls_joined (bottom x) = tt
  falls_joined (fall x y f) = (y, falls_joined f)

  falls_in : {k : ℕ} {l : List ℕ} → Falls edge blk k l → (i : ℕ) → i < length l → (t : ℕ) × (t + (i + 1) ≡ suc k) × (blk t (get_or l i absent) ≡ true)
  falls_in (bottom x) zero h = (0, omega arith, x)
  falls_in (bottom x) (suc i) h = absurd (omega arith)
  falls_in (fall {k} x y f) zero h = (suc k, omega arith, x)
  falls_in (fall x y f) (suc i) h = let r = falls_in f i (omega arith) in (r.0, omega (arith, r.1), r.2)

-- ---- a sound graph

module _ (g : CircuitDag) (s : sound g ≡ true) where
  abbrev n : ℕ
  n = size g

  abbrev pub E : ℕ → ℕ → Bool
  E = edges g s

  abbrev pub F : ℕ → Bool
  F = firsts g s

  abbrev pub blk : ℕ → ℕ → Bool
  blk = block n E F

  abbrev numbers : List ℕ
  numbers = block_numbers g

  pub numbers_long : length (block_numbers g) ≡ size g
  numbers_long = length-up_to (number_from 0 (blocks g)) n

  -- a node's entry is its block's number
  pub in_block_lem : (t u : ℕ) → t < 65535 → eqb (get_or (block_numbers g) u absent) t ≡ blk t u
  in_block_lem t u low = elim (dec_lt u n) [
    | yes l ↦ ap (λ (x : ℕ). eqb x t) (up_to-at (number_from 0 (blocks g)) n u absent l) ∙ bool_ext _ _ (λ h. held (eqb-true _ _ h) (number_cases g s u))
        (λ h. eq-eqb _ _ (number-block g s t u h))
    | no l ↦ ap (λ (x : ℕ). eqb x t) (get_or-eq_default numbers absent {n = u} (omega (arith, numbers_long))) ∙ ne_eqb absent t (omega arith)
        ∙ sym (not-true (λ h. omega (arith, (block_told g s t u h).0)))
  ]
    where
      held : number_of g s u ≡ t → Numbered g s u → blk t u ≡ true
      held e (in_its_block b k) = ap (λ (x : ℕ). blk x u) (sym e) ∙ b
      held e (in_none f k) = absurd (omega arith)

  -- the nodes of block t that pass, from the least on
  pub from-least : (p : ℕ → Bool) (t u : ℕ) → t < 65535 → blk t u ≡ true → p u ≡ true → (l : List ℕ) × (in_block (block_numbers g) p t ≡ least n (λ w. blk t w && p w) ∷ l)
  from-least p t u low b e =
      let same : ◌≡◌ {A = ℕ → Bool} (λ w. eqb (get_or numbers w absent) t && p w) (λ w. blk t w && p w) = λ i w. in_block_lem t w low i && p w in
      let r = least_kept n (λ w. blk t w && p w) (and-any n (blk t) p u (block_told g s t u b).0 b e) in
      (r.0, (λ i. keep (same i) (up_to (numbers_long i))) ∙ r.1)

  -- the chain from a node on, by least direct predecessors
  pub from-node : (t v : ℕ) (l : List ℕ) → blk t v ≡ true → chain_from g (block_numbers g) t (v ∷ l) ≡ least_from n E F t v
  unfolding chain_from least_from
  from-node zero v l b = refl
  from-node (suc t) v l b =
      let x = block_pred n E (rank g s) (upward g s) F (first_start g s) (some_first g s (suc t) v b) t v b in
      let r = from-least (λ u. E u v) t x.0 (omega (arith, block_low g s (suc t) v b, (W g s).cap)) x.1 x.2 in
      let h = and_l _ _ (least-has n (λ w. blk t w && E w v) (and-any n (blk t) (λ u. E u v) x.0 ((W g s).from _ _ x.2) x.1 x.2)) in
      ap (λ (k : List ℕ). v ∷ chain_from g numbers t k) r.1 ∙ ap (λ (k : List ℕ). v ∷ k) (from-node t (least n (λ w. blk t w && E w v)) r.0 h)

  -- no block, or one node of each
  pub data Whole : ℕ → List ℕ → Type 0 where
    nothing : Whole zero []
    down : {t : ℕ} {l : List ℕ} → Falls E blk t l → Whole (suc t) l

  last_block : (t : ℕ) → t < length (blocks g) → (u : ℕ) × (blk t u ≡ true)
  last_block t l = let r = not-empty (block_of_step g t) (before_last g s t l) in (r.0, sym (block-at g (W g s) t r.0) ∙ r.1)

  -- the least node of the last block
  abbrev pub top : ℕ → ℕ
  top t = least n (λ w. blk t w && true)

  pub top_in : (t : ℕ) → t < length (blocks g) → blk t (top t) ≡ true
  top_in t l = let r = last_block t l in and_l _ true (least-has n (λ w. blk t w && true) (and-any n (blk t) (λ w. true) r.0 (block_told g s t r.0 r.1).0 r.1 refl))

  pub chain-is : (t : ℕ) → suc t ≡ length (blocks g) → chain_of g ≡ least_from n E F t (top t)
  unfolding chain_of
  chain-is t e =
      let l : t < length (blocks g) = omega arith in
      let u = last_block t l in
      let r = from-least (λ w. true) t u.0 (omega (arith, blocks_few g s, (W g s).cap)) u.1 refl in
      ap (chain_down g numbers) (sym e) ∙ ap (chain_from g numbers t) r.1 ∙ from-node t (top t) r.0 (top_in t l)

  pub chain-whole : (k : ℕ) → k ≡ length (blocks g) → Whole k (chain_of g)
  unfolding chain_of
  chain-whole zero e = subst (λ (l : List ℕ). Whole zero l) (ap (chain_down g numbers) e) nothing
  chain-whole (suc t) e =
      let l : t < length (blocks g) = omega arith in
      subst (λ (l : List ℕ). Whole (suc t) l) (sym (chain-is t e))
      (down (chain_falls n E (rank g s) (upward g s) F (first_start g s) (some_first g s t (top t) (top_in t l)) t (top t) (top_in t l)))

  whole-joined : {k : ℕ} {l : List ℕ} → Whole k l → Consecutive (λ v u. E u v) l
  whole-joined nothing = tt
  whole-joined (down f) = falls_joined f

  pub whole_in : {k : ℕ} {l : List ℕ} → Whole k l → (i : ℕ) → i < length l → (t : ℕ) × (t + (i + 1) ≡ k) × (blk t (get_or l i absent) ≡ true)
  whole_in nothing i h = absurd (omega arith)
  whole_in (down f) i h = falls_in f i h

  long_by : (k : ℕ) → k ≡ length (blocks g) → length (chain_of g) ≡ k
  unfolding chain_of
  long_by zero e = ap (λ (k : ℕ). length (chain_down g numbers k)) (sym e)
  long_by (suc t) e = ap length (chain-is t e) ∙ chain_length n E (rank g s) (upward g s) F (first_start g s) (some_first g s t (top t) (top_in t (omega arith))) t (top t)

  -- "exactly as many nodes as the walk counted blocks"
  pub chain_long : length (chain_of g) ≡ length (blocks g)
  chain_long = long_by (length (blocks g)) refl

  number-at : (t u : ℕ) → t < length (blocks g) → blk t u ≡ true → get_or (block_numbers g) u absent ≡ t
  number-at t u l b = eqb-true _ _ (in_block_lem t u (omega (arith, blocks_few g s, (W g s).cap)) ∙ b)

  pub sound-chain : SoundChain g
  sound-chain = record {
    count = λ buffer h. ap (λ (x : Walked). x.answer) (walk_done g s buffer h) ∙ ap Ok (sym chain_long);
    falls = λ i h.
        let r = whole_in (chain-whole (length (blocks g)) refl) i h in
        omega (arith, chain_long, r.1, number-at r.0 (get_or (chain_of g) i absent) (omega (arith, r.1)) r.2);
    joined = whole-joined (chain-whole (length (blocks g)) refl);
  }
