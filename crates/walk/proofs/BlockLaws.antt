-- The walk on every sound graph, built or not: it ends, a node is in at most one block, and its block's number is the length of
-- the longest path into it. Assumes nothing.
use mathlib.Core.Path.{◌≡◌, refl, sym, ◌∙◌, ap}
use mathlib.Core.Bool.{Bool, true, false}
use mathlib.Core.Logic.{⊎_elim}
use mathlib.Core.List.{List, [], ◌∷◌}
use Prim.Native.Nat.{ℕ, zero, suc, ◌+◌, ◌-◌, ◌≤◌, ◌<◌}
use native.Mathlib.Omega.{arith}
use native.Mathlib.Decide.{dec_lt}
use lib.IntN.{ℤ, pos, negsuc}
use lib.Signed.{lt_z}
use lib.ListN.{length, get_or, get_or-eq_default}
use borrow.Author.Tests.{ltb-true}
use Rattle.file.specs.Lists.{is_empty, member}
use Rattle.graph.specs.declared.CircuitDag.{CircuitDag}
use Rattle.graph.specs.Dag.{size, place_of, has_edge}
use Rattle.graph.specs.Soundness.{place_within, sound}
use Rattle.file.proofs.BoolLaws.{bool_cases, clash_bool, not-true, not-false}
use Rattle.walk.specs.Blocks.{start, blocks_from, blocks, number_from, state_after, block_of_step}
use Rattle.walk.proofs.SoundOrder.{Ordered, sound-ordered}
use Rattle.walk.proofs.Bounds.{any, any_none}
use Rattle.walk.proofs.Heights.{Upward, steps_from, Walk, none, next, after, block, height, height_low, block-height, Stop, stop, no_empty}
use Rattle.walk.proofs.HeightSteps.{block_pred}
use Rattle.walk.proofs.BlockSteps.{edge-at, Within, sound-within, empty-not, not-empty, block-at, empty-at, count_at, number_in, number_out}
use Rattle.walk.proofs.BlockSteps.{stop_here, go_on}

-- ---- places from below

-- how many places lie below, with f front insertions
abbrev pub place_rank : ℕ → ℤ → ℕ
place_rank f (pos k) = f + k
place_rank f (negsuc k) = f - (k + 1)

module _ (g : CircuitDag) where
  rank_up : (p q : ℤ) → place_within g p ≡ true → place_within g q ≡ true → lt_z p q ≡ true → place_rank g.fronts p < place_rank g.fronts q
  rank_up (pos a) (pos b) h k e = omega (arith, ltb-true a b e)
  rank_up (pos a) (negsuc b) h k e = absurd (clash_bool e refl)
  rank_up (negsuc a) (pos b) h k e = omega (arith, ltb-true a g.fronts h)
  rank_up (negsuc a) (negsuc b) h k e = omega (arith, ltb-true b a e, ltb-true a g.fronts h)

  rank-top : (p : ℤ) → place_within g p ≡ true → place_rank g.fronts p < g.backs + g.fronts
  rank-top (pos k) h = omega (arith, ltb-true k g.backs h)
  rank-top (negsuc k) h = omega (arith, ltb-true k g.fronts h)

pub empty_list : (l : List ℕ) → is_empty l ≡ true → l ≡ []
empty_list [] h = refl
empty_list (x ∷ l) h = absurd (clash_bool h refl)

module _ (g : CircuitDag) (s : sound g ≡ true) where
  S : Ordered g
  S = sound-ordered g s

  abbrev n : ℕ
  n = size g

  pub W : Within g
  W = sound-within g s

  abbrev pub edges : ℕ → ℕ → Bool
  edges a b = has_edge g a b

  abbrev pub firsts : ℕ → Bool
  firsts v = get_or g.first.block v false

  abbrev pub rank : ℕ → ℕ
  rank v = place_rank g.fronts (place_of g v)

  -- edges run from smaller to larger places
  pub upward : Upward n edges rank
  upward = record {
    from = W.from;
    to = W.to;
    up = λ u v h.
        let r = edge-at g u v h in
        let e : lt_z (place_of g u) (place_of g v) ≡ true = (λ i. lt_z (place_of g (r.2 i)) (place_of g (r.3 i))) ∙ S.rises r.0 r.1 in
        rank_up g (place_of g u) (place_of g v) (S.place_within_lem u (W.from u v h)) (S.place_within_lem v (W.to u v h)) e;
    top = λ v l. omega (arith, rank-top g (place_of g v) (S.place_within_lem v l), S.ends);
    cap = S.node-count;
  }

  pub first_start : (v : ℕ) → firsts v ≡ true → (v < n) × ((u : ℕ) → edges u v ≡ false)
  first_start v h = (S.first_block v h, λ u. not-true (λ e. let r = edge-at g u v e in S.first_no_edge v h r.0 r.1 (sym r.3)))

  abbrev pub block_in : ℕ → ℕ → Bool
  block_in = block n edges firsts

  -- without a first block there is none
  record NoBlock (w : Walk) : Type 0 where
    cur : (v : ℕ) → w.cur v ≡ false
    exe : (v : ℕ) → w.exe v ≡ false

  no_block-after : any n firsts ≡ false → (t : ℕ) → NoBlock (after n edges firsts t)
  unfolding after none next
  no_block-after h zero = record { cur = λ v. refl; exe = λ v. refl }
  no_block-after h (suc t) = no_block-next (no_block-after h t)
    where
      no_first : (v : ℕ) → firsts v ≡ false
      no_first v = not-true (λ e. clash_bool e (any_none n firsts h v (S.first_block v e)))

      no_block-next : {w : Walk} → NoBlock w → NoBlock (next n edges firsts w)
      no_block-next {w} b = record { cur = λ v. ap (λ (x : Walk). x.cur v) step ∙ no_first v; exe = λ v. ap (λ (x : Walk). x.exe v) step }
        where
          step : next n edges firsts w ≡ record { cur = firsts; exe = λ v. false }
          step = rw (no_empty 512 w.cur (λ v l e. clash_bool e (b.cur v)), no_empty 512 w.exe (λ v l e. clash_bool e (b.exe v)), next) refl

  pub no_block : any n firsts ≡ false → (t v : ℕ) → block_in t v ≡ false
  unfolding block
  no_block h t v = (no_block-after h (suc t)).cur v

  -- ---- blocks

  pub block_told : (t v : ℕ) → block_in t v ≡ true → (v < n) × (height n edges v ≡ t)
  block_told t v h = ⊎_elim
      (λ (e : any n firsts ≡ true). block-height n edges rank upward firsts first_start e t v h)
      (λ (e : any n firsts ≡ false). absurd (clash_bool h (no_block e t v)))
      (bool_cases (any n firsts))

  -- a block's number is the length of the longest path into each of its nodes
  pub block-number : (t v : ℕ) → member v (block_of_step g t) ≡ true → (v < n) × (height n edges v ≡ t)
  block-number t v h = block_told t v (sym (block-at g W t v) ∙ h)

  -- "exactly one step"
  pub one_block : (i t v : ℕ) → member v (block_of_step g i) ≡ true → member v (block_of_step g t) ≡ true → i ≡ t
  one_block i t v h k = sym (block-number i v h).1 ∙ (block-number t v k).1

  -- no block from the size on
  pub last_step : (t v : ℕ) → member v (block_of_step g t) ≡ true → t < n
  last_step t v h = let r = block-number t v h in omega (arith, height_low n edges rank upward v r.0, r.1)

  no_member : (t : ℕ) → ((v : ℕ) → member v (block_of_step g t) ≡ true → ⊥) → block_of_step g t ≡ []
  no_member t h = empty_list (block_of_step g t) (not-false (λ e. let r = not-empty (block_of_step g t) e in h r.0 r.1))

  pub ends_by_size : (t : ℕ) → n ≤ t → block_of_step g t ≡ []
  ends_by_size t l = no_member t (λ v h. omega (arith, last_step t v h))

  -- after an empty block there is none
  pub after-empty : (t : ℕ) → is_empty (block_of_step g t) ≡ true → block_of_step g (suc t) ≡ []
  after-empty t e = no_member (suc t) (λ v h. let b : block_in (suc t) v ≡ true = sym (block-at g W (suc t) v) ∙ h in ⊎_elim
      (λ (k : any n firsts ≡ true). let r = block_pred n edges rank upward firsts first_start k t v b in clash_bool (block-at g W t r.0 ∙ r.1) (empty-not (block_of_step g t) e r.0))
      (λ (k : any n firsts ≡ false). clash_bool b (no_block k (suc t) v))
      (bool_cases (any n firsts)))

  stays_empty : (t d : ℕ) → is_empty (block_of_step g t) ≡ true → block_of_step g (d + t) ≡ []
  stays_empty t zero e = let z : 0 + t ≡ t = omega arith in ap (block_of_step g) z ∙ empty_list (block_of_step g t) e
  stays_empty t (suc d) e = let z : suc d + t ≡ suc (d + t) = omega arith in ap (block_of_step g) z ∙ after-empty (d + t) (ap is_empty (stays_empty t d e))

  pub later-empty : (t u : ℕ) → t ≤ u → is_empty (block_of_step g t) ≡ true → block_of_step g u ≡ []
  later-empty t u l e = let z : u ≡ (u - t) + t = omega arith in ap (block_of_step g) z ∙ stays_empty t (u - t) e

  -- ---- the whole walk

  abbrev stop_at : Stop n edges firsts n 0 (steps_from n edges firsts n 0)
  stop_at = stop n edges firsts n 0

  count-is : length (blocks g) ≡ steps_from n edges firsts n 0
  unfolding blocks state_after
  count-is = let z = count_at g W n 0 in omega arith

  -- "each block has a node that no earlier one has"
  pub blocks_few : length (blocks g) ≤ n
  blocks_few = omega (arith, stop_at.high, count-is)

  pub before_last : (t : ℕ) → t < length (blocks g) → is_empty (block_of_step g t) ≡ false
  before_last t l = empty-at g W t ∙ stop_at.full t (omega arith) (omega (arith, count-is))

  -- "steps .. to None or an empty block": past the last block every step's block is empty
  pub past_last : (t : ℕ) → length (blocks g) ≤ t → block_of_step g t ≡ []
  past_last t l = elim (dec_lt (length (blocks g)) n) [
    | yes k ↦ later-empty (length (blocks g)) t l (ap (λ (x : ℕ). is_empty (block_of_step g x)) count-is ∙ empty-at g W (steps_from n edges firsts n 0) ∙ stop_at.out (omega (arith, count-is)))
    | no k ↦ ends_by_size t (omega arith)
  ]

  nth_from : (k j i : ℕ) → i < length (blocks_from k g (state_after g j)) → get_or (blocks_from k g (state_after g j)) i [] ≡ block_of_step g (j + i)
  unfolding blocks_from state_after
  nth_from zero j i h = absurd (omega arith)
  nth_from (suc k) j i h = ⊎_elim
      (λ (e : is_empty (block_of_step g j) ≡ true). let z = rw (stop_here k g (state_after g j) e) at h in absurd (omega arith))
      (λ (e : is_empty (block_of_step g j) ≡ false). rw (go_on k g (state_after g j) e) (at_index i (λ m. nth_from k (suc j) m) (rw (go_on k g (state_after g j) e) at h)))
      (bool_cases (is_empty (block_of_step g j)))
    where
      at_index : (i : ℕ) → ((m : ℕ) → m < length (blocks_from k g (state_after g (suc j))) → get_or (blocks_from k g (state_after g (suc j))) m [] ≡ block_of_step g (suc j + m))
          → i < length (block_of_step g j ∷ blocks_from k g (state_after g (suc j))) → get_or (block_of_step g j ∷ blocks_from k g (state_after g (suc j))) i [] ≡ block_of_step g (j + i)
      at_index zero f l = let z : j ≡ j + 0 = omega arith in ap (block_of_step g) z
      at_index (suc m) f l = let z : suc j + m ≡ j + suc m = omega arith in f m (omega arith) ∙ ap (block_of_step g) z

  -- the t-th of the blocks is the block of step t
  pub nth_block : (t : ℕ) → get_or (blocks g) t [] ≡ block_of_step g t
  unfolding blocks state_after
  nth_block t = elim (dec_lt t (length (blocks g))) [
    | yes l ↦ nth_from n 0 t l ∙ (let z : 0 + t ≡ t = omega arith in ap (block_of_step g) z)
    | no l ↦ get_or-eq_default (blocks g) [] {n = t} (omega arith) ∙ sym (past_last t (omega arith))
  ]

  more_from : (k m j : ℕ) → is_empty (block_of_step g (k + j)) ≡ true → blocks_from (k + m) g (state_after g j) ≡ blocks_from k g (state_after g j)
  unfolding blocks_from state_after
  more_from zero zero j e = refl
  more_from zero (suc m) j e =
      let z : 0 + suc m ≡ suc m = omega arith in
      let y : 0 + j ≡ j = omega arith in
      ap (λ (x : ℕ). blocks_from x g (state_after g j)) z ∙ stop_here m g (state_after g j) (ap (λ (x : ℕ). is_empty (block_of_step g x)) (sym y) ∙ e)
  more_from (suc k) m j e =
      let z : suc k + m ≡ suc (k + m) = omega arith in
      let y : k + suc j ≡ suc k + j = omega arith in
      let i = more_from k m (suc j) (ap (λ (x : ℕ). is_empty (block_of_step g x)) y ∙ e) in
      ap (λ (x : ℕ). blocks_from x g (state_after g j)) z ∙ ⊎_elim
      (λ (f : is_empty (block_of_step g j) ≡ true). stop_here (k + m) g (state_after g j) f ∙ sym (stop_here k g (state_after g j) f))
      (λ (f : is_empty (block_of_step g j) ≡ false). go_on (k + m) g (state_after g j) f ∙ ap (λ (x : List (List ℕ)). block_of_step g j ∷ x) i ∙ sym (go_on k g (state_after g j) f))
      (bool_cases (is_empty (block_of_step g j)))

  -- more steps than nodes give the same blocks
  pub more_steps : (k : ℕ) → n ≤ k → blocks_from k g start ≡ blocks g
  unfolding blocks state_after
  more_steps k l =
      let z : k ≡ n + (k - n) = omega arith in
      ap (λ (x : ℕ). blocks_from x g start) z ∙ more_from n (k - n) 0 (ap is_empty (ends_by_size (n + 0) (omega arith)))

  -- what the whole walk writes: the one step whose block holds the node ..
  pub number_is : (t v : ℕ) → member v (block_of_step g t) ≡ true → number_from 0 (blocks g) v ≡ t
  unfolding blocks state_after
  number_is t v h = number_in g W n 0 t v (sym (block-at g W t v) ∙ h) (λ i b. one_block i t v (block-at g W i v ∙ b) h) (omega arith) (elim (dec_lt t (length (blocks g))) [
    | yes l ↦ omega (arith, count-is)
    | no l ↦ absurd (clash_bool h (empty-not (block_of_step g t) (ap is_empty (past_last t (omega arith))) v))
  ])

  -- .. or 65535
  pub number-none : (v : ℕ) → ((t : ℕ) → member v (block_of_step g t) ≡ false) → number_from 0 (blocks g) v ≡ 65535
  unfolding blocks state_after
  number-none v h = number_out g W n 0 v (λ i. sym (block-at g W i v) ∙ h i)
