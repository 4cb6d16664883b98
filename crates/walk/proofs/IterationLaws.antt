-- The calls of `next` one after the other, against the whole walk: the statement is in specs/Steps.antt. Assumes nothing.
use mathlib.Core.Path.{◌≡◌, refl, sym, ◌∙◌, ap}
use mathlib.Core.Bool.{Bool, true, false, cond, not, ◌&&◌}
use mathlib.Core.List.{List, [], ◌∷◌}
use Prim.Native.Nat.{ℕ, zero, suc, ◌+◌, ◌≤◌, ◌<◌}
use native.Mathlib.Omega.{arith}
use native.Mathlib.Decide.{dec_lt}
use lib.Dec.{ltb, eqb}
use lib.ListN.{length, get_or, replicate}
use borrow.Author.Tests.{eqb-true, eq-eqb, ltb-true, lt-ltb, le-ltb}
use Rattle.file.specs.Lists.{any_of, all_of, is_empty, member, members, marked_from, onto}
use Rattle.graph.specs.declared.CircuitDag.{CircuitDag}
use Rattle.graph.specs.Dag.{size}
use Rattle.graph.specs.Soundness.{sound}
use Rattle.file.proofs.BoolLaws.{clash_bool, bool_ext, not-true, and_l, and_r, and_intro}
use Rattle.graph.proofs.ListLaws.{members_all, member_marked}
use Rattle.queries.proofs.BufferLaws.{keep_low}
use Rattle.graph.proofs.ListLaws.{all_same}
use Rattle.walk.specs.declared.ParallelBlocks.{ParallelBlocks}
use Rattle.walk.specs.Blocks.{marks, start, unstarted, joined, followers, next_block, next_state}
use Rattle.walk.specs.Blocks.{Stepped, steps, next, blocks, number_from, Walked, state_after, block_of_step}
use Rattle.walk.specs.Steps.{next_call, entry_of, Iterated, NextIterated}
use Rattle.walk.proofs.Bounds.{any_intro}
use Rattle.walk.proofs.Heights.{Walk, empty, block, done, stays_busy}
use Rattle.walk.proofs.BlockSteps.{empty-not, not-empty, unstarted-is, next_low, next_marked, state_sized, state_sets, block-at}
use Rattle.walk.proofs.BlockLaws.{empty_list, W, edges, firsts, rank, upward, first_start, block-number, one_block, blocks_few, before_last}
use Rattle.walk.proofs.BlockLaws.{past_last, number_is, number-none}
use Rattle.walk.proofs.NumberLaws.{Numbered, in_block, in_none, number_cases}
use Rattle.walk.proofs.WholeLaws.{walk_done, walk_entry}
use Rattle.std.specs.Prelude.{Ok, Some, None}

-- ---- a step on any two sets

some_left : (u : Bool) (f l : List ℕ) → is_empty (cond u f l) ≡ false → (not u && is_empty l) ≡ false
some_left true f l e = refl
some_left false f l e = e

none_left : (u : Bool) (f l : List ℕ) → u ≡ false → is_empty (cond u f l) ≡ true → (not u && is_empty l) ≡ true
none_left true f l h e = absurd (clash_bool refl h)
none_left false f l h e = e

module _ (g : CircuitDag) (w : ParallelBlocks) (b : List ℕ) where
  step_block : is_empty (next_block g w) ≡ false → length (next_block g w) ≤ length b
      → steps g w b ≡ record { answer = Ok (Some (length (next_block g w))); walk = next_state g w; buffer = onto (next_block g w) b }
  step_block e room = rw (some_left (unstarted w) (members g.first.block) (followers g w) e, le-ltb _ _ room) refl

  step-none : unstarted w ≡ false → is_empty (next_block g w) ≡ true → steps g w b ≡ record { answer = (Ok None); walk = next_state g w; buffer = b }
  step-none u e = rw (none_left (unstarted w) (members g.first.block) (followers g w) u e) refl

  step_walk : length (next_block g w) ≤ length b → (steps g w b).walk ≡ next_state g w
  step_walk room = rw (le-ltb _ _ room) (either (not (unstarted w) && is_empty (followers g w)))
    where
      either : (c : Bool) → (cond {A = Stepped} c (record { answer = (Ok None); walk = next_state g w; buffer = b })
          (record { answer = Ok (Some (length (next_block g w))); walk = next_state g w; buffer = onto (next_block g w) b })).walk ≡ next_state g w
      either true = refl
      either false = refl

-- ---- no block is longer than the graph

marked_few : (k : ℕ) (s : List Bool) (n : ℕ) → ((i : ℕ) → n ≤ i → get_or s i false ≡ false) → length (marked_from k s) ≤ n
unfolding marked_from
marked_few k [] n h = omega arith
marked_few k (true ∷ s) zero h = absurd (clash_bool refl (h 0 (omega arith)))
marked_few k (false ∷ s) zero h = marked_few (k + 1) s zero (λ i l. h (suc i) (omega arith))
marked_few k (true ∷ s) (suc n) h = omega (arith, marked_few (k + 1) s n (λ i l. h (suc i) (omega arith)))
marked_few k (false ∷ s) (suc n) h = omega (arith, marked_few (k + 1) s n (λ i l. h (suc i) (omega arith)))

module _ (g : CircuitDag) (s : sound g ≡ true) where
  first_few : length (members g.first.block) ≤ size g
  first_few = marked_few 0 g.first.block (size g) (λ i l. not-true (λ e. omega (arith, (W g s).first i e)))

  next_few : (w : ParallelBlocks) → length (next_block g w) ≤ size g
  unfolding followers
  next_few w = either (unstarted w)
    where
      either : (u : Bool) → length (cond u (members g.first.block) (followers g w)) ≤ size g
      either true = first_few
      either false = keep_low _ (size g)

  -- ---- the state between the calls

  -- no call is refused for its current set
  current_below : (t : ℕ) → all_of (λ v. ltb v (size g)) (members (state_after g t).current) ≡ true
  unfolding state_after start
  current_below zero = members_all (λ v. ltb v (size g)) (replicate 512 false) (λ v e. absurd (clash_bool e (all_same 512 v false)))
  current_below (suc t) = members_all (λ v. ltb v (size g)) (marks (block_of_step g t))
      (λ v e. lt-ltb v (size g) (next_low g (W g s) (state_after g t) v (sym (next_marked g (W g s) (state_after g t) v) ∙ e)))

  next-steps : (t : ℕ) (b : List ℕ) → next g (state_after g t) b ≡ steps g (state_after g t) b
  unfolding next
  next-steps t b = rw (s, current_below t) refl

  first_step : block_of_step g 0 ≡ members g.first.block
  unfolding state_after start any_of
  first_step = refl

  -- a walk that has started does not start again
  started : is_empty (members g.first.block) ≡ false → (t : ℕ) → unstarted (state_after g (suc t)) ≡ false
  unfolding block done
  started e t =
      let r = not-empty (members g.first.block) e in
      let f = sym (member_marked g.first.block r.0) ∙ r.1 in
      unstarted-is (state_after g (suc t)) (state_sized g (W g s) (suc t))
      ∙ ap (λ (x : Walk). empty 512 x.cur && empty 512 x.exe) (state_sets g (W g s) (suc t))
      ∙ stays_busy (size g) (edges g s) (rank g s) (upward g s) (firsts g s) (first_start g s) (any_intro (size g) (firsts g s) r.0 ((W g s).first r.0 f) f) t

  -- without a first block the two sets stay empty
  stays_start : members g.first.block ≡ [] → (t : ℕ) → state_after g t ≡ start
  unfolding state_after start marks joined any_of
  stays_start e zero = refl
  stays_start e (suc t) = ap (next_state g) (stays_start e t) ∙ rw e refl

  -- ---- the calls

  module _ (lent : ℕ → List ℕ) (room : (t : ℕ) → size g ≤ length (lent t)) where
    block_fits : (t : ℕ) → length (block_of_step g t) ≤ length (lent t)
    block_fits t = omega (arith, next_few (state_after g t), room t)

    call_steps : (t : ℕ) → next_call g lent t ≡ steps g (state_after g t) (lent t)
    unfolding next_call state_after
    call_steps zero = next-steps zero (lent 0)
    call_steps (suc t) =
        ap (λ (w : ParallelBlocks). next g w (lent (suc t))) (ap (λ (x : Stepped). x.walk) (call_steps t) ∙ step_walk g (state_after g t) (lent t) (block_fits t))
        ∙ next-steps (suc t) (lent (suc t))

    call_block : (t : ℕ) → t < length (blocks g)
        → next_call g lent t ≡ record { answer = Ok (Some (length (block_of_step g t))); walk = state_after g (suc t); buffer = onto (block_of_step g t) (lent t) }
    unfolding state_after
    call_block t l = call_steps t ∙ step_block g (state_after g t) (lent t) (before_last g s t l) (block_fits t)

    call_none : is_empty (members g.first.block) ≡ false → (t : ℕ) → length (blocks g) ≤ t
        → next_call g lent t ≡ record { answer = (Ok None); walk = state_after g (suc t); buffer = lent t }
    unfolding state_after
    call_none e zero l = absurd (clash_bool (ap is_empty (sym first_step ∙ past_last g s zero l)) e)
    call_none e (suc t) l = call_steps (suc t) ∙ step-none g (state_after g (suc t)) (lent (suc t)) (started e t) (ap is_empty (past_last g s (suc t) l))

    call_forever : members g.first.block ≡ [] → (t : ℕ) → next_call g lent t ≡ record { answer = Ok (Some 0); walk = start; buffer = lent t }
    unfolding start marks joined any_of
    call_forever e t = call_steps t ∙ ap (λ (w : ParallelBlocks). steps g w (lent t)) (stays_start e t)
        ∙ (let z : 0 ≤ length (lent t) = omega arith in rw (e, le-ltb _ _ z) refl)

  -- ---- the whole walk's numbers

  module _ (buffer : List ℕ) (fits : size g ≤ length buffer) where
    number-held : (t v : ℕ) → member v (block_of_step g t) ≡ true → (ltb v (size g) && eqb t (entry_of g buffer v)) ≡ true
    number-held t v h = let k = (block-number g s t v h).0 in
        and_intro _ _ (lt-ltb v (size g) k) (eq-eqb _ _ (sym (walk_entry g s buffer fits v k ∙ number_is g s t v h)))

    held_number : (t v : ℕ) → t < length (blocks g) → (ltb v (size g) && eqb t (entry_of g buffer v)) ≡ true → member v (block_of_step g t) ≡ true
    held_number t v l h =
        let k : v < size g = ltb-true v (size g) (and_l (ltb v (size g)) (eqb t (entry_of g buffer v)) h) in
        let e : t ≡ number_from 0 (blocks g) v = eqb-true t (entry_of g buffer v) (and_r (ltb v (size g)) _ h) ∙ walk_entry g s buffer fits v k in
        go e (number_cases g s v)
      where
        go : t ≡ number_from 0 (blocks g) v → Numbered g s v → member v (block_of_step g t) ≡ true
        go e (in_block b _) = block-at g (W g s) t v ∙ ap (λ (i : ℕ). block (size g) (edges g s) (firsts g s) i v) e ∙ b
        go e (in_none _ q) = absurd (omega (arith, blocks_few g s, (W g s).cap))

    number_others : (v : ℕ) → v < size g → ((t : ℕ) → t < length (blocks g) → member v (block_of_step g t) ≡ false) → entry_of g buffer v ≡ 65535
    number_others v k h = walk_entry g s buffer fits v k ∙ number-none g s v (λ t. elim (dec_lt t (length (blocks g))) [
      | yes l ↦ h t l
      | no l ↦ empty-not (block_of_step g t) (ap is_empty (past_last g s t (omega arith))) v
    ])

  iterated : (lent : ℕ → List ℕ) → ((t : ℕ) → size g ≤ length (lent t)) → (buffer : List ℕ) → size g ≤ length buffer → Iterated g lent buffer
  iterated lent room buffer fits = record {
    count = ap (λ (x : Walked). x.answer) (walk_done g s buffer fits);
    ends = blocks_few g s;
    block = call_block lent room;
    filled = before_last g s;
    numbers = λ t l v. bool_ext _ _ (number-held buffer fits t v) (held_number buffer fits t v l);
    others = number_others buffer fits;
    once = one_block g s;
    none = call_none lent room;
    forever = λ e. call_forever lent room (empty_list (members g.first.block) e);
  }

-- on every sound graph the walk ends, each node is in at most one block, and `next` iterated gives the whole walk's numbers
pub next_iterated : NextIterated
next_iterated = record { whole = iterated }
