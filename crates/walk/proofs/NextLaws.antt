-- The whole outcome of a step. Assumes nothing.
use mathlib.Core.Path.{◌≡◌, refl, sym, ◌∙◌, ap}
use mathlib.Core.Bool.{Bool, true, false, cond, not, ◌&&◌, ◌||◌, and-false}
use Rattle.file.proofs.BoolLaws.{clash_bool}
use mathlib.Core.List.{List, [], ◌∷◌}
use Prim.Native.Nat.{ℕ, ◌≤◌, ◌<◌}
use native.Mathlib.Omega.{arith}
use lib.Dec.{ltb, eqb}
use lib.ListN.{length}
use borrow.Author.Tests.{lt-ltb, le-ltb, ltb-true, ltb-false, eq-eqb, ne_eqb}
use Rattle.file.specs.declared.Refusal.{Refusal}
use Rattle.graph.specs.Soundness.{check_sound}
use Rattle.queries.specs.Queries.{Lent, answers}
use Rattle.queries.proofs.QueryLaws.{not_sound}
use mathlib.Core.Logic.{◌≢◌}
use Rattle.file.specs.Lists.{any_of, all_of, is_empty, members, onto}
use Rattle.file.specs.declared.Refusal.TheVariants.{Absent, ShortBuffer}
use Rattle.graph.specs.declared.CircuitDag.{CircuitDag}
use Rattle.graph.specs.Dag.{size}
use Rattle.graph.specs.Soundness.{sound}
use Rattle.walk.specs.declared.ParallelBlocks.{ParallelBlocks}
use Rattle.walk.specs.Blocks.{joined, unstarted, followers, Stepped, refuses_step, steps, next}
use Rattle.walk.specs.Numbering.{free_after}
use Rattle.walk.proofs.StepLaws.{marks-members}
use Rattle.std.specs.Prelude.{Result, Ok, Err, Some, None}

unstarted-not : (a b : Bool) → (not a && not b) ≡ not (a || b)
unstarted-not true b = refl
unstarted-not false b = refl

-- the code's test
pub none-test : (l : List ℕ) (k : ℕ) (b : Bool) → k ≡ length l → (b && eqb k 0) ≡ (b && is_empty l)
none-test l k false e = refl
none-test [] k true e = eq-eqb _ _ e
none-test (x ∷ l) k true e = let h : k ≢ 0 = omega arith in ne_eqb _ _ h

module _ (g : CircuitDag) (w : ParallelBlocks) (buffer : List ℕ) where
  pub next_not_sound : (c : Refusal) → check_sound g ≡ Err c → record { answer = Err c; walk = w; buffer = buffer } ≡ next g w buffer
  unfolding next
  next_not_sound c e = let p = not_sound g c e in rw (p.0, p.1) refl

  pub next-absent : sound g ≡ true → all_of (λ (v : ℕ). ltb v (size g)) (members w.current) ≡ false → record { answer = Err Absent; walk = w; buffer = buffer } ≡ next g w buffer
  unfolding next
  next-absent e a = rw (e, a) refl

  -- what the code tests and answers
  outcome : Bool → List ℕ → List Bool → List Bool → Stepped
  outcome started l current executed = cond (started && is_empty l)
      (record { answer = (Ok None); walk = record { current = current; executed = executed }; buffer = buffer })
      (cond (ltb (length buffer) (length l)) (refuses_step ShortBuffer w buffer)
      (record { answer = Ok (Some (length l)); walk = record { current = current; executed = executed }; buffer = onto l buffer }))

  module _ (e : sound g ≡ true) (a : all_of (λ (v : ℕ). ltb v (size g)) (members w.current) ≡ true) (started : Bool)
      (es : started ≡ (any_of (λ (b : Bool). b) w.current || any_of (λ (b : Bool). b) w.executed)) (all found : List Bool)
      (ea : all ≡ joined w.current w.executed) (long : length found ≡ 512)
      (ef : members found ≡ cond started (free_after g w.current all) (members g.first.block)) where
    steps_are : (b : Bool) → started ≡ b → steps g w buffer ≡ outcome b (members found) found all
    unfolding outcome followers
    steps_are true q =
        let u : unstarted w ≡ false = unstarted-not (any_of (λ (b : Bool). b) w.current) (any_of (λ (b : Bool). b) w.executed) ∙ ap not (sym es ∙ q) in
        let f : followers g w ≡ members found = sym (ef ∙ ap (λ (b : Bool). cond b (free_after g w.current all) (members g.first.block)) q ∙ ap (free_after g w.current) ea) in
        go u f
      where
        go : unstarted w ≡ false → followers g w ≡ members found → steps g w buffer ≡ outcome true (members found) found all
        go u f = rw (u, f, marks-members found long, ← ea) refl
    steps_are false q =
        let u : unstarted w ≡ true = unstarted-not (any_of (λ (b : Bool). b) w.current) (any_of (λ (b : Bool). b) w.executed) ∙ ap not (sym es ∙ q) in
        let f : members g.first.block ≡ members found = sym (ef ∙ ap (λ (b : Bool). cond b (free_after g w.current all) (members g.first.block)) q) in
        go u f
      where
        go : unstarted w ≡ true → members g.first.block ≡ members found → steps g w buffer ≡ outcome false (members found) found all
        go u f = rw (u, f, marks-members found long, ← ea) refl

    next-is : next g w buffer ≡ outcome started (members found) found all
    unfolding next
    next-is = rw (e, a) (steps_are started refl)

    pub next-none : (started && is_empty (members found)) ≡ true → record { answer = (Ok None); walk = record { current = found; executed = all }; buffer = buffer } ≡ next g w buffer
    unfolding outcome
    next-none q = sym (next-is ∙ rw q refl)

    module _ (some : (started && is_empty (members found)) ≡ false) where
      pub next_short : length buffer < length (members found) → record { answer = Err ShortBuffer; walk = w; buffer = buffer } ≡ next g w buffer
      unfolding outcome
      next_short h = sym (next-is ∙ rw (some, lt-ltb _ _ h) refl)

      pub next-written : (k : ℕ) (written : List ℕ) → k ≡ length (members found) → length (members found) ≤ length buffer → written ≡ onto (members found) buffer
          → record { answer = Ok (Some k); walk = record { current = found; executed = all }; buffer = written } ≡ next g w buffer
      unfolding outcome
      next-written k written ek h ew = rw (ek, ew) (sym (next-is ∙ rw (some, le-ltb _ _ h) refl))

    -- by the answer of the query whose entries are the block
    module _ (r : Result ℕ Refusal) (written : List ℕ) (A : ◌≡◌ {A = Lent} (record { answer = r; buffer = written }) (answers (members found) buffer)) where
      told : (b : Bool) → ltb (length buffer) (length (members found)) ≡ b
          → (r ≡ cond b (Err ShortBuffer) (Ok (length (members found)))) × (written ≡ cond b buffer (onto (members found) buffer))
      told true h = let a = rw h at A in (ap (λ (x : Lent). x.answer) a, ap (λ (x : Lent). x.buffer) a)
      told false h = let a = rw h at A in (ap (λ (x : Lent). x.answer) a, ap (λ (x : Lent). x.buffer) a)

      -- a block that does not fit has a node
      not-empty : length buffer < length (members found) → (started && is_empty (members found)) ≡ false
      not-empty h = go (members found) h
        where
          go : (l : List ℕ) → length buffer < length l → (started && is_empty l) ≡ false
          go [] h = absurd (omega arith)
          go (x ∷ l) h = and-false started

      pub next-refused : (c : Refusal) → r ≡ Err c → record { answer = Err c; walk = w; buffer = written } ≡ next g w buffer
      next-refused c q = go (ltb (length buffer) (length (members found))) refl
        where
          go : (b : Bool) → ltb (length buffer) (length (members found)) ≡ b → record { answer = Err c; walk = w; buffer = written } ≡ next g w buffer
          go true h =
              let t = told true h in
              let z : c ≡ ShortBuffer = cc in
              rw (z, t.1) (next_short (not-empty (ltb-true _ _ h)) (ltb-true _ _ h))
          go false h = let t = told false h in let z : ◌≡◌ {A = ℕ} 0 1 = cc in absurd (omega arith)

      fits : (k : ℕ) → r ≡ Ok k → (k ≡ length (members found)) × (written ≡ onto (members found) buffer) × (length (members found) ≤ length buffer)
      fits k q = go (ltb (length buffer) (length (members found))) refl
        where
          go : (b : Bool) → ltb (length buffer) (length (members found)) ≡ b
              → (k ≡ length (members found)) × (written ≡ onto (members found) buffer) × (length (members found) ≤ length buffer)
          go true h = let t = told true h in let z : ◌≡◌ {A = ℕ} 0 1 = cc in absurd (omega arith)
          go false h = let t = told false h in let z : k ≡ length (members found) = cc in (z, t.1, ltb-false _ _ h)

      pub next-ended : (k : ℕ) → r ≡ Ok k → (started && eqb k 0) ≡ true
          → record { answer = Ok None; walk = record { current = found; executed = all }; buffer = written } ≡ next g w buffer
      next-ended k q h =
          let f = fits k q in
          let n = sym (none-test (members found) k started f.0) ∙ h in
          rw (f.1, none (members found) n) (next-none n)
        where
          none : (l : List ℕ) → (started && is_empty l) ≡ true → onto l buffer ≡ buffer
          none [] n = refl
          none (x ∷ l) n = absurd (clash_bool n (and-false started))

      pub next-answered : (k : ℕ) → r ≡ Ok k → (started && eqb k 0) ≡ false
          → record { answer = Ok (Some k); walk = record { current = found; executed = all }; buffer = written } ≡ next g w buffer
      next-answered k q h =
          let f = fits k q in
          next-written (sym (none-test (members found) k started f.0) ∙ h) k written f.0 f.2 f.1
