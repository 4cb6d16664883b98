-- From what the steps of a query answer to the query's rule. Assumes nothing.
use mathlib.Core.Path.{◌≡◌, refl, sym, ◌∙◌, ap}
use mathlib.Core.Bool.{Bool, true, false, cond, not, ◌||◌}
use mathlib.Core.List.{List, [], ◌∷◌, ◌++◌}
use Prim.Native.Nat.{ℕ, ◌≤◌, ◌<◌}
use native.Mathlib.Omega.{arith}
use lib.ListN.{length, set}
use borrow.Author.Tests.{lt-ltb, le-ltb}
use Rattle.file.specs.Lists.{keep, member, is_empty}
use Rattle.file.specs.declared.Refusal.TheVariants.{Absent, NotInLayer, Unsound}
use Rattle.graph.specs.declared.CircuitDag.{CircuitDag}
use Rattle.graph.specs.Dag.{size}
use Rattle.graph.specs.Soundness.{sound, check_sound}
use Rattle.queries.specs.Reach.{blocking, BlockingList, predecessors_of, successors_of, Reaching}
use Rattle.queries.specs.Queries.{Lent, refuses, answers, on_node, check_node, execution_blocked, blocking_predecessors, successors, remove, freed, layer_after}
use Rattle.queries.specs.Queries.{new_front_layer}
use Rattle.queries.specs.Marks.{no_node, kept, without, layer_by, Listed, Closed, Waiting, FirstAt}
use Rattle.graph.proofs.SoundnessLaws.{Sound}
use Rattle.file.specs.declared.Refusal.{Refusal}
use Rattle.std.specs.Prelude.{ltb, Result, Ok, Err, ⊤}
use Rattle.queries.proofs.BufferLaws.{remove_first, first_member, first_absent, length_some}
use Rattle.queries.proofs.ReachLaws.{blocking_only, blocking-kept, predecessors_kept, successors-kept, freed-kept}

-- ---- "queries 11, 8", then the answer

module _ (g : CircuitDag) (v : ℕ) (b : List ℕ) (x : Lent) where
  node_unsound : sound g ≡ false → refuses Unsound b ≡ on_node g v b x
  node_unsound h = rw h refl

  node-absent : sound g ≡ true → size g ≤ v → refuses Absent b ≡ on_node g v b x
  node-absent h k = rw (h, le-ltb v (size g) k) refl

  node-answers : sound g ≡ true → v < size g → x ≡ on_node g v b x
  node-answers h k = rw (h, lt-ltb v (size g) k) refl

module _ (g : CircuitDag) (v : ℕ) (b : List ℕ) where
  pub successors_unsound : sound g ≡ false → refuses Unsound b ≡ successors g v b
  unfolding successors
  successors_unsound h = node_unsound g v b (answers (successors_of g v) b) h

  pub successors-absent : sound g ≡ true → size g ≤ v → refuses Absent b ≡ successors g v b
  unfolding successors
  successors-absent h k = node-absent g v b (answers (successors_of g v) b) h k

module _ (g : CircuitDag) (executed : List ℕ) (v : ℕ) (b : List ℕ) where
  pub blocked_unsound : sound g ≡ false → refuses Unsound b ≡ execution_blocked g executed v b
  unfolding execution_blocked
  blocked_unsound h = node_unsound g v b (answers (blocking g executed v) b) h

  pub blocked_absent : sound g ≡ true → size g ≤ v → refuses Absent b ≡ execution_blocked g executed v b
  unfolding execution_blocked
  blocked_absent h k = node-absent g v b (answers (blocking g executed v) b) h k

  pub predecessors_unsound : sound g ≡ false → refuses Unsound b ≡ blocking_predecessors g executed v b
  unfolding blocking_predecessors
  predecessors_unsound h = node_unsound g v b (answers (keep (λ u. not (member u executed)) (predecessors_of g v)) b) h

  pub predecessors_absent : sound g ≡ true → size g ≤ v → refuses Absent b ≡ blocking_predecessors g executed v b
  unfolding blocking_predecessors
  predecessors_absent h k = node-absent g v b (answers (keep (λ u. not (member u executed)) (predecessors_of g v)) b) h k

  module _ (layer : List ℕ) where
    abbrev R : Lent
    R = cond (member v layer) (answers (layer_after g executed layer v) b) (refuses NotInLayer b)

    pub layer_unsound : sound g ≡ false → refuses Unsound b ≡ new_front_layer g executed layer v b
    unfolding new_front_layer
    layer_unsound h = node_unsound g v b R h

    pub layer_absent : sound g ≡ true → size g ≤ v → refuses Absent b ≡ new_front_layer g executed layer v b
    unfolding new_front_layer
    layer_absent h k = node-absent g v b R h k

    -- then 9
    pub layer_without : sound g ≡ true → v < size g → (i : ℕ) → FirstAt v layer i → length layer ≤ i → refuses NotInLayer b ≡ new_front_layer g executed layer v b
    unfolding new_front_layer
    layer_without h k i f l = rw (h, lt-ltb v (size g) k, first_absent v layer i f l) refl

-- ---- the answers

pub sound_ok : (g : CircuitDag) (u : ⊤) → check_sound g ≡ Ok u → sound g ≡ true
sound_ok g u e = go (sound g) e
  where
    go : (a : Bool) → ◌≡◌ {A = Result ⊤ Refusal} (cond a (Ok tt) (Err Unsound)) (Ok u) → a ≡ true
    go true e = refl
    go false e = let z : ◌≡◌ {A = ℕ} 0 1 = cc in absurd (omega arith)

-- a graph that isn't sound is refused 11
pub not_sound : (g : CircuitDag) (c : Refusal) → check_sound g ≡ Err c → (sound g ≡ false) × (c ≡ Unsound)
not_sound g c e = go (sound g) refl e
  where
    go : (a : Bool) → sound g ≡ a → ◌≡◌ {A = Result ⊤ Refusal} (cond a (Ok tt) (Err Unsound)) (Err c) → (sound g ≡ false) × (c ≡ Unsound)
    go true s e = let z : ◌≡◌ {A = ℕ} 0 1 = cc in absurd (omega arith)
    go false s e = (s, cc)

pub not-asked : (g : CircuitDag) (v : ℕ) (c : Refusal) (b : List ℕ) (x : Lent) → check_node g v ≡ Err c → refuses c b ≡ on_node g v b x
not-asked g v c b x e = go (sound g) (ltb v (size g)) e
  where
    refused : (r d : Refusal) → ◌≡◌ {A = Result ⊤ Refusal} (Err r) (Err d) → refuses d b ≡ refuses r b
    refused r d e = let z : d ≡ r = cc in rw z refl

    go : (a d : Bool) → ◌≡◌ {A = Result ⊤ Refusal} (cond a (cond d (Ok tt) (Err Absent)) (Err Unsound)) (Err c)
        → refuses c b ≡ cond (not a) (refuses Unsound b) (cond d x (refuses Absent b))
    go true true e = let z : ◌≡◌ {A = ℕ} 0 1 = cc in absurd (omega arith)
    go true false e = refused Absent c e
    go false d e = refused Unsound c e

module _ (g : CircuitDag) (S : Sound g) (h : sound g ≡ true) (v : ℕ) (low : v < size g) (b : List ℕ) (y : Lent) (mark skip : List Bool) where
  pub blocked_answers : (executed : List ℕ) → Closed g.edges.from g.edges.to g.edges.count (set no_node v true) mark → Listed (v ∷ executed) skip
      → y ≡ answers (kept mark skip (size g)) b → y ≡ execution_blocked g executed v b
  unfolding execution_blocked
  blocked_answers executed C L a =
      a ∙ ap (λ (l : List ℕ). answers l b) (blocking-kept g S v low mark C executed skip L) ∙ node-answers g v b (answers (blocking g executed v) b) h low

  pub predecessors_answers : (executed : List ℕ) → Reaching g.edges.to g.edges.from g.edges.count (set no_node v true) mark → Listed executed skip
      → y ≡ answers (kept mark skip (size g)) b → y ≡ blocking_predecessors g executed v b
  unfolding blocking_predecessors
  predecessors_answers executed N L a =
      a ∙ ap (λ (l : List ℕ). answers l b) (predecessors_kept g S v low mark N executed skip L)
      ∙ node-answers g v b (answers (keep (λ w. not (member w executed)) (predecessors_of g v)) b) h low

  pub successors-answers : Reaching g.edges.from g.edges.to g.edges.count (set no_node v true) mark → skip ≡ no_node
      → y ≡ answers (kept mark skip (size g)) b → y ≡ successors g v b
  unfolding successors
  successors-answers N s a =
      a ∙ ap (λ (l : List Bool). answers (kept mark l (size g)) b) s ∙ ap (λ (l : List ℕ). answers l b) (successors-kept g S v low mark N)
      ∙ node-answers g v b (answers (successors_of g v) b) h low

  module _ (executed layer : List ℕ) (i : ℕ) (N : Reaching g.edges.from g.edges.to g.edges.count (set no_node v true) mark) (f : FirstAt v layer i) (k : i < length layer) where
    -- the layer's rule, once the node is found in it
    found : (l : List ℕ) → l ≡ layer_after g executed layer v → y ≡ answers l b → y ≡ new_front_layer g executed layer v b
    unfolding new_front_layer
    found l q a =
        a ∙ ap (λ (x : List ℕ). answers x b) q ∙ (rw (h, lt-ltb v (size g) low, first_member v layer i f k) refl)

    -- there are successors
    pub layer_answers : (bad : List Bool) (n : ℕ) → n ≡ length (kept mark no_node (size g)) → (n ≡ 0 → ⊥) → Listed (v ∷ executed) skip → Waiting skip g.edges.to g.edges.from g.edges.count bad
        → y ≡ answers (layer_by (kept mark bad (size g)) layer i) b → y ≡ new_front_layer g executed layer v b
    unfolding layer_after
    layer_answers bad n c z L W a =
        let s : is_empty (successors_of g v) ≡ false = ap (λ (l : List ℕ). is_empty l) (sym (successors-kept g S v low mark N)) ∙ length_some (kept mark no_node (size g)) n c z in
        found (layer_by (kept mark bad (size g)) layer i)
        ((λ t. layer_by (freed-kept g S v low mark N executed skip bad L W t) layer i)
        ∙ (λ t. cond (is_empty (freed g executed v)) layer (sym (remove_first v layer i f k) t ++ freed g executed v))
        ∙ turned (is_empty (freed g executed v)) (remove v layer ++ freed g executed v) layer
        ∙ (λ t. cond (not (is_empty (freed g executed v)) || sym s t) (remove v layer ++ freed g executed v) layer)) a
      where
        turned : (x : Bool) (p q : List ℕ) → cond x q p ≡ cond (not x || false) p q
        turned true p q = refl
        turned false p q = refl

    -- there are none
    pub layer_alone : (n : ℕ) → n ≡ length (kept mark no_node (size g)) → n ≡ 0 → y ≡ answers (without i layer ++ kept mark no_node (size g)) b → y ≡ new_front_layer g executed layer v b
    unfolding layer_after keep
    layer_alone n c z a =
        let s : kept mark no_node (size g) ≡ [] = empty-is (kept mark no_node (size g)) (omega (arith, c, z)) in
        let t : successors_of g v ≡ [] = sym (successors-kept g S v low mark N) ∙ s in
        let w : freed g executed v ≡ [] = ap (λ (l : List ℕ). keep (λ x. is_empty (blocking g (v ∷ executed) x)) l) t in
        found (without i layer ++ kept mark no_node (size g))
        ((λ t. sym (remove_first v layer i f k) t ++ s t)
        ∙ (λ j. cond (not (is_empty (sym w j)) || is_empty (sym t j)) (remove v layer ++ sym w j) layer)) a
      where
        empty-is : (l : List ℕ) → length l ≡ 0 → l ≡ []
        empty-is [] h = refl
        empty-is (x ∷ l) h = absurd (omega arith)

-- ---- execution_blocked by the relation: on a sound graph it answers the list of all nodes other than v from which v is
-- reached, minus those in the executed list, ascending
pub blocked_by_relation : (g : CircuitDag) → Sound g → sound g ≡ true → (executed : List ℕ) (v : ℕ) → v < size g → (l : List ℕ) → BlockingList g executed v l
    → (b : List ℕ) → execution_blocked g executed v b ≡ answers l b
unfolding execution_blocked
blocked_by_relation g S h executed v low l K b = sym (node-answers g v b (answers (blocking g executed v) b) h low) ∙ ap (λ (z : List ℕ). answers z b) (sym (blocking_only g S executed v l K))
