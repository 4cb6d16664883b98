-- What every edge of a net joins, with no condition on the calls: two operations with a common qubit. Assumes nothing.
use mathlib.Core.Path.{◌≡◌, refl, sym, ◌∙◌, ap}
use mathlib.Core.Bool.{Bool, true, false, cond, not, ◌&&◌, ◌||◌}
use mathlib.Core.Logic.{⊎_elim, ◌≢◌}
use mathlib.Core.Option.{Option, none, some}
use mathlib.Core.List.{List, [], ◌∷◌}
use Prim.Native.Nat.{ℕ, suc, ◌<◌}
use native.Mathlib.Omega.{arith}
use lib.Dec.{eqb}
use borrow.Author.Tests.{eqb-true}
use Rattle.file.proofs.BoolLaws.{bool_cases, clash_bool, and_l, or_cases}
use Rattle.walk.proofs.Bounds.{any, any_elim, any-and}
use Rattle.guarantee.proofs.Nets.{Take, nothing, every, these, on, is_op, is_all, all_on, on_op, all_op, or_else, is, is_some, present, never, Net, flip, put}
use Rattle.guarantee.proofs.Nets.{put_same, put_other, source, or, far, back_these, no_qubits, back_every, back_nothing, same_node, new_cases, Call, back}
use Rattle.guarantee.proofs.Nets.{insert, run, empty}

-- the maps name operations on their qubits, edges join two on a common qubit, the blocks hold operations
pub record Linked (g : Net) : Type 0 where
  pub low : (u : ℕ) → is_op (g.take u) ≡ true → u < g.size
  pub edge_on : (u v : ℕ) → g.edge u v ≡ true → (q : ℕ) × (q < 64) × (on (g.take u) q ≡ true) × (on (g.take v) q ≡ true)
  pub last_on : (q a : ℕ) → g.last q ≡ some a → on (g.take a) q ≡ true
  pub first_on : (q a : ℕ) → g.first q ≡ some a → on (g.take a) q ≡ true
  pub last_all_lem : (a : ℕ) → g.last_all ≡ some a → is_all (g.take a) ≡ true
  pub first_all_lem : (a : ℕ) → g.first_all ≡ some a → is_all (g.take a) ≡ true
  pub head_op : (v : ℕ) → g.head v ≡ true → is_op (g.take v) ≡ true
  pub tail_op : (v : ℕ) → g.tail v ≡ true → is_op (g.take v) ≡ true

linked-flip : (g : Net) → Linked g → Linked (flip g)
linked-flip g L = record {
  low = L.low;
  edge_on = λ u v e. let x = L.edge_on v u e in (x.0, x.1, x.3, x.2);
  last_on = L.first_on;
  first_on = L.last_on;
  last_all_lem = L.first_all_lem;
  first_all_lem = L.last_all_lem;
  head_op = L.tail_op;
  tail_op = L.head_op;
}

same_some : {a b : ℕ} → ◌≡◌ {A = Option ℕ} (some a) (some b) → a ≡ b
same_some e = cc

module _ (g : Net) (L : Linked g) (t : Take) where
  abbrev n : ℕ
  n = g.size

  abbrev taken : ℕ → Take
  taken = put n t g.take

  old : (u : ℕ) → is_op (g.take u) ≡ true → taken u ≡ g.take u
  old u o = put_other n t g.take u (λ e. omega (arith, L.low u o))

  old-on : (u q : ℕ) → on (g.take u) q ≡ true → on (taken u) q ≡ true
  old-on u q h = ap (λ (x : Take). on x q) (old u (on_op (g.take u) q h)) ∙ h

  old_all : (u : ℕ) → is_all (g.take u) ≡ true → is_all (taken u) ≡ true
  old_all u h = ap is_all (old u (all_op (g.take u) h)) ∙ h

  old-op : (u : ℕ) → is_op (g.take u) ≡ true → is_op (taken u) ≡ true
  old-op u h = ap is_op (old u h) ∙ h

  new_is : (u : ℕ) → u ≡ n → taken u ≡ t
  new_is u e = ap taken e ∙ put_same n t g.take

  taken_low : (u : ℕ) → is_op (taken u) ≡ true → u < suc n
  taken_low u h = ⊎_elim
      (λ (e : u ≡ n). omega arith)
      (λ (e : u ≢ n). omega (arith, L.low u (ap is_op (sym (put_other n t g.take u e)) ∙ h)))
      (same_node u n)

  -- an old edge, or a new one into the new node
  edge_joins : (test : ℕ → Bool) → ((a : ℕ) → test a ≡ true → (q : ℕ) × (q < 64) × (on (g.take a) q ≡ true) × (on t q ≡ true))
      → (u v : ℕ) → (g.edge u v || (eqb v n && test u)) ≡ true → (q : ℕ) × (q < 64) × (on (taken u) q ≡ true) × (on (taken v) q ≡ true)
  edge_joins test h u v e = ⊎_elim
      (λ (o : g.edge u v ≡ true). let x = L.edge_on u v o in (x.0, x.1, old-on u x.0 x.2, old-on v x.0 x.3))
      (λ (r : (v ≡ n) × (test u ≡ true)). let x = h u r.1 in (x.0, x.1, old-on u x.0 x.2, ap (λ (k : Take). on k x.0) (new_is v r.0) ∙ x.3))
      (new_cases n (g.edge u v) v (test u) e)

-- the source of a new edge on qubit q
source-on : (g : Net) → Linked g → (q a : ℕ) → source g q ≡ some a → on (g.take a) q ≡ true
source-on g L q a h = go (g.last q) refl h
  where
    go : (o : Option ℕ) → g.last q ≡ o → or_else o g.last_all ≡ some a → on (g.take a) q ≡ true
    go none e h = all_on (g.take a) q (L.last_all_lem a h)
    go (some b) e h = L.last_on q a (e ∙ h)

linked_these : (far_all : Bool) (g : Net) → Linked g → (m : ℕ → Bool) → Linked (back_these far_all g m)
linked_these far_all g L m = record {
  low = taken_low g L (these m);
  edge_on = edge_joins g L (these m) (λ a. any 64 (λ q. m q && is (source g q) a))
      (λ a h. let x = any-and 64 m (λ q. is (source g q) a) h in (x.0, x.1, source-on g L x.0 a (is_some _ a x.3), x.2));
  last_on = λ q a e. put_last q a (m q) refl e;
  first_on = λ q a e. put_first q a (m q) (present (g.last q)) refl e;
  last_all_lem = λ a e. old_all g L (these m) a (L.last_all_lem a e);
  first_all_lem = λ a e. old_all g L (these m) a (L.first_all_lem a e);
  head_op = λ v h. ⊎_elim
      (λ (o : g.head v ≡ true). old-op g L (these m) v (L.head_op v o))
      (λ (r : (v ≡ g.size) × (not (any 64 (λ q. m q && present (source g q))) ≡ true)). ap is_op (new_is g L (these m) v r.0))
      (new_cases g.size (g.head v) v _ h);
  tail_op = λ v h. ⊎_elim
      (λ (o : (eqb v g.size && any 64 m) ≡ true). ap is_op (new_is g L (these m) v (eqb-true v g.size (and_l (eqb v g.size) (any 64 m) o))))
      (λ (o : (g.tail v && not (any 64 (λ q. m q && is (source g q) v))) ≡ true). old-op g L (these m) v (L.tail_op v (and_l (g.tail v) _ o)))
      (or_cases (eqb v g.size && any 64 m) _ h);
}
  where
    here : (q a : ℕ) → a ≡ g.size → m q ≡ true → on (put g.size (these m) g.take a) q ≡ true
    here q a e h = ap (λ (k : Take). on k q) (new_is g L (these m) a e) ∙ h

    put_last : (q a : ℕ) (b : Bool) → m q ≡ b → cond b (some g.size) (g.last q) ≡ some a → on (put g.size (these m) g.take a) q ≡ true
    put_last q a true h e = here q a (sym (same_some e)) h
    put_last q a false h e = old-on g L (these m) a q (L.last_on q a e)

    -- the all-qubit node that the rule names
    named : (b : Bool) (a : ℕ) → cond b g.first_all g.last_all ≡ some a → is_all (g.take a) ≡ true
    named true = L.first_all_lem
    named false = L.last_all_lem

    far-on : (q a : ℕ) (o : Option ℕ) → cond far_all g.first_all g.last_all ≡ o → or o g.size ≡ a → m q ≡ true
        → on (put g.size (these m) g.take a) q ≡ true
    far-on q a none f e h = here q a (sym e) h
    far-on q a (some b) f e h = old-on g L (these m) a q (all_on (g.take a) q (named far_all a (f ∙ ap some e)))

    put_first : (q a : ℕ) (b c : Bool) → m q ≡ b → cond (b && not c) (some (far far_all g g.size)) (g.first q) ≡ some a
        → on (put g.size (these m) g.take a) q ≡ true
    put_first q a true false h e = far-on q a (cond far_all g.first_all g.last_all) refl (same_some e) h
    put_first q a true true h e = old-on g L (these m) a q (L.first_on q a e)
    put_first q a false c h e = old-on g L (these m) a q (L.first_on q a e)

linked_every : (g : Net) → Linked g → Linked (back_every g)
linked_every g L = record {
  low = taken_low g L every;
  edge_on = edge_joins g L every (λ a. any 64 (λ q. is (g.last q) a))
      (λ a h. let x = any_elim 64 (λ q. is (g.last q) a) h in (x.0, x.1, L.last_on x.0 a (is_some _ a x.2), refl));
  last_on = λ q a e. put_last q a (no_qubits g) (eqb q 0) (present (g.last q)) e;
  first_on = λ q a e. put_first q a (no_qubits g) (eqb q 0) e;
  last_all_lem = λ a e. ap is_all (new_is g L every a (sym (same_some e)));
  first_all_lem = λ a e. put_all a g.first_all refl e;
  head_op = λ v h. ⊎_elim
      (λ (o : g.head v ≡ true). old-op g L every v (L.head_op v o))
      (λ (r : (v ≡ g.size) × (not (any g.size g.head) ≡ true)). ap is_op (new_is g L every v r.0))
      (new_cases g.size (g.head v) v _ h);
  tail_op = λ v h. ap is_op (new_is g L every v (eqb-true v g.size h));
}
  where
    here : (q a : ℕ) → a ≡ g.size → on (put g.size every g.take a) q ≡ true
    here q a e = ap (λ (k : Take). on k q) (new_is g L every a e)

    put_last : (q a : ℕ) (b c d : Bool) → cond b (cond c (some g.size) none) (cond d (some g.size) none) ≡ some a → on (put g.size every g.take a) q ≡ true
    put_last q a true true d e = here q a (sym (same_some e))
    put_last q a true false d e = absurd (never refl e)
    put_last q a false c true e = here q a (sym (same_some e))
    put_last q a false c false e = absurd (never refl e)

    put_first : (q a : ℕ) (b c : Bool) → cond b (cond c (some g.size) none) (g.first q) ≡ some a → on (put g.size every g.take a) q ≡ true
    put_first q a true true e = here q a (sym (same_some e))
    put_first q a true false e = absurd (never refl e)
    put_first q a false c e = old-on g L every a q (L.first_on q a e)

    put_all : (a : ℕ) (o : Option ℕ) → g.first_all ≡ o → or_else o (some g.size) ≡ some a → is_all (put g.size every g.take a) ≡ true
    put_all a none f e = ap is_all (new_is g L every a (sym (same_some e)))
    put_all a (some b) f e = old_all g L every a (L.first_all_lem a (f ∙ e))

linked_nothing : (g : Net) → Linked g → Linked (back_nothing g)
linked_nothing g L = record {
  low = taken_low g L nothing;
  edge_on = λ u v e. let x = L.edge_on u v e in (x.0, x.1, old-on g L nothing u x.0 x.2, old-on g L nothing v x.0 x.3);
  last_on = λ q a e. old-on g L nothing a q (L.last_on q a e);
  first_on = λ q a e. old-on g L nothing a q (L.first_on q a e);
  last_all_lem = λ a e. old_all g L nothing a (L.last_all_lem a e);
  first_all_lem = λ a e. old_all g L nothing a (L.first_all_lem a e);
  head_op = λ v h. old-op g L nothing v (L.head_op v h);
  tail_op = λ v h. old-op g L nothing v (L.tail_op v h);
}

linked-back : (far_all : Bool) (g : Net) → Linked g → (t : Take) → Linked (back far_all g t)
linked-back far_all g L nothing = linked_nothing g L
linked-back far_all g L every = linked_every g L
linked-back far_all g L (these m) = linked_these far_all g L m

linked-run : (g : Net) → Linked g → (cs : List Call) → Linked (run g cs)
unfolding run
linked-run g L [] = L
linked-run g L (c ∷ cs) = linked-run (insert g c) (⊎_elim
    (λ (f : c.front ≡ true). rw f (linked-flip (back c.far (flip g) c.takes) (linked-back c.far (flip g) (linked-flip g L) c.takes)))
    (λ (f : c.front ≡ false). rw f (linked-back c.far g L c.takes))
    (bool_cases c.front))
    cs

-- every list of calls
pub net_linked : (cs : List Call) → Linked (run empty cs)
net_linked cs = linked-run empty (record {
  low = λ u o. absurd (clash_bool o refl);
  edge_on = λ u v e. absurd (clash_bool e refl);
  last_on = λ q a e. absurd (never refl e);
  first_on = λ q a e. absurd (never refl e);
  last_all_lem = λ a e. absurd (never refl e);
  first_all_lem = λ a e. absurd (never refl e);
  head_op = λ v h. h;
  tail_op = λ v h. h;
}) cs
