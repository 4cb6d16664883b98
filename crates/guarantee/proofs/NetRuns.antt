-- The whole guarantee on nets, for every list of accepted calls that meets demand 3's condition, and for every one by K6's rule. Assumes nothing.
use mathlib.Core.Path.{◌≡◌, refl, sym, ◌∙◌}
use mathlib.Core.Bool.{Bool, true, false, ◌&&◌, ◌||◌, cond}
use mathlib.Core.Logic.{◌⊎◌, inl, inr, ⊎_elim}
use mathlib.Core.Option.{none}
use mathlib.Core.List.{List, [], ◌∷◌}
use Prim.Native.Nat.{ℕ, suc, ◌≤◌, ◌<◌}
use native.Mathlib.Omega.{arith}
use lib.Dec.{eqb, ltb}
use borrow.Author.Tests.{eq-eqb, ne_eqb, lt-ltb}
use Rattle.file.proofs.BoolLaws.{bool_cases, clash_bool, or_cases, or_inl, or_inr}
use Rattle.walk.proofs.Bounds.{any, and-any, any-and}
use Rattle.walk.proofs.Heights.{Guarantee, guarantee}
use Rattle.guarantee.proofs.Nets.{Net, Take, nothing, every, these, on, is_op, is_all, clashes, flip, back, insert, run, empty, Call, NonEmpty}
use Rattle.guarantee.proofs.Nets.{NonEmpties, Base, Last, All}
use Rattle.guarantee.proofs.Nets.{all_on, on_op, opt_cases, before_cases, new_intro, same_node, empty_base, empty_last, all_flip, all_back, all_insert}
use Rattle.guarantee.proofs.Nets.{flip_base, base_h, last_h, e_base, e_last, n_base, n_last, n_first, n_all, all_old}

-- ---- ranks follow the order of the circuit

pub record Ranked (g : Net) (r : ℕ → ℕ) : Type 0 where
  pub up : (u v : ℕ) → g.before u v ≡ true → (u < g.size) × (v < g.size) × (r u < r v)
  pub top : (v : ℕ) → v < g.size → r v < g.size
  pub order : (u v : ℕ) → u < g.size → v < g.size → r u < r v → g.before u v ≡ true

-- the new node's rank: last at the back, first at the front
abbrev pub turn : Call → ℕ → (ℕ → ℕ) → ℕ → ℕ
turn c n r u = cond c.front (cond (eqb u n) 0 (suc (r u))) (cond (eqb u n) n (r u))

pub back-size : (far_all : Bool) (g : Net) (t : Take) → (back far_all g t).size ≡ suc g.size
back-size far_all g nothing = refl
back-size far_all g every = refl
back-size far_all g (these m) = refl

pub back-before : (far_all : Bool) (g : Net) (t : Take) (a b : ℕ) → (back far_all g t).before a b ≡ (g.before a b || (eqb b g.size && ltb a g.size))
back-before far_all g nothing a b = refl
back-before far_all g every a b = refl
back-before far_all g (these m) a b = refl

-- at the back
ranked_back : (far_all : Bool) (g : Net) (t : Take) (r : ℕ → ℕ) → Ranked g r → Ranked (back far_all g t) (λ u. cond (eqb u g.size) g.size (r u))
ranked_back far_all g t r R = record {
  up = λ u v e. rw (back-size far_all g t) (⊎_elim
      (λ o. let x = R.up u v o in
      (omega (arith, x.0), omega (arith, x.1), rw (ne_eqb u g.size (omega (arith, x.0)), ne_eqb v g.size (omega (arith, x.1))) x.2))
      (λ x. (omega (arith, x.1), omega (arith, x.0), rw (ne_eqb u g.size (omega (arith, x.1)), eq-eqb v g.size x.0) (R.top u x.1)))
      (before_cases g.size (g.before u v) u v (rw (back-before far_all g t u v) at e)));
  top = λ v l. rw (back-size far_all g t) (⊎_elim
      (λ (e : v ≡ g.size). rw (eq-eqb v g.size e) (omega arith))
      (λ e. rw (ne_eqb v g.size e) (let m = rw (back-size far_all g t) at l in omega (arith, R.top v (omega (arith, m, e)))))
      (same_node v g.size));
  order = λ u v k l e. rw (back-before far_all g t u v) (
      let k' : u < suc g.size = rw (back-size far_all g t) at k in
      let l' : v < suc g.size = rw (back-size far_all g t) at l in
      ⊎_elim
      (λ (x : u ≡ g.size). ⊎_elim
      (λ (y : v ≡ g.size). let z = rw (eq-eqb u g.size x, eq-eqb v g.size y) at e in absurd (omega arith))
      (λ y. let z = rw (eq-eqb u g.size x, ne_eqb v g.size y) at e in absurd (omega (arith, R.top v (omega arith))))
      (same_node v g.size))
      (λ x. ⊎_elim
      (λ (y : v ≡ g.size). new_intro g.size (g.before u v) v _ y (lt-ltb u g.size (omega arith)))
      (λ y. or_inl (g.before u v) _ (R.order u v (omega arith) (omega arith) (rw (ne_eqb u g.size x, ne_eqb v g.size y) at e)))
      (same_node v g.size))
      (same_node u g.size));
}

-- at the front
ranked_front : (far_all : Bool) (g : Net) (t : Take) (r : ℕ → ℕ) → Ranked g r → Ranked (flip (back far_all (flip g) t)) (λ u. cond (eqb u g.size) 0 (suc (r u)))
ranked_front far_all g t r R = record {
  up = λ u v e. rw (back-size far_all (flip g) t) (⊎_elim
      (λ o. let x = R.up u v o in
      (omega (arith, x.0), omega (arith, x.1), rw (ne_eqb u g.size (omega (arith, x.0)), ne_eqb v g.size (omega (arith, x.1))) (omega (arith, x.2))))
      (λ x. (omega (arith, x.0), omega (arith, x.1), rw (eq-eqb u g.size x.0, ne_eqb v g.size (omega (arith, x.1))) (omega arith)))
      (before_cases g.size (g.before u v) v u (rw (back-before far_all (flip g) t v u) at e)));
  top = λ v l. rw (back-size far_all (flip g) t) (⊎_elim
      (λ (e : v ≡ g.size). rw (eq-eqb v g.size e) (omega arith))
      (λ e. rw (ne_eqb v g.size e) (let m = rw (back-size far_all (flip g) t) at l in omega (arith, R.top v (omega (arith, m, e)))))
      (same_node v g.size));
  order = λ u v k l e. rw (back-before far_all (flip g) t v u) (
      let k' : u < suc g.size = rw (back-size far_all (flip g) t) at k in
      let l' : v < suc g.size = rw (back-size far_all (flip g) t) at l in
      ⊎_elim
      (λ (y : v ≡ g.size). let z = rw (eq-eqb v g.size y) at e in absurd (omega arith))
      (λ y. ⊎_elim
      (λ (x : u ≡ g.size). new_intro g.size (g.before u v) u _ x (lt-ltb v g.size (omega arith)))
      (λ x. or_inl (g.before u v) _ (R.order u v (omega arith) (omega arith) (let z = rw (ne_eqb u g.size x, ne_eqb v g.size y) at e in omega arith)))
      (same_node u g.size))
      (same_node v g.size));
}

pub ranked_insert : (g : Net) (c : Call) (r : ℕ → ℕ) → Ranked g r → Ranked (insert g c) (turn c g.size r)
ranked_insert g c r R = ⊎_elim
    (λ (f : c.front ≡ true). rw f (ranked_front c.far g c.takes r R))
    (λ (f : c.front ≡ false). rw f (ranked_back c.far g c.takes r R))
    (bool_cases c.front)

-- ---- from the invariant to the guarantee

pub clash-on : (a b : Take) (q : ℕ) → q < 64 → on a q ≡ true → on b q ≡ true → clashes a b ≡ true
unfolding clashes
clash-on a b q l x y = or_inr (is_all a) _ (or_inr (is_all b) _ (and-any 64 (on a) (on b) q l x y))

on-clash : (g : Net) → Base g → (u v : ℕ) → is_op (g.take u) ≡ true → is_op (g.take v) ≡ true → clashes (g.take u) (g.take v) ≡ true
    → (q : ℕ) × (q < 64) × (on (g.take u) q ≡ true) × (on (g.take v) q ≡ true)
unfolding clashes
on-clash g B u v a b c = ⊎_elim
    (λ x. let r = B.full v b in (r.0, r.1, all_on (g.take u) r.0 x, r.2))
    (λ x. ⊎_elim
    (λ y. let r = B.full u a in (r.0, r.1, r.2, all_on (g.take v) r.0 y))
    (λ y. any-and 64 (on (g.take u)) (on (g.take v)) y)
    (or_cases (is_all (g.take v)) (any 64 (λ q. on (g.take u) q && on (g.take v) q)) x))
    (or_cases (is_all (g.take u)) (is_all (g.take v) || any 64 (λ q. on (g.take u) q && on (g.take v) q)) c)

-- the guarantee of a net: its operations, their clashes, its edges and first block
abbrev pub Kept : Net → (ℕ → ℕ → Bool) → Type 0
Kept g earlier = Guarantee g.size (λ u. is_op (g.take u)) (λ u v. clashes (g.take u) (g.take v)) earlier g.edge g.head

pub kept : (g : Net) (r : ℕ → ℕ) (earlier : ℕ → ℕ → Bool) → g.size ≤ 512 → Base g → Ranked g r
    → ((u v : ℕ) → u < g.size → v < g.size → earlier u v ≡ g.before u v) → Kept g earlier
kept g r earlier s B R E = guarantee g.size (λ u. is_op (g.take u)) (λ u v. clashes (g.take u) (g.take v)) earlier g.edge g.head r
    (record {
      from = λ u v e. (R.up u v (B.edge-before u v e)).0;
      to = λ u v e. (R.up u v (B.edge-before u v e)).1;
      up = λ u v e. (R.up u v (B.edge-before u v e)).2;
      top = R.top;
      cap = s;
    })
    (record {
      op_low = B.low;
      op-from = λ u v e. let x = B.edge_on u v e in on_op (g.take u) x.0 x.2;
      op-to = λ u v e. let x = B.edge_on u v e in on_op (g.take v) x.0 x.3;
      first_op = B.head_op;
      first_no = B.head_no;
      first_all_lem = B.head_all;
    })
    (record {
      joins = λ u v e. let x = B.edge_on u v e in clash-on (g.take u) (g.take v) x.0 x.1 x.2 x.3;
      rises = λ u v e. let x = R.up u v (B.edge-before u v e) in E u v x.0 x.1 ∙ B.edge-before u v e;
      leads = λ u v a b c l. let x = on-clash g B u v a b c in
          B.leads u v x.0 x.1 x.2 x.3 (sym (E u v (B.low u a) (B.low v b)) ∙ l);
    })

pub empty_ranked : Ranked empty (λ u. 0)
empty_ranked = record { up = λ u v e. absurd (clash_bool e refl); top = λ v l. absurd (omega arith); order = λ u v k l e. absurd (omega arith) }

-- ---- both rules, with demand 3's condition

abbrev pub BackOnly : List Call → Type 0
BackOnly [] = Unit {0}
BackOnly (c ∷ cs) = (c.front ≡ true → is_op c.takes ≡ false) × BackOnly cs

abbrev pub FrontOnly : List Call → Type 0
FrontOnly [] = Unit {0}
FrontOnly (c ∷ cs) = (c.front ≡ false → is_op c.takes ≡ false) × FrontOnly cs

abbrev pub alls : List Call → ℕ
alls [] = 0
alls (c ∷ cs) = cond (is_all c.takes) (suc (alls cs)) (alls cs)

-- where qubit operations stand at both ends, at most one takes all
abbrev pub Condition : List Call → Type 0
Condition cs = BackOnly cs ⊎ (FrontOnly cs ⊎ (alls cs ≤ 1))

no_op : (t : Take) → is_op t ≡ false → t ≡ nothing
no_op nothing e = refl
no_op every e = absurd (clash_bool refl e)
no_op (these m) e = absurd (clash_bool refl e)

-- one end only
record Half (g : Net) : Type 0 where
  base : Base g
  lasts : Last g

half_back : (far_all : Bool) (g : Net) → Half g → (t : Take) → NonEmpty t → Half (back far_all g t)
half_back far_all g H nothing e = record { base = n_base g H.base; lasts = n_last g H.base H.lasts }
half_back far_all g H every e = record { base = e_base g H.base H.lasts; lasts = e_last g H.base H.lasts }
half_back far_all g H (these m) e = record { base = base_h far_all g H.base H.lasts m e; lasts = last_h far_all g H.base H.lasts m e }

-- a node that is no operation, at the other end
half_other : (far_all : Bool) (g : Net) → Half g → (t : Take) → is_op t ≡ false → Half (flip (back far_all (flip g) t))
half_other far_all g H t e = rw (no_op t e) (record {
  base = flip_base (back far_all (flip g) nothing) (n_base (flip g) (flip_base g H.base));
  lasts = n_first (flip g) (flip_base g H.base) H.lasts;
})

half_run : (g : Net) → Half g → (cs : List Call) → NonEmpties cs → BackOnly cs → Half (run g cs)
unfolding run
half_run g H [] e b = H
half_run g H (c ∷ cs) e b = half_run (insert g c)
    (⊎_elim
    (λ (f : c.front ≡ true). rw f (half_other c.far g H c.takes (b.0 f)))
    (λ (f : c.front ≡ false). rw f (half_back c.far g H c.takes e.0))
    (bool_cases c.front))
    cs e.1 b.1

half_run-front : (g : Net) → Half (flip g) → (cs : List Call) → NonEmpties cs → FrontOnly cs → Half (flip (run g cs))
unfolding run
half_run-front g H [] e b = H
half_run-front g H (c ∷ cs) e b = half_run-front (insert g c)
    (⊎_elim
    (λ (f : c.front ≡ true). rw f (half_back c.far (flip g) H c.takes e.0))
    (λ (f : c.front ≡ false). rw f (half_other c.far (flip g) H c.takes (b.0 f)))
    (bool_cases c.front))
    cs e.1 b.1

-- both ends, at most one that takes all
record One (g : Net) (rest : ℕ) : Type 0 where
  all : All g
  same : g.first_all ≡ g.last_all
  none_yet : ((u : ℕ) → is_all (g.take u) ≡ true → ⊥) ⊎ (rest ≡ 0)
  few : rest ≤ 1

one_back : (far_all : Bool) (g : Net) (t : Take) (rest : ℕ) → One g (cond (is_all t) (suc rest) rest) → NonEmpty t → One (back far_all g t) rest
one_back far_all g nothing rest O e = record {
  all = all_back far_all g O.all (inr O.same) nothing e;
  same = O.same;
  none_yet = ⊎_elim (λ f. inl (λ u o. f u (n_all g O.all.base u o))) (λ z. inr z) O.none_yet;
  few = O.few;
}
one_back far_all g (these m) rest O e = record {
  all = all_back far_all g O.all (inr O.same) (these m) e;
  same = O.same;
  none_yet = ⊎_elim (λ f. inl (λ u o. f u (all_old far_all g O.all.base O.all.lasts m e u o))) (λ z. inr z) O.none_yet;
  few = O.few;
}
one_back far_all g every rest O e = record {
  all = all_back far_all g O.all (inr O.same) every e;
  same = ⊎_elim
      (λ (x : g.first_all ≡ none). rw x)
      (λ x. ⊎_elim (λ f. absurd (f x.0 (O.all.firsts.all_it x.0 x.1))) (λ z. absurd (omega arith)) O.none_yet)
      (opt_cases g.first_all);
  none_yet = inr (omega (arith, O.few));
  few = omega (arith, O.few);
}

one_flip : (g : Net) (rest : ℕ) → One g rest → One (flip g) rest
one_flip g rest O = record { all = all_flip g O.all; same = sym O.same; none_yet = O.none_yet; few = O.few }

one_run : (g : Net) (cs : List Call) → One g (alls cs) → NonEmpties cs → One (run g cs) 0
unfolding run
one_run g [] O e = O
one_run g (c ∷ cs) O e = one_run (insert g c) cs
    (⊎_elim
    (λ (f : c.front ≡ true). rw f (one_flip (back c.far (flip g) c.takes) (alls cs)
    (one_back c.far (flip g) c.takes (alls cs) (one_flip g _ O) e.0)))
    (λ (f : c.front ≡ false). rw f (one_back c.far g c.takes (alls cs) O e.0))
    (bool_cases c.front))
    e.1

empty_all : All empty
empty_all = record { base = empty_base; lasts = empty_last; firsts = empty_last }

pub net_base : (cs : List Call) → NonEmpties cs → Condition cs → Base (run empty cs)
net_base cs e c = ⊎_elim
    (λ b. (half_run empty (record { base = empty_base; lasts = empty_last }) cs e b).base)
    (λ x. ⊎_elim
    (λ b. flip_base (flip (run empty cs)) (half_run-front empty (record { base = empty_base; lasts = empty_last }) cs e b).base)
    (λ b. (one_run empty cs (record { all = empty_all; same = refl; none_yet = inl (λ u o. clash_bool o refl); few = b }) e).all.base)
    x)
    c

-- ---- K6's rule, with no condition

-- every call is by K6's rule
abbrev pub AllFar : List Call → Type 0
AllFar [] = Unit {0}
AllFar (c ∷ cs) = (c.far ≡ true) × AllFar cs

all_run : (g : Net) → All g → (cs : List Call) → NonEmpties cs → AllFar cs → All (run g cs)
unfolding run
all_run g A [] e f = A
all_run g A (c ∷ cs) e f = all_run (insert g c) (all_insert g A c (inl f.0) e.0) cs e.1 f.1

pub far_base : (cs : List Call) → NonEmpties cs → AllFar cs → Base (run empty cs)
far_base cs e f = (all_run empty empty_all cs e f).base
