-- Insertion on a net: what document 01's insertion does to a graph's edges, maps and blocks, as functions, and the invariant that it
-- keeps. What is said of the back holds of the front on the flipped net. Assumes nothing.
use mathlib.Core.Path.{◌≡◌, refl, sym, ◌∙◌, ap}
use mathlib.Core.Bool.{Bool, true, false, ◌&&◌, ◌||◌, not, cond}
use mathlib.Core.Logic.{◌⊎◌, inl, inr, ⊎_elim, ◌≢◌}
use mathlib.Core.Option.{Option, none, some}
use mathlib.Core.List.{List, [], ◌∷◌}
use Prim.Native.Nat.{ℕ, suc, ◌<◌}
use native.Mathlib.Omega.{arith}
use native.Mathlib.Decide.{ℕ_discrete}
use lib.Dec.{eqb, ltb}
use borrow.Author.Tests.{eqb-true, eq-eqb, ne_eqb, ltb-true, lt-ltb, not-true as not-flip}
use Rattle.file.proofs.BoolLaws.{bool_cases, clash_bool, not-true, not-false, and_l, and_r, and_intro, or_cases, or_inl, or_inr, flip-not, eqb_same}
use Rattle.walk.proofs.Bounds.{any, any_intro, any_elim, any-and, and-any, none_any}
use Rattle.walk.proofs.Heights.{Reach, one, more, reach_snoc}

-- ---- what an operation takes

pub data Take : Type 0 where
  nothing : Take
  every : Take
  these : (ℕ → Bool) → Take

abbrev pub on : Take → ℕ → Bool
on nothing q = false
on every q = true
on (these m) q = m q

abbrev pub is_op : Take → Bool
is_op nothing = false
is_op every = true
is_op (these m) = true

abbrev pub is_all : Take → Bool
is_all nothing = false
is_all every = true
is_all (these m) = false

-- document 01's clash: a common qubit, or one takes all
unfoldable pub clashes : Take → Take → Bool
clashes a b = is_all a || (is_all b || any 64 (λ q. on a q && on b q))

pub all_on : (t : Take) (q : ℕ) → is_all t ≡ true → on t q ≡ true
all_on nothing q h = h
all_on every q h = refl
all_on (these m) q h = cc

pub on_op : (t : Take) (q : ℕ) → on t q ≡ true → is_op t ≡ true
on_op nothing q h = h
on_op every q h = refl
on_op (these m) q h = refl

pub all_op : (t : Take) → is_all t ≡ true → is_op t ≡ true
all_op t h = on_op t 0 (all_on t 0 h)

-- ---- optional nodes

abbrev pub or_else : Option ℕ → Option ℕ → Option ℕ
or_else none o = o
or_else (some a) o = some a

abbrev pub is : Option ℕ → ℕ → Bool
is none a = false
is (some b) a = eqb b a

abbrev pub present : Option ℕ → Bool
present none = false
present (some a) = true

pub opt_cases : (o : Option ℕ) → (o ≡ none) ⊎ ((a : ℕ) × (o ≡ some a))
opt_cases none = inl refl
opt_cases (some a) = inr (a, refl)

pub is_some : (o : Option ℕ) (a : ℕ) → is o a ≡ true → o ≡ some a
is_some none a h = cc
is_some (some b) a h = ap some (eqb-true b a h)

some_is : (o : Option ℕ) (a : ℕ) → o ≡ some a → is o a ≡ true
some_is o a h = rw h (eqb_same a)

pub present_some : (o : Option ℕ) → present o ≡ true → (a : ℕ) × (o ≡ some a)
present_some none h = absurd (clash_bool h refl)
present_some (some a) h = (a, refl)

pub absent_none : (o : Option ℕ) → present o ≡ false → o ≡ none
absent_none none h = refl
absent_none (some a) h = cc

pub never : {o : Option ℕ} {a : ℕ} → o ≡ none → o ≡ some a → ⊥
never p q = let z : ◌≡◌ {A = ℕ} 0 1 = cc in omega arith

-- ---- the net, and its mirror

pub record Net : Type 0 where
  pub size : ℕ
  pub take : ℕ → Take
  pub before : ℕ → ℕ → Bool
  pub edge : ℕ → ℕ → Bool
  pub first : ℕ → Option ℕ
  pub last : ℕ → Option ℕ
  pub first_all : Option ℕ
  pub last_all : Option ℕ
  pub head : ℕ → Bool
  pub tail : ℕ → Bool

abbrev pub flip : Net → Net
flip g = record {
  size = g.size;
  take = g.take;
  before = λ u v. g.before v u;
  edge = λ u v. g.edge v u;
  first = g.last;
  last = g.first;
  first_all = g.last_all;
  last_all = g.first_all;
  head = g.tail;
  tail = g.head;
}

abbrev pub put : ℕ → Take → (ℕ → Take) → ℕ → Take
put v t f u = cond (eqb u v) t (f u)

abbrev pub source : Net → ℕ → Option ℕ
source g q = or_else (g.last q) g.last_all

-- what a new qubit gets at the other end: "lastAll, or v if that is absent" (far_all false), or first_all instead (far_all true)
abbrev pub or : Option ℕ → ℕ → ℕ
or none v = v
or (some a) v = a

abbrev pub far : Bool → Net → ℕ → ℕ
far far_all g v = or (cond far_all g.first_all g.last_all) v

abbrev pub back_these : Bool → Net → (ℕ → Bool) → Net
back_these far_all g m = record {
  size = suc g.size;
  take = put g.size (these m) g.take;
  before = λ a b. g.before a b || (eqb b g.size && ltb a g.size);
  edge = λ a b. g.edge a b || (eqb b g.size && any 64 (λ q. m q && is (source g q) a));
  first = λ q. cond (m q && not (present (g.last q))) (some (far far_all g g.size)) (g.first q);
  last = λ q. cond (m q) (some g.size) (g.last q);
  first_all = g.first_all;
  last_all = g.last_all;
  head = λ u. g.head u || (eqb u g.size && not (any 64 (λ q. m q && present (source g q))));
  tail = λ u. (eqb u g.size && any 64 m) || (g.tail u && not (any 64 (λ q. m q && is (source g q) u)));
}

abbrev pub no_qubits : Net → Bool
no_qubits g = not (any 64 (λ q. present (g.last q))) && not (any 64 (λ q. present (g.first q)))

abbrev pub back_every : Net → Net
back_every g = record {
  size = suc g.size;
  take = put g.size every g.take;
  before = λ a b. g.before a b || (eqb b g.size && ltb a g.size);
  edge = λ a b. g.edge a b || (eqb b g.size && any 64 (λ q. is (g.last q) a));
  first = λ q. cond (no_qubits g) (cond (eqb q 0) (some g.size) none) (g.first q);
  last = λ q. cond (no_qubits g) (cond (eqb q 0) (some g.size) none) (cond (present (g.last q)) (some g.size) none);
  first_all = or_else g.first_all (some g.size);
  last_all = some g.size;
  head = λ u. g.head u || (eqb u g.size && not (any g.size g.head));
  tail = λ u. eqb u g.size;
}

abbrev pub back_nothing : Net → Net
back_nothing g = record {
  size = suc g.size;
  take = put g.size nothing g.take;
  before = λ a b. g.before a b || (eqb b g.size && ltb a g.size);
  edge = g.edge;
  first = g.first;
  last = g.last;
  first_all = g.first_all;
  last_all = g.last_all;
  head = g.head;
  tail = g.tail;
}

-- ---- paths along the edges

pub reach_mono : {e f : ℕ → ℕ → Bool} → ((a b : ℕ) → e a b ≡ true → f a b ≡ true) → {u v : ℕ} → Reach e u v → Reach f u v
reach_mono h (one x) = one (h _ _ x)
reach_mono h (more x r) = more (h _ _ x) (reach_mono h r)

pub reach-flip : {e : ℕ → ℕ → Bool} {u v : ℕ} → Reach e u v → Reach (λ a b. e b a) v u
reach-flip (one x) = one x
reach-flip (more x r) = reach_snoc (reach-flip r) x

-- v is u, or is reached from it
pub data To (e : ℕ → ℕ → Bool) (u : ℕ) (v : ℕ) : Type 0 where
  here : u ≡ v → To e u v
  there : Reach e u v → To e u v

pub to_mono : {e f : ℕ → ℕ → Bool} → ((a b : ℕ) → e a b ≡ true → f a b ≡ true) → {u v : ℕ} → To e u v → To f u v
to_mono h (here x) = here x
to_mono h (there r) = there (reach_mono h r)

pub to-edge : {e : ℕ → ℕ → Bool} {u w v : ℕ} → To e u w → e w v ≡ true → Reach e u v
to-edge {e} {u} {w} {v} (here x) y = one {u = u} {v = v} (rw x y)
to-edge (there r) y = reach_snoc r y

-- ---- the invariant

pub record Base (g : Net) : Type 0 where
  pub low : (u : ℕ) → is_op (g.take u) ≡ true → u < g.size
  pub full : (u : ℕ) → is_op (g.take u) ≡ true → (q : ℕ) × (q < 64) × (on (g.take u) q ≡ true)
  pub before_low : (u v : ℕ) → g.before u v ≡ true → (u < g.size) × (v < g.size)
  pub edge_on : (u v : ℕ) → g.edge u v ≡ true → (q : ℕ) × (q < 64) × (on (g.take u) q ≡ true) × (on (g.take v) q ≡ true)
  pub edge-before : (u v : ℕ) → g.edge u v ≡ true → g.before u v ≡ true
  pub leads : (u v q : ℕ) → q < 64 → on (g.take u) q ≡ true → on (g.take v) q ≡ true → g.before u v ≡ true → Reach g.edge u v
  -- the two maps know the same qubits
  pub dom : (q : ℕ) → q < 64 → present (g.first q) ≡ present (g.last q)
  pub all_dom : (u : ℕ) → is_all (g.take u) ≡ true → (q : ℕ) × (q < 64) × (present (g.last q) ≡ true)
  pub all_same : present g.first_all ≡ present g.last_all
  -- the first block
  pub head_op : (v : ℕ) → g.head v ≡ true → is_op (g.take v) ≡ true
  pub head_no : (u v : ℕ) → g.head v ≡ true → g.edge u v ≡ false
  pub head_all : (v : ℕ) → is_op (g.take v) ≡ true → ((u : ℕ) → g.edge u v ≡ false) → g.head v ≡ true
  pub head_first : (v : ℕ) → g.head v ≡ true → (q : ℕ) × (q < 64) × (g.first q ≡ some v)
  pub dom_head : (q : ℕ) → q < 64 → present (g.last q) ≡ true → (u : ℕ) × (g.head u ≡ true)
  -- the last block
  pub tail_op : (v : ℕ) → g.tail v ≡ true → is_op (g.take v) ≡ true
  pub tail_no : (u v : ℕ) → g.tail v ≡ true → g.edge v u ≡ false
  pub tail_all : (v : ℕ) → is_op (g.take v) ≡ true → ((u : ℕ) → g.edge v u ≡ false) → g.tail v ≡ true
  pub tail_last : (v : ℕ) → g.tail v ≡ true → (q : ℕ) × (q < 64) × (g.last q ≡ some v)
  pub dom_tail : (q : ℕ) → q < 64 → present (g.first q) ≡ true → (u : ℕ) × (g.tail u ≡ true)

-- the last map's entry is reached by all on its qubit; last_all by all that take all
pub record Last (g : Net) : Type 0 where
  pub on_it : (q a : ℕ) → q < 64 → g.last q ≡ some a → on (g.take a) q ≡ true
  pub to_it : (q a u : ℕ) → q < 64 → g.last q ≡ some a → on (g.take u) q ≡ true → To g.edge u a
  pub no_one : (q u : ℕ) → q < 64 → g.last q ≡ none → on (g.take u) q ≡ true → is_all (g.take u) ≡ true
  pub all_it : (a : ℕ) → g.last_all ≡ some a → is_all (g.take a) ≡ true
  pub to_all : (a u : ℕ) → g.last_all ≡ some a → is_all (g.take u) ≡ true → To g.edge u a
  pub no_all : (u : ℕ) → g.last_all ≡ none → is_all (g.take u) ≡ true → ⊥

abbrev pub First : Net → Type 0
First g = Last (flip g)

pub flip_base : (g : Net) → Base g → Base (flip g)
flip_base g B = record {
  low = B.low;
  full = B.full;
  before_low = λ u v h. let r = B.before_low v u h in (r.1, r.0);
  edge_on = λ u v h. let r = B.edge_on v u h in (r.0, r.1, r.3, r.2);
  edge-before = λ u v h. B.edge-before v u h;
  leads = λ u v q l a b h. reach-flip (B.leads v u q l b a h);
  dom = λ q l. sym (B.dom q l);
  all_dom = λ u h. let r = B.all_dom u h in (r.0, r.1, B.dom r.0 r.1 ∙ r.2);
  all_same = sym B.all_same;
  head_op = B.tail_op;
  head_no = B.tail_no;
  head_all = B.tail_all;
  head_first = B.tail_last;
  dom_head = B.dom_tail;
  tail_op = B.head_op;
  tail_no = B.head_no;
  tail_all = B.head_all;
  tail_last = B.head_first;
  dom_tail = B.dom_head;
}

-- ---- a new node

pub put_same : (v : ℕ) (t : Take) (f : ℕ → Take) → put v t f v ≡ t
put_same v t f = rw (eqb_same v)

pub put_other : (v : ℕ) (t : Take) (f : ℕ → Take) (u : ℕ) → u ≢ v → put v t f u ≡ f u
put_other v t f u h = rw (ne_eqb u v h)

pub same_node : (u v : ℕ) → (u ≡ v) ⊎ (u ≢ v)
same_node u v = elim (ℕ_discrete u v) [ yes e ↦ inl e | no e ↦ inr e ]

cond-true : {A : Type 0} (b : Bool) (x y : A) → b ≡ true → cond b x y ≡ x
cond-true b x y h = rw h

cond-false : {A : Type 0} (b : Bool) (x y : A) → b ≡ false → cond b x y ≡ y
cond-false b x y h = rw h

pub before_cases : (n : ℕ) (old : Bool) (a b : ℕ) → (old || (eqb b n && ltb a n)) ≡ true → (old ≡ true) ⊎ ((b ≡ n) × (a < n))
before_cases n old a b h = ⊎_elim
    (λ e. inl e)
    (λ e. inr (eqb-true b n (and_l (eqb b n) (ltb a n) e), ltb-true a n (and_r (eqb b n) (ltb a n) e)))
    (or_cases old (eqb b n && ltb a n) h)

pub new_cases : (n : ℕ) (old : Bool) (b : ℕ) (x : Bool) → (old || (eqb b n && x)) ≡ true → (old ≡ true) ⊎ ((b ≡ n) × (x ≡ true))
new_cases n old b x h = ⊎_elim
    (λ e. inl e)
    (λ e. inr (eqb-true b n (and_l (eqb b n) x e), and_r (eqb b n) x e))
    (or_cases old (eqb b n && x) h)

pub new_intro : (n : ℕ) (old : Bool) (b : ℕ) (x : Bool) → b ≡ n → x ≡ true → (old || (eqb b n && x)) ≡ true
new_intro n old b x e h = or_inr old _ (and_intro _ _ (eq-eqb b n e) h)

old_only : (n : ℕ) (old : Bool) (b : ℕ) (x : Bool) → b ≢ n → (old || (eqb b n && x)) ≡ true → old ≡ true
old_only n old b x h e = ⊎_elim (λ o. o) (λ r. absurd (h r.0)) (new_cases n old b x e)

module _ (far_all : Bool) (g : Net) (B : Base g) (L : Last g) (m : ℕ → Bool) (some-q : any 64 m ≡ true) where
  abbrev n : ℕ
  n = g.size

  abbrev h : Net
  h = back_these far_all g m

  -- an old operation is below n
  old : (u q : ℕ) → on (g.take u) q ≡ true → u ≢ n
  old u q o e = omega (arith, B.low u (on_op (g.take u) q o), e)

  old-on : (u q : ℕ) → on (g.take u) q ≡ true → on (h.take u) q ≡ true
  old-on u q o = rw (put_other n (these m) g.take u (old u q o)) o

  new-on : (q : ℕ) → m q ≡ true → on (h.take n) q ≡ true
  new-on q o = rw (put_same n (these m) g.take) o

  -- who is on q now
  on_cases : (u q : ℕ) → on (h.take u) q ≡ true → (on (g.take u) q ≡ true) ⊎ ((u ≡ n) × (m q ≡ true))
  on_cases u q o = ⊎_elim
      (λ (e : u ≡ n). inr (e, rw (e, put_same n (these m) g.take) at o))
      (λ e. inl (rw (put_other n (these m) g.take u e) at o))
      (same_node u n)

  pub all_old : (u : ℕ) → is_all (h.take u) ≡ true → is_all (g.take u) ≡ true
  all_old u o = ⊎_elim
      (λ (e : u ≡ n). absurd (clash_bool (rw (e, put_same n (these m) g.take) at o) refl))
      (λ e. rw (put_other n (these m) g.take u e) at o)
      (same_node u n)

  edge_cases : (a b : ℕ) → h.edge a b ≡ true → (g.edge a b ≡ true) ⊎ ((b ≡ n) × (q : ℕ) × (q < 64) × (m q ≡ true) × (source g q ≡ some a))
  edge_cases a b e = ⊎_elim
      (λ o. inl o)
      (λ r. let s = any-and 64 m (λ q. is (source g q) a) r.1 in inr (r.0, s.0, s.1, s.2, is_some _ a s.3))
      (new_cases n (g.edge a b) b (any 64 (λ q. m q && is (source g q) a)) e)

  edge-old : (a b : ℕ) → g.edge a b ≡ true → h.edge a b ≡ true
  edge-old a b e = or_inl (g.edge a b) _ e

  edge-new : (a q : ℕ) → q < 64 → m q ≡ true → source g q ≡ some a → h.edge a n ≡ true
  edge-new a q l o s = new_intro n (g.edge a n) n _ refl (and-any 64 m (λ x. is (source g x) a) q l o (some_is _ a s))

  -- each that is on q leads to q's source, which is on q itself
  source-to : (u q : ℕ) → q < 64 → on (g.take u) q ≡ true → (a : ℕ) × (source g q ≡ some a) × To g.edge u a
  source-to u q l o = ⊎_elim
      (λ (e : g.last q ≡ none). ⊎_elim
      (λ (f : g.last_all ≡ none). absurd (L.no_all u f (L.no_one q u l e o)))
      (λ f. (f.0, rw e f.1, L.to_all f.0 u f.1 (L.no_one q u l e o)))
      (opt_cases g.last_all))
      (λ r. (r.0, rw r.1, L.to_it q r.0 u l r.1 o))
      (opt_cases (g.last q))

  source-on : (a q : ℕ) → q < 64 → source g q ≡ some a → on (g.take a) q ≡ true
  source-on a q l s = ⊎_elim
      (λ (e : g.last q ≡ none). all_on (g.take a) q (L.all_it a (rw e at s)))
      (λ r. L.on_it q a l (r.1 ∙ (rw r.1 at s)))
      (opt_cases (g.last q))

  -- no edge leads from the new node, and no old one to it
  no_out : (b : ℕ) → h.edge n b ≡ true → ⊥
  no_out b e = ⊎_elim
      (λ o. let r = B.edge_on n b o in old n r.0 r.2 refl)
      (λ r. old n r.1 (source-on n r.1 r.2 r.4) refl)
      (edge_cases n b e)

  no_old : (a : ℕ) → g.edge a n ≡ true → ⊥
  no_old a e = let r = B.edge_on a n e in old n r.0 r.3 refl

  leads_h : (u v q : ℕ) → q < 64 → on (h.take u) q ≡ true → on (h.take v) q ≡ true → h.before u v ≡ true → Reach h.edge u v
  leads_h u v q l a b f = ⊎_elim
      (λ o. let r = B.before_low u v o in
      reach_mono edge-old (B.leads u v q l
      (⊎_elim (λ x. x) (λ x. absurd (omega (arith, x.0, r.0))) (on_cases u q a))
      (⊎_elim (λ x. x) (λ x. absurd (omega (arith, x.0, r.1))) (on_cases v q b))
      o))
      (λ r. ⊎_elim
      (λ x. let s = source-to u q l x in
      rw r.0 (to-edge (to_mono edge-old s.2) (edge-new s.0 q l (rw (r.0, put_same n (these m) g.take) at b) s.1)))
      (λ x. absurd (omega (arith, x.0, r.1)))
      (on_cases u q a))
      (before_cases n (g.before u v) u v f)

  last_new : (q : ℕ) → m q ≡ true → h.last q ≡ some n
  last_new q o = rw o

  last_old : (q : ℕ) → m q ≡ false → h.last q ≡ g.last q
  last_old q o = rw o

  first_new : (q : ℕ) → m q ≡ true → g.last q ≡ none → h.first q ≡ some (far far_all g n)
  first_new q o e = rw (o, e)

  first_old : (q : ℕ) → present (g.last q) ≡ true → h.first q ≡ g.first q
  first_old q e = ⊎_elim (λ (o : m q ≡ true). rw (o, e)) (λ (o : m q ≡ false). rw o) (bool_cases (m q))

  first_off : (q : ℕ) → m q ≡ false → h.first q ≡ g.first q
  first_off q o = rw o

  first_present : (q : ℕ) → q < 64 → present (h.first q) ≡ present (h.last q)
  first_present q l = ⊎_elim
      (λ o. ⊎_elim
      (λ e. rw (first_old q e, last_new q o) (B.dom q l ∙ e))
      (λ e. rw (first_new q o (absent_none (g.last q) e), last_new q o))
      (bool_cases (present (g.last q))))
      (λ o. rw (first_off q o, last_old q o) (B.dom q l))
      (bool_cases (m q))

  op-old : (u : ℕ) → is_op (g.take u) ≡ true → is_op (h.take u) ≡ true
  op-old u o = rw (put_other n (these m) g.take u (λ e. omega (arith, B.low u o, e))) o

  op-new : is_op (h.take n) ≡ true
  op-new = rw (put_same n (these m) g.take)

  op-back : (u : ℕ) → u ≢ n → is_op (h.take u) ≡ true → is_op (g.take u) ≡ true
  op-back u e o = rw (put_other n (these m) g.take u e) at o

  -- where a source stands, some operation has no edge in
  source_head : (q : ℕ) → q < 64 → present (source g q) ≡ true → (u : ℕ) × (g.head u ≡ true)
  source_head q l p = ⊎_elim
      (λ e. B.dom_head q l e)
      (λ e. let a = present_some g.last_all (rw (absent_none (g.last q) e) at p) in
      let r = B.all_dom a.0 (L.all_it a.0 a.1) in B.dom_head r.0 r.1 r.2)
      (bool_cases (present (g.last q)))

  head_cases : (v : ℕ) → h.head v ≡ true → (g.head v ≡ true) ⊎ ((v ≡ n) × (any 64 (λ q. m q && present (source g q)) ≡ false))
  head_cases v e = ⊎_elim
      (λ o. inl o)
      (λ r. inr (r.0, not-flip _ r.1))
      (new_cases n (g.head v) v (not (any 64 (λ q. m q && present (source g q)))) e)

  head_new : any 64 (λ q. m q && present (source g q)) ≡ false → h.head n ≡ true
  head_new e = new_intro n (g.head n) n _ refl (flip-not _ e)

  head_low : g.head n ≡ true → ⊥
  head_low e = omega (arith, B.low n (B.head_op n e))

  -- with no source at all, a qubit's far entry is the new node
  far-new : (q : ℕ) → q < 64 → m q ≡ true → any 64 (λ q. m q && present (source g q)) ≡ false → h.first q ≡ some n
  far-new q l o e =
      let p : present (source g q) ≡ false = not-true λ x. clash_bool (and-any 64 m (λ y. present (source g y)) q l o x) e in
      ⊎_elim
      (λ (x : g.last q ≡ none).
      let a : present g.last_all ≡ false = rw x at p in
      let f : g.first_all ≡ none = absent_none g.first_all (B.all_same ∙ a) in
      let t : g.last_all ≡ none = absent_none g.last_all a in
      first_new q o x ∙ ⊎_elim (λ (b : far_all ≡ true). rw (b, f)) (λ (b : far_all ≡ false). rw (b, t)) (bool_cases far_all))
      (λ x. absurd (clash_bool (rw x.1) p))
      (opt_cases (g.last q))

  tail_cases : (v : ℕ) → h.tail v ≡ true → (v ≡ n) ⊎ ((g.tail v ≡ true) × (any 64 (λ q. m q && is (source g q) v) ≡ false))
  tail_cases v e = ⊎_elim
      (λ o. inl (eqb-true v n (and_l _ (any 64 m) o)))
      (λ o. inr (and_l (g.tail v) _ o, not-flip _ (and_r (g.tail v) _ o)))
      (or_cases (eqb v n && any 64 m) (g.tail v && not (any 64 (λ q. m q && is (source g q) v))) e)

  tail_new : h.tail n ≡ true
  tail_new = or_inl _ _ (and_intro _ _ (eqb_same n) some-q)

  pub base_h : Base h
  base_h = record {
    low = λ u o. ⊎_elim
        (λ (e : u ≡ n). omega arith)
        (λ e. omega (arith, B.low u (rw (put_other n (these m) g.take u e) at o)))
        (same_node u n);
    full = λ u o. ⊎_elim
        (λ (e : u ≡ n). let r = any_elim 64 m some-q in (r.0, r.1, rw e (new-on r.0 r.2)))
        (λ e. let r = B.full u (rw (put_other n (these m) g.take u e) at o) in (r.0, r.1, old-on u r.0 r.2))
        (same_node u n);
    before_low = λ u v f. ⊎_elim
        (λ o. let r = B.before_low u v o in (omega (arith, r.0), omega (arith, r.1)))
        (λ r. (omega (arith, r.1), omega (arith, r.0)))
        (before_cases n (g.before u v) u v f);
    edge_on = λ u v e. ⊎_elim
        (λ o. let r = B.edge_on u v o in (r.0, r.1, old-on u r.0 r.2, old-on v r.0 r.3))
        (λ r. (r.1, r.2, old-on u r.1 (source-on u r.1 r.2 r.4), rw r.0 (new-on r.1 r.3)))
        (edge_cases u v e);
    edge-before = λ u v e. ⊎_elim
        (λ o. or_inl (g.before u v) _ (B.edge-before u v o))
        (λ r. new_intro n (g.before u v) v _ r.0 (lt-ltb u n (B.low u (on_op (g.take u) r.1 (source-on u r.1 r.2 r.4)))))
        (edge_cases u v e);
    leads = leads_h;
    dom = first_present;
    all_dom = λ u o. let r = B.all_dom u (all_old u o) in (r.0, r.1, sym (first_present r.0 r.1) ∙ (rw (first_old r.0 r.2) (B.dom r.0 r.1 ∙ r.2)));
    all_same = B.all_same;
    head_op = λ v e. ⊎_elim
        (λ o. op-old v (B.head_op v o))
        (λ r. rw r.0 op-new)
        (head_cases v e);
    head_no = λ u v e. not-true λ x. ⊎_elim
        (λ o. ⊎_elim
        (λ a. clash_bool a (B.head_no u v o))
        (λ a. head_low (rw a.0 at o))
        (edge_cases u v x))
        (λ r. ⊎_elim
        (λ a. no_old u (rw r.0 at a))
        (λ a. clash_bool (and-any 64 m (λ q. present (source g q)) a.1 a.2 a.3 (rw a.4)) r.1)
        (edge_cases u v x))
        (head_cases v e);
    head_all = λ v o f. ⊎_elim
        (λ (e : v ≡ n). rw e (head_new (none_any 64 (λ q. m q && present (source g q)) (λ q l p.
        let s = present_some (source g q) (and_r (m q) _ p) in
        clash_bool (edge-new s.0 q l (and_l (m q) _ p) s.1) (rw e at (f s.0))))))
        (λ e. or_inl (g.head v) _ (B.head_all v (op-back v e o) (λ u. not-true λ x. clash_bool (edge-old u v x) (f u))))
        (same_node v n);
    head_first = λ v e. ⊎_elim
        (λ o. let r = B.head_first v o in
        (r.0, r.1, first_old r.0 (sym (B.dom r.0 r.1) ∙ ap present r.2) ∙ r.2))
        (λ r. let s = any_elim 64 m some-q in (s.0, s.1, rw r.0 (far-new s.0 s.1 s.2 r.1)))
        (head_cases v e);
    dom_head = λ q l p. ⊎_elim
        (λ e. let r = any-and 64 m (λ x. present (source g x)) e in let s = source_head r.0 r.1 r.3 in (s.0, or_inl (g.head s.0) _ s.1))
        (λ e. (n, head_new e))
        (bool_cases (any 64 (λ x. m x && present (source g x))));
    tail_op = λ v e. ⊎_elim
        (λ (o : v ≡ n). rw o op-new)
        (λ r. op-old v (B.tail_op v r.0))
        (tail_cases v e);
    tail_no = λ u v e. not-true λ x. ⊎_elim
        (λ (o : v ≡ n). no_out u (rw o at x))
        (λ r. ⊎_elim
        (λ a. clash_bool a (B.tail_no u v r.0))
        (λ a. clash_bool (and-any 64 m (λ q. is (source g q) v) a.1 a.2 a.3 (some_is (source g a.1) v a.4)) r.1)
        (edge_cases v u x))
        (tail_cases v e);
    tail_all = λ v o f. ⊎_elim
        (λ (e : v ≡ n). rw e tail_new)
        (λ e. or_inr (eqb v n && any 64 m) _ (and_intro _ _
        (B.tail_all v (op-back v e o) (λ u. not-true λ x. clash_bool (edge-old v u x) (f u)))
        (flip-not _ (none_any 64 (λ q. m q && is (source g q) v) (λ q l p.
        clash_bool (edge-new v q l (and_l (m q) _ p) (is_some (source g q) v (and_r (m q) _ p))) (f n))))))
        (same_node v n);
    tail_last = λ v e. ⊎_elim
        (λ (o : v ≡ n). let r = any_elim 64 m some-q in (r.0, r.1, rw o (last_new r.0 r.2)))
        (λ r. let s = B.tail_last v r.0 in
        (s.0, s.1, last_old s.0 (not-true λ x. clash_bool (and-any 64 m (λ q. is (source g q) v) s.0 s.1 x (some_is (source g s.0) v (rw s.2))) r.1) ∙ s.2))
        (tail_cases v e);
    dom_tail = λ q l p. (n, tail_new);
  }

  all_up : (u : ℕ) → is_all (g.take u) ≡ true → is_all (h.take u) ≡ true
  all_up u o = rw (put_other n (these m) g.take u (λ e. omega (arith, B.low u (all_op (g.take u) o), e))) o

  -- whoever is on q leads to the new node, or is it
  to-new : (u q : ℕ) → q < 64 → m q ≡ true → on (h.take u) q ≡ true → To h.edge u n
  to-new u q l o a = ⊎_elim
      (λ x. let s = source-to u q l x in there (to-edge (to_mono edge-old s.2) (edge-new s.0 q l o s.1)))
      (λ x. here x.0)
      (on_cases u q a)

  on_off : (u q : ℕ) → m q ≡ false → on (h.take u) q ≡ true → on (g.take u) q ≡ true
  on_off u q o a = ⊎_elim (λ x. x) (λ x. absurd (clash_bool x.1 o)) (on_cases u q a)

  same_some : {o : Option ℕ} {a b : ℕ} → o ≡ some a → o ≡ some b → a ≡ b
  same_some p q = cc

  pub last_h : Last h
  last_h = record {
    on_it = λ q a l e. ⊎_elim
        (λ o. rw (same_some e (last_new q o)) (new-on q o))
        (λ o. old-on a q (L.on_it q a l (sym (last_old q o) ∙ e)))
        (bool_cases (m q));
    to_it = λ q a u l e o. ⊎_elim
        (λ x. rw (same_some e (last_new q x)) (to-new u q l x o))
        (λ x. to_mono edge-old (L.to_it q a u l (sym (last_old q x) ∙ e) (on_off u q x o)))
        (bool_cases (m q));
    no_one = λ q u l e o. ⊎_elim
        (λ x. absurd (never e (last_new q x)))
        (λ x. all_up u (L.no_one q u l (sym (last_old q x) ∙ e) (on_off u q x o)))
        (bool_cases (m q));
    all_it = λ a e. all_up a (L.all_it a e);
    to_all = λ a u e o. to_mono edge-old (L.to_all a u e (all_old u o));
    no_all = λ u e o. L.no_all u e (all_old u o);
  }

  module _ (F : First g) (rule : (far_all ≡ true) ⊎ (g.first_all ≡ g.last_all)) where
    flip-old : (a b : ℕ) → (flip g).edge a b ≡ true → (flip h).edge a b ≡ true
    flip-old a b e = edge-old b a e

    chosen : cond far_all g.first_all g.last_all ≡ g.first_all
    chosen = ⊎_elim
        (λ (k : far_all ≡ true). rw k)
        (λ e. ⊎_elim (λ (k : far_all ≡ true). rw k) (λ (k : far_all ≡ false). rw k (sym e)) (bool_cases far_all))
        rule

    -- what a new qubit gets at the other end: the new node where none takes all, else one that leads to all those
    far_cases : ((far far_all g n ≡ n) × ((u : ℕ) → is_all (g.take u) ≡ true → ⊥))
        ⊎ ((is_all (g.take (far far_all g n)) ≡ true) × ((u : ℕ) → is_all (g.take u) ≡ true → To (flip g).edge u (far far_all g n)))
    far_cases = ⊎_elim
        (λ e. inl (ap (λ o. or o n) (chosen ∙ e), λ u o. F.no_all u e o))
        (λ (r : (a : ℕ) × (g.first_all ≡ some a)). let f : far far_all g n ≡ r.0 = ap (λ o. or o n) (chosen ∙ r.1) in
        inr (rw f (F.all_it r.0 r.1), λ u o. rw f (F.to_all r.0 u r.1 o)))
        (opt_cases g.first_all)

    to-flip : {e : ℕ → ℕ → Bool} {u v : ℕ} → To e u v → To (λ a b. e b a) v u
    to-flip (here x) = here (sym x)
    to-flip (there r) = there (reach-flip r)

    fresh_on : (q : ℕ) → q < 64 → m q ≡ true → on (h.take (far far_all g n)) q ≡ true
    fresh_on q l o = ⊎_elim
        (λ c. rw c.0 (new-on q o))
        (λ c. old-on (far far_all g n) q (all_on (g.take (far far_all g n)) q c.0))
        far_cases

    fresh_to : (q u : ℕ) → q < 64 → m q ≡ true → g.last q ≡ none → on (h.take u) q ≡ true → To (flip h).edge u (far far_all g n)
    fresh_to q u l o e x = ⊎_elim
        (λ c. ⊎_elim
        (λ y. absurd (c.1 u (L.no_one q u l e y)))
        (λ y. here (y.0 ∙ sym c.0))
        (on_cases u q x))
        (λ c. ⊎_elim
        (λ y. to_mono flip-old (c.1 u (L.no_one q u l e y)))
        (λ y. rw y.0 (to-flip (to-new (far far_all g n) q l o (fresh_on q l o))))
        (on_cases u q x))
        far_cases

    first_cases : (q a : ℕ) → h.first q ≡ some a → (g.first q ≡ some a) ⊎ ((m q ≡ true) × (g.last q ≡ none) × (a ≡ far far_all g n))
    first_cases q a e = ⊎_elim
        (λ o. ⊎_elim
        (λ p. inl (sym (first_old q p) ∙ e))
        (λ p. let z = absent_none (g.last q) p in inr (o, z, same_some e (first_new q o z)))
        (bool_cases (present (g.last q))))
        (λ o. inl (sym (first_off q o) ∙ e))
        (bool_cases (m q))

    pub first_h : First h
    first_h = record {
      on_it = λ q a l e. ⊎_elim
          (λ x. old-on a q (F.on_it q a l x))
          (λ x. rw x.2 (fresh_on q l x.0))
          (first_cases q a e);
      to_it = λ q a u l e o. ⊎_elim
          (λ x. ⊎_elim
          (λ y. to_mono flip-old (F.to_it q a u l x y))
          (λ y. rw y.0 (to-flip (to-new a q l y.1 (old-on a q (F.on_it q a l x)))))
          (on_cases u q o))
          (λ x. rw x.2 (fresh_to q u l x.0 x.1 o))
          (first_cases q a e);
      no_one = λ q u l e o. last_h.no_one q u l (absent_none (h.last q) (sym (first_present q l) ∙ ap present e)) o;
      all_it = λ a e. all_up a (F.all_it a e);
      to_all = λ a u e o. to_mono flip-old (F.to_all a u e (all_old u o));
      no_all = λ u e o. F.no_all u e (all_old u o);
    }

-- ---- an operation on all qubits, at the back

to-turn : {e : ℕ → ℕ → Bool} {u v : ℕ} → To e u v → To (λ a b. e b a) v u
to-turn (here x) = here (sym x)
to-turn (there r) = there (reach-flip r)

some_same : {o : Option ℕ} {a b : ℕ} → o ≡ some a → o ≡ some b → a ≡ b
some_same p q = cc

bool_some : (b : Bool) (a c : ℕ) → cond b (some a) none ≡ some c → c ≡ a
bool_some true a c e = cc
bool_some false a c e = absurd (never refl e)

first_step : {e : ℕ → ℕ → Bool} {u v : ℕ} → Reach e u v → (w : ℕ) × (e u w ≡ true)
first_step (one {v = v} x) = (v, x)
first_step (more {w = w} x r) = (w, x)

module _ (g : Net) (B : Base g) (L : Last g) where
  abbrev en : ℕ
  en = g.size

  abbrev eh : Net
  eh = back_every g

  e_old : (u q : ℕ) → on (g.take u) q ≡ true → u ≢ en
  e_old u q o e = omega (arith, B.low u (on_op (g.take u) q o), e)

  e_old-on : (u q : ℕ) → on (g.take u) q ≡ true → on (eh.take u) q ≡ true
  e_old-on u q o = rw (put_other en every g.take u (e_old u q o)) o

  e_new-on : (q : ℕ) → on (eh.take en) q ≡ true
  e_new-on q = rw (put_same en every g.take)

  e_on_cases : (u q : ℕ) → on (eh.take u) q ≡ true → (on (g.take u) q ≡ true) ⊎ (u ≡ en)
  e_on_cases u q o = ⊎_elim
      (λ e. inr e)
      (λ e. inl (rw (put_other en every g.take u e) at o))
      (same_node u en)

  e_all_cases : (u : ℕ) → is_all (eh.take u) ≡ true → (is_all (g.take u) ≡ true) ⊎ (u ≡ en)
  e_all_cases u o = ⊎_elim
      (λ e. inr e)
      (λ e. inl (rw (put_other en every g.take u e) at o))
      (same_node u en)

  e_all_up : (u : ℕ) → is_all (g.take u) ≡ true → is_all (eh.take u) ≡ true
  e_all_up u o = rw (put_other en every g.take u (λ e. omega (arith, B.low u (all_op (g.take u) o), e))) o

  e_all_new : is_all (eh.take en) ≡ true
  e_all_new = rw (put_same en every g.take)

  e_op-old : (u : ℕ) → is_op (g.take u) ≡ true → is_op (eh.take u) ≡ true
  e_op-old u o = rw (put_other en every g.take u (λ e. omega (arith, B.low u o, e))) o

  e_op-back : (u : ℕ) → u ≢ en → is_op (eh.take u) ≡ true → is_op (g.take u) ≡ true
  e_op-back u e o = rw (put_other en every g.take u e) at o

  e_edge_cases : (a b : ℕ) → eh.edge a b ≡ true → (g.edge a b ≡ true) ⊎ ((b ≡ en) × (q : ℕ) × (q < 64) × (g.last q ≡ some a))
  e_edge_cases a b e = ⊎_elim
      (λ o. inl o)
      (λ r. let s = any_elim 64 (λ q. is (g.last q) a) r.1 in inr (r.0, s.0, s.1, is_some (g.last s.0) a s.2))
      (new_cases en (g.edge a b) b (any 64 (λ q. is (g.last q) a)) e)

  e_edge-old : (a b : ℕ) → g.edge a b ≡ true → eh.edge a b ≡ true
  e_edge-old a b e = or_inl (g.edge a b) _ e

  e_edge-new : (a q : ℕ) → q < 64 → g.last q ≡ some a → eh.edge a en ≡ true
  e_edge-new a q l s = new_intro en (g.edge a en) en _ refl (any_intro 64 (λ x. is (g.last x) a) q l (some_is (g.last q) a s))

  -- each operation is on a qubit that the last map knows
  op_known : (u : ℕ) → is_op (g.take u) ≡ true → (q : ℕ) × (q < 64) × (on (g.take u) q ≡ true) × (a : ℕ) × (g.last q ≡ some a)
  op_known u o =
      let f = B.full u o in
      ⊎_elim
      (λ (e : g.last f.0 ≡ none).
      let w = L.no_one f.0 u f.1 e f.2 in
      let d = B.all_dom u w in
      let s = present_some (g.last d.0) d.2 in
      (d.0, d.1, all_on (g.take u) d.0 w, s.0, s.1))
      (λ (s : (a : ℕ) × (g.last f.0 ≡ some a)). (f.0, f.1, f.2, s.0, s.1))
      (opt_cases (g.last f.0))

  op_leads : (u : ℕ) → is_op (g.take u) ≡ true → Reach eh.edge u en
  op_leads u o =
      let k = op_known u o in
      to-edge (to_mono e_edge-old (L.to_it k.0 k.3 u k.1 k.4 k.2)) (e_edge-new k.3 k.0 k.1 k.4)

  e_no_out : (b : ℕ) → eh.edge en b ≡ true → ⊥
  e_no_out b e = ⊎_elim
      (λ o. let r = B.edge_on en b o in e_old en r.0 r.2 refl)
      (λ r. e_old en r.1 (L.on_it r.1 en r.2 r.3) refl)
      (e_edge_cases en b e)

  e_no_old : (a : ℕ) → g.edge a en ≡ true → ⊥
  e_no_old a e = let r = B.edge_on a en e in e_old en r.0 r.3 refl

  -- a known qubit, and the two maps are not no_qubits
  known_not_bare : (q : ℕ) → q < 64 → present (g.last q) ≡ true → no_qubits g ≡ false
  known_not_bare q l p = rw (any_intro 64 (λ x. present (g.last x)) q l p)

  bare_none : no_qubits g ≡ true → (q : ℕ) → q < 64 → present (g.last q) ≡ false
  bare_none b q l = not-true λ p. clash_bool b (known_not_bare q l p)

  bare_no_op : no_qubits g ≡ true → (u : ℕ) → is_op (g.take u) ≡ true → ⊥
  bare_no_op b u o = let k = op_known u o in clash_bool (ap present k.4) (bare_none b k.0 k.1)

  not_bare_known : no_qubits g ≡ false → (q : ℕ) × (q < 64) × (present (g.last q) ≡ true)
  not_bare_known b = ⊎_elim
      (λ p. any_elim 64 (λ q. present (g.last q)) p)
      (λ p. ⊎_elim
      (λ f. let r = any_elim 64 (λ q. present (g.first q)) f in (r.0, r.1, sym (B.dom r.0 r.1) ∙ r.2))
      (λ f. absurd (clash_bool (and_intro _ _ (flip-not _ p) (flip-not _ f)) b))
      (bool_cases (any 64 (λ q. present (g.first q)))))
      (bool_cases (any 64 (λ q. present (g.last q))))

  e_last_n : (q a : ℕ) → eh.last q ≡ some a → a ≡ en
  e_last_n q a e = ⊎_elim
      (λ (b : no_qubits g ≡ true). bool_some (eqb q 0) en a (rw b at e))
      (λ (b : no_qubits g ≡ false). bool_some (present (g.last q)) en a (rw b at e))
      (bool_cases (no_qubits g))

  e_last_known : (q : ℕ) → q < 64 → present (g.last q) ≡ true → eh.last q ≡ some en
  e_last_known q l p = rw (known_not_bare q l p, p)

  e_last_none : (q : ℕ) → q < 64 → eh.last q ≡ none → g.last q ≡ none
  e_last_none q l e = absent_none (g.last q) (not-true λ p. never e (e_last_known q l p))

  e_some_last : (q : ℕ) × (q < 64) × (eh.last q ≡ some en)
  e_some_last = ⊎_elim
      (λ (b : no_qubits g ≡ true). (0, omega arith, rw b))
      (λ b. let r = not_bare_known b in (r.0, r.1, e_last_known r.0 r.1 r.2))
      (bool_cases (no_qubits g))

  e_first_old : no_qubits g ≡ false → (q : ℕ) → eh.first q ≡ g.first q
  e_first_old b q = rw b

  e_dom : (q : ℕ) → q < 64 → present (eh.first q) ≡ present (eh.last q)
  e_dom q l = ⊎_elim
      (λ (b : no_qubits g ≡ true). rw b)
      (λ (b : no_qubits g ≡ false). ⊎_elim
      (λ (p : present (g.last q) ≡ true). rw (b, p) (B.dom q l ∙ p))
      (λ (p : present (g.last q) ≡ false). rw (b, p) (B.dom q l ∙ p))
      (bool_cases (present (g.last q))))
      (bool_cases (no_qubits g))

  e_head_cases : (v : ℕ) → eh.head v ≡ true → (g.head v ≡ true) ⊎ ((v ≡ en) × (any en g.head ≡ false))
  e_head_cases v e = ⊎_elim
      (λ o. inl o)
      (λ r. inr (r.0, not-flip _ r.1))
      (new_cases en (g.head v) v (not (any en g.head)) e)

  e_head_new : any en g.head ≡ false → eh.head en ≡ true
  e_head_new e = new_intro en (g.head en) en _ refl (flip-not _ e)

  head_any : (v : ℕ) → g.head v ≡ true → any en g.head ≡ true
  head_any v e = any_intro en g.head v (B.low v (B.head_op v e)) e

  no_head_bare : any en g.head ≡ false → no_qubits g ≡ true
  no_head_bare e = not-false λ b.
      let r = not_bare_known b in
      let s = B.dom_head r.0 r.1 r.2 in
      clash_bool (head_any s.0 s.1) e

  pub e_base : Base eh
  e_base = record {
    low = λ u o. ⊎_elim
        (λ (e : u ≡ en). omega arith)
        (λ e. omega (arith, B.low u (e_op-back u e o)))
        (same_node u en);
    full = λ u o. ⊎_elim
        (λ (e : u ≡ en). (0, omega arith, rw e (e_new-on 0)))
        (λ e. let r = B.full u (e_op-back u e o) in (r.0, r.1, e_old-on u r.0 r.2))
        (same_node u en);
    before_low = λ u v f. ⊎_elim
        (λ o. let r = B.before_low u v o in (omega (arith, r.0), omega (arith, r.1)))
        (λ r. (omega (arith, r.1), omega (arith, r.0)))
        (before_cases en (g.before u v) u v f);
    edge_on = λ u v e. ⊎_elim
        (λ o. let r = B.edge_on u v o in (r.0, r.1, e_old-on u r.0 r.2, e_old-on v r.0 r.3))
        (λ r. (r.1, r.2, e_old-on u r.1 (L.on_it r.1 u r.2 r.3), rw r.0 (e_new-on r.1)))
        (e_edge_cases u v e);
    edge-before = λ u v e. ⊎_elim
        (λ o. or_inl (g.before u v) _ (B.edge-before u v o))
        (λ r. new_intro en (g.before u v) v _ r.0 (lt-ltb u en (B.low u (on_op (g.take u) r.1 (L.on_it r.1 u r.2 r.3)))))
        (e_edge_cases u v e);
    leads = λ u v q l a b f. ⊎_elim
        (λ o. let r = B.before_low u v o in
        reach_mono e_edge-old (B.leads u v q l
        (⊎_elim (λ x. x) (λ x. absurd (omega (arith, x, r.0))) (e_on_cases u q a))
        (⊎_elim (λ x. x) (λ x. absurd (omega (arith, x, r.1))) (e_on_cases v q b))
        o))
        (λ r. ⊎_elim
        (λ x. rw r.0 (op_leads u (on_op (g.take u) q x)))
        (λ x. absurd (omega (arith, x, r.1)))
        (e_on_cases u q a))
        (before_cases en (g.before u v) u v f);
    dom = e_dom;
    all_dom = λ u o. (e_some_last.0, e_some_last.1, ap present e_some_last.2);
    all_same = ⊎_elim
        (λ (e : g.first_all ≡ none). rw e)
        (λ (r : (a : ℕ) × (g.first_all ≡ some a)). rw r.1)
        (opt_cases g.first_all);
    head_op = λ v e. ⊎_elim
        (λ o. e_op-old v (B.head_op v o))
        (λ r. rw r.0 (on_op (eh.take en) 0 (e_new-on 0)))
        (e_head_cases v e);
    head_no = λ u v e. not-true λ x. ⊎_elim
        (λ o. ⊎_elim
        (λ a. clash_bool a (B.head_no u v o))
        (λ a. omega (arith, B.low v (B.head_op v o), a.0))
        (e_edge_cases u v x))
        (λ r. ⊎_elim
        (λ a. e_no_old u (rw r.0 at a))
        (λ a. let s = B.dom_head a.1 a.2 (ap present a.3) in clash_bool (head_any s.0 s.1) r.1)
        (e_edge_cases u v x))
        (e_head_cases v e);
    head_all = λ v o f. ⊎_elim
        (λ (e : v ≡ en). rw e (e_head_new (none_any en g.head (λ x l p.
        let r = B.head_first x p in
        let s = present_some (g.last r.0) (sym (B.dom r.0 r.1) ∙ ap present r.2) in
        clash_bool (e_edge-new s.0 r.0 r.1 s.1) (rw e at (f s.0))))))
        (λ e. or_inl (g.head v) _ (B.head_all v (e_op-back v e o) (λ u. not-true λ x. clash_bool (e_edge-old u v x) (f u))))
        (same_node v en);
    head_first = λ v e. ⊎_elim
        (λ o. let r = B.head_first v o in
        (r.0, r.1, e_first_old (known_not_bare r.0 r.1 (sym (B.dom r.0 r.1) ∙ ap present r.2)) r.0 ∙ r.2))
        (λ r. (0, omega arith, rw (r.0, no_head_bare r.1)))
        (e_head_cases v e);
    dom_head = λ q l p. ⊎_elim
        (λ e. let r = any_elim en g.head e in (r.0, or_inl (g.head r.0) _ r.2))
        (λ e. (en, e_head_new e))
        (bool_cases (any en g.head));
    tail_op = λ v e. rw (eqb-true v en e) (on_op (eh.take en) 0 (e_new-on 0));
    tail_no = λ u v e. not-true λ x. e_no_out u (rw (eqb-true v en e) at x);
    tail_all = λ v o f. ⊎_elim
        (λ e. eq-eqb v en e)
        (λ e. let s = first_step (op_leads v (e_op-back v e o)) in absurd (clash_bool s.1 (f s.0)))
        (same_node v en);
    tail_last = λ v e. (e_some_last.0, e_some_last.1, rw (eqb-true v en e) e_some_last.2);
    dom_tail = λ q l p. (en, eqb_same en);
  }

  pub e_last : Last eh
  e_last = record {
    on_it = λ q a l e. rw (e_last_n q a e) (e_new-on q);
    to_it = λ q a u l e o. rw (e_last_n q a e) (⊎_elim (λ x. there (op_leads u (on_op (g.take u) q x))) (λ x. here x) (e_on_cases u q o));
    no_one = λ q u l e o. ⊎_elim
        (λ x. e_all_up u (L.no_one q u l (e_last_none q l e) x))
        (λ x. rw x e_all_new)
        (e_on_cases u q o);
    all_it = λ a e. rw (some_same e refl) e_all_new;
    to_all = λ a u e o. rw (some_same e refl) (⊎_elim (λ x. there (op_leads u (all_op (g.take u) x))) (λ x. here x) (e_all_cases u o));
    no_all = λ u e o. never e refl;
  }

  module _ (F : First g) where
    e_flip-old : (a b : ℕ) → (flip g).edge a b ≡ true → (flip eh).edge a b ≡ true
    e_flip-old a b e = e_edge-old b a e

    -- from any old operation the new one is reached, read backwards
    e_from-new : (a : ℕ) → is_op (g.take a) ≡ true → To (flip eh).edge en a
    e_from-new a o = to-turn (there (op_leads a o))

    e_first_cases : (q a : ℕ) → eh.first q ≡ some a → ((no_qubits g ≡ true) × (a ≡ en)) ⊎ (g.first q ≡ some a)
    e_first_cases q a e = ⊎_elim
        (λ (b : no_qubits g ≡ true). inl (b, bool_some (eqb q 0) en a (rw b at e)))
        (λ (b : no_qubits g ≡ false). inr (rw b at e))
        (bool_cases (no_qubits g))

    e_first_all_cases : (a : ℕ) → eh.first_all ≡ some a → ((g.first_all ≡ none) × (a ≡ en)) ⊎ (g.first_all ≡ some a)
    e_first_all_cases a e = ⊎_elim
        (λ (x : g.first_all ≡ none). let f : eh.first_all ≡ some en = rw x in inl (x, some_same e f))
        (λ (r : (b : ℕ) × (g.first_all ≡ some b)). inr (r.1 ∙ (rw r.1 at e)))
        (opt_cases g.first_all)

    pub e_first : First eh
    e_first = record {
      on_it = λ q a l e. ⊎_elim
          (λ x. rw x.1 (e_new-on q))
          (λ x. e_old-on a q (F.on_it q a l x))
          (e_first_cases q a e);
      to_it = λ q a u l e o. ⊎_elim
          (λ x. ⊎_elim
          (λ y. absurd (bare_no_op x.0 u (on_op (g.take u) q y)))
          (λ y. here (y ∙ sym x.1))
          (e_on_cases u q o))
          (λ x. ⊎_elim
          (λ y. to_mono e_flip-old (F.to_it q a u l x y))
          (λ y. rw y (e_from-new a (on_op (g.take a) q (F.on_it q a l x))))
          (e_on_cases u q o))
          (e_first_cases q a e);
      no_one = λ q u l e o. e_last.no_one q u l (absent_none (eh.last q) (sym (e_dom q l) ∙ ap present e)) o;
      all_it = λ a e. ⊎_elim
          (λ x. rw x.1 e_all_new)
          (λ x. e_all_up a (F.all_it a x))
          (e_first_all_cases a e);
      to_all = λ a u e o. ⊎_elim
          (λ x. ⊎_elim
          (λ y. absurd (F.no_all u x.0 y))
          (λ y. here (y ∙ sym x.1))
          (e_all_cases u o))
          (λ x. ⊎_elim
          (λ y. to_mono e_flip-old (F.to_all a u x y))
          (λ y. rw y (e_from-new a (all_op (g.take a) (F.all_it a x))))
          (e_all_cases u o))
          (e_first_all_cases a e);
      no_all = λ u e o. ⊎_elim
          (λ (x : g.first_all ≡ none). never {a = en} e (rw x))
          (λ (r : (b : ℕ) × (g.first_all ≡ some b)). never {a = r.0} e (rw r.1))
          (opt_cases g.first_all);
    }

-- ---- a node that is no qubit operation

module _ (g : Net) (B : Base g) where
  abbrev nh : Net
  nh = back_nothing g

  n-on : (u q : ℕ) → on (nh.take u) q ≡ true → on (g.take u) q ≡ true
  n-on u q o = ⊎_elim
      (λ (e : u ≡ g.size). absurd (clash_bool (rw (e, put_same g.size nothing g.take) at o) refl))
      (λ e. rw (put_other g.size nothing g.take u e) at o)
      (same_node u g.size)

  n-op : (u : ℕ) → is_op (nh.take u) ≡ true → is_op (g.take u) ≡ true
  n-op u o = ⊎_elim
      (λ (e : u ≡ g.size). absurd (clash_bool (rw (e, put_same g.size nothing g.take) at o) refl))
      (λ e. rw (put_other g.size nothing g.take u e) at o)
      (same_node u g.size)

  pub n_all : (u : ℕ) → is_all (nh.take u) ≡ true → is_all (g.take u) ≡ true
  n_all u o = ⊎_elim
      (λ (e : u ≡ g.size). absurd (clash_bool (rw (e, put_same g.size nothing g.take) at o) refl))
      (λ e. rw (put_other g.size nothing g.take u e) at o)
      (same_node u g.size)

  n-take : (u : ℕ) → is_op (g.take u) ≡ true → nh.take u ≡ g.take u
  n-take u o = put_other g.size nothing g.take u (λ e. omega (arith, B.low u o, e))

  pub n_base : Base nh
  n_base = record {
    low = λ u o. omega (arith, B.low u (n-op u o));
    full = λ u o. let p = n-op u o in let r = B.full u p in (r.0, r.1, rw (n-take u p) r.2);
    before_low = λ u v f. ⊎_elim
        (λ o. let r = B.before_low u v o in (omega (arith, r.0), omega (arith, r.1)))
        (λ r. (omega (arith, r.1), omega (arith, r.0)))
        (before_cases g.size (g.before u v) u v f);
    edge_on = λ u v e. let r = B.edge_on u v e in
        (r.0, r.1, rw (n-take u (on_op (g.take u) r.0 r.2)) r.2, rw (n-take v (on_op (g.take v) r.0 r.3)) r.3);
    edge-before = λ u v e. or_inl (g.before u v) _ (B.edge-before u v e);
    leads = λ u v q l a b f. ⊎_elim
        (λ o. B.leads u v q l (n-on u q a) (n-on v q b) o)
        (λ r. absurd (omega (arith, B.low v (on_op (g.take v) q (n-on v q b)), r.0)))
        (before_cases g.size (g.before u v) u v f);
    dom = B.dom;
    all_dom = λ u o. B.all_dom u (n_all u o);
    all_same = B.all_same;
    head_op = λ v e. rw (n-take v (B.head_op v e)) (B.head_op v e);
    head_no = B.head_no;
    head_all = λ v o f. B.head_all v (n-op v o) f;
    head_first = B.head_first;
    dom_head = B.dom_head;
    tail_op = λ v e. rw (n-take v (B.tail_op v e)) (B.tail_op v e);
    tail_no = B.tail_no;
    tail_all = λ v o f. B.tail_all v (n-op v o) f;
    tail_last = B.tail_last;
    dom_tail = B.dom_tail;
  }

  pub n_last : Last g → Last nh
  n_last L = record {
    on_it = λ q a l e. let o = L.on_it q a l e in rw (n-take a (on_op (g.take a) q o)) o;
    to_it = λ q a u l e o. L.to_it q a u l e (n-on u q o);
    no_one = λ q u l e o. let w = L.no_one q u l e (n-on u q o) in rw (n-take u (all_op (g.take u) w)) w;
    all_it = λ a e. let w = L.all_it a e in rw (n-take a (all_op (g.take a) w)) w;
    to_all = λ a u e o. L.to_all a u e (n_all u o);
    no_all = λ u e o. L.no_all u e (n_all u o);
  }

  pub n_first : First g → First nh
  n_first L = record {
    on_it = λ q a l e. let o = L.on_it q a l e in rw (n-take a (on_op (g.take a) q o)) o;
    to_it = λ q a u l e o. L.to_it q a u l e (n-on u q o);
    no_one = λ q u l e o. let w = L.no_one q u l e (n-on u q o) in rw (n-take u (all_op (g.take u) w)) w;
    all_it = λ a e. let w = L.all_it a e in rw (n-take a (all_op (g.take a) w)) w;
    to_all = λ a u e o. L.to_all a u e (n_all u o);
    no_all = λ u e o. L.no_all u e (n_all u o);
  }

-- ---- all calls

-- an accepted call: its rule, and what stands in its record
pub record Call : Type 0 where
  pub far : Bool
  pub front : Bool
  pub takes : Take

abbrev pub back : Bool → Net → Take → Net
back far_all g nothing = back_nothing g
back far_all g every = back_every g
back far_all g (these m) = back_these far_all g m

abbrev pub insert : Net → Call → Net
insert g c = cond c.front (flip (back c.far (flip g) c.takes)) (back c.far g c.takes)

unfoldable pub run : Net → List Call → Net
run g [] = g
run g (c ∷ cs) = run (insert g c) cs

abbrev pub empty : Net
empty = record {
  size = 0;
  take = λ u. nothing;
  before = λ u v. false;
  edge = λ u v. false;
  first = λ q. none;
  last = λ q. none;
  first_all = none;
  last_all = none;
  head = λ u. false;
  tail = λ u. false;
}

abbrev pub NonEmpty : Take → Type 0
NonEmpty nothing = Unit {0}
NonEmpty every = Unit {0}
NonEmpty (these m) = any 64 m ≡ true

abbrev pub NonEmpties : List Call → Type 0
NonEmpties [] = Unit {0}
NonEmpties (c ∷ cs) = NonEmpty c.takes × NonEmpties cs

pub empty_base : Base empty
empty_base = record {
  low = λ u o. absurd (clash_bool o refl);
  full = λ u o. absurd (clash_bool o refl);
  before_low = λ u v o. absurd (clash_bool o refl);
  edge_on = λ u v o. absurd (clash_bool o refl);
  edge-before = λ u v o. o;
  leads = λ u v q l a b o. absurd (clash_bool o refl);
  dom = λ q l. refl;
  all_dom = λ u o. absurd (clash_bool o refl);
  all_same = refl;
  head_op = λ v o. o;
  head_no = λ u v o. refl;
  head_all = λ v o f. o;
  head_first = λ v o. absurd (clash_bool o refl);
  dom_head = λ q l o. absurd (clash_bool o refl);
  tail_op = λ v o. o;
  tail_no = λ u v o. refl;
  tail_all = λ v o f. o;
  tail_last = λ v o. absurd (clash_bool o refl);
  dom_tail = λ q l o. absurd (clash_bool o refl);
}

pub empty_last : Last empty
empty_last = record {
  on_it = λ q a l e. absurd (never refl e);
  to_it = λ q a u l e o. absurd (never refl e);
  no_one = λ q u l e o. o;
  all_it = λ a e. absurd (never refl e);
  to_all = λ a u e o. absurd (never refl e);
  no_all = λ u e o. clash_bool o refl;
}

-- ---- both ends

pub record All (g : Net) : Type 0 where
  pub base : Base g
  pub lasts : Last g
  pub firsts : First g

pub all_flip : (g : Net) → All g → All (flip g)
all_flip g A = record { base = flip_base g A.base; lasts = A.firsts; firsts = A.lasts }

pub all_back : (far_all : Bool) (g : Net) → All g → (far_all ≡ true) ⊎ (g.first_all ≡ g.last_all) → (t : Take) → NonEmpty t → All (back far_all g t)
all_back far_all g A r nothing e = record { base = n_base g A.base; lasts = n_last g A.base A.lasts; firsts = n_first g A.base A.firsts }
all_back far_all g A r every e = record { base = e_base g A.base A.lasts; lasts = e_last g A.base A.lasts; firsts = e_first g A.base A.lasts A.firsts }
all_back far_all g A r (these m) e = record {
  base = base_h far_all g A.base A.lasts m e;
  lasts = last_h far_all g A.base A.lasts m e;
  firsts = first_h far_all g A.base A.lasts m e A.firsts r;
}

pub all_insert : (g : Net) → All g → (c : Call) → (c.far ≡ true) ⊎ (g.first_all ≡ g.last_all) → NonEmpty c.takes → All (insert g c)
all_insert g A c r e = ⊎_elim
    (λ (f : c.front ≡ true). rw f (all_flip (back c.far (flip g) c.takes)
    (all_back c.far (flip g) (all_flip g A) (⊎_elim (λ k. inl k) (λ k. inr (sym k)) r) c.takes e)))
    (λ (f : c.front ≡ false). rw f (all_back c.far g A r c.takes e))
    (bool_cases c.front)
