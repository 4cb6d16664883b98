-- The two ends of a graph that is built: what each keeps, seen from one end, and that linking a new node keeps it. One text
-- for both ends: near is the end of the insertion, far the other. Assumes nothing.
use mathlib.Core.Path.{◌≡◌, refl, sym, ◌∙◌, ap, subst}
use mathlib.Core.Bool.{Bool, true, false, cond, ◌&&◌}
use mathlib.Core.Logic.{◌⊎◌, inl, inr, ⊎_elim}
use mathlib.Core.List.{List, [], ◌∷◌, ◌++◌, map}
use Prim.Native.Nat.{ℕ, zero, suc, ◌+◌, ◌<◌}
use native.Mathlib.Omega.{arith}
use native.Mathlib.Decide.{dec_lt}
use lib.Dec.{eqb, ltb}
use lib.ListN.{length, get_or, set, replicate, length-set, length-map, length-replicate, get_or-map, get_or-eq_default}
use lib.Seq.{get_or-set_same}
use borrow.Author.Tests.{eqb-true, ltb-true}
use Rattle.file.specs.Lists.{any_of, all_of, member, is_empty}
use Rattle.file.specs.declared.InvolvedQubits.{InvolvedQubits}
use Rattle.file.specs.declared.InvolvedQubits.TheVariants.{None, All, Set}
use Rattle.file.specs.Records.{form_of}
use Rattle.graph.specs.declared.NodeIndex.{NodeIndex}
use Rattle.graph.specs.declared.End.{End}
use Rattle.graph.specs.Dag.{absent, present, or_else, node, at_qubit}
use Rattle.file.proofs.BoolLaws.{bool_cases, clash_bool, not-true, not-false, or_cases, eqb_same}
use Rattle.graph.proofs.ListLaws.{all_same, any_here, any-later, any_append, any_at, at-any, all_at}
use Rattle.links.specs.Links.{Linked, FarRule, source, no_qubit, qubits, link_qubits, join_far, link_set, mapped, link_all, link_by}
use Rattle.links.proofs.LinkLaws.{add_present, link_one, others_below, NamesAll}

-- ---- one store in a list

-- an array that holds its default only
-- a mark that stands after one was taken out
cleared : (l : List Bool) (i j : ℕ) → get_or (set l i false) j false ≡ true → (j ≡ i → ⊥) × (get_or l j false ≡ true)
cleared [] i j h = absurd (clash_bool h refl)
cleared (x ∷ l) zero zero h = absurd (clash_bool h refl)
cleared (x ∷ l) zero (suc j) h = (λ e. omega arith, h)
cleared (x ∷ l) (suc i) zero h = (λ e. omega arith, h)
cleared (x ∷ l) (suc i) (suc j) h = let r = cleared l i j h in (λ e. r.0 (omega arith), r.1)

-- one that stands after one was set
marked : (l : List Bool) (i j : ℕ) → get_or (set l i true) j false ≡ true → (j ≡ i) ⊎ (get_or l j false ≡ true)
marked [] i j h = inr h
marked (x ∷ l) zero zero h = inl refl
marked (x ∷ l) zero (suc j) h = inr h
marked (x ∷ l) (suc i) zero h = inr h
marked (x ∷ l) (suc i) (suc j) h = ⊎_elim (λ (e : j ≡ i). inl (ap suc e)) (λ m. inr m) (marked l i j h)

-- an entry is the one that was stored or an old one
set_cases : (l : List ℕ) (i j v d : ℕ) → (get_or (set l i v) j d ≡ v) ⊎ (get_or (set l i v) j d ≡ get_or l j d)
set_cases [] i j v d = inr refl
set_cases (x ∷ l) zero zero v d = inl refl
set_cases (x ∷ l) zero (suc j) v d = inr refl
set_cases (x ∷ l) (suc i) zero v d = inr refl
set_cases (x ∷ l) (suc i) (suc j) v d = set_cases l i j v d

-- ---- sets kept as lists

add-member : (w u : ℕ) (l : List ℕ) → member w (add_present u l) ≡ true → ((w ≡ u) × (present u ≡ true)) ⊎ (member w l ≡ true)
unfolding any_of
add-member w u l = ⊎_elim
    (λ (p : present u ≡ true). ⊎_elim
    (λ (m : member u l ≡ true). rw (p, m) (λ h. inr h))
    (λ (m : member u l ≡ false). rw (p, m) (λ (h : member w (l ++ (u ∷ [])) ≡ true). ⊎_elim
    (λ (a : member w l ≡ true). inr a)
    (λ (a : member w (u ∷ []) ≡ true). inl (only a, refl))
    (or_cases (member w l) (member w (u ∷ [])) (sym (any_append (eqb w) l (u ∷ [])) ∙ h))))
    (bool_cases (member u l)))
    (λ (p : present u ≡ false). rw p (λ h. inr h))
    (bool_cases (present u))
  where
    only : member w (u ∷ []) ≡ true → w ≡ u
    only a = eqb-true w u (not-false (λ (e : eqb w u ≡ false). clash_bool a (any-later (eqb w) u [] e)))

some_member : (l : List ℕ) → is_empty l ≡ false → (w : ℕ) × (member w l ≡ true)
some_member [] h = absurd (clash_bool refl h)
some_member (w ∷ l) h = (w, any_here (eqb w) w l (eqb_same w))

pub all_member : (p : ℕ → Bool) (w : ℕ) (l : List ℕ) → all_of p l ≡ true → member w l ≡ true → p w ≡ true
all_member p w l h m =
    let r = any_at (eqb w) l 0 m in
    let e : w ≡ get_or l r.0 0 = eqb-true w (get_or l r.0 0) r.2 in
    rw e (all_at p l 0 h r.0 r.1)

-- "every node in the last map", once: each is an entry
mapped-member : (l seen : List ℕ) (w : ℕ) → member w (mapped l seen) ≡ true → (member w seen ≡ true) ⊎ ((q : ℕ) × (get_or l q absent ≡ w) × (present (get_or l q absent) ≡ true))
unfolding mapped
mapped-member [] seen w h = inl h
mapped-member (u ∷ l) seen w h = ⊎_elim
    (λ (m : member w (add_present u seen) ≡ true). ⊎_elim
    (λ (r : (w ≡ u) × (present u ≡ true)). inr (0, sym r.0, r.1))
    (λ (a : member w seen ≡ true). inl a)
    (add-member w u seen m))
    (λ (r : (q : ℕ) × (get_or l q absent ≡ w) × (present (get_or l q absent) ≡ true)). inr (suc r.0, r.1, r.2))
    (mapped-member l (add_present u seen) w h)

-- a, else b: which of the two it is
else_cases : (P : ℕ → Type 0) (a b : ℕ) → (present a ≡ true → P a) → (present b ≡ true → P b) → present (or_else a b) ≡ true → P (or_else a b)
else_cases P a b f g = ⊎_elim
    (λ (e : present a ≡ true). rw e (λ h. f e))
    (λ (e : present a ≡ false). rw e g)
    (bool_cases (present a))

-- ---- what an end keeps

-- a set kept as marks that is not empty
abbrev pub Some : List Bool → Type 0
Some block = (u : ℕ) × (get_or block u false ≡ true)

-- a qubit operation among the n nodes
pub record Old (n : ℕ) (op : ℕ → Bool) (u : ℕ) : Type 0 where
  pub below : u < n
  pub operation : op u ≡ true

-- the end near of a graph with n nodes: it names qubit operations, no node of its block has an edge on its side (out at the
-- back, in at the front), and where it names a node the other block is not empty
pub record Side (n : ℕ) (op : ℕ → Bool) (Meets : ℕ → Type 0) (near far : End) : Type 0 where
  pub nodes : length near.node ≡ 64
  pub blocks : length near.block ≡ 512
  pub entry : (q : ℕ) → present (at_qubit near q) ≡ true → Old n op (at_qubit near q)
  pub all : present near.all.0 ≡ true → Old n op near.all.0
  pub member : (u : ℕ) → get_or near.block u false ≡ true → Old n op u
  pub free : (u : ℕ) → get_or near.block u false ≡ true → Meets u → ⊥
  pub entry_some : (q : ℕ) → present (at_qubit near q) ≡ true → Some far.block
  pub all_some : present near.all.0 ≡ true → Some far.block

-- the new node n, where it is an operation, or an old operation
abbrev pub Named : ℕ → (ℕ → Bool) → Bool → ℕ → Type 0
Named n op new u = ((u ≡ n) × (new ≡ true)) ⊎ Old n op u

-- what linking the new node n does to the ends
pub record Joins (n : ℕ) (op : ℕ → Bool) (new : Bool) (near far : End) (x : Linked) : Type 0 where
  pub near_nodes : length x.near.node ≡ 64
  pub near_blocks : length x.near.block ≡ 512
  pub far_nodes : length x.far.node ≡ 64
  pub far-blocks : length x.far.block ≡ 512
  pub near_entry : (q : ℕ) → present (at_qubit x.near q) ≡ true → Named n op new (at_qubit x.near q)
  pub near_all_lem : present x.near.all.0 ≡ true → Named n op new x.near.all.0
  pub far-entry : (q : ℕ) → present (at_qubit x.far q) ≡ true → Named n op new (at_qubit x.far q)
  pub far_all_lem : present x.far.all.0 ≡ true → Named n op new x.far.all.0
  pub near_member : (u : ℕ) → get_or x.near.block u false ≡ true → ((u ≡ n) × (new ≡ true)) ⊎ ((get_or near.block u false ≡ true) × (member u x.others ≡ false))
  pub far-member : (u : ℕ) → get_or x.far.block u false ≡ true → ((u ≡ n) × (new ≡ true) × (is_empty x.others ≡ true)) ⊎ (get_or far.block u false ≡ true)
  pub others : (w : ℕ) → member w x.others ≡ true → Old n op w
  pub joined : is_empty x.others ≡ false → new ≡ true
  pub near_some : (q : ℕ) → present (at_qubit x.near q) ≡ true → Some x.far.block
  pub near_all_some : present x.near.all.0 ≡ true → Some x.far.block
  pub far_some : (q : ℕ) → present (at_qubit x.far q) ≡ true → Some x.near.block
  pub far_all_some : present x.far.all.0 ≡ true → Some x.near.block

-- ---- the ends after the link, among one node more

module _ (n : ℕ) (op op' : ℕ → Bool) (new : Bool) (same : (u : ℕ) → u < n → op' u ≡ op u) (here : op' n ≡ new) where
  pub named-old : (u : ℕ) → Named n op new u → Old (n + 1) op' u
  named-old u = ⊎_elim
      (λ (r : (u ≡ n) × (new ≡ true)). record { below = omega (arith, r.0); operation = ap op' r.0 ∙ here ∙ r.1 })
      (λ (o : Old n op u). record { below = omega (arith, o.below); operation = same u o.below ∙ o.operation })

  module _ (near far : End) (x : Linked) (Out In Out' In' : ℕ → Type 0) (S : Side n op Out near far) (T : Side n op In far near) (J : Joins n op new near far x)
      (out_below : (u : ℕ) → Out u → u < n) (in-below : (u : ℕ) → In u → u < n)
      (out_cases : (u : ℕ) → Out' u → Out u ⊎ (member u x.others ≡ true))
      (in-cases : (u : ℕ) → In' u → In u ⊎ ((u ≡ n) × (is_empty x.others ≡ false))) where
    near_free : (u : ℕ) → get_or x.near.block u false ≡ true → Out' u → ⊥
    near_free u m o = ⊎_elim
        (λ (r : (u ≡ n) × (new ≡ true)). ⊎_elim
        (λ (p : Out u). omega (arith, out_below u p, r.0))
        (λ (p : member u x.others ≡ true). omega (arith, (J.others u p).below, r.0))
        (out_cases u o))
        (λ (r : (get_or near.block u false ≡ true) × (member u x.others ≡ false)). ⊎_elim
        (λ (p : Out u). S.free u r.0 p)
        (λ (p : member u x.others ≡ true). clash_bool p r.1)
        (out_cases u o))
        (J.near_member u m)

    far-free : (u : ℕ) → get_or x.far.block u false ≡ true → In' u → ⊥
    far-free u m i = ⊎_elim
        (λ (r : (u ≡ n) × (new ≡ true) × (is_empty x.others ≡ true)). ⊎_elim
        (λ (p : In u). omega (arith, in-below u p, r.0))
        (λ (p : (u ≡ n) × (is_empty x.others ≡ false)). clash_bool r.2 p.1)
        (in-cases u i))
        (λ (r : get_or far.block u false ≡ true). ⊎_elim
        (λ (p : In u). T.free u r p)
        (λ (p : (u ≡ n) × (is_empty x.others ≡ false)). omega (arith, (T.member u r).below, p.0))
        (in-cases u i))
        (J.far-member u m)

    pub near_side : Side (n + 1) op' Out' x.near x.far
    near_side = record {
      nodes = J.near_nodes;
      blocks = J.near_blocks;
      entry = λ q p. named-old _ (J.near_entry q p);
      all = λ p. named-old _ (J.near_all_lem p);
      member = λ u m. named-old u (⊎_elim
          (λ (r : (u ≡ n) × (new ≡ true)). inl r)
          (λ (r : (get_or near.block u false ≡ true) × (member u x.others ≡ false)). inr (S.member u r.0))
          (J.near_member u m));
      free = near_free;
      entry_some = J.near_some;
      all_some = J.near_all_some;
    }

    pub far_side : Side (n + 1) op' In' x.far x.near
    far_side = record {
      nodes = J.far_nodes;
      blocks = J.far-blocks;
      entry = λ q p. named-old _ (J.far-entry q p);
      all = λ p. named-old _ (J.far_all_lem p);
      member = λ u m. named-old u (⊎_elim
          (λ (r : (u ≡ n) × (new ≡ true) × (is_empty x.others ≡ true)). inl (r.0, r.1))
          (λ (r : get_or far.block u false ≡ true). inr (T.member u r))
          (J.far-member u m));
      free = far-free;
      entry_some = J.far_some;
      all_some = J.far_all_some;
    }

-- ---- a record without qubits

module _ (n : ℕ) (op : ℕ → Bool) (new : Bool) (near far : End) (Out In : ℕ → Type 0) (S : Side n op Out near far) (T : Side n op In far near) where
  joins_none : Joins n op new near far (record { near = near; far = far; others = [] })
  unfolding any_of
  joins_none = record {
    near_nodes = S.nodes;
    near_blocks = S.blocks;
    far_nodes = T.nodes;
    far-blocks = T.blocks;
    near_entry = λ q p. inr (S.entry q p);
    near_all_lem = λ p. inr (S.all p);
    far-entry = λ q p. inr (T.entry q p);
    far_all_lem = λ p. inr (T.all p);
    near_member = λ u m. inr (m, refl);
    far-member = λ u m. inr m;
    others = λ w m. absurd (clash_bool m refl);
    joined = λ e. absurd (clash_bool refl e);
    near_some = S.entry_some;
    near_all_some = S.all_some;
    far_some = T.entry_some;
    far_all_some = T.all_some;
  }

-- ---- All

-- the rule, with its two tests as parameters: both maps are empty, and the far block has a node
abbrev all_as : Bool → Bool → ℕ → End → End → Linked
all_as e f v near far = record {
  near = record {
    node = cond e (set near.node 0 v) (map (λ (u : ℕ). cond (present u) v u) near.node);
    all = node v;
    block = set (replicate 512 false) v true;
  };
  far = record {
    node = cond e (set far.node 0 v) far.node;
    all = node (or_else far.all.0 v);
    block = cond f far.block (set far.block v true);
  };
  others = cond e [] (mapped near.node []);
}

module _ (n : ℕ) (op : ℕ → Bool) (near far : End) (Out In : ℕ → Type 0) (S : Side n op Out near far) (T : Side n op In far near) (low : n < 512) where
  abbrev Name : ℕ → Type 0
  Name u = Named n op true u

  -- an entry that was v's or stood before
  stored : (l : List ℕ) (q i : ℕ) → (present (get_or l q absent) ≡ true → Old n op (get_or l q absent)) → present (get_or (set l i n) q absent) ≡ true → Name (get_or (set l i n) q absent)
  stored l q i f p = ⊎_elim
      (λ (e : get_or (set l i n) q absent ≡ n). inl (e, refl))
      (λ (e : get_or (set l i n) q absent ≡ get_or l q absent). inr (rw e (f (rw e at p))))
      (set_cases l i q n absent)

  -- "all its qubits map to v"
  turned : (l : List ℕ) (q : ℕ) → present (get_or (map (λ (u : ℕ). cond (present u) n u) l) q absent) ≡ true → get_or (map (λ (u : ℕ). cond (present u) n u) l) q absent ≡ n
  turned l q = rw (get_or-map (λ (u : ℕ). cond (present u) n u) l q absent) (⊎_elim
      (λ (e : present (get_or l q absent) ≡ true). rw e (λ h. refl))
      (λ (e : present (get_or l q absent) ≡ false). rw e (λ h. absurd (clash_bool h e)))
      (bool_cases (present (get_or l q absent))))

  all_others : (e : Bool) (w : ℕ) → member w (cond e [] (mapped near.node [])) ≡ true → Old n op w × Some far.block
  unfolding any_of
  all_others true w m = absurd (clash_bool m refl)
  all_others false w m = ⊎_elim
      (λ (a : false ≡ true). absurd (clash_bool a refl))
      (λ (r : (q : ℕ) × (at_qubit near q ≡ w) × (present (at_qubit near q) ≡ true)). (subst (λ (u : ℕ). Old n op u) r.1 (S.entry r.0 r.2), S.entry_some r.0 r.2))
      (mapped-member near.node [] w m)

  -- the far block has a node afterwards, and v is it only where nothing points to v
  far-has : (f : Bool) → any_of (λ b. b) far.block ≡ f → Some (cond f far.block (set far.block n true))
  far-has true h = let r = any_at (λ b. b) far.block false h in (r.0, r.2)
  far-has false h = (n, get_or-set_same far.block n true false (omega (arith, T.blocks)))

  no_some : any_of (λ b. b) far.block ≡ false → Some far.block → ⊥
  no_some h r = elim (dec_lt r.0 (length far.block)) [
    | yes l ↦ clash_bool (at-any (λ b. b) far.block false r.0 l r.1) h
    | no l ↦ clash_bool r.1 (get_or-eq_default far.block false {n = r.0} (omega arith))
  ]

  far-new : (e f : Bool) → any_of (λ b. b) far.block ≡ f → (u : ℕ) → get_or (cond f far.block (set far.block n true)) u false ≡ true
      → ((u ≡ n) × (true ≡ true) × (is_empty (cond e [] (mapped near.node [])) ≡ true)) ⊎ (get_or far.block u false ≡ true)
  far-new e true h u m = inr m
  far-new e false h u m = ⊎_elim
      (λ (a : u ≡ n). inl (
        a,
        refl,
        not-false (λ (t : is_empty (cond e [] (mapped near.node [])) ≡ false).
            let r = some_member (cond e [] (mapped near.node [])) t in no_some h (all_others e r.0 r.1).1),
      ))
      (λ (a : get_or far.block u false ≡ true). inr a)
      (marked far.block n u m)

  all_marked : get_or (set (replicate 512 false) n true) n false ≡ true
  all_marked = get_or-set_same (replicate 512 false) n true false (rw (length-replicate 512 false) low)

  joins_as : (e f : Bool) → any_of (λ b. b) far.block ≡ f → Joins n op true near far (all_as e f n near far)
  joins_as e f h = record {
    near_nodes = near_long e;
    near_blocks = length-set (replicate 512 false) n true ∙ length-replicate 512 false;
    far_nodes = far_long e;
    far-blocks = block_long f;
    near_entry = λ q p. near_named e q p;
    near_all_lem = λ p. inl (refl, refl);
    far-entry = λ q p. far-named e q p;
    far_all_lem = else_cases Name far.all.0 n (λ p. inr (T.all p)) (λ p. inl (refl, refl));
    near_member = λ u m. ⊎_elim (λ (a : u ≡ n). inl (a, refl)) (λ (a : get_or (replicate 512 false) u false ≡ true). absurd (clash_bool a (all_same 512 u false))) (marked (replicate 512 false) n u m);
    far-member = far-new e f h;
    others = λ w m. (all_others e w m).0;
    joined = λ t. refl;
    near_some = λ q p. far-has f h;
    near_all_some = λ p. far-has f h;
    far_some = λ q p. (n, all_marked);
    far_all_some = λ p. (n, all_marked);
  }
    where
      near_long : (e : Bool) → length (cond e (set near.node 0 n) (map (λ (u : ℕ). cond (present u) n u) near.node)) ≡ 64
      near_long true = length-set near.node 0 n ∙ S.nodes
      near_long false = length-map near.node (λ (u : ℕ). cond (present u) n u) ∙ S.nodes

      far_long : (e : Bool) → length (cond e (set far.node 0 n) far.node) ≡ 64
      far_long true = length-set far.node 0 n ∙ T.nodes
      far_long false = T.nodes

      block_long : (f : Bool) → length (cond f far.block (set far.block n true)) ≡ 512
      block_long true = T.blocks
      block_long false = length-set far.block n true ∙ T.blocks

      near_named : (e : Bool) (q : ℕ) → present (get_or (cond e (set near.node 0 n) (map (λ (u : ℕ). cond (present u) n u) near.node)) q absent) ≡ true
          → Name (get_or (cond e (set near.node 0 n) (map (λ (u : ℕ). cond (present u) n u) near.node)) q absent)
      near_named true q p = stored near.node q 0 (S.entry q) p
      near_named false q p = inl (turned near.node q p, refl)

      far-named : (e : Bool) (q : ℕ) → present (get_or (cond e (set far.node 0 n) far.node) q absent) ≡ true → Name (get_or (cond e (set far.node 0 n) far.node) q absent)
      far-named true q p = stored far.node q 0 (T.entry q) p
      far-named false q p = inr (T.entry q p)

  joins_all : Joins n op true near far (link_all n near far)
  unfolding link_all
  joins_all = joins_as (no_qubit near && no_qubit far) (any_of (λ b. b) far.block) refl

-- ---- Set

module _ (n : ℕ) (op : ℕ → Bool) (near far : End) where
  -- what stood before the insertion: an operation, and the far block is not empty
  abbrev Stood : ℕ → Type 0
  Stood u = Old n op u × Some far.block

  -- after some qubits of a Set
  record Linking (x : Linked) : Type 0 where
    near_nodes : length x.near.node ≡ 64
    near_blocks : length x.near.block ≡ 512
    far_nodes : length x.far.node ≡ 64
    near_all_lem : x.near.all ≡ near.all
    far_all_lem : x.far.all ≡ far.all
    far-block : x.far.block ≡ far.block
    near_entry : (q : ℕ) → present (at_qubit x.near q) ≡ true → (at_qubit x.near q ≡ n) ⊎ Stood (at_qubit x.near q)
    far-entry : (q : ℕ) → present (at_qubit x.far q) ≡ true → (at_qubit x.far q ≡ n) ⊎ Old n op (at_qubit x.far q)
    others : (w : ℕ) → member w x.others ≡ true → (w ≡ n) ⊎ Stood w
    near_member : (u : ℕ) → get_or x.near.block u false ≡ true → (u ≡ n) ⊎ ((get_or near.block u false ≡ true) × (member u x.others ≡ false))

  module _ (rule : FarRule) (names : NamesAll rule) (Out In : ℕ → Type 0) (S : Side n op Out near far) (T : Side n op In far near) (low : n < 512) where
    begin : Linking (record { near = near; far = far; others = [] })
    unfolding any_of
    begin = record {
      near_nodes = S.nodes;
      near_blocks = S.blocks;
      far_nodes = T.nodes;
      near_all_lem = refl;
      far_all_lem = refl;
      far-block = refl;
      near_entry = λ q p. inr (S.entry q p, S.entry_some q p);
      far-entry = λ q p. inr (T.entry q p);
      others = λ w m. absurd (clash_bool m refl);
      near_member = λ u m. inr (m, refl);
    }

    module _ (x : Linked) (L : Linking x) (q : ℕ) where
      -- "the source is last[q], else lastAll"
      source_stood : present (source x.near q) ≡ true → (source x.near q ≡ n) ⊎ Stood (source x.near q)
      source_stood = else_cases (λ u. (u ≡ n) ⊎ Stood u) (at_qubit x.near q) x.near.all.0 (L.near_entry q)
          (rw L.near_all_lem (λ (p : present near.all.0 ≡ true). inr (S.all p, S.all_some p)))

      abbrev taken : List Bool
      taken = cond (present (source x.near q)) (set x.near.block (source x.near q) false) x.near.block

      taken_long : length taken ≡ 512
      taken_long = ⊎_elim
          (λ (e : present (source x.near q) ≡ true). rw (e, length-set) L.near_blocks)
          (λ (e : present (source x.near q) ≡ false). rw e L.near_blocks)
          (bool_cases (present (source x.near q)))

      -- the source is not in it
      taken_told : (u : ℕ) → get_or taken u false ≡ true → (get_or x.near.block u false ≡ true) × ((u ≡ source x.near q) × (present (source x.near q) ≡ true) → ⊥)
      taken_told u = ⊎_elim
          (λ (e : present (source x.near q) ≡ true). rw e (λ h. let r = cleared x.near.block (source x.near q) u h in (r.1, λ y. r.0 y.0)))
          (λ (e : present (source x.near q) ≡ false). rw e (λ h. (h, λ y. clash_bool y.1 refl)))
          (bool_cases (present (source x.near q)))

      far-node : (e : Bool) → length (cond e x.far.node (set x.far.node q (or_else (rule x.near x.far) n))) ≡ 64
      far-node true = L.far_nodes
      far-node false = length-set x.far.node q (or_else (rule x.near x.far) n) ∙ L.far_nodes

      -- the node that the rule names is an end's all-qubit node
      rule_old : present (rule x.near x.far) ≡ true → Old n op (rule x.near x.far)
      rule_old p = ⊎_elim
          (λ (e : rule x.near x.far ≡ x.near.all.0).
          let a = e ∙ ap (λ (v : NodeIndex). v.0) L.near_all_lem in
          subst (λ (u : ℕ). Old n op u) (sym a) (S.all (subst (λ (u : ℕ). present u ≡ true) a p)))
          (λ (e : rule x.near x.far ≡ x.far.all.0).
          let a = e ∙ ap (λ (v : NodeIndex). v.0) L.far_all_lem in
          subst (λ (u : ℕ). Old n op u) (sym a) (T.all (subst (λ (u : ℕ). present u ≡ true) a p)))
          (names x.near x.far p)

      -- "first[q] becomes lastAll, or v if that is absent"
      far_stood : (e : Bool) (j : ℕ) → present (get_or (cond e x.far.node (set x.far.node q (or_else (rule x.near x.far) n))) j absent) ≡ true
          → (get_or (cond e x.far.node (set x.far.node q (or_else (rule x.near x.far) n))) j absent ≡ n) ⊎ Old n op (get_or (cond e x.far.node (set x.far.node q (or_else (rule x.near x.far) n))) j absent)
      far_stood true j p = L.far-entry j p
      far_stood false j p = ⊎_elim
          (λ (e : get_or (set x.far.node q (or_else (rule x.near x.far) n)) j absent ≡ or_else (rule x.near x.far) n).
          rw e (else_cases (λ u. (u ≡ n) ⊎ Old n op u) (rule x.near x.far) n (λ t. inr (rule_old t)) (λ t. inl refl) (rw e at p)))
          (λ (e : get_or (set x.far.node q (or_else (rule x.near x.far) n)) j absent ≡ at_qubit x.far j). rw e (L.far-entry j (rw e at p)))
          (set_cases x.far.node q j (or_else (rule x.near x.far) n) absent)

      link_one_lem : Linking (link_one rule n q x)
      link_one_lem = record {
        near_nodes = length-set x.near.node q n ∙ L.near_nodes;
        near_blocks = length-set taken n true ∙ taken_long;
        far_nodes = far-node (present (at_qubit x.near q));
        near_all_lem = L.near_all_lem;
        far_all_lem = L.far_all_lem;
        far-block = L.far-block;
        near_entry = λ j p. ⊎_elim
            (λ (e : get_or (set x.near.node q n) j absent ≡ n). inl e)
            (λ (e : get_or (set x.near.node q n) j absent ≡ at_qubit x.near j). rw e (L.near_entry j (rw e at p)))
            (set_cases x.near.node q j n absent);
        far-entry = far_stood (present (at_qubit x.near q));
        others = λ w m. ⊎_elim
            (λ (r : (w ≡ source x.near q) × (present (source x.near q) ≡ true)). subst (λ (u : ℕ). (u ≡ n) ⊎ Stood u) (sym r.0) (source_stood r.1))
            (λ (a : member w x.others ≡ true). L.others w a)
            (add-member w (source x.near q) x.others m);
        near_member = λ u m. ⊎_elim
            (λ (a : u ≡ n). inl a)
            (λ (a : get_or taken u false ≡ true).
            let r = taken_told u a in
            ⊎_elim
            (λ (b : u ≡ n). inl b)
            (λ (b : (get_or near.block u false ≡ true) × (member u x.others ≡ false)). inr (
              b.0,
              not-true (λ t. ⊎_elim
                  (λ (y : (u ≡ source x.near q) × (present (source x.near q) ≡ true)). r.1 y)
                  (λ (y : member u x.others ≡ true). clash_bool y b.1)
                  (add-member u (source x.near q) x.others t)),
            ))
            (L.near_member u r.0))
            (marked taken n u m);
      }

      -- "v joins the last block"
      one_marked : get_or (link_one rule n q x).near.block n false ≡ true
      one_marked = get_or-set_same taken n true false (rw taken_long low)

    link_each : (qs : List ℕ) (x : Linked) → Linking x → Linking (link_qubits rule qs n x)
    unfolding link_qubits
    link_each [] x L = L
    link_each (q ∷ qs) x L = link_each qs (link_one rule n q x) (link_one_lem x L q)

    each_marked : (qs : List ℕ) (x : Linked) → Linking x → get_or x.near.block n false ≡ true → get_or (link_qubits rule qs n x).near.block n false ≡ true
    unfolding link_qubits
    each_marked [] x L m = m
    each_marked (q ∷ qs) x L m = each_marked qs (link_one rule n q x) (link_one_lem x L q) (one_marked x L q)

    -- "v joins the first block if nothing points to it": it has a node afterwards
    module _ (x : Linked) (L : Linking x) (below : (w : ℕ) → member w x.others ≡ true → w < n)
        (far_some : (q : ℕ) → present (at_qubit x.far q) ≡ true → Some x.near.block) (far_all_some : present far.all.0 ≡ true → Some x.near.block) where
      stood : (w : ℕ) → member w x.others ≡ true → Stood w
      stood w m = ⊎_elim (λ (e : w ≡ n). absurd (omega (arith, below w m))) (λ (r : Stood w). r) (L.others w m)

      name_of : (u : ℕ) → (u ≡ n) ⊎ Old n op u → Named n op true u
      name_of u = ⊎_elim (λ (e : u ≡ n). inl (e, refl)) (λ (o : Old n op u). inr o)

      near_name : (u : ℕ) → (u ≡ n) ⊎ Stood u → Named n op true u
      near_name u = ⊎_elim (λ (e : u ≡ n). inl (e, refl)) (λ (o : Stood u). inr o.0)

      far-has_some : (e : Bool) → is_empty x.others ≡ e → Some (cond e (set x.far.block n true) x.far.block)
      far-has_some true h = (n, get_or-set_same x.far.block n true false (rw L.far-block (omega (arith, T.blocks))))
      far-has_some false h = rw L.far-block (let r = some_member x.others h in (stood r.0 r.1).1)

      far-join : (e : Bool) → is_empty x.others ≡ e → (u : ℕ) → get_or (cond e (set x.far.block n true) x.far.block) u false ≡ true
          → ((u ≡ n) × (true ≡ true) × (is_empty x.others ≡ true)) ⊎ (get_or far.block u false ≡ true)
      far-join true h u m = ⊎_elim
          (λ (a : u ≡ n). inl (a, refl, h))
          (λ (a : get_or x.far.block u false ≡ true). inr (rw L.far-block at a))
          (marked x.far.block n u m)
      far-join false h u m = inr (rw L.far-block at m)

      far_long : (e : Bool) → length (cond e (set x.far.block n true) x.far.block) ≡ 512
      far_long true = length-set x.far.block n true ∙ ap length L.far-block ∙ T.blocks
      far_long false = ap length L.far-block ∙ T.blocks

      join-far : Joins n op true near far (join_far n x)
      join-far = record {
        near_nodes = L.near_nodes;
        near_blocks = L.near_blocks;
        far_nodes = L.far_nodes;
        far-blocks = far_long (is_empty x.others);
        near_entry = λ q p. near_name _ (L.near_entry q p);
        near_all_lem = rw L.near_all_lem (λ (p : present near.all.0 ≡ true). inr (S.all p));
        far-entry = λ q p. name_of _ (L.far-entry q p);
        far_all_lem = rw L.far_all_lem (λ (p : present far.all.0 ≡ true). inr (T.all p));
        near_member = λ u m. ⊎_elim (λ (a : u ≡ n). inl (a, refl)) (λ (r : (get_or near.block u false ≡ true) × (member u x.others ≡ false)). inr r) (L.near_member u m);
        far-member = far-join (is_empty x.others) refl;
        others = λ w m. (stood w m).0;
        joined = λ e. refl;
        near_some = λ q p. far-has_some (is_empty x.others) refl;
        near_all_some = λ p. far-has_some (is_empty x.others) refl;
        far_some = far_some;
        far_all_some = rw L.far_all_lem far_all_some;
      }

    abbrev start : Linked
    start = record { near = near; far = far; others = [] }

    joins_each : (qs : List ℕ) → ((w : ℕ) → member w (link_qubits rule qs n start).others ≡ true → w < n) → Joins n op true near far (join_far n (link_qubits rule qs n start))
    unfolding link_qubits
    joins_each [] below = join-far start begin below T.entry_some T.all_some
    joins_each (q ∷ qs) below =
        let mark = each_marked qs (link_one rule n q start) (link_one_lem start begin q) (one_marked start begin q) in
        join-far (link_qubits rule (q ∷ qs) n start) (link_each (q ∷ qs) start begin) below (λ j p. (n, mark)) (λ p. (n, mark))

    joins_set : (m : ℕ) → Joins n op true near far (link_set rule m n near far)
    unfolding link_set
    joins_set m = joins_each (qubits m) (λ w h. ltb-true w n (all_member (λ u. ltb u n) w _
        (others_below (Set m) rule n near far (λ q p. (S.entry q p).below) (λ p. (S.all p).below)) h))

    -- the rule of every record: a node that is linked is an operation
    pub joins_by : (k : InvolvedQubits) (new : Bool) → (eqb (form_of k) 0 ≡ false → new ≡ true) → Joins n op new near far (link_by k rule n near far)
    joins_by None new h = joins_none n op new near far Out In S T
    joins_by All new h = subst (λ (b : Bool). Joins n op b near far (link_all n near far)) (sym (h refl)) (joins_all n op near far Out In S T low)
    joins_by (Set m) new h = subst (λ (b : Bool). Joins n op b near far (link_set rule m n near far)) (sym (h refl)) (joins_set m)
