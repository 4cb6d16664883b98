-- The edges and places of a graph that is built: they are in order, and stay so when a new node gets the next place at one
-- end and is joined with old operations. Assumes nothing.
use mathlib.Core.Path.{◌≡◌, refl, sym, ◌∙◌, ap}
use mathlib.Core.Bool.{Bool, true, false, not}
use mathlib.Core.Logic.{◌⊎◌, inl, inr, ⊎_elim}
use mathlib.Core.List.{List, [], ◌∷◌, ◌++◌, map}
use Prim.Native.Nat.{ℕ, ◌+◌, ◌-◌, ◌≤◌, ◌<◌}
use native.Mathlib.Omega.{arith}
use native.Mathlib.Decide.{dec_lt}
use lib.Dec.{eqb, ltb}
use lib.IntN.{ℤ, pos, negsuc}
use lib.Signed.{lt_z}
use lib.ListN.{length, get_or, take, drop, length-append, length-drop, length-map, get_or-append}
use lib.Seq.{length-take-le, get_or-take, get_or-append-add}
use borrow.Author.Tests.{lt-ltb, ltb-true, eq-eqb}
use Rattle.file.specs.Lists.{distinct, member, is_empty}
use Rattle.graph.specs.declared.Edges.{Edges}
use Rattle.graph.specs.Dag.{Edge, appended, with_edges}
use Rattle.file.proofs.BoolLaws.{clash_bool}
use Rattle.graph.proofs.ListLaws.{map_at, at-any, distinct-at}
use Rattle.links.specs.Links.{link}
use Rattle.insertion.specs.Insertion.{place_after}
use Rattle.insertion.proofs.SafeEnds.{Old}

-- ---- places

-- "between minus the front count and the back count less 1"
abbrev pub between : ℕ → ℕ → ℤ → Bool
between backs fronts (pos k) = ltb k backs
between backs fronts (negsuc k) = ltb k fronts

-- the same seen from one end (true: the front): how many were inserted there, and how many at the other
abbrev pub lies : Bool → ℕ → ℕ → ℤ → Bool
lies false near far p = between near far p
lies true near far p = between far near p

back_rises : (x y : ℕ) (p : ℤ) → between x y p ≡ true → lt_z p (pos x) ≡ true
back_rises x y (pos k) h = h
back_rises x y (negsuc k) h = refl

front_rises : (x y : ℕ) (p : ℤ) → between x y p ≡ true → lt_z (negsuc y) p ≡ true
front_rises x y (pos k) h = refl
front_rises x y (negsuc k) h = h

not_above : (p : ℤ) → lt_z p p ≡ true → ⊥
not_above (pos k) h = omega (arith, ltb-true k k h)
not_above (negsuc k) h = omega (arith, ltb-true k k h)

module _ (near far : ℕ) where
  -- one insertion more
  pub lies_more : (b : Bool) (p : ℤ) → lies b near far p ≡ true → lies b (near + 1) far p ≡ true
  lies_more true (pos k) h = h
  lies_more true (negsuc k) h = lt-ltb k (near + 1) (omega (arith, ltb-true k near h))
  lies_more false (pos k) h = lt-ltb k (near + 1) (omega (arith, ltb-true k near h))
  lies_more false (negsuc k) h = h

  pub lies-new : (b : Bool) → lies b (near + 1) far (place_after b near) ≡ true
  lies-new true = lt-ltb near (near + 1) (omega arith)
  lies-new false = lt-ltb near (near + 1) (omega arith)

  -- the new place is none of the old
  pub lies_apart : (b : Bool) (p : ℤ) → lies b near far p ≡ true → p ≡ place_after b near → ⊥
  lies_apart true p h e = not_above p (ap (λ (r : ℤ). lt_z r p) e ∙ front_rises far near p h)
  lies_apart false p h e = not_above p (ap (λ (r : ℤ). lt_z p r) e ∙ back_rises near far p h)

  -- the new edge runs from the smaller place to the larger
  pub link_rises : (b : Bool) (place : ℕ → ℤ) (v u : ℕ) → place v ≡ place_after b near → lies b near far (place u) ≡ true
      → lt_z (place (link b v u).from) (place (link b v u).to) ≡ true
  link_rises true place v u e h = ap (λ (r : ℤ). lt_z r (place u)) e ∙ front_rises far near (place u) h
  link_rises false place v u e h = ap (λ (r : ℤ). lt_z (place u) r) e ∙ back_rises near far (place u) h

-- ---- edges

-- an edge that joins qubit operations and runs from a smaller to a larger place
pub record Edged (n : ℕ) (op : ℕ → Bool) (place : ℕ → ℤ) (a b : ℕ) : Type 0 where
  pub from : Old n op a
  pub to : Old n op b
  pub rises : lt_z (place a) (place b) ≡ true

pub record EdgesSafe (n : ℕ) (op : ℕ → Bool) (place : ℕ → ℤ) (es : Edges) : Type 0 where
  pub from_size : length es.from ≡ 2048
  pub to_size : length es.to ≡ 2048
  pub count : es.count ≤ 2048
  pub each : (i : ℕ) → i < es.count → Edged n op place (get_or es.from i 0) (get_or es.to i 0)
  pub apart : (i j : ℕ) → i < j → j < es.count → get_or es.from i 0 ≡ get_or es.from j 0 → get_or es.to i 0 ≡ get_or es.to j 0 → ⊥

edged_as : (n : ℕ) (op : ℕ → Bool) (place : ℕ → ℤ) (a a' b b' : ℕ) → a ≡ a' → b ≡ b' → Edged n op place a' b' → Edged n op place a b
edged_as n op place a a' b b' e f x = rw (e, f) x

-- node u has an edge: out of it (false), into it (true)
abbrev pub Meets : Bool → Edges → ℕ → Type 0
Meets false es u = (i : ℕ) × (i < es.count) × (get_or es.from i 0 ≡ u)
Meets true es u = (i : ℕ) × (i < es.count) × (get_or es.to i 0 ≡ u)

pub meets_below : (n : ℕ) (op : ℕ → Bool) (place : ℕ → ℤ) (es : Edges) → EdgesSafe n op place es → (b : Bool) (u : ℕ) → Meets b es u → u < n
meets_below n op place es E false u r = omega (arith, (E.each r.0 r.1).from.below, r.2)
meets_below n op place es E true u r = omega (arith, (E.each r.0 r.1).to.below, r.2)

-- ---- an array with a list behind its first k entries

module _ (k : ℕ) (new old : List ℕ) (fits : k ≤ length old) where
  head_length : length (take k old ++ new) ≡ k + length new
  head_length = length-append (take k old) new ∙ ap (λ (n : ℕ). n + length new) (length-take-le k old fits)

  pub appended-old : (i : ℕ) → i < k → get_or (appended k new old) i 0 ≡ get_or old i 0
  appended-old i h =
      get_or-append (take k old ++ new) (drop (length (take k old ++ new)) old) 0 i (omega (arith, head_length))
      ∙ get_or-append (take k old) new 0 i (omega (arith, length-take-le k old fits))
      ∙ get_or-take k old i 0 h

  pub appended-new : (j : ℕ) → j < length new → get_or (appended k new old) (k + j) 0 ≡ get_or new j 0
  appended-new j h =
      get_or-append (take k old ++ new) (drop (length (take k old ++ new)) old) 0 (k + j) (omega (arith, head_length))
      ∙ ap (λ (n : ℕ). get_or (take k old ++ new) (n + j) 0) (sym (length-take-le k old fits))
      ∙ get_or-append-add (take k old) new j 0

  appended-length : k + length new ≤ length old → length (appended k new old) ≡ length old
  appended-length h =
      length-append (take k old ++ new) (drop (length (take k old ++ new)) old)
      ∙ ap (λ (n : ℕ). length (take k old ++ new) + n) (length-drop (length (take k old ++ new)) old)
      ∙ (let e = head_length in omega arith)

-- ---- the edges of the new node n, with the others u, behind the old ones

module _ (b : Bool) (n : ℕ) (others : List ℕ) where
  abbrev links : List Edge
  links = map (link b n) others

  links_long : length links ≡ length others
  links_long = length-map others (link b n)

  -- an old edge, or the one with the other number j
  which : (k i : ℕ) → i < k + length links → (i < k) ⊎ ((j : ℕ) × (j < length others) × (i ≡ k + j))
  which k i h = elim (dec_lt i k) [ yes l ↦ inl l | no l ↦ inr (i - k, omega (arith, links_long), omega arith) ]

  module _ (f : Edge → ℕ) (k : ℕ) (old : List ℕ) (fits : k ≤ length old) where
    link-old : (i : ℕ) → i < k → get_or (appended k (map f links) old) i 0 ≡ get_or old i 0
    link-old i h = appended-old k (map f links) old fits i h

    link-new : (i j : ℕ) → i ≡ k + j → j < length others → get_or (appended k (map f links) old) i 0 ≡ f (link b n (get_or others j 0))
    link-new i j e h =
        ap (λ (t : ℕ). get_or (appended k (map f links) old) t 0) e
        ∙ appended-new k (map f links) old fits j (omega (arith, length-map links f, links_long))
        ∙ map_at f links j (link b n 0) 0 (omega (arith, links_long))
        ∙ ap f (map_at (link b n) others j 0 (link b n 0) h)

    link-length : k + length links ≤ length old → length (appended k (map f links) old) ≡ length old
    link-length h = appended-length k (map f links) old fits (omega (arith, length-map links f))

    -- which node an edge's end is
    link_cases : (u : ℕ) → (i : ℕ) × (i < k + length links) × (get_or (appended k (map f links) old) i 0 ≡ u)
        → ((i : ℕ) × (i < k) × (get_or old i 0 ≡ u)) ⊎ ((j : ℕ) × (j < length others) × (f (link b n (get_or others j 0)) ≡ u))
    link_cases u r = ⊎_elim
        (λ (l : r.0 < k). inl (r.0, l, sym (link-old r.0 l) ∙ r.2))
        (λ (s : (j : ℕ) × (j < length others) × (r.0 ≡ k + j)). inr (s.0, s.1, sym (link-new r.0 s.0 s.2 s.1) ∙ r.2))
        (which k r.0 r.1)

other_member : (others : List ℕ) (u j : ℕ) → j < length others → get_or others j 0 ≡ u → member u others ≡ true
other_member others u j h e = at-any (eqb u) others 0 j h (eq-eqb u (get_or others j 0) (sym e))

not-empty : (others : List ℕ) (j : ℕ) → j < length others → is_empty others ≡ false
not-empty [] j h = absurd (omega arith)
not-empty (x ∷ l) j h = refl

module _ (n : ℕ) (others : List ℕ) (es : Edges) (ff : es.count ≤ length es.from) (ft : es.count ≤ length es.to) where
  -- an edge on the side of the insertion: an old one, or with one of the others
  pub near_meets : (b : Bool) (u : ℕ) → Meets b (with_edges es (map (link b n) others)) u → Meets b es u ⊎ (member u others ≡ true)
  near_meets false u r = ⊎_elim
      (λ (s : Meets false es u). inl s)
      (λ (s : (j : ℕ) × (j < length others) × (get_or others j 0 ≡ u)). inr (other_member others u s.0 s.1 s.2))
      (link_cases false n others (λ (e : Edge). e.from) es.count es.from ff u r)
  near_meets true u r = ⊎_elim
      (λ (s : Meets true es u). inl s)
      (λ (s : (j : ℕ) × (j < length others) × (get_or others j 0 ≡ u)). inr (other_member others u s.0 s.1 s.2))
      (link_cases true n others (λ (e : Edge). e.to) es.count es.to ft u r)

  -- on the other side: an old one, or the new node's
  pub far_meets : (b : Bool) (u : ℕ) → Meets (not b) (with_edges es (map (link b n) others)) u → Meets (not b) es u ⊎ ((u ≡ n) × (is_empty others ≡ false))
  far_meets false u r = ⊎_elim
      (λ (s : Meets true es u). inl s)
      (λ (s : (j : ℕ) × (j < length others) × (n ≡ u)). inr (sym s.2, not-empty others s.0 s.1))
      (link_cases false n others (λ (e : Edge). e.to) es.count es.to ft u r)
  far_meets true u r = ⊎_elim
      (λ (s : Meets false es u). inl s)
      (λ (s : (j : ℕ) × (j < length others) × (n ≡ u)). inr (sym s.2, not-empty others s.0 s.1))
      (link_cases true n others (λ (e : Edge). e.from) es.count es.from ff u r)

-- a new edge is none of the old
link_apart : (b : Bool) (n u x y : ℕ) → x < n → y < n → x ≡ (link b n u).from → y ≡ (link b n u).to → ⊥
link_apart false n u x y p q e f = omega arith
link_apart true n u x y p q e f = omega arith

link_same : (b : Bool) (n u w : ℕ) → (link b n u).from ≡ (link b n w).from → (link b n u).to ≡ (link b n w).to → u ≡ w
link_same false n u w e f = e
link_same true n u w e f = f

module _ (b : Bool) (n : ℕ) (op op' : ℕ → Bool) (place place' : ℕ → ℤ) (es : Edges) (others : List ℕ) (E : EdgesSafe n op place es)
    (up : (u : ℕ) → Old n op u → Old (n + 1) op' u) (new : is_empty others ≡ false → Old (n + 1) op' n)
    (stays : (u : ℕ) → u < n → place' u ≡ place u) (rises : (u : ℕ) → u < n → lt_z (place' (link b n u).from) (place' (link b n u).to) ≡ true)
    (old : (w : ℕ) → member w others ≡ true → Old n op w) (once : distinct eqb others ≡ true) (room : es.count + length others ≤ 2048) where
  abbrev es' : Edges
  es' = with_edges es (map (link b n) others)

  ff : es.count ≤ length es.from
  ff = omega (arith, E.count, E.from_size)

  ft : es.count ≤ length es.to
  ft = omega (arith, E.count, E.to_size)

  from_old : (i : ℕ) → i < es.count → get_or es'.from i 0 ≡ get_or es.from i 0
  from_old = link-old b n others (λ (e : Edge). e.from) es.count es.from ff

  to-old : (i : ℕ) → i < es.count → get_or es'.to i 0 ≡ get_or es.to i 0
  to-old = link-old b n others (λ (e : Edge). e.to) es.count es.to ft

  from-new : (i j : ℕ) → i ≡ es.count + j → j < length others → get_or es'.from i 0 ≡ (link b n (get_or others j 0)).from
  from-new = link-new b n others (λ (e : Edge). e.from) es.count es.from ff

  to-new : (i j : ℕ) → i ≡ es.count + j → j < length others → get_or es'.to i 0 ≡ (link b n (get_or others j 0)).to
  to-new = link-new b n others (λ (e : Edge). e.to) es.count es.to ft

  edged_old : (x y : ℕ) → Edged n op place x y → Edged (n + 1) op' place' x y
  edged_old x y e = record {
    from = up x e.from;
    to = up y e.to;
    rises = (λ t. lt_z (stays x e.from.below t) (stays y e.to.below t)) ∙ e.rises;
  }

  edged_new : (u : ℕ) → member u others ≡ true → is_empty others ≡ false → Edged (n + 1) op' place' (link b n u).from (link b n u).to
  edged_new u m h = record {
    from = from_end b;
    to = to_end b;
    rises = rises u (old u m).below;
  }
    where
      from_end : (c : Bool) → Old (n + 1) op' (link c n u).from
      from_end false = up u (old u m)
      from_end true = new h

      to_end : (c : Bool) → Old (n + 1) op' (link c n u).to
      to_end false = new h
      to_end true = up u (old u m)

  -- the number of an other
  abbrev Other : ℕ → Type 0
  Other i = (j : ℕ) × (j < length others) × (i ≡ es.count + j)

  each_edged : (i : ℕ) → i < es'.count → Edged (n + 1) op' place' (get_or es'.from i 0) (get_or es'.to i 0)
  each_edged i h = ⊎_elim
      (λ (l : i < es.count). edged_as (n + 1) op' place' _ _ _ _ (from_old i l) (to-old i l) (edged_old _ _ (E.each i l)))
      (λ (r : Other i). edged_as (n + 1) op' place' _ _ _ _ (from-new i r.0 r.2 r.1) (to-new i r.0 r.2 r.1)
      (edged_new (get_or others r.0 0) (other_member others _ r.0 r.1 refl) (not-empty others r.0 r.1)))
      (which b n others es.count i h)

  each_apart : (i j : ℕ) → i < j → j < es'.count → get_or es'.from i 0 ≡ get_or es'.from j 0 → get_or es'.to i 0 ≡ get_or es'.to j 0 → ⊥
  each_apart i j a h e f = ⊎_elim
      (λ (l : j < es.count).
      let k : i < es.count = omega arith in
      E.apart i j a l (sym (from_old i k) ∙ e ∙ from_old j l) (sym (to-old i k) ∙ f ∙ to-old j l))
      (λ (r : Other j). ⊎_elim
      (λ (l : i < es.count). link_apart b n (get_or others r.0 0) (get_or es.from i 0) (get_or es.to i 0) (E.each i l).from.below (E.each i l).to.below
      (sym (from_old i l) ∙ e ∙ from-new j r.0 r.2 r.1) (sym (to-old i l) ∙ f ∙ to-new j r.0 r.2 r.1))
      (λ (s : Other i).
      let z : get_or others s.0 0 ≡ get_or others r.0 0 = link_same b n (get_or others s.0 0) (get_or others r.0 0)
      (sym (from-new i s.0 s.2 s.1) ∙ e ∙ from-new j r.0 r.2 r.1) (sym (to-new i s.0 s.2 s.1) ∙ f ∙ to-new j r.0 r.2 r.1) in
      clash_bool (eq-eqb (get_or others s.0 0) (get_or others r.0 0) z) (distinct-at eqb others 0 once s.0 r.0 (omega (arith, s.2, r.2)) r.1))
      (which b n others es.count i (omega arith)))
      (which b n others es.count j h)

  pub edges_more : EdgesSafe (n + 1) op' place' es'
  edges_more = record {
    from_size = link-length b n others (λ (e : Edge). e.from) es.count es.from ff (omega (arith, links_long b n others, E.from_size)) ∙ E.from_size;
    to_size = link-length b n others (λ (e : Edge). e.to) es.count es.to ft (omega (arith, links_long b n others, E.to_size)) ∙ E.to_size;
    count = omega (arith, links_long b n others);
    each = each_edged;
    apart = each_apart;
  }
