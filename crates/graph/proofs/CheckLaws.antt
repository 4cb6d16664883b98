-- The invariants of the loops that check a graph, and a law for each step. Assumes nothing.
use mathlib.Core.Path.{◌≡◌, refl, sym, ◌∙◌, ap}
use mathlib.Core.Bool.{Bool, true, false, cond, not, ◌&&◌, ◌||◌}
use mathlib.Core.Logic.{⊎_elim}
use mathlib.Core.List.{List, map}
use Prim.Native.Nat.{ℕ, zero, suc, ◌+◌, ◌-◌, ◌*◌, ◌/◌, ◌%◌, ◌^◌, ◌≤◌, ◌<◌, min, max}
use native.Mathlib.Omega.{arith}
use native.Mathlib.Decide.{dec_lt, ℕ_discrete}
use Rattle.std.proofs.Common.{Option, Some, None}
use lib.Dec.{eqb, ltb}
use lib.IntN.{ℤ, pos, negsuc}
use lib.Signed.{mag, non_neg, lt_z}
use lib.ListN.{length, get_or, set, take, drop, replicate, length-set, length-replicate, get_or-eq_default}
use Rattle.std.specs.List.{IsAllAdjacentAnswer, zip}
use Rattle.std.proofs.lemmas.Slice.Zip.{length-zip, get_or-zip}
use Rattle.std.proofs.lemmas.List.{get_or-drop, get_or-take, length-drop}
use lib.Seq.{get_or-set_same, get_or-set_other}
use mir.Syntax.{w16}
use mir.Val.{to_z, of_z}
use mir.ValLaws.{to_z-of_z}
use borrow.Author.Tests.{ltb-true, lt-ltb, eqb-true, eq-eqb, not-true as not-flip}
use Rattle.file.specs.Lists.{any_of, all_of, distinct, up_to, members}
use Rattle.graph.specs.declared.CircuitDag.{CircuitDag}
use Rattle.graph.specs.declared.Edges.{Edges}
use Rattle.graph.specs.declared.Nodes.{Nodes}
use Rattle.graph.specs.declared.Registers.{Registers}
use Rattle.file.specs.declared.RegisterKey.{RegisterKey}
use Rattle.graph.specs.Checks.{operation_in, within, slot, slot_answer, places_fit, edges_in, edge_fits, operates, low_edge, key_in, is_repeated}
use Rattle.graph.specs.Dag.{Edge, Entry, edge, edge_at, entry_at, same_edge, same_key}
use Rattle.graph.specs.Soundness.{same_place, ascends, keys_distinct}
use Rattle.file.proofs.BoolLaws.{bool_cases, clash_bool, not-true, bool_ext, and_l, and_r, and_intro, or_cases}
use Rattle.file.proofs.BoolLaws.{flip-not, split_lt}
use Rattle.graph.proofs.BitLaws.{mark_at, MarkedBits, bits_more, no_bits}
use Rattle.graph.proofs.ListLaws.{at-any, any_at, at_all, all_at, up_to_all, all_up_to, up_to-distinct, distinct-up_to, all_none, all_grows, distinct_none, distinct_grows, distinct_broken}
use Rattle.graph.proofs.ListLaws.{up_to-any, any-up_to, up_to-at, length-up_to, members_all, all_members}
use Rattle.graph.proofs.SoundnessLaws.{same_told, told_same, ascends_told, told_ascends, all_taken, taken_all}

-- ---- marks: the cells f 0 to f (i - 1) are marked, and no other

pub record Marked (f : ℕ → ℕ) (i : ℕ) (marks : List Bool) : Type 0 where
  pub done : (j : ℕ) → j < i → get_or marks (f j) false ≡ true
  pub only : (s : ℕ) → get_or marks s false ≡ true → (j : ℕ) × (j < i) × (f j ≡ s)

pub unmarked : (n s : ℕ) → get_or (replicate n false) s false ≡ false
unmarked zero s = refl
unmarked (suc n) zero = refl
unmarked (suc n) (suc s) = unmarked n s

pub none_marked : (f : ℕ → ℕ) (n : ℕ) → Marked f 0 (replicate n false)
none_marked f n = record { done = λ j k. absurd (omega arith); only = λ s e. absurd (clash_bool e (unmarked n s)) }

pub mark_more : (f : ℕ → ℕ) (i : ℕ) (marks : List Bool) → f i < length marks → Marked f i marks → Marked f (i + 1) (set marks (f i) true)
mark_more f i marks s m = record {
  done = λ j k. elim (ℕ_discrete (f j) (f i)) [
    | yes e ↦ rw e (get_or-set_same marks (f i) true false s)
    | no e ↦ ⊎_elim
        (λ (q : j ≡ i). absurd (e (ap f q)))
        (λ (q : j < i). get_or-set_other marks (f i) (f j) true false e ∙ m.done j q)
        (split_lt j i k)
  ];
  only = λ s h. elim (ℕ_discrete s (f i)) [
    | yes e ↦ (i, omega arith, sym e)
    | no e ↦ let r = m.only s (sym (get_or-set_other marks (f i) s true false e) ∙ h) in (r.0, omega (arith, r.1), r.2)
  ];
}

-- ---- operations

pub operations_marked : (x : Nodes) (marks : List Bool) → length marks ≡ 512 → length x.form ≡ 512 → ((v : ℕ) → v < 512 → get_or marks v false ≡ operation_in x v)
    → (v : ℕ) → get_or marks v false ≡ operation_in x v
operations_marked x marks long forms each v = elim (dec_lt v 512) [
  | yes l ↦ each v l
  | no m ↦ rw (get_or-eq_default marks false {n = v} (omega arith), get_or-eq_default x.form 0 {n = v} (omega arith)) refl
]

-- ---- places

abbrev pub place_at : CircuitDag → ℕ → ℤ
place_at g v = get_or g.nodes.place v (pos 0)

pub record Places (g : CircuitDag) (taken : List Bool) (v : ℕ) : Type 0 where
  pub fit : g.nodes.count ≤ 512
  pub ends : g.backs + g.fronts ≡ g.nodes.count
  pub long : length taken ≡ 512
  pub inside : (u : ℕ) → u < v → within g.backs g.fronts (place_at g u) ≡ true
  pub marks : Marked (λ u. slot g.backs (place_at g u)) v taken
  pub apart : (u w : ℕ) → u < w → w < v → place_at g u ≡ place_at g w → ⊥

pub places_begin : (g : CircuitDag) → (g.nodes.count ≤ 512) × (g.backs + g.fronts ≡ g.nodes.count) → Places g (replicate 512 false) 0
places_begin g h = record {
  fit = h.0;
  ends = h.1;
  long = length-replicate 512 false;
  inside = λ u k. absurd (omega arith);
  marks = none_marked _ 512;
  apart = λ u w a k. absurd (omega arith);
}

-- a place that was read from memory, through a slice
pub slot_read : (g : CircuitDag) (v : ℕ) (r : Option ℕ) → v < g.nodes.count → mag (get_or (take g.nodes.count g.nodes.place) v (pos 0)) < 32768
    → r ≡ slot_answer g.backs g.fronts (to_z w16 (of_z w16 (get_or (take g.nodes.count g.nodes.place) v (pos 0))))
    → r ≡ slot_answer g.backs g.fronts (place_at g v)
slot_read g v r k h e = e ∙ ap (slot_answer g.backs g.fronts) (to_z-of_z w16 _ (record { sfits = h }) ∙ get_or-take g.nodes.count g.nodes.place v (pos 0) k)

-- what a slot's answer says
pub slot_some : (b : Bool) (x s : ℕ) → cond b (Some x) None ≡ Some s → (b ≡ true) × (s ≡ x)
slot_some true x s e = (refl, cc)
slot_some false x s e = absurd (cc)

pub slot_none : (b : Bool) (x : ℕ) → cond b (Some x) None ≡ None → b ≡ false
slot_none true x e = absurd (cc)
slot_none false x e = refl

pub slot_low : (b f : ℕ) (p : ℤ) → b + f ≤ 512 → within b f p ≡ true → slot b p < 512
slot_low b f (pos a) h e = omega (arith, ltb-true a b e)
slot_low b f (negsuc a) h e = omega (arith, ltb-true a f e)

-- a slot has one place
slot_place : (b f : ℕ) (p q : ℤ) → within b f p ≡ true → within b f q ≡ true → slot b p ≡ slot b q → p ≡ q
slot_place b f (pos x) (pos y) h k e = ap pos e
slot_place b f (pos x) (negsuc y) h k e = absurd (omega (arith, e, ltb-true x b h))
slot_place b f (negsuc x) (pos y) h k e = absurd (omega (arith, e, ltb-true y b k))
slot_place b f (negsuc x) (negsuc y) h k e = let w : x ≡ y = omega (arith, e) in ap negsuc w

module _ {g : CircuitDag} {taken : List Bool} {v : ℕ} (I : Places g taken v) where
  abbrev P : ℕ → ℤ
  P u = get_or g.nodes.place u (pos 0)

  abbrev W : ℤ → Bool
  W p = ltb (mag p) (cond (non_neg p) g.backs g.fronts)

  abbrev places : List ℤ
  places = map P (up_to g.nodes.count)

  pub place_outside : v < g.nodes.count → within g.backs g.fronts (place_at g v) ≡ false → false ≡ places_fit g
  place_outside k e = sym (not-true (λ h.
      clash_bool (all_up_to W P g.nodes.count (and_r (distinct same_place places) (all_of W places) h) v k) e))

  pub place_taken : (s : ℕ) → v < g.nodes.count → (within g.backs g.fronts (place_at g v) ≡ true) × (s ≡ slot g.backs (place_at g v)) → get_or taken s false ≡ true
      → false ≡ places_fit g
  place_taken s k e t = sym (not-true (λ h.
      let r = I.marks.only s t in
      let d = distinct-up_to same_place P g.nodes.count (and_l (distinct same_place places) (all_of W places) h) r.0 v r.1 k in
      clash_bool (told_same (P r.0) (P v) (slot_place g.backs g.fronts (P r.0) (P v) (I.inside r.0 r.1) e.0 (r.2 ∙ e.1))) d))

  pub place_more : (s : ℕ) → v < g.nodes.count → (within g.backs g.fronts (place_at g v) ≡ true) × (s ≡ slot g.backs (place_at g v)) → get_or taken s false ≡ false
      → Places g (set taken s true) (v + 1)
  place_more s k e t = record {
    fit = I.fit;
    ends = I.ends;
    long = length-set taken s true ∙ I.long;
    inside = λ u m. ⊎_elim (λ (q : u ≡ v). rw q e.0) (λ (q : u < v). I.inside u q) (split_lt u v m);
    marks = rw e.1 (mark_more (λ u. slot g.backs (place_at g u)) v taken
        (omega (arith, slot_low g.backs g.fronts (place_at g v) (omega (arith, I.fit, I.ends)) e.0, I.long)) I.marks);
    apart = λ u w a m f. ⊎_elim
        (λ (q : w ≡ v). clash_bool (I.marks.done u (omega arith)) (ap (λ (x : ℕ). get_or taken x false) (ap (slot g.backs) (f ∙ ap P q) ∙ sym e.1) ∙ t))
        (λ (q : w < v). I.apart u w a q f)
        (split_lt w v m);
  }

  pub places_done : g.nodes.count ≤ v → true ≡ places_fit g
  places_done k = sym (and_intro (distinct same_place places) (all_of W places)
      (up_to-distinct same_place P g.nodes.count (λ u w a m. not-true (λ e. I.apart u w a (omega arith) (same_told (P u) (P w) e))))
      (up_to_all W P g.nodes.count (λ u m. I.inside u (omega arith))))

-- ---- blocks and their members

pub mark_low : (l : List Bool) (u : ℕ) → get_or l u false ≡ true → u < length l
mark_low l u h = elim (dec_lt u (length l)) [ yes k ↦ k | no k ↦ absurd (clash_bool h (get_or-eq_default l false {n = u} (omega arith))) ]

-- the marks from n on are clear exactly where each member is below n
pub marks_below : (block : List Bool) (n : ℕ) → length block ≡ 512
    → not (any_of (λ (b : Bool). b) (drop (min n 512) block)) ≡ all_of (λ (v : ℕ). ltb v n) (members block)
marks_below block n long =
    let m : ℕ = min n 512 in
    let some : Bool = any_of (λ (b : Bool). b) (drop (min n 512) block) in
    bool_ext (not some) (all_of (λ (v : ℕ). ltb v n) (members block))
    (λ q. members_all (λ (v : ℕ). ltb v n) block (λ u e. elim (dec_lt u n) [
      | yes l ↦ lt-ltb u n l
      | no l ↦
          let k : m + (u - m) ≡ u = omega arith in
          let here : get_or (drop m block) (u - m) false ≡ true = get_or-drop m block (u - m) false ∙ ap (λ (v : ℕ). get_or block v false) k ∙ e in
          absurd (clash_bool (at-any (λ (b : Bool). b) (drop m block) false (u - m) (mark_low (drop m block) (u - m) here) here) (not-flip some q))
    ]))
    (λ h. flip-not some (not-true (λ q.
    let r = any_at (λ (b : Bool). b) (drop m block) false q in
    let here : get_or block (m + r.0) false ≡ true = sym (get_or-drop m block r.0 false) ∙ r.2 in
    let low = all_members (λ (v : ℕ). ltb v n) block h (m + r.0) here in
    absurd (omega (arith, ltb-true (m + r.0) n low, length-drop m block, r.1)))))

-- each mark has p, exactly where each member has
pub marks_have : (block marks : List Bool) (p : ℕ → Bool) → length block ≡ 512 → length marks ≡ 512 → ((v : ℕ) → get_or marks v false ≡ p v)
    → all_of (λ w. not w.0 || w.1) (zip block marks) ≡ all_of p (members block)
marks_have block marks p long far known =
    let q : Bool × Bool → Bool = λ w. not w.0 || w.1 in
    let pair : (v : ℕ) → v < 512 → get_or (zip block marks) v (false, false) ≡ (get_or block v false, get_or marks v false) =
    λ v k. get_or-zip block marks v (false, false) (omega arith) (omega arith) in
    let many : length (zip block marks) ≡ 512 = omega (arith, length-zip block marks) in
    bool_ext (all_of q (zip block marks)) (all_of p (members block))
    (λ h. members_all p block (λ u e.
    let k : u < 512 = omega (arith, mark_low block u e, long) in
    let told : q (get_or block u false, get_or marks u false) ≡ true = ap q (sym (pair u k)) ∙ all_at q (zip block marks) (false, false) h u (omega arith) in
    ⊎_elim
    (λ (x : not (get_or block u false) ≡ true). absurd (clash_bool e (not-flip (get_or block u false) x)))
    (λ (x : get_or marks u false ≡ true). sym (known u) ∙ x)
    (or_cases (not (get_or block u false)) (get_or marks u false) told)))
    (λ h. at_all q (zip block marks) (false, false) (λ v k. ap q (pair v (omega arith)) ∙ ⊎_elim
    (λ (e : get_or block v false ≡ true). rw (e, known v) (all_members p block h v e))
    (λ (e : get_or block v false ≡ false). rw e refl)
    (bool_cases (get_or block v false))))

-- ---- edges in any order: each has marked its bit

abbrev pub from_at : Edges → ℕ → ℕ
from_at es i = get_or es.from i 0

abbrev pub to_at : Edges → ℕ → ℕ
to_at es i = get_or es.to i 0

abbrev pub cell_at : Edges → ℕ → ℕ
cell_at es i = from_at es i * 512 + to_at es i

-- edges that fit run between nodes below 512
edge_low : (x : Nodes) (block : List Bool) (f t : ℕ) → x.count ≤ 512 → edge_fits x block (edge f t) ≡ true → (f < 512) × (t < 512)
edge_low x block f t few h =
    let a : Bool = operates x f in
    let b : Bool = operates x t in
    let r : Bool = lt_z (get_or x.place f (pos 0)) (get_or x.place t (pos 0)) in
    let both : (a && b) ≡ true = and_l (a && b) r (and_l (a && b && r) (not (get_or block t false)) h) in
    let p : f < x.count = ltb-true _ _ (and_l (ltb f x.count) (operation_in x f) (and_l a b both)) in
    let q : t < x.count = ltb-true _ _ (and_l (ltb t x.count) (operation_in x t) (and_r a b both)) in
    (omega arith, omega arith)

same_ends : (es : Edges) (i j : ℕ) → same_edge (edge_at es i) (edge_at es j) ≡ true → (from_at es i ≡ from_at es j) × (to_at es i ≡ to_at es j)
same_ends es i j e = (
  eqb-true _ _ (and_l (eqb (from_at es i) (from_at es j)) (eqb (to_at es i) (to_at es j)) e),
  eqb-true _ _ (and_r (eqb (from_at es i) (from_at es j)) (eqb (to_at es i) (to_at es j)) e),
)

pub record Seen (x : Nodes) (block : List Bool) (es : Edges) (seen : List ℕ) (i : ℕ) : Type 0 where
  pub long : length seen ≡ 4096
  pub marks : MarkedBits (cell_at es) i seen
  pub fit : all_of (edge_fits x block) (map (edge_at es) (up_to i)) ≡ true
  pub apart : distinct same_edge (map (edge_at es) (up_to i)) ≡ true

pub seen_begin : (x : Nodes) (block : List Bool) (es : Edges) → Seen x block es (replicate 4096 0) 0
seen_begin x block es = record {
  long = length-replicate {A = ℕ} 4096 0;
  marks = no_bits (cell_at es) 4096;
  fit = all_none (edge_fits x block) (edge_at es);
  apart = distinct_none same_edge (edge_at es);
}

-- an edge that does not fit
pub seen_unfit : (x : Nodes) (block : List Bool) (es : Edges) (i : ℕ) → i < es.count → edge_fits x block (edge_at es i) ≡ false
    → false ≡ (all_of (edge_fits x block) (edges_in es) && distinct same_edge (edges_in es))
seen_unfit x block es i k e =
    let fits = edge_fits x block in
    rw (not-true (λ (h : all_of fits (edges_in es) ≡ true). clash_bool (all_up_to fits (edge_at es) es.count h i k) e)) refl

module _ {x : Nodes} {block : List Bool} {es : Edges} {seen : List ℕ} {i : ℕ} (few : x.count ≤ 512) (I : Seen x block es seen i)
    (fits : edge_fits x block (edge_at es i) ≡ true) where
  low_before : (j : ℕ) → j < i → low_edge es j
  low_before j k = edge_low x block (from_at es j) (to_at es j) few (all_up_to (edge_fits x block) (edge_at es) i I.fit j k)

  pub low_here : low_edge es i
  low_here = edge_low x block (from_at es i) (to_at es i) few fits

  pub seen_twice : i < es.count → mark_at seen (cell_at es i) ≡ true
      → false ≡ (all_of (edge_fits x block) (edges_in es) && distinct same_edge (edges_in es))
  seen_twice k s =
      let r = I.marks.only (cell_at es i) s in
      let a = low_before r.0 r.1 in
      let b = low_here in
      let y : from_at es r.0 ≡ from_at es i = omega (arith, r.2, a.1, b.1) in
      let z : to_at es r.0 ≡ to_at es i = omega (arith, r.2, a.1, b.1) in
      let same : same_edge (edge_at es r.0) (edge_at es i) ≡ true
      = and_intro (eqb (from_at es r.0) (from_at es i)) (eqb (to_at es r.0) (to_at es i)) (eq-eqb _ _ y) (eq-eqb _ _ z) in
      let broken : distinct same_edge (edges_in es) ≡ false
      = distinct_broken same_edge (edge_at es) es.count i k (up_to-any (λ (e : Edge). same_edge e (edge_at es i)) (edge_at es) i r.0 r.1 same) in
      rw broken (go (all_of (edge_fits x block) (edges_in es)))
    where
      go : (q : Bool) → false ≡ (q && false)
      go true = refl
      go false = refl

  pub seen_more : mark_at seen (cell_at es i) ≡ false
      → Seen x block es (set seen (cell_at es i / 64) (get_or seen (cell_at es i / 64) 0 + 2 ^ (cell_at es i % 64))) (i + 1)
  seen_more s =
      let b = low_here in
      record {
        long = length-set seen (cell_at es i / 64) _ ∙ I.long;
        marks = bits_more (cell_at es) i seen (omega (arith, b.0, b.1, I.long)) s I.marks;
        fit = all_grows (edge_fits x block) (edge_at es) i
            ∙ and_intro (all_of (edge_fits x block) (map (edge_at es) (up_to i))) (edge_fits x block (edge_at es i)) I.fit fits;
        apart = distinct_grows same_edge (edge_at es) i I.apart (not-true (λ e.
            let r = any-up_to (λ (e : Edge). same_edge e (edge_at es i)) (edge_at es) i e in
            let q = same_ends es r.0 i r.2 in
            let c : cell_at es r.0 ≡ cell_at es i = rw (q.0, q.1) refl in
            clash_bool (I.marks.done r.0 r.1) (ap (mark_at seen) c ∙ s)));
      }

-- ---- edges that rise in their newer node, cell by cell: each cell keeps its last newer node, plus 1

abbrev pub newer_at : Edges → ℕ → ℕ
newer_at es i = max (from_at es i) (to_at es i)

abbrev pub older_at : Edges → ℕ → ℕ
older_at es i = cond (ltb (to_at es i) (from_at es i)) (2 * to_at es i + 1) (2 * from_at es i)

older_low : (f t : ℕ) → f < 512 → t < 512 → cond (ltb t f) (2 * t + 1) (2 * f) < 1024
older_low f t a b = ⊎_elim
    (λ (e : ltb t f ≡ true). rw e (omega arith))
    (λ (e : ltb t f ≡ false). rw e (omega arith))
    (bool_cases (ltb t f))

pub record Stamped (x : Nodes) (block : List Bool) (es : Edges) (stamps : List ℕ) (i : ℕ) : Type 0 where
  pub long : length stamps ≡ 1024
  pub stamped : (j : ℕ) → j < i → newer_at es j < get_or stamps (older_at es j) 0
  pub fit : all_of (edge_fits x block) (map (edge_at es) (up_to i)) ≡ true
  pub apart : distinct same_edge (map (edge_at es) (up_to i)) ≡ true

module _ (x : Nodes) (block : List Bool) (es : Edges) where
  pub stamps_begin : Stamped x block es (replicate 1024 0) 0
  stamps_begin = record {
    long = length-replicate {A = ℕ} 1024 0;
    stamped = λ j k. absurd (omega arith);
    fit = all_none (edge_fits x block) (edge_at es);
    apart = distinct_none same_edge (edge_at es);
  }

-- the cell of an edge that fits
pub cell_low : (x : Nodes) (block : List Bool) (f t c : ℕ) → x.count ≤ 512 → edge_fits x block (edge f t) ≡ true → c ≡ cond (ltb t f) (2 * t + 1) (2 * f) → c < 1024
cell_low x block f t c few h e = let l = edge_low x block f t few h in omega (arith, e, older_low f t l.0 l.1)

-- w is the newer node of the edge in turn, and its cell c has a smaller stamp
pub stamps_more : {x : Nodes} {block : List Bool} {es : Edges} {stamps : List ℕ} {i : ℕ} → Stamped x block es stamps i → (w c : ℕ)
    → edge_fits x block (edge_at es i) ≡ true → w ≡ newer_at es i → c ≡ older_at es i → c < 1024
    → get_or stamps c 0 < w + 1 → Stamped x block es (set stamps c (w + 1)) (i + 1)
stamps_more {x} {block} {es} {stamps} {i} I w c fits hw hc low new =
    let same = get_or-set_same stamps c (w + 1) 0 (omega (arith, low, I.long)) in
    record {
      long = length-set stamps c (w + 1) ∙ I.long;
      fit = all_grows (edge_fits x block) (edge_at es) i ∙ and_intro (all_of (edge_fits x block) (map (edge_at es) (up_to i))) (edge_fits x block (edge_at es i)) I.fit fits;
      stamped = λ j m. ⊎_elim
          (λ (y : j ≡ i).
          let u : older_at es j ≡ c = rw y (sym hc) in
          let v : newer_at es j ≡ w = rw y (sym hw) in
          omega (arith, ap (λ (y : ℕ). get_or (set stamps c (w + 1)) y 0) u ∙ same, v))
          (λ (y : j < i). elim (ℕ_discrete (older_at es j) c) [
            | yes u ↦
                let z : newer_at es j < get_or stamps c 0 = rw u at (I.stamped j y) in
                omega (arith, ap (λ (y : ℕ). get_or (set stamps c (w + 1)) y 0) u ∙ same, z, new)
            | no u ↦ omega (arith, get_or-set_other stamps c (older_at es j) (w + 1) 0 u, I.stamped j y)
          ])
          (split_lt j i m);
      apart = distinct_grows same_edge (edge_at es) i I.apart (not-true (λ e.
          let r = any-up_to (λ (e : Edge). same_edge e (edge_at es i)) (edge_at es) i e in
          let q = same_ends es r.0 i r.2 in
          let x : older_at es r.0 ≡ c = rw (q.0, q.1) (sym hc) in
          let y : newer_at es r.0 ≡ w = rw (q.0, q.1) (sym hw) in
          let z : newer_at es r.0 < get_or stamps c 0 = rw x at (I.stamped r.0 r.1) in
          omega (arith, y, z, new)));
    }

-- ---- the commuting list

-- where each entry is below the next, the list ascends
pub adjacent_rise : (l : List ℕ) → ((i d : ℕ) → i + 1 < length l → ltb (get_or l i d) (get_or l (i + 1) d) ≡ true) → ascends l ≡ true
adjacent_rise l h = told_ascends l (λ i j a k. rises i (j - suc i) j (omega arith) k)
  where
    rises : (i d j : ℕ) → j ≡ suc i + d → j < length l → get_or l i 0 < get_or l j 0
    rises i zero j e k = let z : j ≡ i + 1 = omega arith in rw z (ltb-true _ _ (h i 0 (omega arith)))
    rises i (suc d) j e k =
        let z : j ≡ (suc i + d) + 1 = omega arith in
        let a : get_or l i 0 < get_or l (suc i + d) 0 = rises i d (suc i + d) refl (omega arith) in
        let b : get_or l (suc i + d) 0 < get_or l ((suc i + d) + 1) 0 = ltb-true _ _ (h (suc i + d) 0 (omega arith)) in
        rw z (omega (arith, a, b))

pub adjacent_ascend : (l : List ℕ) (r : Bool) → IsAllAdjacentAnswer (λ x y b. b ≡ ltb x y) l r → r ≡ ascends l
adjacent_ascend l true h = sym (adjacent_rise l (λ i d k. sym (h i d k)))
adjacent_ascend l false h = sym (not-true (λ q.
    let a = ascends_told l q h.0 (h.0 + 1) (omega arith) h.1 in
    clash_bool (lt-ltb _ _ a) (sym (h.2 0))))

-- ---- the nodes of a register map

pub entries_below : (r : Registers) (n : ℕ) → r.count ≤ length r.node
    → all_of (λ (v : ℕ). ltb v n) (take r.count r.node) ≡ all_of (λ (x : Entry). ltb x.node n) (map (entry_at r) (up_to r.count))
entries_below r n long = bool_ext (all_of (λ (v : ℕ). ltb v n) (take r.count r.node)) (all_of (λ (x : Entry). ltb x.node n) (map (entry_at r) (up_to r.count)))
    (λ h. up_to_all (λ (x : Entry). ltb x.node n) (entry_at r) r.count (all_taken r.count r.node (λ (v : ℕ). ltb v n) long h))
    (λ h. taken_all r.count r.node (λ (v : ℕ). ltb v n) (all_up_to (λ (x : Entry). ltb x.node n) (entry_at r) r.count h))

-- ---- register keys

abbrev pub same_entry : (r : Registers) → ℕ → Entry → Bool
same_entry r i x = same_key x (entry_at r i)

key_parts : (r : Registers) (i j : ℕ) → same_key (entry_at r i) (entry_at r j) ≡ true
    → (get_or r.name i 0 ≡ get_or r.name j 0) × (get_or r.index i 0 ≡ get_or r.index j 0)
key_parts r i j e = (
  eqb-true _ _ (and_l (eqb (get_or r.name i 0) (get_or r.name j 0)) (eqb (get_or r.index i 0) (get_or r.index j 0)) e),
  eqb-true _ _ (and_r (eqb (get_or r.name i 0) (get_or r.name j 0)) (eqb (get_or r.index i 0) (get_or r.index j 0)) e),
)

-- keys told apart by their cells

abbrev pub key_cell : Registers → ℕ → ℕ
key_cell r j = (get_or r.name j 0 * 256 + get_or r.index j 0) % 2048

pub record KeysApart (r : Registers) (cells : List Bool) (i : ℕ) : Type 0 where
  pub long : length cells ≡ 2048
  pub marks : Marked (key_cell r) i cells
  pub apart : distinct same_key (map (entry_at r) (up_to i)) ≡ true

pub keys_begin : (r : Registers) → KeysApart r (replicate 2048 false) 0
keys_begin r = record { long = length-replicate 2048 false; marks = none_marked (key_cell r) 2048; apart = distinct_none same_key (entry_at r) }

module _ {r : Registers} {cells : List Bool} {i : ℕ} (I : KeysApart r cells i) where
  pub key_taken : i < r.count → is_repeated r i ≡ true → false ≡ keys_distinct r
  key_taken k e = sym (distinct_broken same_key (entry_at r) r.count i k e)

  -- where the cell is free, or the key does not stand before
  pub key_new : (c : ℕ) → c ≡ key_cell r i → (get_or cells c false && is_repeated r i) ≡ false → KeysApart r (set cells c true) (i + 1)
  key_new c e s = record {
    long = length-set cells c true ∙ I.long;
    marks = rw e (mark_more (key_cell r) i cells (omega (arith, I.long)) I.marks);
    apart = distinct_grows same_key (entry_at r) i I.apart (not-true (λ t.
        let w = any-up_to (same_entry r i) (entry_at r) i t in
        let q = key_parts r w.0 i w.2 in
        let z : key_cell r w.0 ≡ c = rw (q.0, q.1) (sym e) in
        let d : get_or cells c false ≡ true = sym (ap (λ (y : ℕ). get_or cells y false) z) ∙ I.marks.done w.0 w.1 in
        clash_bool (and_intro (get_or cells c false) (is_repeated r i) d t) s));
  }

-- keys that ascend, by name, then index, are distinct

abbrev pub key_before : RegisterKey → RegisterKey → Bool
key_before a b = ltb a.name b.name || (eqb a.name b.name && ltb a.index b.index)

record Before (a b : RegisterKey) : Type 0 where
  names : a.name ≤ b.name
  indices : a.name ≡ b.name → a.index < b.index

before_told : (a b : RegisterKey) → key_before a b ≡ true → Before a b
before_told a b h = ⊎_elim
    (λ (t : ltb a.name b.name ≡ true). let l = ltb-true a.name b.name t in record { names = omega arith; indices = λ e. absurd (omega arith) })
    (λ (t : (eqb a.name b.name && ltb a.index b.index) ≡ true).
    let e = eqb-true a.name b.name (and_l (eqb a.name b.name) (ltb a.index b.index) t) in
    let l = ltb-true a.index b.index (and_r (eqb a.name b.name) (ltb a.index b.index) t) in
    record { names = omega arith; indices = λ _. l })
    (or_cases (ltb a.name b.name) (eqb a.name b.name && ltb a.index b.index) h)

before_both : (a b c : RegisterKey) → Before a b → Before b c → Before a c
before_both a b c x y = record {
  names = omega (arith, x.names, y.names);
  indices = λ e. let p : a.name ≡ b.name = omega (arith, x.names, y.names) in let q : b.name ≡ c.name = omega (arith, x.names, y.names) in omega (arith, x.indices p, y.indices q);
}

abbrev keys_of : Registers → List RegisterKey
keys_of r = map (key_in r) (up_to r.count)

pub keys_rise : (r : Registers) → ((i : ℕ) (d : RegisterKey) → i + 1 < length (keys_of r) → key_before (get_or (keys_of r) i d) (get_or (keys_of r) (i + 1) d) ≡ true)
    → keys_distinct r ≡ true
keys_rise r h = up_to-distinct same_key (entry_at r) r.count (λ i j a k. not-true (λ e.
    let p = key_parts r i j e in
    let b = rises i (j - suc i) j (omega arith) k in
    absurd (omega (arith, b.indices p.0, p.1))))
  where
    next : (i : ℕ) → i + 1 < r.count → Before (key_in r i) (key_in r (i + 1))
    next i k =
        let d = key_in r 0 in
        let x = up_to-at (key_in r) r.count i d (omega arith) in
        let y = up_to-at (key_in r) r.count (i + 1) d k in
        before_told (key_in r i) (key_in r (i + 1)) (rw (x, y) at (h i d (omega (arith, length-up_to (key_in r) r.count))))

    rises : (i d j : ℕ) → j ≡ suc i + d → j < r.count → Before (key_in r i) (key_in r j)
    rises i zero j e k = let z : j ≡ i + 1 = omega arith in rw z (next i (omega arith))
    rises i (suc d) j e k =
        let z : j ≡ (suc i + d) + 1 = omega arith in
        let m = suc i + d in
        rw z (before_both (key_in r i) (key_in r m) (key_in r (m + 1)) (rises i d m refl (omega arith)) (next m (omega arith)))
