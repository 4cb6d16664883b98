-- Sets of nodes as marks: the loops that make them and spread them along the edges. Assumes nothing.
use mathlib.Core.Path.{◌≡◌, refl, sym, ◌∙◌, ap}
use mathlib.Core.Bool.{Bool, true, false, cond, not, ◌&&◌, ◌||◌, or-false}
use mathlib.Core.Logic.{◌⊎◌, inl, inr, ⊎_elim}
use mathlib.Core.List.{List, [], ◌∷◌}
use Prim.Native.Nat.{ℕ, zero, suc, ◌+◌, ◌-◌, ◌≤◌, ◌<◌, min}
use native.Mathlib.Omega.{arith}
use native.Mathlib.Numerals.{add-one}
use native.Mathlib.Decide.{dec_lt, ℕ_discrete}
use lib.Dec.{ltb, leb, eqb}
use lib.ListN.{length, get_or, take, drop, set, replicate, length-set, length-drop}
use Rattle.std.specs.List.{zip}
use Rattle.std.specs.List.Sorted.{IsNonDecreasing}
use Rattle.std.proofs.lemmas.Slice.Zip.{length-zip, get_or-zip}
use Rattle.std.proofs.lemmas.List.Sorted.{IsNonDecreasingBy-from_default, IsNonDecreasingBy-from_all_adjacent}
use lib.Seq.{get_or-take, get_or-drop, take-suc, take-length, get_or-set_same, get_or-set_other}
use borrow.Author.Tests.{ltb-true, leb-true, le-leb, eqb-true, eq-eqb, ne_eqb, not-true as not-flip}
use Rattle.file.specs.Lists.{any_of, all_of, member}
use Rattle.graph.proofs.CheckLaws.{unmarked as replicate-false}
use Rattle.queries.specs.Reach.{Reaching}
use Rattle.queries.specs.Marks.{no_node, unmarked, Listed, EndsBelow, Ordered, LeadsAbove, Neighbours, Passes, Spread, Carried, in_turn, Swept, Closed}
use Rattle.file.proofs.BoolLaws.{bool_cases, clash_bool, and_l, and_r, and_intro, or_cases, or_l, or_r, or_inl, or_inr, flip-not, eqb_same, split_lt}
use Rattle.graph.proofs.ListLaws.{any_here, any-later, any_append, all_at}

-- ---- one mark more

-- entry a is marked
pub mark_set : (r : List Bool) (a u : ℕ) → a < length r → get_or (set r a true) u false ≡ (get_or r u false || eqb u a)
mark_set r a u h = elim (ℕ_discrete u a) [
  | yes e ↦ rw (e, eqb_same a) (get_or-set_same r a true false h ∙ sym (or_inr (get_or r a false) true refl))
  | no m ↦ rw (ne_eqb u a m) (get_or-set_other r a u true false m ∙ sym (or-false (get_or r u false)))
]

pub none_marked : (u : ℕ) → get_or no_node u false ≡ false
unfolding no_node
none_marked u = replicate-false 512 u

pub none_long : length no_node ≡ 512
unfolding no_node
none_long = refl

-- the node v alone
pub only_marked : (v u : ℕ) → v < 512 → get_or (set no_node v true) u false ≡ eqb u v
only_marked v u h = mark_set no_node v u (omega (arith, none_long)) ∙ ap (λ (b : Bool). b || eqb u v) (none_marked u)

-- entry a takes x besides what it has
pub mark-or : (r : List Bool) (a u : ℕ) (x : Bool) → a < length r → get_or (set r a (get_or r a false || x)) u false ≡ (get_or r u false || (eqb u a && x))
mark-or r a u x h = elim (ℕ_discrete u a) [
  | yes e ↦ rw (e, eqb_same a) (get_or-set_same r a (get_or r a false || x) false h)
  | no m ↦ rw (ne_eqb u a m) (get_or-set_other r a u (get_or r a false || x) false m ∙ sym (or-false (get_or r u false)))
]

-- ---- the nodes of a list

one_member : (u x : ℕ) → member u (x ∷ []) ≡ eqb u x
unfolding any_of
one_member u x = ⊎_elim
    (λ (t : eqb u x ≡ true). any_here (eqb u) x [] t ∙ sym t)
    (λ (t : eqb u x ≡ false). any-later (eqb u) x [] t ∙ sym t)
    (bool_cases (eqb u x))

pub member_cons : (u x : ℕ) (l : List ℕ) → member u (x ∷ l) ≡ (member u l || eqb u x)
member_cons u x l = ⊎_elim
    (λ (t : eqb u x ≡ true). any_here (eqb u) x l t ∙ sym (or_inr (member u l) (eqb u x) t))
    (λ (t : eqb u x ≡ false). any-later (eqb u) x l t ∙ rw t (sym (or-false (member u l))))
    (bool_cases (eqb u x))

member-take : (l : List ℕ) (i u : ℕ) → i < length l → member u (take (i + 1) l) ≡ (member u (take i l) || eqb u (get_or l i 0))
member-take l i u h = rw (add-one i, take-suc l i 0 h, any_append (eqb u) (take i l) (get_or l i 0 ∷ []), one_member u (get_or l i 0)) refl

-- up to index i
pub record Listing (list : List ℕ) (r : List Bool) (i : ℕ) : Type 0 where
  pub low : i ≤ length list
  pub long : length r ≡ 512
  pub each : (u : ℕ) → u < 512 → get_or r u false ≡ member u (take i list)

module _ (list : List ℕ) where
  pub lists-none : Listing list (replicate 512 false) 0
  unfolding any_of
  lists-none = record { low = omega arith; long = refl; each = λ u l. replicate-false 512 u }

  module _ (r : List Bool) (i : ℕ) (I : Listing list r i) (k : i < length list) (a : ℕ) (e : a ≡ get_or list i 0) where
    pub lists_one : (r' : List Bool) → a < 512 → r' ≡ set r a true → Listing list r' (i + 1)
    lists_one r' b s = rw s (record {
      low = omega arith;
      long = length-set r a true ∙ I.long;
      each = λ u l. mark_set r a u (omega (arith, I.long)) ∙ sym (member-take list i u k ∙ (λ t. sym (I.each u l) t || eqb u (sym e t)));
    })

    pub lists_other : (r' : List Bool) → 512 ≤ a → r' ≡ r → Listing list r' (i + 1)
    lists_other r' b s = rw s (record {
      low = omega arith;
      long = I.long;
      each = λ u l.
          let n : eqb u (get_or list i 0) ≡ false = ne_eqb u (get_or list i 0) (omega (arith, e)) in
          I.each u l ∙ sym (member-take list i u k ∙ rw n (or-false (member u (take i list))));
    })

  pub lists_all : (r : List Bool) (i : ℕ) → Listing list r i → length list ≤ i → Listed list r
  lists_all r i I k =
      let z : i ≡ length list = omega (arith, I.low) in
      record { long = I.long; each = λ u l. I.each u l ∙ ap (λ (x : List ℕ). member u x) (ap (λ (j : ℕ). take j list) z ∙ take-length list) }

  -- and one node more
  pub lists_with : (r : List Bool) (x : ℕ) → Listed list r → x < 512 → Listed (x ∷ list) (set r x true)
  lists_with r x L k = record { long = length-set r x true ∙ L.long; each = λ u l. mark_set r x u (omega (arith, L.long)) ∙ ap (λ (b : Bool). b || eqb u x) (L.each u l) ∙ sym (member_cons u x list) }

-- ---- the targets of chosen nodes

module _ (from to : List ℕ) (m : ℕ) (chosen : List Bool) where
  pub record Marking (found : List Bool) (i : ℕ) : Type 0 where
    pub ends : EndsBelow to from m
    pub low : i ≤ m
    pub so_far : Reaching from to i chosen found

  pub marking_begin : EndsBelow to from m → Marking (replicate 512 false) 0
  marking_begin E = record {
    ends = E;
    low = omega arith;
    so_far = record { long = refl; hit = λ j l. absurd (omega arith); only = λ v t. absurd (clash_bool t (replicate-false 512 v)) };
  }

  pub marking_more : {found : List Bool} {i : ℕ} → Marking found i → i < m → {f t : ℕ} → f ≡ get_or from i 0 → t ≡ get_or to i 0
      → Marking (set found t (get_or found t false || get_or chosen f false)) (i + 1)
  marking_more {found = found} {i = i} M k {f = f} {t = t} ef et =
      let l : t < length found = omega (arith, M.ends.near_below i k, M.so_far.long, et) in
      let stored = λ (v : ℕ). mark-or found t v (get_or chosen f false) l in
      record {
        ends = M.ends;
        low = omega arith;
        so_far = record {
          long = length-set found t _ ∙ M.so_far.long;
          hit = λ j h c. let v = get_or to j 0 in stored v ∙ ⊎_elim
              (λ (x : j ≡ i). or_inr (get_or found v false) _ (and_intro (eqb v t) (get_or chosen f false)
              (eq-eqb v t (ap (λ (y : ℕ). get_or to y 0) x ∙ sym et))
              (ap (λ (y : ℕ). get_or chosen y false) (ef ∙ ap (λ (y : ℕ). get_or from y 0) (sym x)) ∙ c)))
              (λ (x : j < i). or_inl (get_or found v false) _ (M.so_far.hit j x c))
              (split_lt j i h);
          only = λ v c. ⊎_elim
              (λ (o : get_or found v false ≡ true). let q = M.so_far.only v o in (q.0, omega (arith, q.1), q.2, q.3))
              (λ (o : (eqb v t && get_or chosen f false) ≡ true). (
                i,
                omega arith,
                sym (eqb-true v t (and_l (eqb v t) (get_or chosen f false) o) ∙ et),
                sym (ap (λ (y : ℕ). get_or chosen y false) ef) ∙ and_r (eqb v t) (get_or chosen f false) o,
              ))
              (or_cases (get_or found v false) (eqb v t && get_or chosen f false) (sym (stored v) ∙ c));
        };
      }

  pub marking_done : {found : List Bool} {i : ℕ} → Marking found i → m ≤ i → Reaching from to m chosen found
  marking_done {i = i} M le = let z : i ≡ m = omega (arith, M.low) in rw z at M.so_far

-- where those that are not skipped are chosen
pub reached_neighbours : (skip chosen : List Bool) (near far : List ℕ) (m : ℕ) (r : List Bool) → EndsBelow near far m
    → ((v : ℕ) → v < 512 → get_or chosen v false ≡ not (get_or skip v false)) → Reaching far near m chosen r → Neighbours skip near far m r
reached_neighbours skip chosen near far m r E each R = record {
  long = R.long;
  hit = λ i l s. R.hit i l (each (get_or far i 0) (E.far_below i l) ∙ flip-not _ s);
  only = λ u t. let q = R.only u t in (q.0, q.1, q.2, not-flip _ (sym (each (get_or far q.0 0) (E.far_below q.0 q.1)) ∙ q.3));
}

-- ---- one pass over the edges

-- what a pass marks is no longer counted
unmarked-or : (r : List Bool) (a : ℕ) (x : Bool) → a < length r → unmarked (set r a (get_or r a false || x)) + cond (x && not (get_or r a false)) 1 0 ≡ unmarked r
unfolding unmarked
unmarked-or [] a x h = absurd (omega arith)
unmarked-or (true ∷ r) zero true h = omega arith
unmarked-or (true ∷ r) zero false h = omega arith
unmarked-or (false ∷ r) zero true h = omega arith
unmarked-or (false ∷ r) zero false h = omega arith
unmarked-or (true ∷ r) (suc a) x h = unmarked-or r a x (omega arith)
unmarked-or (false ∷ r) (suc a) x h = omega (arith, unmarked-or r a x (omega arith))

cond-or : (a b : Bool) → cond (a || b) 1 0 ≤ cond a 1 0 + cond b 1 0
cond-or true b = omega arith
cond-or false true = omega arith
cond-or false false = omega arith

-- from i - 1 up: i - 1, or from i up
pub from-below : (j i hi : ℕ) → 0 < i → i - 1 ≤ j → j < hi → (j ≡ i - 1) ⊎ ((i ≤ j) × (j < hi))
from-below j i hi p x y = elim (ℕ_discrete j (i - 1)) [ yes e ↦ inl e | no m ↦ inr (omega arith, y) ]

module _ (near far : List ℕ) (m : ℕ) where
  pub spread_none : (mark : List Bool) → Spread near far m mark mark
  spread_none mark = record { more = λ u t. t; only = λ p s h. h }

  pub spread_more : (old mid new : List Bool) → Spread near far m old mid → Spread near far m mid new → Spread near far m old new
  spread_more old mid new S T = record { more = λ u t. T.more u (S.more u t); only = λ p s h. T.only p s (S.only p s h) }

  -- edge i passes its mark on
  pub spread_one : (old mark : List Bool) → Spread near far m old mark → (i : ℕ) → i < m → (a b : ℕ) → a ≡ get_or near i 0 → b ≡ get_or far i 0 → a < length mark
      → Spread near far m old (set mark a (get_or mark a false || get_or mark b false))
  spread_one old mark S i k a b ea eb l =
      let at : (u : ℕ) → get_or (set mark a (get_or mark a false || get_or mark b false)) u false ≡ (get_or mark u false || (eqb u a && get_or mark b false)) = λ u. mark-or mark a u (get_or mark b false) l in
      record {
        more = λ u h. at u ∙ or_inl (get_or mark u false) _ (S.more u h);
        only = λ p s h u g. ⊎_elim
            (λ (x : get_or mark u false ≡ true). S.only p s h u x)
            (λ (x : (eqb u a && get_or mark b false) ≡ true).
            let q : u ≡ a = eqb-true u a (and_l (eqb u a) (get_or mark b false) x) in
            ap p (q ∙ ea) ∙ s i k (ap p (sym eb) ∙ S.only p s h b (and_r (eqb u a) (get_or mark b false) x)))
            (or_cases (get_or mark u false) (eqb u a && get_or mark b false) (sym (at u) ∙ g));
      }

  module _ (mark₀ : List Bool) where
    -- the edges from lo to hi - 1 are passed
    pub record Sweeping (mark : List Bool) (moved : Bool) (lo hi : ℕ) : Type 0 where
      pub ends : EndsBelow near far m
      pub top : hi ≤ m
      pub low : lo ≤ hi
      pub long : length mark ≡ 512
      pub spread : Spread near far m mark₀ mark
      pub quiet : moved ≡ false → (j : ℕ) → lo ≤ j → j < hi → get_or mark (get_or far j 0) false ≡ true → get_or mark (get_or near j 0) false ≡ true
      pub fewer : unmarked mark + cond moved 1 0 ≤ unmarked mark₀

    pub sweeps_none : EndsBelow near far m → length mark₀ ≡ 512 → (i : ℕ) → i ≤ m → Sweeping mark₀ false i i
    sweeps_none E l i k = record {
      ends = E;
      top = k;
      low = omega arith;
      long = l;
      spread = spread_none mark₀;
      quiet = λ q j a b. absurd (omega arith);
      fewer = omega arith;
    }

    -- edge i passed, next to those that are
    pub sweeps_one : (mark : List Bool) (moved : Bool) (lo hi : ℕ) → Sweeping mark moved lo hi → (i lo' hi' : ℕ) → i < m → hi' ≤ m → lo' ≤ hi'
        → ((j : ℕ) → lo' ≤ j → j < hi' → (j ≡ i) ⊎ ((lo ≤ j) × (j < hi))) → (a b : ℕ) → a ≡ get_or near i 0 → b ≡ get_or far i 0
        → Sweeping (set mark a (get_or mark a false || get_or mark b false)) (moved || (get_or mark b false && not (get_or mark a false))) lo' hi'
    sweeps_one mark moved lo hi S i lo' hi' k t o part a b ea eb =
        let l : a < length mark = omega (arith, S.ends.near_below i k, S.long, ea) in
        let at : (u : ℕ) → get_or (set mark a (get_or mark a false || get_or mark b false)) u false ≡ (get_or mark u false || (eqb u a && get_or mark b false)) = λ u. mark-or mark a u (get_or mark b false) l in
        record {
          ends = S.ends;
          top = t;
          low = o;
          long = length-set mark a _ ∙ S.long;
          spread = spread_one mark₀ mark S.spread i k a b ea eb l;
          quiet = λ q j x y h.
              let still : (u : ℕ) → get_or (set mark a (get_or mark a false || get_or mark b false)) u false ≡ get_or mark u false = λ u. at u ∙ unmoved mark a b u (or_r moved (get_or mark b false && not (get_or mark a false)) q) in
              still (get_or near j 0) ∙ ⊎_elim
              (λ (z : j ≡ i). passes mark a b (or_r moved (get_or mark b false && not (get_or mark a false)) q) (get_or near j 0) (get_or far j 0)
              (ea ∙ ap (λ (y : ℕ). get_or near y 0) (sym z)) (eb ∙ ap (λ (y : ℕ). get_or far y 0) (sym z)) (sym (still (get_or far j 0)) ∙ h))
              (λ (z : (lo ≤ j) × (j < hi)). S.quiet (or_l moved _ q) j z.0 z.1 (sym (still (get_or far j 0)) ∙ h))
              (part j x y);
          fewer = omega (arith, S.fewer, unmarked-or mark a (get_or mark b false) l, cond-or moved (get_or mark b false && not (get_or mark a false)));
        }
      where
        tested : (x y : Bool) → (y && not x) ≡ false → y ≡ true → x ≡ true
        tested true y h t = refl
        tested false true h t = sym h
        tested false false h t = t

        unmoved : (r : List Bool) (a b u : ℕ) → (get_or r b false && not (get_or r a false)) ≡ false → (get_or r u false || (eqb u a && get_or r b false)) ≡ get_or r u false
        unmoved r a b u h = bool_ext_or (get_or r u false) (eqb u a && get_or r b false)
            (λ t. let q : u ≡ a = eqb-true u a (and_l (eqb u a) (get_or r b false) t) in ap (λ (y : ℕ). get_or r y false) q ∙ tested (get_or r a false) (get_or r b false) h (and_r (eqb u a) (get_or r b false) t))
          where
            bool_ext_or : (x y : Bool) → (y ≡ true → x ≡ true) → (x || y) ≡ x
            bool_ext_or true y f = refl
            bool_ext_or false true f = sym (f refl)
            bool_ext_or false false f = refl

        passes : (r : List Bool) (a b : ℕ) → (get_or r b false && not (get_or r a false)) ≡ false → (x y : ℕ) → a ≡ x → b ≡ y → get_or r y false ≡ true → get_or r x false ≡ true
        passes r a b h x y ea eb t = sym (ap (λ (z : ℕ). get_or r z false) ea) ∙ tested (get_or r a false) (get_or r b false) h (ap (λ (z : ℕ). get_or r z false) eb ∙ t)

    pub sweeps_all : (mark : List Bool) (moved : Bool) → Sweeping mark moved 0 m → Swept near far m mark₀ mark moved
    sweeps_all mark moved S = record { long = S.long; spread = S.spread; quiet = λ q j k. S.quiet q j (omega arith) k; fewer = S.fewer }

    -- the same, over the arcs that come first in a pass up or down
    pub sweeps_begin : EndsBelow near far m → length mark₀ ≡ 512 → (up : Bool) → Sweeping mark₀ false (cond up 0 (m - 0)) (cond up 0 m)
    sweeps_begin E l true = sweeps_none E l 0 (omega arith)
    sweeps_begin E l false = let z : m - 0 ≡ m = omega arith in rw z (sweeps_none E l m (omega arith))

    pub sweeps_turn : (mark : List Bool) (moved up : Bool) (i : ℕ) → Sweeping mark moved (cond up 0 (m - i)) (cond up i m) → i < m → (j : ℕ) → j ≡ in_turn i m up
        → (new : List Bool) (x : Bool) → Carried near far j mark new x → Sweeping new (moved || x) (cond up 0 (m - (i + 1))) (cond up (i + 1) m)
    sweeps_turn mark moved true i S h j e new x C =
        rw (C.mark, C.new_mark) (sweeps_one mark moved 0 i S j 0 (i + 1) (omega arith) (omega arith) (omega arith)
        (λ n a b. ⊎_elim (λ z. inl (omega (arith, z, e))) (λ z. inr (omega arith, z)) (split_lt n i b)) _ _ refl refl)
    sweeps_turn mark moved false i S h j e new x C =
        rw (C.mark, C.new_mark) (sweeps_one mark moved (m - i) m S j (m - (i + 1)) m (omega arith) (omega arith) (omega arith)
        (λ n a b. elim (ℕ_discrete n j) [ yes z ↦ inl z | no z ↦ inr (omega (arith, z), b) ]) _ _ refl refl)

    pub sweeps_end : (mark : List Bool) (moved up : Bool) (i : ℕ) → Sweeping mark moved (cond up 0 (m - i)) (cond up i m) → m ≤ i → i ≤ m → Swept near far m mark₀ mark moved
    sweeps_end mark moved true i S h k = let z : i ≡ m = omega arith in sweeps_all mark moved (rw z at S)
    sweeps_end mark moved false i S h k = let z : m - i ≡ 0 = omega arith in sweeps_all mark moved (rw z at S)

    -- passes until nothing moves
    pub record Spreading (mark : List Bool) (moved : Bool) : Type 0 where
      pub ends : EndsBelow near far m
      pub long : length mark ≡ 512
      pub spread : Spread near far m mark₀ mark
      pub quiet : moved ≡ false → Passes near far m (λ u. get_or mark u false)

    pub spreads_on : (mark mark' : List Bool) (moved moved' : Bool) → Spreading mark moved → Swept near far m mark mark' moved' → Spreading mark' moved'
    spreads_on mark mark' moved moved' S T = record { ends = S.ends; long = T.long; spread = spread_more mark₀ mark mark' S.spread T.spread; quiet = T.quiet }

    pub spreads_none : EndsBelow near far m → length mark₀ ≡ 512 → Spreading mark₀ true
    spreads_none E l = record { ends = E; long = l; spread = spread_none mark₀; quiet = λ q. absurd (clash_bool refl q) }

    pub spreads_all : (mark : List Bool) (moved : Bool) → Spreading mark moved → moved ≡ false → Closed near far m mark₀ mark
    spreads_all mark moved S q = record { long = S.long; spread = S.spread; quiet = S.quiet q }

-- ---- an ordered edge list: one pass down settles the marks

-- an entry of the first m, cut out as a list
cut : (all l : List ℕ) (m i : ℕ) → l ≡ take m all → i < m → get_or l i 0 ≡ get_or all i 0
cut all l m i e k = ap (λ (x : List ℕ). get_or x i 0) e ∙ get_or-take m all i 0 k

-- each number of a list is at most the next
next_above : (l : List ℕ) (j : ℕ) → j ≡ min (length l) 1 → all_of (λ (p : ℕ × ℕ). leb p.0 p.1) (zip l (drop j l)) ≡ true → IsNonDecreasing l
next_above l j is h = IsNonDecreasingBy-from_all_adjacent (λ x. x) l (λ k d b.
    let n = length-drop j l in
    let z = get_or-zip l (drop j l) k (d, d) (omega arith) (omega arith) in
    let e = all_at (λ (p : ℕ × ℕ). leb p.0 p.1) (zip l (drop j l)) (d, d) h k (omega (arith, length-zip l (drop j l))) in
    let q : j + k ≡ k + 1 = omega arith in
    rw (get_or-drop j l k d, q) at (leb-true (get_or l k d) (get_or (drop j l) k d) (sym (ap (λ (p : ℕ × ℕ). leb p.0 p.1) z) ∙ e)))

-- what the two tests of the first m arcs, cut out as lists, say of them
pub ordered_told : (near far n f : List ℕ) (m j : ℕ) → n ≡ take m near → f ≡ take m far → length n ≡ m → length f ≡ m → j ≡ min m 1
    → all_of (λ (p : ℕ × ℕ). ltb p.0 p.1) (zip n f) ≡ true → all_of (λ (p : ℕ × ℕ). leb p.0 p.1) (zip f (drop j f)) ≡ true → Ordered near far m
ordered_told near far n f m j en ef ln lf is r s = record {
  rises = λ i k.
      let z = get_or-zip n f i (0, 0) (omega arith) (omega arith) in
      let h = all_at (λ (p : ℕ × ℕ). ltb p.0 p.1) (zip n f) (0, 0) r i (omega (arith, length-zip n f)) in
      rw (cut near n m i en k, cut far f m i ef k) at (ltb-true (get_or n i 0) (get_or f i 0) (sym (ap (λ (p : ℕ × ℕ). ltb p.0 p.1) z) ∙ h));
  ascends = λ i k a b. rw (cut far f m i ef (omega arith), cut far f m k ef b) at (next_above f j (rw lf is) s i k 0 a (omega arith));
}

-- the first edges of an ordered list
pub orders_fewer : (near far : List ℕ) (m k : ℕ) → k ≤ m → Ordered near far m → Ordered near far k
orders_fewer near far m k h O = record { rises = λ i l. O.rises i (omega arith); ascends = λ i j a l. O.ascends i j a (omega arith) }

pub ends_fewer : (near far : List ℕ) (m k : ℕ) → k ≤ m → EndsBelow near far m → EndsBelow near far k
ends_fewer near far m k h E = record { count = omega (arith, E.count); near_below = λ i l. E.near_below i (omega arith); far_below = λ i l. E.far_below i (omega arith) }

-- the edges from i to k - 1 carry no mark further
module _ (near far : List ℕ) (k : ℕ) (mark₀ : List Bool) where
  pub record Settling (mark : List Bool) (i : ℕ) : Type 0 where
    pub ends : EndsBelow near far k
    pub ordered : Ordered near far k
    pub low : i ≤ k
    pub long : length mark ≡ 512
    pub spread : Spread near far k mark₀ mark
    pub quiet : (j : ℕ) → i ≤ j → j < k → get_or mark (get_or far j 0) false ≡ true → get_or mark (get_or near j 0) false ≡ true

  pub settles_none : EndsBelow near far k → Ordered near far k → length mark₀ ≡ 512 → Settling mark₀ k
  settles_none E O l = record { ends = E; ordered = O; low = omega arith; long = l; spread = spread_none near far k mark₀; quiet = λ j a b. absurd (omega arith) }

  -- the far ends of the edges passed are above the near end of this one
  pub settles_one : (mark : List Bool) (i : ℕ) → Settling mark i → 0 < i → (a b : ℕ) → a ≡ get_or near (i - 1) 0 → b ≡ get_or far (i - 1) 0
      → Settling (set mark a (get_or mark a false || get_or mark b false)) (i - 1)
  settles_one mark i S h a b ea eb =
      let e : i - 1 < k = omega (arith, S.low) in
      let l : a < length mark = omega (arith, S.ends.near_below (i - 1) e, S.long, ea) in
      let at : (u : ℕ) → get_or (set mark a (get_or mark a false || get_or mark b false)) u false ≡ (get_or mark u false || (eqb u a && get_or mark b false)) = λ u. mark-or mark a u (get_or mark b false) l in
      let far-still : (j : ℕ) → i - 1 ≤ j → j < k → get_or (set mark a (get_or mark a false || get_or mark b false)) (get_or far j 0) false ≡ get_or mark (get_or far j 0) false = λ j x y.
      get_or-set_other mark a (get_or far j 0) _ false (λ z. absurd (omega (arith, z, ea, S.ordered.rises (i - 1) e, S.ordered.ascends (i - 1) j x y))) in
      record {
        ends = S.ends;
        ordered = S.ordered;
        low = omega (arith, S.low);
        long = length-set mark a _ ∙ S.long;
        spread = spread_one near far k mark₀ mark S.spread (i - 1) e a b ea eb l;
        quiet = λ j x y t. at (get_or near j 0) ∙ ⊎_elim
            (λ (z : j ≡ i - 1). or_inr (get_or mark (get_or near j 0) false) _ (and_intro (eqb (get_or near j 0) a) (get_or mark b false)
            (eq-eqb (get_or near j 0) a (ap (λ (y : ℕ). get_or near y 0) z ∙ sym ea))
            (ap (λ (y : ℕ). get_or mark y false) (eb ∙ ap (λ (y : ℕ). get_or far y 0) (sym z)) ∙ sym (far-still j x y) ∙ t)))
            (λ (z : (i ≤ j) × (j < k)). or_inl (get_or mark (get_or near j 0) false) _ (S.quiet j z.0 y (sym (far-still j x y) ∙ t)))
            (from-below j i k h x y);
      }

  pub settles_all : (mark : List Bool) → Settling mark 0 → Closed near far k mark₀ mark
  settles_all mark S = record { long = S.long; spread = S.spread; quiet = λ j l. S.quiet j (omega arith) l }

-- marks from v alone stay at or below v, so that the edges that lead above v carry none
pub settled_above : (near far : List ℕ) (m k v : ℕ) (mark : List Bool) → v < 512 → Ordered near far m → LeadsAbove far m v k
    → Closed near far k (set no_node v true) mark → Closed near far m (set no_node v true) mark
settled_above near far m k v mark h O A C = record {
  long = C.long;
  spread = record { more = C.spread.more; only = λ p s. C.spread.only p (λ i l. s i (omega (arith, A.within))) };
  quiet = λ i l t. elim (dec_lt i k) [
    | yes x ↦ C.quiet i x t
    | no x ↦ absurd (omega (arith, A.above i (omega arith) l, leb-true (get_or far i 0) v (low (get_or far i 0) t)))
  ];
}
  where
    low : (u : ℕ) → get_or mark u false ≡ true → leb u v ≡ true
    low = C.spread.only (λ u. leb u v)
        (λ i l t. le-leb (get_or near i 0) v (omega (arith, O.rises i (omega (arith, A.within)), leb-true (get_or far i 0) v t)))
        (λ u t. le-leb u v (omega (arith, eqb-true u v (sym (only_marked v u h) ∙ t))))

-- the far ends of an ordered list, cut out as a list
pub non_decreasing : (near far f : List ℕ) (m : ℕ) → f ≡ take m far → length f ≡ m → Ordered near far m → IsNonDecreasing f
non_decreasing near far f m e l O =
    IsNonDecreasingBy-from_default (λ x. x) f 0 (λ i j h k. rw (cut far f m i e (omega arith), cut far f m j e (omega arith)) (O.ascends i j h (omega arith)))

pub leads_whole : (far f : List ℕ) (m v k : ℕ) → f ≡ take m far → length f ≡ m → LeadsAbove f (length f) v k → LeadsAbove far m v k
leads_whole far f m v k e l A = record { within = omega (arith, A.within); above = λ i a b. rw (cut far f m i e b) at (A.above i a (omega arith)) }
