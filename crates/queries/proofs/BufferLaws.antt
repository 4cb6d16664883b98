-- Lists written into a lent buffer: the nodes that are kept, and a layer. Assumes nothing.
use mathlib.Core.Path.{◌≡◌, refl, sym, ◌∙◌, ap}
use mathlib.Core.Bool.{Bool, true, false, not, ◌&&◌}
use mathlib.Core.Logic.{⊎_elim}
use mathlib.Core.List.{List, [], ◌∷◌, ◌++◌, append-nil}
use Prim.Native.Nat.{ℕ, zero, suc, ◌+◌, ◌-◌, ◌≤◌, ◌<◌}
use native.Mathlib.Omega.{arith}
use native.Mathlib.Numerals.{add-one}
use lib.Dec.{eqb}
use lib.ListN.{length, get_or, take, drop, set, replicate, length-append, length-drop}
use borrow.Rule.Slice.PartMut.{put_mid}
use lib.Seq.{drop-length, take-length, length-take-le, drop-drop, slice}
use borrow.Author.Tests.{lt-ltb, le-ltb, ne_eqb, eq-eqb}
use Rattle.file.specs.Lists.{keep, cons_if, count_from, up_to, member, marked_from, members, is_empty, put_at, onto}
use Rattle.file.specs.declared.Refusal.TheVariants.{ShortBuffer}
use Rattle.queries.specs.Queries.{Lent, refuses, answers, remove}
use Rattle.queries.specs.Marks.{kept, without, layer_by, FirstAt}
use Rattle.file.proofs.BoolLaws.{bool_cases, clash_bool}
use Rattle.file.proofs.PutLaws.{put-none, put-put, put_one, put-onto}
use Rattle.graph.proofs.ListLaws.{at-any, at_none}
use Rattle.graph.proofs.CheckLaws.{unmarked}
use Rattle.std.specs.Prelude.{Ok, filter}
use Rattle.std.specs.List.{range_with_len, enumerate_from}
use Rattle.std.proofs.lemmas.List.{take_more}
use Rattle.std.proofs.lemmas.List.FromFn.{length-enumerate_from, get_or-enumerate_from}

-- ---- the entries that pass

module _ {A : Type 0} where
  pub keep_append : (p : A → Bool) (l k : List A) → keep p (l ++ k) ≡ keep p l ++ keep p k
  unfolding keep
  keep_append p [] k = refl
  keep_append p (x ∷ l) k = ⊎_elim
      (λ (t : p x ≡ true). rw t (ap (λ (z : List A). x ∷ z) (keep_append p l k)))
      (λ (t : p x ≡ false). rw t (keep_append p l k))
      (bool_cases (p x))

count_from-suc : (n k : ℕ) → count_from (suc n) k ≡ count_from n k ++ ((k + n) ∷ [])
unfolding count_from
count_from-suc zero k = let z : k ≡ k + 0 = omega arith in ap (λ (x : ℕ). x ∷ []) z
count_from-suc (suc n) k =
    let z : (k + 1) + n ≡ k + suc n = omega arith in
    ap (λ (l : List ℕ). k ∷ l) (count_from-suc n (k + 1) ∙ ap (λ (x : ℕ). count_from n (k + 1) ++ (x ∷ [])) z)

pub up_to-suc : (n : ℕ) → up_to (n + 1) ≡ up_to n ++ (n ∷ [])
up_to-suc n = let z : 0 + n ≡ n = omega arith in rw (add-one n) (count_from-suc n 0 ∙ ap (λ (x : ℕ). up_to n ++ (x ∷ [])) z)

module _ (p : ℕ → Bool) where
  pub keep_yes : (u : ℕ) → p u ≡ true → keep p (up_to (u + 1)) ≡ keep p (up_to u) ++ (u ∷ [])
  unfolding keep
  keep_yes u e = rw (up_to-suc u, keep_append p (up_to u) (u ∷ [])) (ap (λ (l : List ℕ). keep p (up_to u) ++ l) (ap (λ (b : Bool). cons_if b u []) e))

  pub keep_no : (u : ℕ) → p u ≡ false → keep p (up_to (u + 1)) ≡ keep p (up_to u)
  unfolding keep
  keep_no u e = rw (up_to-suc u, keep_append p (up_to u) (u ∷ [])) (ap (λ (l : List ℕ). keep p (up_to u) ++ l) (ap (λ (b : Bool). cons_if b u []) e) ∙ append-nil (keep p (up_to u)))

  keep-zero : length (keep p (up_to 0)) ≡ 0
  unfolding keep count_from
  keep-zero = refl

  pub keep_low : (u : ℕ) → length (keep p (up_to u)) ≤ u
  keep_low zero = omega (arith, keep-zero)
  keep_low (suc u) = rw (← add-one u) (⊎_elim
      (λ (t : p u ≡ true). rw (keep_yes u t) (omega (arith, length-append (keep p (up_to u)) (u ∷ []), keep_low u)))
      (λ (t : p u ≡ false). rw (keep_no u t) (omega (arith, keep_low u)))
      (bool_cases (p u)))

-- the marked nodes, with none skipped
pub members_kept : (mark skip : List Bool) → length mark ≡ 512 → skip ≡ replicate 512 false → kept mark skip 512 ≡ members mark
unfolding keep count_from marked_from
members_kept mark skip l s = sym (ap (λ (n : ℕ). keep passes (up_to n)) l) ∙ from 0 mark (λ i h. let z : 0 + i ≡ i = omega arith in rw z (free i))
  where
    alone : (b : Bool) → (b && true) ≡ b
    alone true = refl
    alone false = refl

    passes : ℕ → Bool
    passes u = get_or mark u false && not (get_or skip u false)

    free : (i : ℕ) → passes i ≡ get_or mark i false
    free i = rw (s, unmarked 512 i) (alone (get_or mark i false))

    from : (k : ℕ) (m : List Bool) → ((i : ℕ) → i < length m → passes (k + i) ≡ get_or m i false) → keep passes (count_from (length m) k) ≡ marked_from k m
    from k [] f = refl
    from k (b ∷ m) f =
        let z : k + 0 ≡ k = omega arith in
        let here : passes k ≡ b = rw z at (f 0 (omega arith)) in
        (λ t. cons_if (here t) k (keep passes (count_from (length m) (k + 1))))
        ∙ ap (λ (r : List ℕ). cons_if b k r) (from (k + 1) m (λ i h. let y : k + 1 + i ≡ k + suc i = omega arith in rw y (f (suc i) (omega arith))))

-- ---- the answer and the buffer

pub answers_short : (l b : List ℕ) (k : ℕ) → k ≡ length l → length b < k → refuses ShortBuffer b ≡ answers l b
answers_short l b k e h = rw (lt-ltb (length b) (length l) (omega arith)) refl

pub answers-whole : (l b b' : List ℕ) (k : ℕ) → k ≡ length l → k ≤ length b → b' ≡ put_at 0 l b → ◌≡◌ {A = Lent} (record { answer = Ok k; buffer = b' }) (answers l b)
answers-whole l b b' k e h s = rw (le-ltb (length b) (length l) (omega arith)) (λ t. record { answer = Ok (e t); buffer = (s ∙ put-onto l b) t })

-- a list copied whole
pub answers_copied : (l b b' : List ℕ) → length l ≤ length b → b' ≡ put_at 0 (slice 0 (length l) l) b → ◌≡◌ {A = Lent} (record { answer = Ok (length l); buffer = b' }) (answers l b)
answers_copied l b b' h s = answers-whole l b b' (length l) refl h (s ∙ ap (λ (k : List ℕ). put_at 0 k b) (take-length l))

-- ---- the loops

-- the kept nodes are what a filter of the numbers lets through
kept-filter : (p : ℕ → Bool) (n k : ℕ) → filter p (range_with_len k n) ≡ keep p (count_from n k)
unfolding keep count_from
kept-filter p zero k = refl
kept-filter p (suc n) k = ⊎_elim
    (λ (t : p k ≡ true). rw (t, kept-filter p n (k + 1)) refl)
    (λ (t : p k ≡ false). rw (t, kept-filter p n (k + 1)) refl)
    (bool_cases (p k))

pub kept_filtered : (mark skip : List Bool) (n : ℕ) → filter (λ u. get_or mark u false && not (get_or skip u false)) (range_with_len 0 n) ≡ kept mark skip n
kept_filtered mark skip n = kept-filter (λ u. get_or mark u false && not (get_or skip u false)) n 0

-- a list written entry by entry: its entries come numbered
module _ (l b₀ : List ℕ) where
  -- as many as came are written
  abbrev pub Filled : List (ℕ × ℕ) → List ℕ → Type 0
  Filled xs b = b ≡ put_at 0 (take (length xs) l) b₀

  pub filled-none : Filled [] b₀
  filled-none = sym (put-none 0 b₀)

  module _ (xs : List (ℕ × ℕ)) where
    pub filled_all : (b : List ℕ) → Filled xs b → length xs ≡ length (enumerate_from 0 l) → b ≡ onto l b₀
    filled_all b w e = w ∙ ap (λ (x : List ℕ). put_at 0 x b₀) (ap (λ (n : ℕ). take n l) (e ∙ length-enumerate_from 0 l) ∙ take-length l) ∙ put-onto l b₀

    -- entry u comes with the number k
    abbrev pub Comes : ℕ → ℕ → Type 0
    Comes k u = (length xs < length (enumerate_from 0 l)) × ◌≡◌ {A = ℕ × ℕ} (k, u) (get_or (enumerate_from 0 l) (length xs) (k, u))

    module _ (k u : ℕ) (t : Comes k u) where
      within : length xs < length l
      within = omega (arith, t.0, length-enumerate_from 0 l)

      numbered : ◌≡◌ {A = ℕ × ℕ} (k, u) (0 + length xs, get_or l (length xs) u)
      numbered = t.1 ∙ get_or-enumerate_from 0 l (length xs) (k, u) within

      entry : u ≡ get_or l (length xs) u
      entry = ap (λ (p : ℕ × ℕ). p.1) numbered

      pub filled_room : k < length l
      filled_room = omega (arith, within, ap (λ (p : ℕ × ℕ). p.0) numbered)

      pub filled_member : member u l ≡ true
      filled_member = at-any (eqb u) l u (length xs) within (eq-eqb u (get_or l (length xs) u) entry)

      pub filled_one : length l ≤ length b₀ → (b : List ℕ) → Filled xs b → Filled (xs ++ ((k, u) ∷ [])) (set b k u)
      filled_one room b w =
          let part = take (length xs) l in
          let long : length part ≡ length xs = length-take-le (length xs) l (omega (arith, within)) in
          let here : k ≡ 0 + length part = omega (arith, long, ap (λ (p : ℕ × ℕ). p.0) numbered) in
          let more : part ++ (u ∷ []) ≡ take (length (xs ++ ((k, u) ∷ []))) l = ap (λ (x : ℕ). part ++ (x ∷ [])) entry ∙ sym (take_more l (length xs) u within)
          ∙ ap (λ (n : ℕ). take n l) (sym (length-append xs ((k, u) ∷ []))) in
          (λ i. set (w i) (here i) u) ∙ put_one 0 u part b₀ (omega (arith, long, within, room)) ∙ ap (λ (y : List ℕ). put_at 0 y b₀) more

-- ---- the layer

next-length : (i : ℕ) (layer freed : List ℕ) → i < length layer → length (without i layer ++ freed) ≡ (length layer - 1) + length freed
next-length i layer freed h = omega (arith, length-append (without i layer) freed, length-append (take i layer) (drop (i + 1) layer), length-take-le i layer (omega arith), length-drop (i + 1) layer)

-- the layer's two parts and the freed nodes, one after the other
next-written : (i : ℕ) (layer freed b b1 b2 b3 : List ℕ) → i < length layer → (length layer - 1) + length freed ≤ length b
    → b1 ≡ put_at 0 (slice 0 i layer) b → b2 ≡ put_at i (slice (i + 1) (length layer) layer) b1 → b3 ≡ put_at (length layer - 1) freed b2
    → b3 ≡ put_at 0 (without i layer ++ freed) b
next-written i layer freed b b1 b2 b3 h r e1 e2 e3 =
    let p = take i layer in
    let q = drop (i + 1) layer in
    let np : 0 + length p ≡ i = omega (arith, length-take-le i layer (omega arith)) in
    let nw : 0 + length (p ++ q) ≡ length layer - 1 = omega (arith, length-append p q, length-take-le i layer (omega arith), length-drop (i + 1) layer) in
    let s : slice (i + 1) (length layer) layer ≡ q = ap (λ (l : List ℕ). drop (i + 1) l) (take-length layer) in
    let f2 : b2 ≡ put_at 0 (p ++ q) b = e2 ∙ (λ t. put_at (sym np t) (s t) (e1 t)) ∙ put-put 0 p q b (omega arith) in
    e3 ∙ (λ t. put_at (sym nw t) freed (f2 t)) ∙ put-put 0 (p ++ q) freed b (omega arith)

pub next_short : (i k : ℕ) (layer freed b : List ℕ) → i < length layer → k ≡ length freed → length b < (length layer - 1) + k → refuses ShortBuffer b ≡ answers (without i layer ++ freed) b
next_short i k layer freed b h e s = answers_short (without i layer ++ freed) b ((length layer - 1) + k) (omega (arith, next-length i layer freed h)) s

-- the layer's two parts as they are copied
pub copied_head : (i : ℕ) (layer b x : List ℕ) → i < length layer → x ≡ take i layer → x ++ drop i b ≡ put_at 0 (slice 0 i layer) b
copied_head i layer b x h e = let n : 0 + length (take i layer) ≡ i = omega (arith, length-take-le i layer (omega arith)) in rw (e, n) refl

pub copied_tail : (i : ℕ) (layer b x : List ℕ) → i < length layer → x ≡ take (length layer - (i + 1)) (drop (i + 1) layer)
    → put_mid i (length layer - 1 - i) b x ≡ put_at i (slice (i + 1) (length layer) layer) b
copied_tail i layer b x h e =
    let q = drop (i + 1) layer in
    let s : slice (i + 1) (length layer) layer ≡ q = ap (λ (l : List ℕ). drop (i + 1) l) (take-length layer) in
    let t : take (length layer - (i + 1)) q ≡ q = ap (λ (n : ℕ). take n q) (sym (length-drop (i + 1) layer)) ∙ take-length q in
    let n : length layer - 1 - i ≡ length q = omega (arith, length-drop (i + 1) layer) in
    rw (e, t, s, n) (ap (λ (l : List ℕ). take i b ++ (q ++ l)) (drop-drop (length q) i b))

pub next-whole : (i k : ℕ) (layer freed b b1 b2 b3 : List ℕ) → i < length layer → k ≡ length freed → (length layer - 1) + k ≤ length b
    → b1 ≡ put_at 0 (slice 0 i layer) b → b2 ≡ put_at i (slice (i + 1) (length layer) layer) b1 → b3 ≡ put_at (length layer - 1) freed b2
    → ◌≡◌ {A = Lent} (record { answer = Ok ((length layer - 1) + k); buffer = b3 }) (answers (without i layer ++ freed) b)
next-whole i k layer freed b b1 b2 b3 h e s e1 e2 e3 = answers-whole (without i layer ++ freed) b b3 ((length layer - 1) + k) (omega (arith, next-length i layer freed h)) s
    (next-written i layer freed b b1 b2 b3 h (omega arith) e1 e2 e3)

-- the part of the buffer that the freed nodes are written to
pub written_tail : (r : ℕ) (freed b x : List ℕ) → x ≡ onto freed (take (length b - r) (drop r b)) → put_mid r (length b - r) b x ≡ put_at r freed b
written_tail r freed b x e =
    let d = drop r b in
    let n : length b - r ≡ length d = sym (length-drop r b) in
    let whole : x ≡ onto freed d = e ∙ ap (onto freed) (ap (λ (m : ℕ). take m d) n ∙ take-length d) in
    rw (n, drop-length d, append-nil x, whole) (ap (λ (l : List ℕ). take r b ++ (freed ++ l)) (drop-drop (length freed) r b))

pub length_some : (l : List ℕ) (k : ℕ) → k ≡ length l → (k ≡ 0 → ⊥) → is_empty l ≡ false
length_some [] k e h = absurd (h e)
length_some (x ∷ l) k e h = refl

pub length_none : (l : List ℕ) (k : ℕ) → k ≡ length l → k ≡ 0 → is_empty l ≡ true
length_none [] k e h = refl
length_none (x ∷ l) k e h = absurd (omega arith)

module _ (freed layer : List ℕ) (i : ℕ) where
  pub layer_freed : is_empty freed ≡ false → layer_by freed layer i ≡ without i layer ++ freed
  layer_freed e = rw e refl

  pub layer_stays : is_empty freed ≡ true → layer_by freed layer i ≡ layer
  layer_stays e = rw e refl

-- the answer at one list is the answer at an equal one
pub answers_at : (l k b : List ℕ) (x : Lent) → l ≡ k → x ≡ answers k b → x ≡ answers l b
answers_at l k b x e h = h ∙ ap (λ (z : List ℕ). answers z b) (sym e)

-- the first occurrence goes
pub remove_first : (v : ℕ) (l : List ℕ) (i : ℕ) → FirstAt v l i → i < length l → remove v l ≡ without i l
unfolding remove
remove_first v [] i f h = absurd (omega arith)
remove_first v (x ∷ l) zero f h = rw (eq-eqb x v (f.at h)) refl
remove_first v (x ∷ l) (suc i) f h =
    let n : eqb x v ≡ false = ne_eqb x v (λ e. clash_bool (eq-eqb v x (sym e)) (f.before 0 (omega arith))) in
    let z : suc i + 1 ≡ suc (i + 1) = omega arith in
    rw (n, z) (ap (λ (r : List ℕ). x ∷ r) (remove_first v l i (record { low = omega arith; before = λ j k. f.before (suc j) (omega arith); at = λ k. f.at h }) (omega arith)))

-- an index within the list is a member's, and none is none's
pub first_member : (v : ℕ) (l : List ℕ) (i : ℕ) → FirstAt v l i → i < length l → member v l ≡ true
first_member v l i f h = at-any (eqb v) l 0 i h (eq-eqb v (get_or l i 0) (sym (f.at h)))

pub first_absent : (v : ℕ) (l : List ℕ) (i : ℕ) → FirstAt v l i → length l ≤ i → member v l ≡ false
first_absent v l i f h = at_none (eqb v) l 0 (λ j k. f.before j (omega arith))
