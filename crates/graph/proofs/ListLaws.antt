-- The list rules as facts on every index, both ways. `-at` takes a list apart by its indices, `at-` puts it together;
-- `-up_to` and `up_to-` the same for `map f (up_to n)`. Assumes nothing.
use mathlib.Core.Path.{◌≡◌, refl, sym, ◌∙◌, ap}
use mathlib.Core.Bool.{Bool, true, false, ◌&&◌, ◌||◌, not, and-true, and-false, or-false, and_assoc, or_assoc}
use mathlib.Core.Logic.{⊎_elim}
use mathlib.Core.List.{List, [], ◌∷◌, ◌++◌, map}
use Prim.Native.Nat.{ℕ, zero, suc, ◌+◌, ◌≤◌, ◌<◌}
use native.Mathlib.Omega.{arith}
use native.Mathlib.Decide.{ℕ_discrete}
use lib.Dec.{eqb, ltb}
use lib.ListN.{length, get_or, replicate, length-map}
use borrow.Author.Tests.{eqb-true, ltb-true, lt-ltb}
use Rattle.file.specs.Lists.{any_of, all_of, keep, distinct, count_from, up_to, marked_from, member, members}
use Rattle.std.specs.Array.{IsFromFnResult, IsFromFnResultFrom}
use Rattle.std.specs.Fn.{Called, Mut}
use Rattle.std.specs.Iterator.Runs.{Run, YieldsRun}
use Rattle.std.proofs.Common.{Option, subst}
use Rattle.std.proofs.lemmas.Iterator.{YieldsList, items_from_drains}
use Rattle.std.specs.List.{list_any, list_all, fold, range_with_len}
use Rattle.std.proofs.lemmas.List.Recursion.{same_from_clauses}
use Rattle.file.proofs.PutLaws.{length-count_from}
use Rattle.file.proofs.BoolLaws.{bool_cases, clash_bool, not-true, not-false, bool_ext, eqb_same, and_l, and_r, and_intro, or_inl, or_inr}

-- an array that holds one value
pub all_same : {A : Type 0} (k i : ℕ) (d : A) → get_or (replicate k d) i d ≡ d
all_same zero i d = refl
all_same (suc k) zero d = refl
all_same (suc k) (suc i) d = all_same k i d

-- ---- one entry at the front

or_step : (b c : Bool) → elim b [ true ↦ true | false ↦ c ] ≡ (b || c)
or_step true c = refl
or_step false c = refl

and_step : (b c : Bool) → elim b [ true ↦ c | false ↦ false ] ≡ (b && c)
and_step true c = refl
and_step false c = refl

module _ {A : Type 0} where
  pub any_here : (p : A → Bool) (x : A) (l : List A) → p x ≡ true → any_of p (x ∷ l) ≡ true
  unfolding any_of
  any_here p x l e = rw (e, any_of)

  pub any-later : (p : A → Bool) (x : A) (l : List A) → p x ≡ false → any_of p (x ∷ l) ≡ any_of p l
  unfolding any_of
  any-later p x l e = rw (e, any_of)

  pub all_here : (p : A → Bool) (x : A) (l : List A) → p x ≡ true → all_of p (x ∷ l) ≡ all_of p l
  unfolding all_of
  all_here p x l e = rw (e, all_of)

  pub all_fails : (p : A → Bool) (x : A) (l : List A) → p x ≡ false → all_of p (x ∷ l) ≡ false
  unfolding all_of
  all_fails p x l e = rw (e, all_of)

  pub all_first : (p : A → Bool) (x : A) (l : List A) → all_of p (x ∷ l) ≡ (p x && all_of p l)
  unfolding all_of
  all_first p x l = and_step (p x) (all_of p l)

  pub distinct_here : (s : A → A → Bool) (x : A) (l : List A) → any_of (s x) l ≡ false → distinct s (x ∷ l) ≡ distinct s l
  unfolding distinct
  distinct_here s x l e = rw (e, distinct)

  pub distinct_fails : (s : A → A → Bool) (x : A) (l : List A) → any_of (s x) l ≡ true → distinct s (x ∷ l) ≡ false
  unfolding distinct
  distinct_fails s x l e = rw (e, distinct)

  pub distinct_more : (s : A → A → Bool) (x : A) (l : List A) → any_of (s x) l ≡ false → distinct s l ≡ true → distinct s (x ∷ l) ≡ true
  distinct_more s x l e h = distinct_here s x l e ∙ h

  pub distinct_first : (s : A → A → Bool) (x : A) (l : List A) → distinct s (x ∷ l) ≡ true → any_of (s x) l ≡ false
  distinct_first s x l h = not-true (λ e. clash_bool h (distinct_fails s x l e))

  pub distinct-rest : (s : A → A → Bool) (x : A) (l : List A) → distinct s (x ∷ l) ≡ true → distinct s l ≡ true
  distinct-rest s x l h = sym (distinct_here s x l (distinct_first s x l h)) ∙ h

  -- ---- std's words for the two

  pub any_listed : (p : A → Bool) (l : List A) → any_of p l ≡ list_any p l
  unfolding any_of
  any_listed p l = same_from_clauses (any_of p) (list_any p) (λ x b. p x || b) refl (λ x xs. or_step (p x) (any_of p xs)) (λ x xs. refl) l

  pub all_listed : (p : A → Bool) (l : List A) → all_of p l ≡ list_all p l
  unfolding all_of
  all_listed p l = same_from_clauses (all_of p) (list_all p) (λ x b. p x && b) refl (all_first p) (λ x xs. refl) l

  -- ---- a fold that asks each entry

  pub fold_any : (p : A → Bool) (a : Bool) (l : List A) → fold (λ b x. b || p x) a l ≡ (a || any_of p l)
  unfolding any_of
  fold_any p a [] = sym (or-false a)
  fold_any p a (x ∷ l) = fold_any p (a || p x) l ∙ or_assoc a (p x) (any_of p l) ∙ ap (λ b. a || b) (sym (or_step (p x) (any_of p l)))

  pub fold_all : (p : A → Bool) (a : Bool) (l : List A) → fold (λ b x. b && p x) a l ≡ (a && all_of p l)
  unfolding all_of
  fold_all p a [] = sym (and-true a)
  fold_all p a (x ∷ l) = fold_all p (a && p x) l ∙ and_assoc a (p x) (all_of p l) ∙ ap (λ b. a && b) (sym (all_first p x l))

  -- ---- some entry passes

  pub at-any : (p : A → Bool) (l : List A) (d : A) (i : ℕ) → i < length l → p (get_or l i d) ≡ true → any_of p l ≡ true
  at-any p [] d i h e = absurd (omega arith)
  at-any p (x ∷ l) d zero h e = any_here p x l e
  at-any p (x ∷ l) d (suc i) h e = ⊎_elim
      (λ (t : p x ≡ true). any_here p x l t)
      (λ (t : p x ≡ false). any-later p x l t ∙ at-any p l d i (omega arith) e)
      (bool_cases (p x))

  pub any_at : (p : A → Bool) (l : List A) (d : A) → any_of p l ≡ true → (i : ℕ) × (i < length l) × (p (get_or l i d) ≡ true)
  unfolding any_of
  any_at p [] d h = absurd (clash_bool h refl)
  any_at p (x ∷ l) d h = ⊎_elim
      (λ (t : p x ≡ true). (0, omega arith, t))
      (λ (t : p x ≡ false). let r = any_at p l d (sym (any-later p x l t) ∙ h) in (suc r.0, omega (arith, r.1), r.2))
      (bool_cases (p x))

  pub none-at : (p : A → Bool) (l : List A) (d : A) → any_of p l ≡ false → (i : ℕ) → i < length l → p (get_or l i d) ≡ false
  none-at p l d h i k = not-true (λ e. clash_bool (at-any p l d i k e) h)

  pub at_none : (p : A → Bool) (l : List A) (d : A) → ((i : ℕ) → i < length l → p (get_or l i d) ≡ false) → any_of p l ≡ false
  at_none p l d h = not-true (λ e. let r = any_at p l d e in clash_bool r.2 (h r.0 r.1))

  -- ---- every entry passes

  pub all_at : (p : A → Bool) (l : List A) (d : A) → all_of p l ≡ true → (i : ℕ) → i < length l → p (get_or l i d) ≡ true
  all_at p [] d h i k = absurd (omega arith)
  all_at p (x ∷ l) d h zero k = not-false (λ e. clash_bool h (all_fails p x l e))
  all_at p (x ∷ l) d h (suc i) k =
      let t : p x ≡ true = not-false (λ e. clash_bool h (all_fails p x l e)) in
      all_at p l d (sym (all_here p x l t) ∙ h) i (omega arith)

  pub at_all : (p : A → Bool) (l : List A) (d : A) → ((i : ℕ) → i < length l → p (get_or l i d) ≡ true) → all_of p l ≡ true
  unfolding all_of
  at_all p [] d h = refl
  at_all p (x ∷ l) d h = all_here p x l (h 0 (omega arith)) ∙ at_all p l d (λ i k. h (suc i) (omega arith))

  -- ---- no two are the same

  pub distinct-at : (s : A → A → Bool) (l : List A) (d : A) → distinct s l ≡ true
      → (i j : ℕ) → i < j → j < length l → s (get_or l i d) (get_or l j d) ≡ false
  distinct-at s [] d h i j a b = absurd (omega arith)
  distinct-at s (x ∷ l) d h i zero a b = absurd (omega arith)
  distinct-at s (x ∷ l) d h zero (suc j) a b =
      none-at (s x) l d (distinct_first s x l h) j (omega arith)
  distinct-at s (x ∷ l) d h (suc i) (suc j) a b =
      distinct-at s l d (distinct-rest s x l h) i j (omega arith) (omega arith)

  pub at-distinct : (s : A → A → Bool) (l : List A) (d : A)
      → ((i j : ℕ) → i < j → j < length l → s (get_or l i d) (get_or l j d) ≡ false) → distinct s l ≡ true
  unfolding distinct
  at-distinct s [] d h = refl
  at-distinct s (x ∷ l) d h = distinct_here s x l (at_none (s x) l d (λ j k. h 0 (suc j) (omega arith) (omega arith)))
      ∙ at-distinct s l d (λ i j a b. h (suc i) (suc j) (omega arith) (omega arith))

  -- ---- two lists joined

  pub all_append : (p : A → Bool) (l m : List A) → all_of p (l ++ m) ≡ (all_of p l && all_of p m)
  unfolding all_of
  all_append p [] m = refl
  all_append p (x ∷ l) m = ⊎_elim
      (λ (t : p x ≡ true). all_here p x (l ++ m) t ∙ all_append p l m ∙ ap (λ (b : Bool). b && all_of p m) (sym (all_here p x l t)))
      (λ (t : p x ≡ false). all_fails p x (l ++ m) t ∙ ap (λ (b : Bool). b && all_of p m) (sym (all_fails p x l t)))
      (bool_cases (p x))

  pub any_append : (p : A → Bool) (l m : List A) → any_of p (l ++ m) ≡ (any_of p l || any_of p m)
  unfolding any_of
  any_append p [] m = refl
  any_append p (x ∷ l) m = ⊎_elim
      (λ (t : p x ≡ true). any_here p x (l ++ m) t ∙ ap (λ (b : Bool). b || any_of p m) (sym (any_here p x l t)))
      (λ (t : p x ≡ false). any-later p x (l ++ m) t ∙ any_append p l m ∙ ap (λ (b : Bool). b || any_of p m) (sym (any-later p x l t)))
      (bool_cases (p x))

-- ---- the numbers below n

module _ {A : Type 0} where
  pub length-up_to : (f : ℕ → A) (n : ℕ) → length (map f (up_to n)) ≡ n
  length-up_to f n = length-map (up_to n) f ∙ length-count_from n 0

  pub count_from-at : (f : ℕ → A) (n k i : ℕ) (d : A) → i < n → get_or (map f (count_from n k)) i d ≡ f (k + i)
  unfolding count_from
  count_from-at f zero k i d h = absurd (omega arith)
  count_from-at f (suc n) k zero d h = let z : k ≡ k + 0 = omega arith in ap f z
  count_from-at f (suc n) k (suc i) d h =
      let z : (k + 1) + i ≡ k + suc i = omega arith in
      count_from-at f n (k + 1) i d (omega arith) ∙ ap f z

  pub up_to-at : (f : ℕ → A) (n i : ℕ) (d : A) → i < n → get_or (map f (up_to n)) i d ≡ f i
  up_to-at f n i d h = let z : 0 + i ≡ i = omega arith in count_from-at f n 0 i d h ∙ ap f z

  pub up_to-any : (p : A → Bool) (f : ℕ → A) (n i : ℕ) → i < n → p (f i) ≡ true → any_of p (map f (up_to n)) ≡ true
  up_to-any p f n i h e = at-any p (map f (up_to n)) (f 0) i (omega (arith, length-up_to f n)) (ap p (up_to-at f n i (f 0) h) ∙ e)

  pub any-up_to : (p : A → Bool) (f : ℕ → A) (n : ℕ) → any_of p (map f (up_to n)) ≡ true → (i : ℕ) × (i < n) × (p (f i) ≡ true)
  any-up_to p f n h =
      let r = any_at p (map f (up_to n)) (f 0) h in
      let k : r.0 < n = omega (arith, r.1, length-up_to f n) in
      (r.0, k, sym (ap p (up_to-at f n r.0 (f 0) k)) ∙ r.2)

  pub up_to-none : (p : A → Bool) (f : ℕ → A) (n : ℕ) → ((i : ℕ) → i < n → p (f i) ≡ false) → any_of p (map f (up_to n)) ≡ false
  up_to-none p f n h = not-true (λ e. let r = any-up_to p f n e in clash_bool r.2 (h r.0 r.1))

  pub all_up_to : (p : A → Bool) (f : ℕ → A) (n : ℕ) → all_of p (map f (up_to n)) ≡ true → (i : ℕ) → i < n → p (f i) ≡ true
  all_up_to p f n h i k =
      sym (ap p (up_to-at f n i (f 0) k)) ∙ all_at p (map f (up_to n)) (f 0) h i (omega (arith, length-up_to f n))

  pub up_to_all : (p : A → Bool) (f : ℕ → A) (n : ℕ) → ((i : ℕ) → i < n → p (f i) ≡ true) → all_of p (map f (up_to n)) ≡ true
  up_to_all p f n h = at_all p (map f (up_to n)) (f 0)
      (λ i k. let b : i < n = omega (arith, length-up_to f n) in ap p (up_to-at f n i (f 0) b) ∙ h i b)

  pub distinct-up_to : (s : A → A → Bool) (f : ℕ → A) (n : ℕ) → distinct s (map f (up_to n)) ≡ true
      → (i j : ℕ) → i < j → j < n → s (f i) (f j) ≡ false
  distinct-up_to s f n h i j a b =
      sym (λ t. s (up_to-at f n i (f 0) (omega arith) t) (up_to-at f n j (f 0) b t))
      ∙ distinct-at s (map f (up_to n)) (f 0) h i j a (omega (arith, length-up_to f n))

  pub up_to-distinct : (s : A → A → Bool) (f : ℕ → A) (n : ℕ)
      → ((i j : ℕ) → i < j → j < n → s (f i) (f j) ≡ false) → distinct s (map f (up_to n)) ≡ true
  up_to-distinct s f n h = at-distinct s (map f (up_to n)) (f 0)
      (λ i j a b.
      let c : j < n = omega (arith, length-up_to f n) in
      let c' : i < n = omega arith in
      (λ t. s (up_to-at f n i (f 0) c' t) (up_to-at f n j (f 0) c t)) ∙ h i j a c)

-- ---- a set kept as marks

-- every member passes: every marked number does
module _ (p : ℕ → Bool) where
  marked_all : (k : ℕ) (s : List Bool) → ((v : ℕ) → get_or s v false ≡ true → p (k + v) ≡ true) → all_of p (marked_from k s) ≡ true
  unfolding all_of marked_from
  marked_all k [] h = refl
  marked_all k (true ∷ s) h =
      let z : k + 0 ≡ k = omega arith in
      all_here p k (marked_from (k + 1) s) (sym (ap p z) ∙ h 0 refl)
      ∙ marked_all (k + 1) s (λ v e. let z : (k + 1) + v ≡ k + suc v = omega arith in ap p z ∙ h (suc v) e)
  marked_all k (false ∷ s) h = marked_all (k + 1) s (λ v e. let z : (k + 1) + v ≡ k + suc v = omega arith in ap p z ∙ h (suc v) e)

  all_marked : (k : ℕ) (s : List Bool) → all_of p (marked_from k s) ≡ true → (v : ℕ) → get_or s v false ≡ true → p (k + v) ≡ true
  unfolding all_of marked_from
  all_marked k [] h v e = absurd (clash_bool e refl)
  all_marked k (true ∷ s) h zero e =
      let z : k + 0 ≡ k = omega arith in
      ap p z ∙ not-false (λ t. clash_bool h (all_fails p k (marked_from (k + 1) s) t))
  all_marked k (true ∷ s) h (suc v) e =
      let t : p k ≡ true = not-false (λ t. clash_bool h (all_fails p k (marked_from (k + 1) s) t)) in
      let z : (k + 1) + v ≡ k + suc v = omega arith in
      sym (ap p z) ∙ all_marked (k + 1) s (sym (all_here p k (marked_from (k + 1) s) t) ∙ h) v e
  all_marked k (false ∷ s) h zero e = absurd (clash_bool e refl)
  all_marked k (false ∷ s) h (suc v) e =
      let z : (k + 1) + v ≡ k + suc v = omega arith in
      sym (ap p z) ∙ all_marked (k + 1) s h v e

  pub members_all : (s : List Bool) → ((v : ℕ) → get_or s v false ≡ true → p v ≡ true) → all_of p (members s) ≡ true
  members_all s h = marked_all 0 s (λ v e. let z : 0 + v ≡ v = omega arith in ap p z ∙ h v e)

  pub all_members : (s : List Bool) → all_of p (members s) ≡ true → (v : ℕ) → get_or s v false ≡ true → p v ≡ true
  all_members s h v e = let z : 0 + v ≡ v = omega arith in sym (ap p z) ∙ all_marked 0 s h v e

  marked_any : (k : ℕ) (s : List Bool) (v : ℕ) → get_or s v false ≡ true → p (k + v) ≡ true → any_of p (marked_from k s) ≡ true
  unfolding any_of marked_from
  marked_any k [] v e h = absurd (clash_bool e refl)
  marked_any k (true ∷ s) zero e h = let z : k + 0 ≡ k = omega arith in any_here p k (marked_from (k + 1) s) (sym (ap p z) ∙ h)
  marked_any k (true ∷ s) (suc v) e h =
      let z : (k + 1) + v ≡ k + suc v = omega arith in
      ⊎_elim
      (λ (t : p k ≡ true). any_here p k (marked_from (k + 1) s) t)
      (λ (t : p k ≡ false). any-later p k (marked_from (k + 1) s) t ∙ marked_any (k + 1) s v e (ap p z ∙ h))
      (bool_cases (p k))
  marked_any k (false ∷ s) zero e h = absurd (clash_bool e refl)
  marked_any k (false ∷ s) (suc v) e h = let z : (k + 1) + v ≡ k + suc v = omega arith in marked_any (k + 1) s v e (ap p z ∙ h)

  any_marked : (k : ℕ) (s : List Bool) → any_of p (marked_from k s) ≡ true → (v : ℕ) × (get_or s v false ≡ true) × (p (k + v) ≡ true)
  unfolding any_of marked_from
  any_marked k [] h = absurd (clash_bool h refl)
  any_marked k (true ∷ s) h = ⊎_elim
      (λ (t : p k ≡ true). let z : k + 0 ≡ k = omega arith in (0, refl, ap p z ∙ t))
      (λ (t : p k ≡ false).
      let r = any_marked (k + 1) s (sym (any-later p k (marked_from (k + 1) s) t) ∙ h) in
      let z : (k + 1) + r.0 ≡ k + suc r.0 = omega arith in
      (suc r.0, r.1, sym (ap p z) ∙ r.2))
      (bool_cases (p k))
  any_marked k (false ∷ s) h =
      let r = any_marked (k + 1) s h in
      let z : (k + 1) + r.0 ≡ k + suc r.0 = omega arith in
      (suc r.0, r.1, sym (ap p z) ∙ r.2)

  -- some member passes: some marked number does
  pub members-any : (s : List Bool) (v : ℕ) → get_or s v false ≡ true → p v ≡ true → any_of p (members s) ≡ true
  members-any s v e h = let z : 0 + v ≡ v = omega arith in marked_any 0 s v e (ap p z ∙ h)

  pub any-members : (s : List Bool) → any_of p (members s) ≡ true → (v : ℕ) × (get_or s v false ≡ true) × (p v ≡ true)
  any-members s h =
      let r = any_marked 0 s h in
      let z : 0 + r.0 ≡ r.0 = omega arith in
      (r.0, r.1, sym (ap p z) ∙ r.2)

-- x is a member of the set exactly where it is marked
pub member_marked : (s : List Bool) (v : ℕ) → member v (members s) ≡ get_or s v false
member_marked s v = bool_ext (member v (members s)) (get_or s v false)
    (λ h. let r = any-members (eqb v) s h in let e : v ≡ r.0 = eqb-true v r.0 r.2 in rw e r.1)
    (λ h. members-any (eqb v) s v h (eqb_same v))

-- ---- the entries that pass

module _ {A : Type 0} where
  pub keep-any : (p q : A → Bool) (l : List A) → any_of q (keep p l) ≡ any_of (λ x. p x && q x) l
  unfolding any_of keep
  keep-any p q [] = refl
  keep-any p q (x ∷ l) = ⊎_elim
      (λ (t : p x ≡ true). rw t (⊎_elim
      (λ (u : q x ≡ true). any_here q x (keep p l) u ∙ sym (any_here (λ x. p x && q x) x l (rw (t, u))))
      (λ (u : q x ≡ false). any-later q x (keep p l) u ∙ keep-any p q l ∙ sym (any-later (λ x. p x && q x) x l (rw (t, u))))
      (bool_cases (q x))))
      (λ (t : p x ≡ false). rw t (keep-any p q l ∙ sym (any-later (λ x. p x && q x) x l (rw t))))
      (bool_cases (p x))

  pub keep_all : (p q : A → Bool) (l : List A) → all_of q (keep p l) ≡ all_of (λ x. not (p x) || q x) l
  unfolding all_of keep
  keep_all p q [] = refl
  keep_all p q (x ∷ l) = ⊎_elim
      (λ (t : p x ≡ true). rw t (⊎_elim
      (λ (u : q x ≡ true). all_here q x (keep p l) u ∙ keep_all p q l ∙ sym (all_here (λ x. not (p x) || q x) x l (rw (t, u))))
      (λ (u : q x ≡ false). all_fails q x (keep p l) u ∙ sym (all_fails (λ x. not (p x) || q x) x l (rw (t, u))))
      (bool_cases (q x))))
      (λ (t : p x ≡ false). rw t (keep_all p q l ∙ sym (all_here (λ x. not (p x) || q x) x l (rw t))))
      (bool_cases (p x))

  -- ---- equal tests, equal entries

  pub all_ext : (p q : A → Bool) (l : List A) → ((x : A) → p x ≡ q x) → all_of p l ≡ all_of q l
  all_ext p q l h = ap (λ (f : A → Bool). all_of f l) (λ i x. h x i)

  map-count_from_ext : (f g : ℕ → A) (n k : ℕ) → ((i : ℕ) → k ≤ i → i < k + n → f i ≡ g i) → map f (count_from n k) ≡ map g (count_from n k)
  unfolding count_from
  map-count_from_ext f g zero k h = refl
  map-count_from_ext f g (suc n) k h = λ t. h k (omega arith) (omega arith) t ∷ map-count_from_ext f g n (k + 1) (λ i a b. h i (omega arith) (omega arith)) t

  pub up_to_ext : (f g : ℕ → A) (n : ℕ) → ((i : ℕ) → i < n → f i ≡ g i) → map f (up_to n) ≡ map g (up_to n)
  up_to_ext f g n h = map-count_from_ext f g n 0 (λ i a b. h i (omega arith))

  -- ---- one entry more, at the end

  map-count_from-suc : (f : ℕ → A) (n k : ℕ) → map f (count_from (suc n) k) ≡ map f (count_from n k) ++ (f (k + n) ∷ [])
  unfolding count_from
  map-count_from-suc f zero k = let z : k ≡ k + 0 = omega arith in ap (λ (i : ℕ). f i ∷ []) z
  map-count_from-suc f (suc n) k =
      let z : (k + 1) + n ≡ k + suc n = omega arith in
      ap (λ (l : List A). f k ∷ l) (map-count_from-suc f n (k + 1) ∙ ap (λ (i : ℕ). map f (count_from n (k + 1)) ++ (f i ∷ [])) z)

  pub up_to-suc : (f : ℕ → A) (n : ℕ) → map f (up_to (n + 1)) ≡ map f (up_to n) ++ (f n ∷ [])
  up_to-suc f n =
      let z : n + 1 ≡ suc n = omega arith in
      let w : 0 + n ≡ n = omega arith in
      ap (λ (i : ℕ). map f (up_to i)) z ∙ map-count_from-suc f n 0 ∙ ap (λ (i : ℕ). map f (up_to n) ++ (f i ∷ [])) w

  pub any_snoc : (p : A → Bool) (l : List A) (x : A) → any_of p (l ++ (x ∷ [])) ≡ (any_of p l || p x)
  unfolding any_of
  any_snoc p l x = any_append p l (x ∷ []) ∙ ap (λ (b : Bool). any_of p l || b) (one (p x) refl)
    where
      one : (b : Bool) → p x ≡ b → any_of p (x ∷ []) ≡ p x
      one true e = any_here p x [] e ∙ sym e
      one false e = any-later p x [] e ∙ sym e

  pub all_snoc : (p : A → Bool) (l : List A) (x : A) → all_of p (l ++ (x ∷ [])) ≡ (all_of p l && p x)
  unfolding all_of
  all_snoc p l x = all_append p l (x ∷ []) ∙ ap (λ (b : Bool). all_of p l && b) (one (p x) refl)
    where
      one : (b : Bool) → p x ≡ b → all_of p (x ∷ []) ≡ p x
      one true e = all_here p x [] e ∙ sym e
      one false e = all_fails p x [] e ∙ sym e

  pub distinct_snoc : (s : A → A → Bool) (l : List A) (x : A) → distinct s (l ++ (x ∷ [])) ≡ (distinct s l && not (any_of (λ y. s y x) l))
  unfolding distinct any_of
  distinct_snoc s [] x = refl
  distinct_snoc s (y ∷ l) x = ⊎_elim
      (λ (e : any_of (s y) l ≡ true).
      let t : any_of (s y) (l ++ (x ∷ [])) ≡ true = any_snoc (s y) l x ∙ or_inl (any_of (s y) l) (s y x) e in
      distinct_fails s y (l ++ (x ∷ [])) t ∙ ap (λ (b : Bool). b && not (any_of (λ y. s y x) (y ∷ l))) (sym (distinct_fails s y l e)))
      (λ (e : any_of (s y) l ≡ false). ⊎_elim
      (λ (u : s y x ≡ true).
      let t : any_of (s y) (l ++ (x ∷ [])) ≡ true = any_snoc (s y) l x ∙ or_inr (any_of (s y) l) (s y x) u in
      let v : any_of (λ y. s y x) (y ∷ l) ≡ true = any_here (λ y. s y x) y l u in
      distinct_fails s y (l ++ (x ∷ [])) t ∙ sym (ap (λ (b : Bool). distinct s (y ∷ l) && not b) v ∙ and-false (distinct s (y ∷ l))))
      (λ (u : s y x ≡ false).
      let t : any_of (s y) (l ++ (x ∷ [])) ≡ false = any_snoc (s y) l x ∙ (λ i. e i || u i) in
      distinct_here s y (l ++ (x ∷ [])) t ∙ distinct_snoc s l x
      ∙ (λ i. sym (distinct_here s y l e) i && not (sym (any-later (λ y. s y x) y l u) i)))
      (bool_cases (s y x)))
      (bool_cases (any_of (s y) l))

-- ---- the same of `map f (up_to i)`, as a loop goes on

module _ {A : Type 0} where
  pub all_none : (p : A → Bool) (f : ℕ → A) → all_of p (map f (up_to 0)) ≡ true
  all_none p f = up_to_all p f 0 (λ i k. absurd (omega arith))

  pub all_grows : (p : A → Bool) (f : ℕ → A) (i : ℕ) → all_of p (map f (up_to (i + 1))) ≡ (all_of p (map f (up_to i)) && p (f i))
  all_grows p f i = ap (all_of p) (up_to-suc f i) ∙ all_snoc p (map f (up_to i)) (f i)

  pub distinct_none : (s : A → A → Bool) (f : ℕ → A) → distinct s (map f (up_to 0)) ≡ true
  distinct_none s f = up_to-distinct s f 0 (λ i j a k. absurd (omega arith))

  pub distinct_grows : (s : A → A → Bool) (f : ℕ → A) (i : ℕ) → distinct s (map f (up_to i)) ≡ true
      → any_of (λ y. s y (f i)) (map f (up_to i)) ≡ false → distinct s (map f (up_to (i + 1))) ≡ true
  distinct_grows s f i d e = ap (distinct s) (up_to-suc f i) ∙ distinct_snoc s (map f (up_to i)) (f i) ∙ rw (d, e) refl

  pub distinct_broken : (s : A → A → Bool) (f : ℕ → A) (n i : ℕ) → i < n → any_of (λ y. s y (f i)) (map f (up_to i)) ≡ true
      → distinct s (map f (up_to n)) ≡ false
  distinct_broken s f n i k e = not-true (λ h.
      let r = any-up_to (λ y. s y (f i)) f i e in
      clash_bool r.2 (distinct-up_to s f n h r.0 i r.1 k))

-- a range of numbers, in std's words
pub ranged : (n k : ℕ) → count_from n k ≡ range_with_len k n
unfolding count_from
ranged zero k = refl
ranged (suc n) k = ap (λ (l : List ℕ). k ∷ l) (ranged n (k + 1))

any_mapped : {A : Type 0} (p : A → Bool) (f : ℕ → A) (l : List ℕ) → list_any p (map f l) ≡ list_any (λ i. p (f i)) l
any_mapped p f [] = refl
any_mapped p f (i ∷ l) = ap (λ (b : Bool). p (f i) || b) (any_mapped p f l)

all_mapped : {A : Type 0} (p : A → Bool) (f : ℕ → A) (l : List ℕ) → list_all p (map f l) ≡ list_all (λ i. p (f i)) l
all_mapped p f [] = refl
all_mapped p f (i ∷ l) = ap (λ (b : Bool). p (f i) && b) (all_mapped p f l)

-- what `all` answers over a range
pub all_ranged : {A : Type 0} (p : A → Bool) (f : ℕ → A) (n : ℕ) → list_all (λ i. p (f i)) (range_with_len 0 n) ≡ all_of p (map f (up_to n))
all_ranged p f n = ap (list_all (λ i. p (f i))) (sym (ranged n 0)) ∙ sym (all_mapped p f (up_to n)) ∙ sym (all_listed p (map f (up_to n)))

-- what `any` answers over a range
pub any_ranged : {A : Type 0} (p : A → Bool) (f : ℕ → A) (n : ℕ) → list_any (λ i. p (f i)) (range_with_len 0 n) ≡ any_of p (map f (up_to n))
any_ranged p f n = ap (list_any (λ i. p (f i))) (sym (ranged n 0)) ∙ sym (any_mapped p f (up_to n)) ∙ sym (any_listed p (map f (up_to n)))

-- a number is in the list of the numbers below n exactly where it is below n
pub any-numbers : (p : ℕ → Bool) (n : ℕ) → any_of p (map (λ (i : ℕ). i) (up_to n)) ≡ any_of p (up_to n)
any-numbers p n = ap (any_of p) (map_same (up_to n))
  where
    map_same : (l : List ℕ) → map (λ (i : ℕ). i) l ≡ l
    map_same [] = refl
    map_same (x ∷ l) = ap (λ (m : List ℕ). x ∷ m) (map_same l)

pub member-up_to : (v n : ℕ) → member v (up_to n) ≡ ltb v n
member-up_to v n = bool_ext (member v (up_to n)) (ltb v n)
    (λ h. let r = any-up_to (eqb v) (λ (i : ℕ). i) n (any-numbers (eqb v) n ∙ h) in
    let e : v ≡ r.0 = eqb-true v r.0 r.2 in
    lt-ltb v n (omega (arith, r.1)))
    (λ h. sym (any-numbers (eqb v) n) ∙ up_to-any (eqb v) (λ (i : ℕ). i) n v (ltb-true v n h) (eqb_same v))

pub member-keep : (p : ℕ → Bool) (v : ℕ) (l : List ℕ) → member v (keep p l) ≡ (p v && member v l)
member-keep p v l = keep-any p (eqb v) l ∙ bool_ext (any_of (λ x. p x && eqb v x) l) (p v && member v l)
    (λ h. let r = any_at (λ x. p x && eqb v x) l 0 h in
    let e : v ≡ get_or l r.0 0 = eqb-true _ _ (and_r (p (get_or l r.0 0)) (eqb v (get_or l r.0 0)) r.2) in
    and_intro (p v) (member v l) (ap p e ∙ and_l (p (get_or l r.0 0)) (eqb v (get_or l r.0 0)) r.2)
    (at-any (eqb v) l 0 r.0 r.1 (and_r (p (get_or l r.0 0)) (eqb v (get_or l r.0 0)) r.2)))
    (λ h. let r = any_at (eqb v) l 0 (and_r (p v) (member v l) h) in
    let e : v ≡ get_or l r.0 0 = eqb-true _ _ r.2 in
    at-any (λ x. p x && eqb v x) l 0 r.0 r.1 (and_intro (p (get_or l r.0 0)) (eqb v (get_or l r.0 0)) (sym (ap p e) ∙ and_l (p v) (member v l) h) r.2))

-- ---- an entry of a list's image

pub map_at : {A B : Type 0} (f : A → B) (l : List A) (i : ℕ) (a : A) (b : B) → i < length l → get_or (map f l) i b ≡ f (get_or l i a)
map_at f [] i a b h = absurd (omega arith)
map_at f (x ∷ l) zero a b h = refl
map_at f (x ∷ l) (suc i) a b h = map_at f l i a b (omega arith)

-- within a list the default does not matter
pub any_default : (l : List ℕ) (i a b : ℕ) → i < length l → get_or l i a ≡ get_or l i b
any_default [] i a b h = absurd (omega arith)
any_default (x ∷ l) zero a b h = refl
any_default (x ∷ l) (suc i) a b h = any_default l i a b (omega arith)

-- what a run of `next` that ended gave, of an iterator that yields a list
pub run_gave : {S A B : Type 0} {steps : S → Option A → S → Type 0} {v : A → B} {s : S} {all : List B} (p : Run steps) → p.from ≡ s → p.whole ≡ true → YieldsList steps v s all → map v p.items ≡ all
unfolding YieldsRun
run_gave {steps = steps} {v} {s} {all} p from whole e =
    let d = p.gave.0 in
    items_from_drains p.items (d.0, d.1, λ _. d.2 whole) (subst (λ t. YieldsList steps v t all) (sym from) e)

-- what `array::from_fn` made by calls of a closure that changes nothing
module _ {F B : Type 0} (g : Mut F (ℕ × Unit {0}) B) (f : F) (h : ℕ → B) (k : (i : ℕ) (r : B) (q : F) → Called g f (i, tt) r q → (q ≡ f) × (r ≡ h i)) where
  calls_from : (n i : ℕ) (p : F) (l : List B) → p ≡ f → IsFromFnResultFrom g p l i n → (j : ℕ) (d : B) → i ≤ j → j < i + n → get_or l j d ≡ h j
  calls_from zero i p l e m j d a b = absurd (omega arith)
  calls_from (suc n) i p l e m j d a b =
      let one = k i m.1 m.0 (subst (λ (p : F). Called g p (i, tt) m.1 m.0) e m.3) in
      elim (ℕ_discrete j i) [
        | yes z ↦ rw z (m.2.1 d ∙ one.1)
        | no z ↦ calls_from n (i + 1) m.0 l one.0 m.4 j d (omega arith) (omega arith)
      ]

pub from_calls : {F B : Type 0} (g : Mut F (ℕ × Unit {0}) B) (f : F) (l : List B) (n : ℕ) (h : ℕ → B) → IsFromFnResult g f l n
    → ((i : ℕ) (r : B) (q : F) → Called g f (i, tt) r q → (q ≡ f) × (r ≡ h i)) → (j : ℕ) (d : B) → j < n → get_or l j d ≡ h j
from_calls g f l n h m k j d a = calls_from g f h k n 0 f l refl m.each j d (omega arith) (omega arith)
