-- The register rules on lists of entries: where a key stands, what putting it does, and that a definition goes map by map. Assumes nothing.
use mathlib.Core.Path.{◌≡◌, refl, sym, ◌∙◌, ap}
use mathlib.Core.Bool.{Bool, true, false, cond, ◌&&◌}
use mathlib.Core.Logic.{⊎_elim}
use mathlib.Core.List.{List, [], ◌∷◌, ◌++◌}
use Prim.Native.Nat.{ℕ, zero, suc, ◌+◌, ◌<◌, ◌≤◌}
use native.Mathlib.Omega.{arith}
use native.Mathlib.Decide.{ℕ_discrete}
use lib.Dec.{eqb, ltb}
use lib.ListN.{length, get_or, set, length-append}
use borrow.Author.Tests.{eq-eqb, eqb-true, lt-ltb, le-ltb, ltb-true}
use Rattle.file.specs.Lists.{any_of, distinct, count_from}
use Rattle.graph.specs.Dag.{Entry, entry, same_key}
use Rattle.file.proofs.BoolLaws.{bool_cases, clash_bool, not-true, bool_ext, and_l, and_r}
use Rattle.graph.proofs.ListLaws.{any_here, any-later, distinct_first, distinct-rest, distinct_more, at-any}
use Rattle.registers.specs.Registers.{Maps, has_key, put, define}
use Rattle.registers.specs.RegisterMaps.{put_all, definition}

-- ---- tests

-- ---- the same key

pub same_name : (x y : Entry) → same_key x y ≡ true → x.name ≡ y.name
same_name x y h = eqb-true _ _ (and_l (eqb x.name y.name) (eqb x.index y.index) h)

pub same_index : (x y : Entry) → same_key x y ≡ true → x.index ≡ y.index
same_index x y h = eqb-true _ _ (and_r (eqb x.name y.name) (eqb x.index y.index) h)

pub same_by : (x y : Entry) → x.name ≡ y.name → x.index ≡ y.index → same_key x y ≡ true
same_by x y p q = rw (eq-eqb _ _ p, eq-eqb _ _ q) refl

pub same_sym : (x y : Entry) → same_key x y ≡ same_key y x
same_sym x y = bool_ext (same_key x y) (same_key y x)
    (λ h. same_by y x (sym (same_name x y h)) (sym (same_index x y h)))
    (λ h. same_by x y (sym (same_name y x h)) (sym (same_index y x h)))

-- the test sees only the key
pub same_left : (x y z : Entry) → same_key x y ≡ true → same_key x z ≡ same_key y z
same_left x y z h = rw (same_name x y h, same_index x y h) refl

pub same_right : (x y z : Entry) → same_key x y ≡ true → same_key z x ≡ same_key z y
same_right x y z h = rw (same_name x y h, same_index x y h) refl

-- ---- the rules, step by step

pub any_none : (q : Entry → Bool) → any_of q [] ≡ false
unfolding any_of
any_none q = refl

pub put_yes : (x y : Entry) (l : List Entry) → same_key x y ≡ true → put x (y ∷ l) ≡ x ∷ l
unfolding put
put_yes x y l t = ap (λ (b : Bool). cond b (x ∷ l) (y ∷ put x l)) t

pub put_no : (x y : Entry) (l : List Entry) → same_key x y ≡ false → put x (y ∷ l) ≡ y ∷ put x l
unfolding put
put_no x y l t = ap (λ (b : Bool). cond b (x ∷ l) (y ∷ put x l)) t

pub put-none : (x : Entry) → put x [] ≡ x ∷ []
unfolding put
put-none x = refl

pub distinct_none : distinct same_key [] ≡ true
unfolding distinct
distinct_none = refl

-- ---- where a key stands

pub any_false : (q : Entry → Bool) (l : List Entry) (d : Entry) → ((k : ℕ) → k < length l → q (get_or l k d) ≡ true → ⊥) → any_of q l ≡ false
any_false q [] d h = any_none q
any_false q (y ∷ l) d h = any-later q y l (not-true (h 0 (omega arith))) ∙ any_false q l d (λ k b. h (suc k) (omega arith))

any_tail : (q : Entry → Bool) (y : Entry) (l m : List Entry) → any_of q l ≡ any_of q m → any_of q (y ∷ l) ≡ any_of q (y ∷ m)
any_tail q y l m e = ⊎_elim
    (λ (t : q y ≡ true). any_here q y l t ∙ sym (any_here q y m t))
    (λ (t : q y ≡ false). any-later q y l t ∙ e ∙ sym (any-later q y m t))
    (bool_cases (q y))

pub any_append : (q : Entry → Bool) (l : List Entry) (y : Entry) → any_of q l ≡ false → q y ≡ false → any_of q (l ++ (y ∷ [])) ≡ false
any_append q [] y e t = any-later q y [] t ∙ e
any_append q (z ∷ l) y e t =
    let u : q z ≡ false = not-true (λ (s : q z ≡ true). clash_bool (any_here q z l s) e) in
    any-later q z (l ++ (y ∷ [])) u ∙ any_append q l y (sym (any-later q z l u) ∙ e) t

pub has_left : (x y : Entry) (l : List Entry) → same_key x y ≡ true → has_key x l ≡ has_key y l
has_left x y [] h = any_none (same_key x) ∙ sym (any_none (same_key y))
has_left x y (z ∷ l) h = ⊎_elim
    (λ (t : same_key y z ≡ true). any_here (same_key x) z l (same_left x y z h ∙ t) ∙ sym (any_here (same_key y) z l t))
    (λ (t : same_key y z ≡ false). any-later (same_key x) z l (same_left x y z h ∙ t) ∙ has_left x y l h ∙ sym (any-later (same_key y) z l t))
    (bool_cases (same_key y z))

-- ---- what putting a key does

pub put-found : (x d : Entry) (l : List Entry) (p : ℕ) → p < length l → distinct same_key l ≡ true → same_key x (get_or l p d) ≡ true → put x l ≡ set l p x
put-found x d [] p h n e = absurd (omega arith)
put-found x d (y ∷ l) zero h n e = put_yes x y l e
put-found x d (y ∷ l) (suc p) h n e =
    let t : same_key x y ≡ false = not-true (λ (s : same_key x y ≡ true). clash_bool (at-any (same_key y) l d p (omega arith) (sym (same_left x y (get_or l p d) s) ∙ e)) (distinct_first same_key y l n)) in
    put_no x y l t ∙ ap (λ (m : List Entry). y ∷ m) (put-found x d l p (omega arith) (distinct-rest same_key y l n) e)

pub put-absent : (x : Entry) (l : List Entry) → has_key x l ≡ false → put x l ≡ l ++ (x ∷ [])
put-absent x [] h = put-none x
put-absent x (y ∷ l) h =
    let t : same_key x y ≡ false = not-true (λ (s : same_key x y ≡ true). clash_bool (any_here (same_key x) y l s) h) in
    put_no x y l t ∙ ap (λ (m : List Entry). y ∷ m) (put-absent x l (sym (any-later (same_key x) y l t) ∙ h))

pub length-put-has : (x : Entry) (l : List Entry) → has_key x l ≡ true → length (put x l) ≡ length l
length-put-has x [] h = absurd (clash_bool h (any_none (same_key x)))
length-put-has x (y ∷ l) h = ⊎_elim
    (λ (t : same_key x y ≡ true). ap length (put_yes x y l t))
    (λ (t : same_key x y ≡ false). ap length (put_no x y l t) ∙ ap suc (length-put-has x l (sym (any-later (same_key x) y l t) ∙ h)))
    (bool_cases (same_key x y))

pub length-put-new : (x : Entry) (l : List Entry) → has_key x l ≡ false → length (put x l) ≡ length l + 1
length-put-new x l h = ap length (put-absent x l h) ∙ length-append l (x ∷ [])

pub put_grows : (x : Entry) (l : List Entry) → length l ≤ length (put x l)
put_grows x l = ⊎_elim
    (λ (t : has_key x l ≡ true). omega (arith, length-put-has x l t))
    (λ (t : has_key x l ≡ false). omega (arith, length-put-new x l t))
    (bool_cases (has_key x l))

-- the key put stands, and so does each that stood
pub has-put_same : (x : Entry) (l : List Entry) → has_key x (put x l) ≡ true
has-put_same x [] = ap (has_key x) (put-none x) ∙ any_here (same_key x) x [] (same_by x x refl refl)
has-put_same x (z ∷ l) = ⊎_elim
    (λ (t : same_key x z ≡ true). ap (has_key x) (put_yes x z l t) ∙ any_here (same_key x) x l (same_by x x refl refl))
    (λ (t : same_key x z ≡ false). ap (has_key x) (put_no x z l t) ∙ any-later (same_key x) z (put x l) t ∙ has-put_same x l)
    (bool_cases (same_key x z))

pub has-put_other : (x y : Entry) (l : List Entry) → same_key x y ≡ false → has_key x (put y l) ≡ has_key x l
has-put_other x y [] n = ap (has_key x) (put-none y) ∙ any-later (same_key x) y [] n
has-put_other x y (z ∷ l) n = ⊎_elim
    (λ (t : same_key y z ≡ true). ap (has_key x) (put_yes y z l t) ∙ any-later (same_key x) y l n ∙ sym (any-later (same_key x) z l (sym (same_right y z x t) ∙ n)))
    (λ (t : same_key y z ≡ false). ap (has_key x) (put_no y z l t) ∙ any_tail (same_key x) z (put y l) l (has-put_other x y l n))
    (bool_cases (same_key y z))

pub distinct-put : (x : Entry) (l : List Entry) → distinct same_key l ≡ true → distinct same_key (put x l) ≡ true
distinct-put x [] h = ap (distinct same_key) (put-none x) ∙ distinct_more same_key x [] (any_none (same_key x)) h
distinct-put x (z ∷ l) h = ⊎_elim
    (λ (t : same_key x z ≡ true). ap (distinct same_key) (put_yes x z l t) ∙ distinct_more same_key x l (has_left x z l t ∙ distinct_first same_key z l h) (distinct-rest same_key z l h))
    (λ (t : same_key x z ≡ false). ap (distinct same_key) (put_no x z l t)
    ∙ distinct_more same_key z (put x l) (has-put_other z x l (same_sym z x ∙ t) ∙ distinct_first same_key z l h) (distinct-put x l (distinct-rest same_key z l h)))
    (bool_cases (same_key x z))

-- put twice is put once
pub put-put : (x : Entry) (l : List Entry) → put x (put x l) ≡ put x l
put-put x [] = rw (put-none x) (put_yes x x [] (same_by x x refl refl))
put-put x (z ∷ l) = ⊎_elim
    (λ (t : same_key x z ≡ true). rw (put_yes x z l t) (put_yes x x l (same_by x x refl refl)))
    (λ (t : same_key x z ≡ false). rw (put_no x z l t) (put_no x z (put x l) t ∙ ap (λ (m : List Entry). z ∷ m) (put-put x l)))
    (bool_cases (same_key x z))

-- of two keys one of which stands the order does not matter
pub put-commutes : (x y : Entry) (l : List Entry) → has_key x l ≡ true → same_key x y ≡ false → put y (put x l) ≡ put x (put y l)
put-commutes x y [] h n = absurd (clash_bool h (any_none (same_key x)))
put-commutes x y (z ∷ l) h n = ⊎_elim
    (λ (t : same_key x z ≡ true).
    let u : same_key y x ≡ false = same_sym y x ∙ n in
    let w : same_key y z ≡ false = sym (same_right x z y t) ∙ u in
    rw (put_yes x z l t, put_no y z l w, put_no y x l u, put_yes x z (put y l) t) refl)
    (λ (t : same_key x z ≡ false). ⊎_elim
    (λ (w : same_key y z ≡ true). rw (put_no x z l t, put_yes y z l w, put_yes y z (put x l) w, put_no x y l n) refl)
    (λ (w : same_key y z ≡ false).
    rw (put_no x z l t, put_no y z l w, put_no y z (put x l) w, put_no x z (put y l) t)
    (ap (λ (m : List Entry). z ∷ m) (put-commutes x y l (sym (any-later (same_key x) z l t) ∙ h) n)))
    (bool_cases (same_key y z)))
    (bool_cases (same_key x z))

-- ---- several keys

-- a definition on both maps is that on each
pub define_each : (xs : List Entry) (r : Maps) → define xs r ≡ record { near = put_all xs r.near; far = put_all xs r.far }
unfolding define put_all
define_each [] r = refl
define_each (x ∷ xs) r = define_each xs (record { near = put x r.near; far = put x r.far })

pub put_all_grows : (xs l : List Entry) → length l ≤ length (put_all xs l)
unfolding put_all
put_all_grows [] l = omega arith
put_all_grows (x ∷ xs) l = omega (arith, put_grows x l, put_all_grows xs (put x l))

pub other_index : (n v i j : ℕ) → (i ≡ j → ⊥) → same_key (entry n i v) (entry n j v) ≡ false
other_index n v i j h = not-true λ (t : same_key (entry n i v) (entry n j v) ≡ true). h (same_index (entry n i v) (entry n j v) t)

pub definition-step : (n v k j : ℕ) (l : List Entry) → put_all (definition n v (suc k) j) l ≡ put_all (definition n v k (j + 1)) (put (entry n j v) l)
unfolding put_all count_from
definition-step n v k j l = refl

pub definition-none : (n v j : ℕ) (l : List Entry) → put_all (definition n v 0 j) l ≡ l
unfolding put_all count_from
definition-none n v j l = refl

-- a key of the definition that stands may be put first
pub define_first : (n v k j i : ℕ) (l : List Entry) → j ≤ i → i < j + k → has_key (entry n i v) l ≡ true
    → put_all (definition n v k j) (put (entry n i v) l) ≡ put_all (definition n v k j) l
define_first n v zero j i l a b h = absurd (omega arith)
define_first n v (suc k) j i l a b h =
    rw (definition-step n v k j l, definition-step n v k j (put (entry n i v) l))
    (elim (ℕ_discrete i j) [
      | yes e ↦ rw e (ap (put_all (definition n v k (j + 1))) (put-put (entry n j v) l))
      | no e ↦
          let d : same_key (entry n i v) (entry n j v) ≡ false = other_index n v i j e in
          ap (put_all (definition n v k (j + 1))) (put-commutes (entry n i v) (entry n j v) l h d)
          ∙ define_first n v k (j + 1) i (put (entry n j v) l) (omega arith) (omega arith) (has-put_other (entry n i v) (entry n j v) l d ∙ h)
    ])

-- ---- a definition's length

-- how many entries of the name n have an index below j
unfoldable counted : ℕ → ℕ → List Entry → ℕ
counted n j [] = 0
counted n j (z ∷ l) = cond (eqb z.name n && ltb z.index j) 1 0 + counted n j l

counted_low : (n j : ℕ) (l : List Entry) → counted n j l ≤ length l
unfolding counted
counted_low n j [] = omega arith
counted_low n j (z ∷ l) = omega (arith, counted_low n j l, bit (eqb z.name n && ltb z.index j))
  where
    bit : (b : Bool) → cond b 1 0 ≤ 1
    bit true = omega arith
    bit false = omega arith

-- an index below j is below j + 1
bit_more : (z : Entry) (n j : ℕ) → cond (eqb z.name n && ltb z.index j) 1 0 ≤ cond (eqb z.name n && ltb z.index (j + 1)) 1 0
bit_more z n j = ⊎_elim
    (λ (t : ltb z.index j ≡ true). let h : z.index < j = ltb-true _ _ t in rw (t, lt-ltb z.index (j + 1) (omega arith)) (omega arith))
    (λ (t : ltb z.index j ≡ false). rw t (low (eqb z.name n) (cond (eqb z.name n && ltb z.index (j + 1)) 1 0)))
    (bool_cases (ltb z.index j))
  where
    low : (a : Bool) (k : ℕ) → cond (a && false) 1 0 ≤ k
    low true k = omega arith
    low false k = omega arith

counted_more : (n j : ℕ) (l : List Entry) → counted n j l ≤ counted n (j + 1) l
unfolding counted
counted_more n j [] = omega arith
counted_more n j (z ∷ l) = omega (arith, counted_more n j l, bit_more z n j)

counted-put : (n v j : ℕ) (l : List Entry) → counted n j l + 1 ≤ counted n (j + 1) (put (entry n j v) l)
unfolding counted
counted-put n v j [] = rw (put-none (entry n j v), eq-eqb n n refl, lt-ltb j (j + 1) (omega arith)) (omega arith)
counted-put n v j (z ∷ l) = ⊎_elim
    (λ (t : same_key (entry n j v) z ≡ true).
    let e : eqb z.name n ≡ true = eq-eqb _ _ (sym (same_name (entry n j v) z t)) in
    let f : ltb z.index j ≡ false = le-ltb z.index j (omega (arith, same_index (entry n j v) z t)) in
    rw (put_yes (entry n j v) z l t, e, f, eq-eqb n n refl, lt-ltb j (j + 1) (omega arith)) (omega (arith, counted_more n j l)))
    (λ (t : same_key (entry n j v) z ≡ false).
    rw (put_no (entry n j v) z l t) (omega (arith, counted-put n v j l, bit_more z n j)))
    (bool_cases (same_key (entry n j v) z))

counted_all : (n v k j : ℕ) (l : List Entry) → counted n j l + k ≤ counted n (j + k) (put_all (definition n v k j) l)
counted_all n v zero j l = let z : j + 0 ≡ j = omega arith in rw (definition-none n v j l, z) (omega arith)
counted_all n v (suc k) j l =
    let z : j + suc k ≡ j + 1 + k = omega arith in
    rw (definition-step n v k j l, z) (omega (arith, counted-put n v j l, counted_all n v k (j + 1) (put (entry n j v) l)))

-- a definition of length m leaves at least m entries: one over 256 passes 256
pub definition_long : (n v m : ℕ) (l : List Entry) → m ≤ length (put_all (definition n v m 0) l)
definition_long n v m l = omega (arith, counted_all n v m 0 l, counted_low n (0 + m) (put_all (definition n v m 0) l))
