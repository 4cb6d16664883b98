-- The loop that keeps the keys of one name. Assumes nothing.
use mathlib.Core.Path.{◌≡◌, refl, sym, ◌∙◌, ap, subst}
use mathlib.Core.Bool.{Bool, true, false}
use mathlib.Core.List.{List, [], ◌∷◌, ◌++◌, map, append-nil}
use Prim.Native.Nat.{ℕ, ◌+◌, ◌-◌, ◌<◌, ◌≤◌}
use native.Mathlib.Omega.{arith}
use native.Mathlib.Numerals.{add-one}
use lib.Dec.{eqb}
use lib.ListN.{length, get_or, drop, length-append, length-map, drop_of_length-le, get_or-append}
use lib.Seq.{get_or-append-add, get_or-drop, drop-cons, append_snoc}
use native.Mathlib.Decide.{ℕ_discrete}
use borrow.Author.Tests.{eq-eqb, ne_eqb}
use Rattle.file.specs.Lists.{keep, cons_if, count_from, distinct, onto}
use Rattle.graph.specs.declared.Registers.{Registers}
use Rattle.graph.specs.Dag.{Entry, entry, same_key, entry_at, entries_of}
use Rattle.file.proofs.BoolLaws.{clash_bool, not-true}
use Rattle.graph.proofs.ListLaws.{any_here, any-later, distinct_first, distinct-rest, distinct_more, distinct-at}
use Rattle.registers.specs.Registers.{has_key, put, with_entries}
use Rattle.registers.specs.RegisterMaps.{of_name, Fits, Kept}
use Rattle.registers.proofs.RegisterLists.{any_none, any_false, same_index, same_by, same_sym, distinct_none, put-absent, length-put-new}
use Rattle.registers.proofs.RegisterArrays.{entries_by, fits_with, get_entries, kept_put, length_entries}

-- ---- the keys of one name

keep_yes : (q : Entry → Bool) (x : Entry) (l : List Entry) → q x ≡ true → keep q (x ∷ l) ≡ x ∷ keep q l
unfolding keep
keep_yes q x l t = ap (λ (b : Bool). cons_if b x (keep q l)) t

keep_no : (q : Entry → Bool) (x : Entry) (l : List Entry) → q x ≡ false → keep q (x ∷ l) ≡ keep q l
unfolding keep
keep_no q x l t = ap (λ (b : Bool). cons_if b x (keep q l)) t

keep-none : (q : Entry → Bool) → keep q [] ≡ []
unfolding keep
keep-none q = refl

pub name-none : (n v : ℕ) → of_name n v [] ≡ []
name-none n v = ap (map (λ (x : Entry). entry n x.index v)) (keep-none (λ x. eqb x.name n))

pub name_yes : (n v : ℕ) (x : Entry) (l : List Entry) → x.name ≡ n → of_name n v (x ∷ l) ≡ entry n x.index v ∷ of_name n v l
name_yes n v x l e = ap (map (λ (x : Entry). entry n x.index v)) (keep_yes (λ x. eqb x.name n) x l (eq-eqb _ _ e))

pub name_no : (n v : ℕ) (x : Entry) (l : List Entry) → (x.name ≡ n → ⊥) → of_name n v (x ∷ l) ≡ of_name n v l
name_no n v x l e = ap (map (λ (x : Entry). entry n x.index v)) (keep_no (λ x. eqb x.name n) x l (ne_eqb _ _ e))

has_of_name : (n v : ℕ) (y : Entry) (l : List Entry) → y.name ≡ n → has_key y l ≡ false → has_key (entry n y.index v) (of_name n v l) ≡ false
has_of_name n v y [] e h = ap (has_key (entry n y.index v)) (name-none n v) ∙ any_none (same_key (entry n y.index v))
has_of_name n v y (z ∷ l) e h =
    let o : same_key y z ≡ false = not-true (λ (t : same_key y z ≡ true). clash_bool (any_here (same_key y) z l t) h) in
    let i : has_key (entry n y.index v) (of_name n v l) ≡ false = has_of_name n v y l e (sym (any-later (same_key y) z l o) ∙ h) in
    elim (ℕ_discrete z.name n) [
      | yes t ↦
          let d : same_key (entry n y.index v) (entry n z.index v) ≡ false = not-true (λ (u : same_key (entry n y.index v) (entry n z.index v) ≡ true).
          clash_bool (same_by y z (e ∙ sym t) (same_index (entry n y.index v) (entry n z.index v) u)) o) in
          ap (has_key (entry n y.index v)) (name_yes n v z l t) ∙ any-later (same_key (entry n y.index v)) (entry n z.index v) (of_name n v l) d ∙ i
      | no t ↦ ap (has_key (entry n y.index v)) (name_no n v z l t) ∙ i
    ]

pub distinct_of_name : (n v : ℕ) (l : List Entry) → distinct same_key l ≡ true → distinct same_key (of_name n v l) ≡ true
distinct_of_name n v [] h = ap (distinct same_key) (name-none n v) ∙ distinct_none
distinct_of_name n v (y ∷ l) h =
    let i : distinct same_key (of_name n v l) ≡ true = distinct_of_name n v l (distinct-rest same_key y l h) in
    elim (ℕ_discrete y.name n) [
      | yes t ↦ ap (distinct same_key) (name_yes n v y l t) ∙ distinct_more same_key (entry n y.index v) (of_name n v l) (has_of_name n v y l t (distinct_first same_key y l h)) i
      | no t ↦ ap (distinct same_key) (name_no n v y l t) ∙ i
    ]

-- a key of distinct ones stands not before its place
distinct_before : (l m : List Entry) (x : Entry) → distinct same_key (l ++ (x ∷ m)) ≡ true → has_key x l ≡ false
distinct_before l m x h = any_false (same_key x) l (entry 0 0 0) λ k b e.
    let z : length l + 0 ≡ length l = omega arith in
    let t : same_key (get_or (l ++ (x ∷ m)) k (entry 0 0 0)) (get_or (l ++ (x ∷ m)) (length l + 0) (entry 0 0 0)) ≡ false
    = distinct-at same_key (l ++ (x ∷ m)) (entry 0 0 0) h k (length l + 0) (omega arith) (omega (arith, length-append l (x ∷ m))) in
    clash_bool (same_sym (get_or l k (entry 0 0 0)) x ∙ e) (rw (get_or-append-add l (x ∷ m) 0 (entry 0 0 0), get_or-append l (x ∷ m) (entry 0 0 0) k b) at t)

-- a position behind the entries written
get-onto : (l a : List ℕ) (p : ℕ) → length l ≤ p → get_or (onto l a) p 0 ≡ get_or a p 0
get-onto l a p h =
    let z : length l + (p - length l) ≡ p = omega arith in
    subst (λ (q : ℕ). get_or (onto l a) q 0 ≡ get_or a q 0) z
    (get_or-append-add l (drop (length l) a) (p - length l) 0 ∙ get_or-drop (length l) a (p - length l) 0)

module _ (n v : ℕ) (old : Registers) (f : Fits old) where
  -- of the first p entries those of the name stand in front
  pub record Keeping (new : Registers) (p : ℕ) : Type 0 where
    pub fewer : new.count ≤ p
    pub kept : Kept old new
    pub same : entries_of new ++ of_name n v (drop p (entries_of old)) ≡ of_name n v (entries_of old)

  -- the map without entries
  abbrev pub emptied : Registers
  emptied = record { count = 0; name = old.name; index = old.index; node = old.node }

  pub emptied_fits : Fits emptied
  emptied_fits = fits_with old emptied [] f refl distinct_none (omega arith)

  pub keep_begin : Keeping emptied 0
  unfolding count_from
  keep_begin = record { fewer = omega arith; kept = refl; same = refl }

  module _ {new : Registers} {p : ℕ} (i : Keeping new p) where
    pub keep_done : old.count ≤ p → new ≡ with_entries old (of_name n v (entries_of old))
    keep_done h =
        let e : drop p (entries_of old) ≡ [] = drop_of_length-le (entries_of old) (rw (length_entries old) h) in
        i.kept ∙ ap (with_entries old) (sym (append-nil (entries_of new)) ∙ ap (λ (l : List Entry). entries_of new ++ l) (sym (ap (of_name n v) e ∙ name-none n v)) ∙ i.same)

    module _ (h : p < old.count) where
      left : drop p (entries_of old) ≡ entry_at old p ∷ drop (p + 1) (entries_of old)
      left = drop-cons (entries_of old) p (entry 0 0 0) (rw (length_entries old) h) ∙ rw (get_entries old p (entry 0 0 0) h, add-one) refl

      -- it was not written yet
      unwritten : (g : Entry → ℕ) (a : List ℕ) → get_or (onto (map g (entries_of new)) a) p 0 ≡ get_or a p 0
      unwritten g a = get-onto (map g (entries_of new)) a p (rw (length-map (entries_of new) g, length_entries new) i.fewer)

      name-at : get_or new.name p 0 ≡ get_or old.name p 0
      name-at = ap (λ (r : Registers). get_or r.name p 0) i.kept ∙ unwritten (λ (x : Entry). x.name) old.name

      index_at : get_or new.index p 0 ≡ get_or old.index p 0
      index_at = ap (λ (r : Registers). get_or r.index p 0) i.kept ∙ unwritten (λ (x : Entry). x.index) old.index

      pub keep_other : (get_or new.name p 0 ≡ n → ⊥) → Keeping new (p + 1)
      keep_other t = record {
        fewer = omega (arith, i.fewer);
        kept = i.kept;
        same = ap (λ (l : List Entry). entries_of new ++ l)
            (sym (ap (of_name n v) left ∙ name_no n v (entry_at old p) (drop (p + 1) (entries_of old)) (λ e. t (name-at ∙ e))))
            ∙ i.same;
      }

      module _ (t : get_or new.name p 0 ≡ n) where
        -- the entry that is to be kept
        kept_entry : Entry
        kept_entry = entry n (get_or new.index p 0) v

        rest : List Entry
        rest = of_name n v (drop (p + 1) (entries_of old))

        turn : entries_of new ++ (kept_entry ∷ rest) ≡ of_name n v (entries_of old)
        unfolding kept_entry rest
        turn = ap (λ (k : ℕ). entries_of new ++ (entry n k v ∷ rest)) index_at
            ∙ ap (λ (l : List Entry). entries_of new ++ l) (sym (ap (of_name n v) left ∙ name_yes n v (entry_at old p) (drop (p + 1) (entries_of old)) (sym name-at ∙ t)))
            ∙ i.same

        pub keep_new : has_key (entry n (get_or new.index p 0) v) (entries_of new) ≡ false
        unfolding kept_entry
        keep_new = distinct_before (entries_of new) rest kept_entry (ap (distinct same_key) turn ∙ distinct_of_name n v (entries_of old) f.keys)

        pub keep_named : (new' : Registers) → new' ≡ with_entries new (put (entry n (get_or new.index p 0) v) (entries_of new)) → Keeping new' (p + 1)
        unfolding kept_entry rest
        keep_named new' e =
            let a : entries_of new' ≡ entries_of new ++ (kept_entry ∷ []) = entries_by new _ e ∙ put-absent kept_entry (entries_of new) keep_new in
            record {
              fewer = omega (arith, i.fewer, length-put-new kept_entry (entries_of new) keep_new, length_entries new, ap (λ (r : Registers). r.count) e);
              kept = kept_put old new new' kept_entry i.kept e;
              same = ap (λ (l : List Entry). l ++ rest) a ∙ append_snoc (entries_of new) kept_entry rest ∙ turn;
            }
