-- The two loops of a definition: marking the keys that stand, appending those that are missing. Assumes nothing.
use mathlib.Core.Path.{◌≡◌, refl, sym, ◌∙◌, ap, subst}
use mathlib.Core.Bool.{Bool, true, false}
use mathlib.Core.List.{List}
use Prim.Native.Nat.{ℕ, suc, ◌+◌, ◌-◌, ◌<◌, ◌≤◌}
use native.Mathlib.Omega.{arith}
use native.Mathlib.Numerals.{add-one}
use native.Mathlib.Decide.{ℕ_discrete}
use lib.ListN.{length, get_or, set, take, length-set, replicate, length-replicate, get_or-replicate}
use lib.Seq.{take_all, take-suc, take-suc-set, get_or-set_same, get_or-set_other}
use Rattle.file.specs.declared.RegisterKey.{RegisterKey}
use Rattle.graph.specs.declared.Registers.{Registers}
use Rattle.graph.specs.Dag.{Entry, entry, same_key, entry_at, entries_of}
use Rattle.file.proofs.BoolLaws.{clash_bool, not-true}
use Rattle.registers.specs.Registers.{has_key, put, with_entries}
use Rattle.registers.specs.RegisterMaps.{definition, put_all, Kept, Marked, Standing, Fits}
use Rattle.registers.proofs.RegisterLists.{any_none, any_append, same_name, same_index, put-put, put-commutes, has-put_same}
use Rattle.registers.proofs.RegisterLists.{has-put_other, other_index, define_first, definition-step, definition-none, put_all_grows}
use Rattle.registers.proofs.RegisterArrays.{entries_by, get_entries, has_there, kept_own, kept_over, kept_put, length_entries, put_found, put_over, put_there}

-- ---- a definition

-- the map with another node at p
abbrev pub set_node : Registers → ℕ → ℕ → Registers
set_node r p v = record { count = r.count; name = r.name; index = r.index; node = set r.node p v }

module _ (n m v : ℕ) (old : Registers) where
  -- the first p entries have been looked at
  pub record Marking (new : Registers) (there : List Bool) (p : ℕ) : Type 0 where
    pub kept : Kept old new
    pub same : put_all (definition n v m 0) (entries_of new) ≡ put_all (definition n v m 0) (entries_of old)
    pub long : m ≤ length there
    pub yes : (i : ℕ) → i < m → get_or there i false ≡ true → put (entry n i v) (entries_of new) ≡ entries_of new
    pub no : (i : ℕ) → i < m → get_or there i false ≡ false → has_key (entry n i v) (take p (entries_of new)) ≡ false

  pub mark_begin : m ≤ 256 → Fits old → Marking old (replicate 256 false) 0
  mark_begin w f = record {
    kept = kept_own old f;
    same = refl;
    long = omega (arith, length-replicate 256 false);
    yes = λ i h t. absurd (clash_bool t (get_or-replicate 256 i false false (omega arith)));
    no = λ i h t. any_none (same_key (entry n i v));
  }

  module _ {new : Registers} {there : List Bool} {p : ℕ} (i : Marking new there p) where
    pub mark_done : new.count ≤ p → Standing n m v old new there
    mark_done h = record {
      kept = i.kept;
      same = i.same;
      marked = record {
        yes = i.yes;
        no = λ j b t. ap (has_key (entry n j v)) (sym (take_all p (entries_of new) (rw (length_entries new) h))) ∙ i.no j b t;
      };
    }

    module _ (h : p < new.count) where
      -- entry p is no key of the definition
      pub mark_skip : (get_or new.name p 0 ≡ n → get_or new.index p 0 < m → ⊥) → Marking new there (p + 1)
      mark_skip k = record {
        kept = i.kept;
        same = i.same;
        long = i.long;
        yes = i.yes;
        no = λ j b t.
            let o : same_key (entry n j v) (entry_at new p) ≡ false = not-true (λ (s : same_key (entry n j v) (entry_at new p) ≡ true).
            k (sym (same_name (entry n j v) (entry_at new p) s)) (omega (arith, same_index (entry n j v) (entry_at new p) s))) in
            rw (add-one, take-suc (entries_of new) p (entry 0 0 0) (rw (length_entries new) h), get_entries new p (entry 0 0 0) h)
            (any_append (same_key (entry n j v)) (take p (entries_of new)) (entry_at new p) (i.no j b t) o);
      }

      -- entry p is key q of it
      module _ (f : Fits new) (q : ℕ) (a : get_or new.name p 0 ≡ n) (b : get_or new.index p 0 ≡ q) (c : q < m) where
        key : RegisterKey
        key = record { name = n; index = q }

        there_now : set_node new p v ≡ with_entries new (put (entry n q v) (entries_of new))
        unfolding key
        there_now = put_there new f key v p h (a, b)

        entries_now : entries_of (set_node new p v) ≡ put (entry n q v) (entries_of new)
        entries_now = entries_by new _ there_now

        has_now : has_key (entry n q v) (entries_of new) ≡ true
        unfolding key
        has_now = has_there new f key v p h (a, b)

        set_now : put (entry n q v) (entries_of new) ≡ set (entries_of new) p (entry n q v)
        unfolding key
        set_now = put_found new f key v p h (a, b)

        yes_now : (j : ℕ) → j < m → get_or (set there q true) j false ≡ true → put (entry n j v) (put (entry n q v) (entries_of new)) ≡ put (entry n q v) (entries_of new)
        yes_now j d t = elim (ℕ_discrete j q) [
          | yes e ↦ rw e (put-put (entry n q v) (entries_of new))
          | no e ↦
              put-commutes (entry n q v) (entry n j v) (entries_of new) has_now (other_index n v q j (λ (z : q ≡ j). e (sym z)))
              ∙ ap (put (entry n q v)) (i.yes j d (sym (get_or-set_other there q j true false e) ∙ t))
        ]

        no_now : (j : ℕ) → j < m → get_or (set there q true) j false ≡ false → has_key (entry n j v) (take (p + 1) (put (entry n q v) (entries_of new))) ≡ false
        no_now j d t = elim (ℕ_discrete j q) [
          | yes e ↦ absurd (clash_bool (get_or-set_same there q true false (omega (arith, i.long))) (rw e at t))
          | no e ↦
              rw (set_now, add-one, take-suc-set (entries_of new) p (entry n q v) (rw (length_entries new) h))
              (any_append (same_key (entry n j v)) (take p (entries_of new)) (entry n q v)
              (i.no j d (sym (get_or-set_other there q j true false e) ∙ t)) (other_index n v j q e))
        ]

        pub mark_set : Marking (set_node new p v) (set there q true) (p + 1)
        mark_set = record {
          kept = kept_put old new (set_node new p v) (entry n q v) i.kept there_now;
          same = ap (put_all (definition n v m 0)) entries_now ∙ define_first n v m 0 q (entries_of new) (omega arith) (omega arith) has_now ∙ i.same;
          long = omega (arith, i.long, length-set there q true);
          yes = λ j d t. subst (λ (l : List Entry). put (entry n j v) l ≡ l) (sym entries_now) (yes_now j d t);
          no = λ j d t. ap (λ (l : List Entry). has_key (entry n j v) (take (p + 1) l)) entries_now ∙ no_now j d t;
        }

-- ---- the keys of a definition that are missing

module _ (n m v : ℕ) (there : List Bool) (old : Registers) where
  -- the keys below j are done
  pub record Appending (new : Registers) (j : ℕ) : Type 0 where
    pub kept : Kept old new
    pub same : put_all (definition n v (m - j) j) (entries_of new) ≡ put_all (definition n v m 0) (entries_of old)
    pub yes : (i : ℕ) → j ≤ i → i < m → get_or there i false ≡ true → put (entry n i v) (entries_of new) ≡ entries_of new
    pub no : (i : ℕ) → j ≤ i → i < m → get_or there i false ≡ false → has_key (entry n i v) (entries_of new) ≡ false

  pub append_begin : Fits old → Marked n m v (entries_of old) there → Appending old 0
  append_begin f k = record {
    kept = kept_own old f;
    same = let z : m - 0 ≡ m = omega arith in rw z refl;
    yes = λ i _. k.yes i;
    no = λ i _. k.no i;
  }

  module _ {new : Registers} {j : ℕ} (i : Appending new j) where
    pub append_done : m ≤ j → new ≡ with_entries old (put_all (definition n v m 0) (entries_of old))
    append_done h =
        let z : m - j ≡ 0 = omega arith in
        let e : entries_of new ≡ put_all (definition n v m 0) (entries_of old) = sym (definition-none n v j (entries_of new)) ∙ rw z at i.same in
        i.kept ∙ ap (with_entries old) e

    module _ (h : j < m) where
      next : put_all (definition n v (m - (j + 1)) (j + 1)) (put (entry n j v) (entries_of new)) ≡ put_all (definition n v m 0) (entries_of old)
      next = let z : m - j ≡ suc (m - (j + 1)) = omega arith in sym (definition-step n v (m - (j + 1)) j (entries_of new)) ∙ rw z at i.same

      pub append_known : get_or there j false ≡ true → Appending new (j + 1)
      append_known t = record {
        kept = i.kept;
        same = ap (put_all (definition n v (m - (j + 1)) (j + 1))) (sym (i.yes j (omega arith) h t)) ∙ next;
        yes = λ k a. i.yes k (omega arith);
        no = λ k a. i.no k (omega arith);
      }

      module _ (t : get_or there j false ≡ false) where
        pub missing : has_key (entry n j v) (entries_of new) ≡ false
        missing = i.no j (omega arith) h t

        pub append_over : Fits new → 256 ≤ new.count → 256 < length (put_all (definition n v m 0) (entries_of old))
        append_over f o = rw (← next) (omega (
          arith,
          put_over new f (entry n j v) missing o,
          put_all_grows (definition n v (m - (j + 1)) (j + 1)) (put (entry n j v) (entries_of new)),
        ))

        module _ (new' : Registers) (e : new' ≡ with_entries new (put (entry n j v) (entries_of new))) where
          entries_next : entries_of new' ≡ put (entry n j v) (entries_of new)
          entries_next = entries_by new _ e

          yes_next : (k : ℕ) → j + 1 ≤ k → k < m → get_or there k false ≡ true → put (entry n k v) (put (entry n j v) (entries_of new)) ≡ put (entry n j v) (entries_of new)
          yes_next k a b w =
              let p : put (entry n k v) (entries_of new) ≡ entries_of new = i.yes k (omega arith) b w in
              sym (put-commutes (entry n k v) (entry n j v) (entries_of new) (ap (has_key (entry n k v)) (sym p) ∙ has-put_same (entry n k v) (entries_of new))
              (other_index n v k j (λ (z : k ≡ j). omega arith)))
              ∙ ap (put (entry n j v)) p

          pub append_new : Appending new' (j + 1)
          append_new = record {
            kept = kept_put old new new' (entry n j v) i.kept e;
            same = ap (put_all (definition n v (m - (j + 1)) (j + 1))) entries_next ∙ next;
            yes = λ k a b w. subst (λ (l : List Entry). put (entry n k v) l ≡ l) (sym entries_next) (yes_next k a b w);
            no = λ k a b w. ap (has_key (entry n k v)) entries_next
                ∙ has-put_other (entry n k v) (entry n j v) (entries_of new) (other_index n v k j (λ (z : k ≡ j). omega arith))
                ∙ i.no k (omega arith) b w;
          }

-- a definition in one map, from its two parts
module _ (n m v : ℕ) (old mid : Registers) (there : List Bool) (s : Standing n m v old mid there) where
  pub define_over : 256 < length (put_all (definition n v m 0) (entries_of mid)) → 256 < length (put_all (definition n v m 0) (entries_of old))
  define_over h = rw (← s.same) h

  pub define_both : (new : Registers) → new ≡ with_entries mid (put_all (definition n v m 0) (entries_of mid)) → new ≡ with_entries old (put_all (definition n v m 0) (entries_of old))
  define_both new e = kept_over old mid new _ s.kept e (put_all_grows (definition n v m 0) (entries_of mid)) ∙ ap (with_entries old) s.same
