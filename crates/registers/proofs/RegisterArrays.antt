-- The register maps as arrays: what stands in them after a store, and that a key is put as the rule says. Assumes nothing.
use mathlib.Core.Path.{◌≡◌, sym, ◌∙◌, ap, subst}
use mathlib.Core.Bool.{true, false}
use mathlib.Core.List.{List, [], ◌∷◌, ◌++◌, map, map-map, map-append}
use Prim.Native.Nat.{ℕ, suc, ◌+◌, ◌-◌, ◌<◌, ◌≤◌}
use native.Mathlib.Omega.{arith}
use native.Mathlib.Numerals.{add-one}
use lib.ListN.{length, get_or, set, take, drop, length-append, length-map, length-set, length-drop, take-append-drop, get_or-append, get_or-map}
use lib.Seq.{ext_get_or, drop-cons, set-append_left, drop-append-add, drop-drop, set-append_seam, append_snoc, length-take-le, get_or-take, map-set_same}
use Rattle.std.proofs.lemmas.List.{map-set}
use Rattle.file.specs.Lists.{distinct, up_to, onto}
use Rattle.file.specs.declared.RegisterKey.{RegisterKey}
use Rattle.graph.specs.declared.Registers.{Registers}
use Rattle.graph.specs.Dag.{Entry, entry, same_key, entry_at, entries_of}
use Rattle.file.proofs.PutLaws.{length-count_from}
use Rattle.graph.proofs.ListLaws.{up_to-at, at-any}
use Rattle.registers.specs.Registers.{has_key, put, with_entries}
use Rattle.registers.specs.RegisterMaps.{Kept, keyed, StandsAt, Sized, Fits}
use Rattle.registers.proofs.RegisterLists.{any_false, same_name, same_index, same_by, put-found, put-absent, length-put-new}
use Rattle.registers.proofs.RegisterLists.{put_grows, distinct-put}

-- the map made of a count and the arrays
abbrev registers : ℕ → List ℕ → List ℕ → List ℕ → Registers
registers c n i v = record { count = c; name = n; index = i; node = v }

-- ---- an array with entries in front

module _ {A : Type 0} where
  drop-onto : (l old : List A) (k : ℕ) → drop (length l + k) (onto l old) ≡ drop (length l + k) old
  drop-onto l old k = drop-append-add l (drop (length l) old) k ∙ drop-drop k (length l) old

  onto-onto : (l l' old : List A) → length l ≤ length l' → onto l' (onto l old) ≡ onto l' old
  onto-onto l l' old h =
      let z : length l + (length l' - length l) ≡ length l' = omega arith in
      ap (λ (t : List A). l' ++ t) (rw z at (drop-onto l old (length l' - length l)))

  onto_set : (l old : List A) (p : ℕ) (a : A) → p < length l → set (onto l old) p a ≡ onto (set l p a) old
  onto_set l old p a h = set-append_left l (drop (length l) old) p a h ∙ ap (λ n. set l p a ++ drop n old) (sym (length-set l p a))

  onto_more : (l old : List A) (a d : A) → length l < length old → set (onto l old) (length l) a ≡ onto (l ++ (a ∷ [])) old
  onto_more l old a d h =
      let n : length (l ++ (a ∷ [])) ≡ suc (length l) = length-append l (a ∷ []) ∙ add-one (length l) in
      rw (drop-cons old (length l) d h, set-append_seam l (get_or old (length l) d) (drop (suc (length l)) old) a, n)
      (sym (append_snoc l a (drop (suc (length l)) old)))

-- ---- a map and its entries

pub length_entries : (r : Registers) → length (entries_of r) ≡ r.count
length_entries r = length-map (up_to r.count) (entry_at r) ∙ length-count_from r.count 0

pub get_entries : (r : Registers) (i : ℕ) (d : Entry) → i < r.count → get_or (entries_of r) i d ≡ entry_at r i
get_entries r i d h = up_to-at (entry_at r) r.count i d h

-- what was stored is read again
pub entries_with : (r : Registers) (l : List Entry) → entries_of (with_entries r l) ≡ l
entries_with r l = ext_get_or (entry 0 0 0) (entries_of (with_entries r l)) l (length_entries (with_entries r l)) λ i h.
    let b : i < length l = rw (length_entries (with_entries r l)) at h in
    get_entries (with_entries r l) i (entry 0 0 0) b
    ∙ λ t. entry
    (field (λ (x : Entry). x.name) r.name i b t)
    (field (λ (x : Entry). x.index) r.index i b t)
    (field (λ (x : Entry). x.node) r.node i b t)
  where
    field : (f : Entry → ℕ) (old : List ℕ) (i : ℕ) → i < length l → get_or (onto (map f l) old) i (f (entry 0 0 0)) ≡ f (get_or l i (entry 0 0 0))
    field f old i b = get_or-append (map f l) _ (f (entry 0 0 0)) i (rw (length-map l f) b) ∙ get_or-map f l i (entry 0 0 0)

-- the first n of an array
read_take : (a : List ℕ) (n : ℕ) → n ≤ length a → map (λ (i : ℕ). get_or a i 0) (up_to n) ≡ take n a
read_take a n h = ext_get_or 0 (map (λ (i : ℕ). get_or a i 0) (up_to n)) (take n a)
    (length-map (up_to n) (λ (i : ℕ). get_or a i 0) ∙ length-count_from n 0 ∙ sym (length-take-le n a h))
    λ i b.
    let c : i < n = rw (length-map (up_to n) (λ (i : ℕ). get_or a i 0), length-count_from n 0) at b in
    up_to-at (λ (i : ℕ). get_or a i 0) n i 0 c ∙ sym (get_or-take n a i 0 c)

own : (l a : List ℕ) (n : ℕ) → n ≤ length a → l ≡ take n a → onto l a ≡ a
own l a n h e = rw (e, length-take-le n a h) (take-append-drop n a)

module _ (r : Registers) (s : Sized r) (room : r.count ≤ 256) where
  own_name : onto (map (λ (x : Entry). x.name) (entries_of r)) r.name ≡ r.name
  own_name = own (map (λ (x : Entry). x.name) (entries_of r)) r.name r.count (omega (arith, s.name))
      (map-map (λ (x : Entry). x.name) (entry_at r) (up_to r.count) ∙ read_take r.name r.count (omega (arith, s.name)))

  own_index : onto (map (λ (x : Entry). x.index) (entries_of r)) r.index ≡ r.index
  own_index = own (map (λ (x : Entry). x.index) (entries_of r)) r.index r.count (omega (arith, s.index))
      (map-map (λ (x : Entry). x.index) (entry_at r) (up_to r.count) ∙ read_take r.index r.count (omega (arith, s.index)))

  own_node : onto (map (λ (x : Entry). x.node) (entries_of r)) r.node ≡ r.node
  own_node = own (map (λ (x : Entry). x.node) (entries_of r)) r.node r.count (omega (arith, s.node))
      (map-map (λ (x : Entry). x.node) (entry_at r) (up_to r.count) ∙ read_take r.node r.count (omega (arith, s.node)))

  -- a map stored in its own arrays
  pub with_own : r ≡ with_entries r (entries_of r)
  with_own = λ t. record {
    count = sym (length_entries r) t;
    name = sym own_name t;
    index = sym own_index t;
    node = sym own_node t;
  }

  -- the node of the entry at p
  pub with_set : (p : ℕ) (x : Entry) → p < r.count → get_or r.name p 0 ≡ x.name → get_or r.index p 0 ≡ x.index
      → registers r.count r.name r.index (set r.node p x.node) ≡ with_entries r (set (entries_of r) p x)
  with_set p x h a b =
      let e : get_or (entries_of r) p (entry 0 0 0) ≡ entry_at r p = get_entries r p (entry 0 0 0) h in
      let m : map (λ (x : Entry). x.name) (set (entries_of r) p x) ≡ map (λ (x : Entry). x.name) (entries_of r)
      = map-set_same (λ (x : Entry). x.name) (entries_of r) p x (entry 0 0 0) (sym (ap (λ (x : Entry). x.name) e ∙ a)) in
      let n : map (λ (x : Entry). x.index) (set (entries_of r) p x) ≡ map (λ (x : Entry). x.index) (entries_of r)
      = map-set_same (λ (x : Entry). x.index) (entries_of r) p x (entry 0 0 0) (sym (ap (λ (x : Entry). x.index) e ∙ b)) in
      let k : p < length (map (λ (x : Entry). x.node) (entries_of r)) = rw (length-map (entries_of r) (λ (x : Entry). x.node), length_entries r) h in
      λ t. record {
        count = sym (length-set (entries_of r) p x ∙ length_entries r) t;
        name = sym (ap (λ (l : List ℕ). onto l r.name) m ∙ own_name) t;
        index = sym (ap (λ (l : List ℕ). onto l r.index) n ∙ own_index) t;
        node = (ap (λ (l : List ℕ). set l p x.node) (sym own_node)
            ∙ onto_set (map (λ (x : Entry). x.node) (entries_of r)) r.node p x.node k
            ∙ ap (λ (l : List ℕ). onto l r.node) (sym (map-set (λ (x : Entry). x.node) (entries_of r) p x))) t;
      }

  -- one entry more, of one field
  one_more : (f : Entry → ℕ) (a : List ℕ) (x : Entry) → length a ≡ 256 → r.count < 256 → onto (map f (entries_of r)) a ≡ a
      → set a r.count (f x) ≡ onto (map f (entries_of r ++ (x ∷ []))) a
  one_more f a x l h o =
      let n : length (map f (entries_of r)) ≡ r.count = length-map (entries_of r) f ∙ length_entries r in
      ap (λ (b : List ℕ). set b r.count (f x)) (sym o)
      ∙ ap (λ (n : ℕ). set (onto (map f (entries_of r)) a) n (f x)) (sym n)
      ∙ onto_more (map f (entries_of r)) a (f x) 0 (rw n (omega arith))
      ∙ ap (λ (l : List ℕ). onto l a) (sym (map-append f (entries_of r) (x ∷ [])))

  -- one entry more
  pub with_more : (x : Entry) → r.count < 256
      → registers (r.count + 1) (set r.name r.count x.name) (set r.index r.count x.index) (set r.node r.count x.node)
      ≡ with_entries r (entries_of r ++ (x ∷ []))
  with_more x h = λ t. record {
    count = sym (length-append (entries_of r) (x ∷ []) ∙ ap (λ (n : ℕ). n + 1) (length_entries r)) t;
    name = one_more (λ (x : Entry). x.name) r.name x s.name h own_name t;
    index = one_more (λ (x : Entry). x.index) r.index x s.index h own_index t;
    node = one_more (λ (x : Entry). x.node) r.node x s.node h own_node t;
  }

-- entries stored over fewer entries
pub with_with : (r : Registers) (l l' : List Entry) → length l ≤ length l' → with_entries (with_entries r l) l' ≡ with_entries r l'
with_with r l l' h = λ t. record {
  count = length l';
  name = over (λ (x : Entry). x.name) r.name t;
  index = over (λ (x : Entry). x.index) r.index t;
  node = over (λ (x : Entry). x.node) r.node t;
}
  where
    over : (f : Entry → ℕ) (a : List ℕ) → onto (map f l') (onto (map f l) a) ≡ onto (map f l') a
    over f a = onto-onto (map f l) (map f l') a (rw (length-map l f, length-map l' f) h)

-- stored entries keep the arrays' lengths
pub sized_with : (r : Registers) (l : List Entry) → Sized r → length l ≤ 256 → Sized (with_entries r l)
sized_with r l s h = record {
  name = long (λ (x : Entry). x.name) r.name s.name;
  index = long (λ (x : Entry). x.index) r.index s.index;
  node = long (λ (x : Entry). x.node) r.node s.node;
}
  where
    long : (f : Entry → ℕ) (a : List ℕ) → length a ≡ 256 → length (onto (map f l) a) ≡ 256
    long f a e = rw (length-append (map f l) (drop (length (map f l)) a), length-drop (length (map f l)) a, length-map l f, e) (omega arith)

-- ---- a key among the entries

-- it stands at p
pub key_there : (r : Registers) (key : RegisterKey) (v p : ℕ) → p < r.count → StandsAt r key p
    → same_key (keyed key v) (get_or (entries_of r) p (entry 0 0 0)) ≡ true
key_there r key v p h s = rw (get_entries r p (entry 0 0 0) h) (same_by (keyed key v) (entry_at r p) (sym s.0) (sym s.1))

-- it stands nowhere
pub key_missing : (r : Registers) (key : RegisterKey) (v : ℕ) → ((k : ℕ) → k < r.count → StandsAt r key k → ⊥)
    → has_key (keyed key v) (entries_of r) ≡ false
key_missing r key v h = any_false (same_key (keyed key v)) (entries_of r) (entry 0 0 0) λ k b e.
    let c : k < r.count = rw (length_entries r) at b in
    let t : same_key (keyed key v) (entry_at r k) ≡ true = rw (get_entries r k (entry 0 0 0) c) at e in
    h k c (sym (same_name (keyed key v) (entry_at r k) t), sym (same_index (keyed key v) (entry_at r k) t))

-- ---- putting a key

-- the entries of a map are those that were stored
pub entries_by : {new : Registers} (r : Registers) (l : List Entry) → new ≡ with_entries r l → entries_of new ≡ l
entries_by r l e = ap entries_of e ∙ entries_with r l

-- entries of distinct keys, stored, fit
pub fits_with : (r new : Registers) (l : List Entry) → Fits r → new ≡ with_entries r l → distinct same_key l ≡ true → length l ≤ 256 → Fits new
fits_with r new l f e d h = record {
  room = omega (arith, ap (λ (r : Registers). r.count) e);
  keys = ap (distinct same_key) (entries_by r l e) ∙ d;
  sized = subst (λ (r : Registers). Sized r) (sym e) (sized_with r l f.sized h);
}

module _ (r : Registers) (f : Fits r) where
  module _ (key : RegisterKey) (v p : ℕ) (h : p < r.count) (s : StandsAt r key p) where
    pub put_found : put (keyed key v) (entries_of r) ≡ set (entries_of r) p (keyed key v)
    put_found = put-found (keyed key v) (entry 0 0 0) (entries_of r) p (rw (length_entries r) h) f.keys (key_there r key v p h s)

    pub has_there : has_key (keyed key v) (entries_of r) ≡ true
    has_there = at-any (same_key (keyed key v)) (entries_of r) (entry 0 0 0) p (rw (length_entries r) h) (key_there r key v p h s)

    -- a key that stands
    pub put_there : registers r.count r.name r.index (set r.node p v) ≡ with_entries r (put (keyed key v) (entries_of r))
    put_there = with_set r f.sized f.room p (keyed key v) h s.0 s.1 ∙ ap (with_entries r) (sym put_found)

    pub there_fits : Fits (registers r.count r.name r.index (set r.node p v))
    there_fits = fits_with r _ _ f put_there (distinct-put (keyed key v) (entries_of r) f.keys)
        (omega (arith, f.room, ap length put_found, length-set (entries_of r) p (keyed key v), length_entries r))

  module _ (x : Entry) (new : has_key x (entries_of r) ≡ false) where
    longer : length (put x (entries_of r)) ≡ r.count + 1
    longer = length-put-new x (entries_of r) new ∙ ap (λ (n : ℕ). n + 1) (length_entries r)

    -- no room for it
    pub put_over : 256 ≤ r.count → 256 < length (put x (entries_of r))
    put_over h = omega (arith, longer)

    module _ (h : r.count < 256) where
      -- a new key
      pub put_behind : registers (r.count + 1) (set r.name r.count x.name) (set r.index r.count x.index) (set r.node r.count x.node)
          ≡ with_entries r (put x (entries_of r))
      put_behind = with_more r f.sized f.room x h ∙ ap (with_entries r) (sym (put-absent x (entries_of r) new))

      pub behind_fits : Fits (registers (r.count + 1) (set r.name r.count x.name) (set r.index r.count x.index) (set r.node r.count x.node))
      behind_fits = fits_with r _ _ f put_behind (distinct-put x (entries_of r) f.keys) (omega (arith, longer))

-- ---- a map that keys are put into

pub kept_own : (r : Registers) → Fits r → Kept r r
kept_own r f = with_own r f.sized f.room

-- more entries over those of a map
pub kept_over : (old r new : Registers) (l : List Entry) → Kept old r → new ≡ with_entries r l → length (entries_of r) ≤ length l → new ≡ with_entries old l
kept_over old r new l k e h = e ∙ ap (λ (r' : Registers). with_entries r' l) k ∙ with_with old (entries_of r) l h

pub kept_put : (old r new : Registers) (x : Entry) → Kept old r → new ≡ with_entries r (put x (entries_of r)) → Kept old new
kept_put old r new x k e = kept_over old r new (put x (entries_of r)) k e (put_grows x (entries_of r)) ∙ ap (with_entries old) (sym (entries_by r _ e))
