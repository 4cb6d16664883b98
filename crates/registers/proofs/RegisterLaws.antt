-- The laws of the register rule that callers cite. Assumes nothing.
use mathlib.Core.Path.{◌≡◌, refl, sym, ◌∙◌, ap}
use mathlib.Core.Bool.{Bool, true, false}
use mathlib.Core.Logic.{⊎_elim}
use mathlib.Core.List.{List, [], ◌∷◌, map}
use Prim.Native.Nat.{ℕ, ◌<◌}
use native.Mathlib.Omega.{arith}
use lib.Dec.{eqb, ltb}
use lib.ListN.{length-replicate}
use borrow.Author.Tests.{lt-ltb}
use Rattle.file.specs.Lists.{all_of, keep, distinct, count_from, up_to}
use Rattle.file.specs.Records.{entry_name, entry_index}
use Rattle.file.specs.declared.InvolvedClassical.{InvolvedClassical}
use Rattle.file.specs.declared.InvolvedClassical.TheVariants.{None, All, AllQubits, Set, Definition}
use Rattle.graph.specs.Dag.{Entry, entry, same_key, no_registers}
use Rattle.file.proofs.BoolLaws.{bool_cases, clash_bool, not-false}
use Rattle.registers.specs.Registers.{Maps, has_key, put, define, set_keys, registers_by}
use Rattle.registers.specs.RegisterMaps.{of_name, Fits}
use Rattle.registers.proofs.RegisterLists.{put-none, put_yes, put_no, distinct_none, distinct-put}
use Rattle.registers.proofs.RegisterSets.{set_none, set_step-has, set_step-new}
use Rattle.registers.proofs.RegisterNames.{distinct_of_name}
pub use Rattle.registers.proofs.RegisterArrays.{length_entries, get_entries, entries_with, sized_with, with_own, with_with}

-- ---- laws of the rule, for callers

all_cons : (p : Entry → Bool) (x : Entry) (l : List Entry) → p x ≡ true → all_of p l ≡ true → all_of p (x ∷ l) ≡ true
unfolding all_of
all_cons p x l a b = ap (λ (t : Bool). elim t [ true ↦ all_of p l | false ↦ false ]) a ∙ b

all_head : (p : Entry → Bool) (x : Entry) (l : List Entry) → all_of p (x ∷ l) ≡ true → p x ≡ true
unfolding all_of
all_head p x l h = not-false λ (t : p x ≡ false). clash_bool h (ap (λ (t : Bool). elim t [ true ↦ all_of p l | false ↦ false ]) t)

all_tail : (p : Entry → Bool) (x : Entry) (l : List Entry) → all_of p (x ∷ l) ≡ true → all_of p l ≡ true
unfolding all_of
all_tail p x l h = sym (ap (λ (t : Bool). elim t [ true ↦ all_of p l | false ↦ false ]) (all_head p x l h)) ∙ h

all_none : (p : Entry → Bool) → all_of p [] ≡ true
unfolding all_of
all_none p = refl

all_map : {A : Type 0} (p : Entry → Bool) (f : A → Entry) → ((a : A) → p (f a) ≡ true) → (l : List A) → all_of p (map f l) ≡ true
all_map p f h [] = all_none p
all_map p f h (a ∷ l) = all_cons p (f a) (map f l) (h a) (all_map p f h l)

all_put : (p : Entry → Bool) (x : Entry) (l : List Entry) → p x ≡ true → all_of p l ≡ true → all_of p (put x l) ≡ true
all_put p x [] a h = ap (all_of p) (put-none x) ∙ all_cons p x [] a h
all_put p x (y ∷ l) a h = ⊎_elim
    (λ (t : same_key x y ≡ true). ap (all_of p) (put_yes x y l t) ∙ all_cons p x l a (all_tail p y l h))
    (λ (t : same_key x y ≡ false). ap (all_of p) (put_no x y l t) ∙ all_cons p y (put x l) (all_head p y l h) (all_put p x l a (all_tail p y l h)))
    (bool_cases (same_key x y))

-- what each put and each choice of a name keeps, the rule keeps
module _ (v : ℕ) (P Q : List Entry → Type 0) (near-put : (n i : ℕ) (l : List Entry) → P l → P (put (entry n i v) l))
    (far-put : (n i : ℕ) (l : List Entry) → Q l → Q (put (entry n i v) l)) (near_name : (n : ℕ) (l : List Entry) → P l → P (of_name n v l)) where
  set_keeps : (a b : ℕ → ℕ) (is : List ℕ) (r : Maps) → P r.near → Q r.far
      → P (set_keys (map (λ (i : ℕ). entry (a i) (b i) v) is) r).near × Q (set_keys (map (λ (i : ℕ). entry (a i) (b i) v) is) r).far
  set_keeps a b [] r p q = rw (set_none r) (p, q)
  set_keeps a b (i ∷ is) r p q = ⊎_elim
      (λ (t : has_key (entry (a i) (b i) v) r.near ≡ true).
      rw (set_step-has (entry (a i) (b i) v) (map (λ (i : ℕ). entry (a i) (b i) v) is) r t)
      (set_keeps a b is (record { near = put (entry (a i) (b i) v) r.near; far = r.far }) (near-put (a i) (b i) r.near p) q))
      (λ (t : has_key (entry (a i) (b i) v) r.near ≡ false).
      rw (set_step-new (entry (a i) (b i) v) (map (λ (i : ℕ). entry (a i) (b i) v) is) r t)
      (set_keeps a b is (record { near = put (entry (a i) (b i) v) r.near; far = put (entry (a i) (b i) v) r.far })
      (near-put (a i) (b i) r.near p) (far-put (a i) (b i) r.far q)))
      (bool_cases (has_key (entry (a i) (b i) v) r.near))

  define_keeps : (n : ℕ) (is : List ℕ) (r : Maps) → P r.near → Q r.far
      → P (define (map (λ (i : ℕ). entry n i v) is) r).near × Q (define (map (λ (i : ℕ). entry n i v) is) r).far
  unfolding define
  define_keeps n [] r p q = (p, q)
  define_keeps n (i ∷ is) r p q =
      define_keeps n is (record { near = put (entry n i v) r.near; far = put (entry n i v) r.far }) (near-put n i r.near p) (far-put n i r.far q)

  pub rule_keeps : (k : InvolvedClassical) (s : List ℕ) (r : Maps) → P r.near → Q r.far → P (registers_by k s v r).near × Q (registers_by k s v r).far
  rule_keeps None s r p q = (p, q)
  rule_keeps (All n) s r p q = (near_name n r.near p, q)
  rule_keeps (AllQubits n) s r p q = (near_name n r.near p, q)
  rule_keeps (Set c) s r p q = set_keeps (entry_name s) (entry_index s) (up_to c) r p q
  rule_keeps (Definition n m) s r p q = define_keeps n (up_to m) r p q

-- "register keys are distinct within each map": the rule keeps them so
pub keys_kept : (k : InvolvedClassical) (s : List ℕ) (v : ℕ) (r : Maps) → distinct same_key r.near ≡ true → distinct same_key r.far ≡ true
    → (distinct same_key (registers_by k s v r).near ≡ true) × (distinct same_key (registers_by k s v r).far ≡ true)
keys_kept k s v r a b = rule_keeps v (λ l. distinct same_key l ≡ true) (λ l. distinct same_key l ≡ true)
    (λ n i l h. distinct-put (entry n i v) l h)
    (λ n i l h. distinct-put (entry n i v) l h)
    (λ n l h. distinct_of_name n v l h)
    k s r a b

-- an entry of the result has node v or is an old one: what holds of all old entries and of every entry with node v holds of all new ones
pub entries_kept : (p q : Entry → Bool) (k : InvolvedClassical) (s : List ℕ) (v : ℕ) (r : Maps)
    → ((n i : ℕ) → p (entry n i v) ≡ true) → ((n i : ℕ) → q (entry n i v) ≡ true) → all_of p r.near ≡ true → all_of q r.far ≡ true
    → (all_of p (registers_by k s v r).near ≡ true) × (all_of q (registers_by k s v r).far ≡ true)
entries_kept p q k s v r f g a b = rule_keeps v (λ l. all_of p l ≡ true) (λ l. all_of q l ≡ true)
    (λ n i l h. all_put p (entry n i v) l (f n i) h)
    (λ n i l h. all_put q (entry n i v) l (g n i) h)
    (λ n l h. all_map p (λ (x : Entry). entry n x.index v) (λ x. f n x.index) (keep (λ x. eqb x.name n) l))
    k s r a b

-- "every stored node number is below the node count"
pub nodes_below : (count : ℕ) (k : InvolvedClassical) (s : List ℕ) (v : ℕ) (r : Maps) → v < count
    → all_of (λ (x : Entry). ltb x.node count) r.near ≡ true → all_of (λ (x : Entry). ltb x.node count) r.far ≡ true
    → (all_of (λ (x : Entry). ltb x.node count) (registers_by k s v r).near ≡ true) × (all_of (λ (x : Entry). ltb x.node count) (registers_by k s v r).far ≡ true)
nodes_below count k s v r h a b = entries_kept (λ (x : Entry). ltb x.node count) (λ (x : Entry). ltb x.node count) k s v r
    (λ n i. lt-ltb v count h) (λ n i. lt-ltb v count h) a b

-- the maps of an empty graph may be lent
pub fits_none : Fits no_registers
unfolding no_registers count_from
fits_none = record {
  room = omega arith;
  keys = distinct_none;
  sized = record { name = length-replicate {A = ℕ} 256 0; index = length-replicate {A = ℕ} 256 0; node = length-replicate {A = ℕ} 256 0 };
}
