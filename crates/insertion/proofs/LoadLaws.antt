-- A load: what its parts make is what its records make, inserted one by one. Assumes nothing.
use mathlib.Core.Path.{◌≡◌, refl, sym, ◌∙◌, ap, subst}
use mathlib.Core.Bool.{true}
use mathlib.Core.List.{List, [], ◌∷◌, ◌++◌}
use Prim.Native.Nat.{ℕ, zero, suc, ◌+◌, ◌-◌, ◌≤◌, ◌<◌}
use native.Mathlib.Omega.{arith}
use native.Mathlib.Numerals.{add-one}
use lib.Dec.{ltb}
use lib.ListN.{length, take, get_or, set, replicate, length-replicate, length-set}
use lib.Seq.{take-suc-set, take-length}
use borrow.Author.Tests.{lt-ltb}
use Rattle.file.specs.Lists.{all_of, count_from, up_to}
use Rattle.file.specs.Pairs.{count_of, check_file}
use Rattle.file.specs.declared.Refusal.{Refusal}
use Rattle.file.proofs.PairLaws.{accepted}
use Rattle.graph.specs.Dag.{empty}
use Rattle.file.proofs.PutLaws.{length-count_from}
use Rattle.graph.proofs.ListLaws.{at_all}
use Rattle.links.specs.declared.LinkedRecords.{LinkedRecords}
use Rattle.links.specs.Links.{FarRule, rule_of}
use Rattle.links.specs.declared.LoadingRule.{LoadingRule}
use Rattle.links.specs.Linking.{no_links, link_records}
use Rattle.registers.specs.declared.Registered.{Registered}
use Rattle.registers.specs.declared.RegisteredRecords.{RegisteredRecords}
use Rattle.registers.specs.Registers.{enter_records, register_records}
use Rattle.insertion.specs.Load.{not_loaded, insert_records, load_by}
use Rattle.insertion.specs.Parts.{node_lists, nodes_after, assembled}
use Rattle.insertion.proofs.PartLaws.{Together, together}
use Rattle.std.specs.Prelude.{Ok, Err}

-- ---- `insert_in_order`

module _ (rule : FarRule) (s l : List ℕ) (sure : check_file s ≡ Ok tt) (below : all_of (λ i. ltb i (count_of s)) l ≡ true) (short : length l ≤ 512) where
  abbrev links : LinkedRecords
  links = link_records rule s no_links l

  abbrev maps : Registered
  maps = enter_records s (take links.accepted l)

  t : Together rule s empty l links maps
  unfolding empty
  t =
      let z : links.accepted - 0 ≡ links.accepted = omega arith in
      subst (λ (n : ℕ). Together rule s empty l links (enter_records s (take n l))) z (together rule s sure l below empty (omega arith))

  module _ (y : RegisteredRecords) (made : y ≡ register_records rule s l) where
    parts : Together rule s empty l y.linked y.registered
    unfolding register_records
    parts = subst (λ (y : RegisteredRecords). Together rule s empty l y.linked y.registered) (sym made) t

    pub maps_refuse : (c : Refusal) → y.registered.answer ≡ Err c → not_loaded c ≡ insert_records rule s empty l
    maps_refuse c e = sym (parts.many c e)

    module _ (done : y.registered.answer ≡ Ok tt) where
      pub links_refuse : (c : Refusal) → y.linked.answer ≡ Err c → not_loaded c ≡ insert_records rule s empty l
      links_refuse c e = sym (parts.stops c done e)

      pub both_accept : y.linked.answer ≡ Ok tt
          → record { answer = (Ok tt); graph = assembled (nodes_after s (node_lists empty) l) y.linked y.registered } ≡ insert_records rule s empty l
      both_accept e = sym (parts.whole done e)

-- ---- `load`

pub bad_file : (rule : LoadingRule) (file : List ℕ) (r : Refusal) → check_file file ≡ Err r → not_loaded r ≡ load_by rule file
unfolding load_by
bad_file rule file r e = rw e refl

pub take-up_to : (n m k : ℕ) → n ≤ m → take n (count_from m k) ≡ count_from n k
unfolding count_from
take-up_to zero m k h = refl
take-up_to (suc n) zero k h = absurd (omega arith)
take-up_to (suc n) (suc m) k h = ap (λ (l : List ℕ). k ∷ l) (take-up_to n m (k + 1) (omega arith))

pub count_at : (m k i : ℕ) → i < m → get_or (count_from m k) i 0 ≡ k + i
unfolding count_from
count_at zero k i h = absurd (omega arith)
count_at (suc m) k zero h = omega arith
count_at (suc m) k (suc i) h = let r = count_at m (k + 1) i (omega arith) in omega arith

pub all_below : (n : ℕ) → all_of (λ i. ltb i n) (up_to n) ≡ true
all_below n = at_all (λ i. ltb i n) (up_to n) 0 (λ i h. let l : i < n = omega (arith, length-count_from n 0) in let z : 0 + i ≡ i = omega arith in rw (count_at n 0 i l, z) (lt-ltb i n l))

module _ (file order : List ℕ) (n : ℕ) (e : order ≡ up_to 512) (m : n ≡ count_of file) (good : check_file file ≡ Ok tt) where
  few : n ≤ 512
  few = omega (arith, m, (accepted file good).many)

  pub within : n ≤ length order
  within = rw e (omega (arith, few, length-count_from 512 0))

  numbers : take n order ≡ up_to n
  numbers = rw e (take-up_to n 512 0 few)

  pub few_numbers : length (take n order) ≤ 512
  few_numbers = rw numbers (omega (arith, few, length-count_from n 0))

  pub numbers-below : all_of (λ i. ltb i (count_of file)) (take n order) ≡ true
  numbers-below = rw (numbers, ← m) (all_below n)

  pub whole : (rule : LoadingRule) → insert_records (rule_of rule) file empty (take n order) ≡ load_by rule file
  unfolding load_by
  whole rule = rw (numbers, m, good) refl

-- ---- `file_order`

count_snoc : (k j : ℕ) → count_from (k + 1) j ≡ count_from k j ++ ((j + k) ∷ [])
unfolding count_from
count_snoc zero j = let z : j ≡ j + 0 = omega arith in ap (λ (x : ℕ). x ∷ []) z
count_snoc (suc k) j = let z : j + 1 + k ≡ j + suc k = omega arith in let y : suc k + 1 ≡ suc (k + 1) = omega arith in rw (y, ← z) (ap (λ (l : List ℕ). j ∷ l) (count_snoc k (j + 1)))

-- the first k numbers stand
pub record Counted (order : List ℕ) (k : ℕ) : Type 0 where
  pub low : k ≤ 512
  pub size : length order ≡ 512
  pub is : take k order ≡ up_to k

pub counted_none : Counted (replicate 512 0) 0
unfolding count_from
counted_none = record { low = omega arith; size = length-replicate {A = ℕ} 512 0; is = refl }

pub counted_next : (order : List ℕ) (k : ℕ) → Counted order k → k < 512 → Counted (set order k k) (k + 1)
counted_next order k c h = record {
  low = omega arith;
  size = length-set order k k ∙ c.size;
  is = let z : 0 + k ≡ k = omega arith in rw (add-one, take-suc-set order k k (omega (arith, c.size)), c.is, ← add-one, count_snoc, z) refl;
}

pub counted_all : (order : List ℕ) (k : ℕ) → Counted order k → 512 ≤ k → order ≡ up_to 512
counted_all order k c h =
    let z : k ≡ 512 = omega (arith, c.low) in
    let l : length order ≡ 512 = c.size in
    sym (take-length order) ∙ ap (λ (m : ℕ). take m order) l ∙ (rw z at c.is)
