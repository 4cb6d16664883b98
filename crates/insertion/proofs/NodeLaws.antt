-- The nodes of a list of records in the arrays of a load: what the functions of module nodes leave is the rule's. Assumes nothing.
use mathlib.Core.Path.{◌≡◌, refl}
use mathlib.Core.Bool.{Bool, true, false, cond}
use mathlib.Core.List.{List, []}
use Prim.Native.Nat.{ℕ, ◌+◌, ◌≤◌, ◌<◌}
use native.Mathlib.Omega.{arith}
use native.Mathlib.Numerals.{add-one}
use lib.ListN.{length, drop, get_or, drop_of_length-le}
use lib.Seq.{drop-cons}
use Rattle.file.specs.Pairs.{record_at}
use Rattle.file.specs.Records.{front}
use Rattle.graph.specs.Dag.{empty}
use Rattle.insertion.specs.declared.nodes.NodeLists.{NodeLists}
use Rattle.insertion.specs.Insertion.{commutes}
use Rattle.insertion.specs.Parts.{node_lists, node_after, nodes_after}

-- how many insertions a record's end has had
pub end_below : (f : Bool) (x y : ℕ) → x < 512 → y < 512 → cond f y x < 512
end_below true x y l m = m
end_below false x y l m = l

-- ---- a list of records

-- before the k-th record
pub record Listing (file order : List ℕ) (x : NodeLists) (k : ℕ) : Type 0 where
  pub low : k ≤ length order
  pub size : x.nodes.count ≡ k
  pub ends : x.backs + x.fronts ≡ k
  pub few : x.commuting.count ≤ k
  pub same : nodes_after file x (drop k order) ≡ nodes_after file (node_lists empty) order

pub begin : (file order : List ℕ) → Listing file order (node_lists empty) 0
unfolding empty
begin file order = record { low = omega arith; size = refl; ends = refl; few = omega arith; same = refl }

-- one node more
module _ (b : List ℕ) (x : NodeLists) (k : ℕ) where
  after_size : x.nodes.count ≡ k → (node_after b x).nodes.count ≡ k + 1
  unfolding node_after
  after_size h = omega arith

  after_ends : x.backs + x.fronts ≡ k → (node_after b x).backs + (node_after b x).fronts ≡ k + 1
  unfolding node_after
  after_ends h = at_end (front b) x.backs x.fronts h
    where
      at_end : (f : Bool) (p q : ℕ) → p + q ≡ k → cond f p (p + 1) + cond f (q + 1) q ≡ k + 1
      at_end true p q e = omega arith
      at_end false p q e = omega arith

  after_few : x.commuting.count ≤ k → (node_after b x).commuting.count ≤ k + 1
  unfolding node_after
  after_few h = joins (commutes b) x.commuting.count h
    where
      joins : (f : Bool) (p : ℕ) → p ≤ k → cond f (p + 1) p ≤ k + 1
      joins true p e = omega arith
      joins false p e = omega arith

module _ (file order : List ℕ) (k : ℕ) (x : NodeLists) (h : k < length order) (l : Listing file order x k) where
  pub again : (i : ℕ) (b : List ℕ) (y : NodeLists) → i ≡ get_or order k 0 → b ≡ record_at file i → y ≡ node_after b x → Listing file order y (k + 1)
  unfolding nodes_after
  again i b y is part e = record {
    low = omega arith;
    size = rw e (after_size b x k l.size);
    ends = rw e (after_ends b x k l.ends);
    few = rw e (after_few b x k l.few);
    same = rw (e, part, is, add-one) (rw (drop-cons order k 0 h) at l.same);
  }

pub end : (file order : List ℕ) (k : ℕ) (x : NodeLists) → Listing file order x k → length order ≤ k → x ≡ nodes_after file (node_lists empty) order
unfolding nodes_after
end file order k x l h = let z : drop k order ≡ [] = drop_of_length-le order {i = k} (omega arith) in rw z at l.same
