-- "Back insertion of node v", qubit by qubit, and the mirror: the two ends and the edges. Assumes nothing.
-- One text for both ends: near is the end of the insertion (last at the back, first at the front), far the other.
use Rattle.std.specs.Prelude.{Bool, true, false, cond, not, ◌&&◌, List, [], ◌∷◌, map, ℕ, zero, suc, ◌+◌, ◌/◌, ◌%◌, eqb, length, set, replicate}
use Rattle.file.specs.Lists.{any_of, cons_if, add, is_empty}
use Rattle.file.specs.declared.InvolvedQubits.{InvolvedQubits}
use Rattle.file.specs.declared.InvolvedQubits.TheVariants.{None, All, Set}
use Rattle.graph.specs.declared.End.{End}
use Rattle.links.specs.declared.LoadingRule.{LoadingRule}
use Rattle.links.specs.declared.LoadingRule.TheVariants.{NearAll, FarAll}
use Rattle.graph.specs.Dag.{Edge, present, or_else, node, edge, at_qubit}

-- "bit q for qubit q"; "Qubits are taken from the lowest up": of the k lowest bits of m those set, as q, q + 1, ..
unfoldable pub qubits_from : ℕ → ℕ → ℕ → List ℕ
qubits_from zero q m = []
qubits_from (suc k) q m = cons_if (eqb (m % 2) 1) q (qubits_from k (q + 1) (m / 2))

-- the qubits of a mask
abbrev pub qubits : ℕ → List ℕ
qubits m = qubits_from 64 0 m

-- the two ends, and the nodes that the new edges join with v ("the edge stands once, however often added")
pub record Linked : Type 0 where
  pub near : End
  pub far : End
  pub others : List ℕ

-- "If q was new, first[q] becomes lastAll, or v if that is absent": which node it becomes is a parameter,
-- and near_all is document 01's
abbrev pub FarRule : Type 0
FarRule = End → End → ℕ

-- document 01's: lastAll at the back
abbrev pub near_all : End → End → ℕ
near_all near far = near.all.0

-- the other end's: firstAll at the back
abbrev pub far_all : End → End → ℕ
far_all near far = far.all.0

-- the rule that the code is given; K6's, FarAll: "a new qubit added at the back gets first[q] = firstAll, and one added at the front gets
-- last[q] = lastAll, or the new node itself where that is absent"
abbrev pub rule_of : LoadingRule → FarRule
rule_of NearAll = near_all
rule_of FarAll = far_all

-- whether it is K6's
abbrev pub is_far : LoadingRule → Bool
is_far NearAll = false
is_far FarAll = true

-- "the source is last[q], else lastAll"
abbrev pub source : End → ℕ → ℕ
source near q = or_else (at_qubit near q) near.all.0

-- "If there is one, add source to v and take it out of the last block. last[q] becomes v, v joins the last block."
abbrev pub near_after : End → ℕ → ℕ → End
near_after near q v = record {
  node = set near.node q v;
  all = near.all;
  block = set (cond (present (source near q)) (set near.block (source near q) false) near.block) v true;
}

-- "If q was new, first[q] becomes lastAll, or v if that is absent." New: absent in last
abbrev pub far_after : FarRule → End → End → ℕ → ℕ → End
far_after rule near far q v = record {
  node = cond (present (at_qubit near q)) far.node (set far.node q (or_else (rule near far) v));
  all = far.all;
  block = far.block;
}

-- "Set, each qubit q"
unfoldable pub link_qubits : FarRule → List ℕ → ℕ → Linked → Linked
link_qubits rule [] v x = x
link_qubits rule (q ∷ qs) v x = link_qubits rule qs v (record {
  near = near_after x.near q v;
  far = far_after rule x.near x.far q v;
  others = cond (present (source x.near q)) (add (source x.near q) x.others) x.others;
})

-- "After all qubits, v joins the first block if nothing points to it."
abbrev pub join_far : ℕ → Linked → Linked
join_far v x = record {
  near = x.near;
  far = record { node = x.far.node; all = x.far.all; block = cond (is_empty x.others) (set x.far.block v true) x.far.block };
  others = x.others;
}

-- "Set": each qubit, then the first block
unfoldable pub link_set : FarRule → ℕ → ℕ → End → End → Linked
link_set rule m v near far = join_far v (link_qubits rule (qubits m) v (record { near = near; far = far; others = [] }))

-- "maps are empty"
abbrev pub no_qubit : End → Bool
no_qubit e = not (any_of present e.node)

-- "every node in the last map", once
unfoldable pub mapped : List ℕ → List ℕ → List ℕ
mapped [] seen = seen
mapped (u ∷ l) seen = mapped l (cond (present u) (add u seen) seen)

-- "All: firstAll becomes v if absent; lastAll becomes v; the last block becomes {v}; v joins the first block if that is empty. If both maps are
-- empty, qubit 0 maps to v in both. Else every node in the last map points to v and all its qubits map to v."
unfoldable pub link_all : ℕ → End → End → Linked
link_all v near far = let both_empty = no_qubit near && no_qubit far in record {
  near = record {
    node = cond both_empty (set near.node 0 v) (map (λ (u : ℕ). cond (present u) v u) near.node);
    all = node v;
    block = set (replicate 512 false) v true;
  };
  far = record {
    node = cond both_empty (set far.node 0 v) far.node;
    all = node (or_else far.all.0 v);
    block = cond (any_of (λ b. b) far.block) far.block (set far.block v true);
  };
  others = cond both_empty [] (mapped near.node []);
}

-- "Apart from these, kinds 1 to 4 .. Other records with qubit form None get no edge and join nothing."
abbrev pub link_by : InvolvedQubits → FarRule → ℕ → End → End → Linked
link_by None rule v near far = record { near = near; far = far; others = [] }
link_by All rule v near far = link_all v near far
link_by (Set m) rule v near far = link_set rule m v near far

-- "Front insertion is the mirror": the rule on first and last, near being first at the front and last at the back
abbrev pub link_at : FarRule → Bool → InvolvedQubits → ℕ → End → End → Linked
link_at rule front qubits v first last = link_by qubits rule v (cond front first last) (cond front last first)

-- "add source to v" at the back, "edges out of v" at the front
abbrev pub link : Bool → ℕ → ℕ → Edge
link false v u = edge u v
link true v u = edge v u

-- "their count bounds the edges added": the most edges that a record adds, for a Set the count of its qubits, for All
-- an entry of the map each
abbrev pub edge_bound : InvolvedQubits → ℕ
edge_bound None = 0
edge_bound All = 64
edge_bound (Set m) = length (qubits m)
