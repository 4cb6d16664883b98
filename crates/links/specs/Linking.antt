-- What a list of records, one after the other, does to the ends and edges, and one record on those of a graph. Assumes nothing.
use Rattle.std.specs.Prelude.{Result, Ok, Err, ⊤, Bool, cond, ◌&&◌, List, [], ◌∷◌, map, ℕ, ◌+◌, ltb, leb, length}
use Rattle.file.specs.Lists.{all_of}
use Rattle.file.specs.Records.{parse_at}
use Rattle.file.specs.declared.InvolvedQubits.{InvolvedQubits}
use Rattle.file.specs.declared.Refusal.{Refusal}
use Rattle.file.specs.declared.Refusal.TheVariants.{TooManyNodes, TooManyEdges, Unsound}
use Rattle.graph.specs.declared.NodeIndex.{NodeIndex}
use Rattle.graph.specs.declared.Edges.{Edges}
use Rattle.graph.specs.declared.End.{End}
use Rattle.graph.specs.Dag.{empty, with_edges}
use Rattle.graph.specs.Soundness.{named, if_present}
use Rattle.links.specs.declared.LinkedRecords.{LinkedRecords}
use Rattle.links.specs.Links.{FarRule, link, link_at}

-- the ends and edges of v nodes ..
abbrev pub links_from : ℕ → Edges → End → End → LinkedRecords
links_from v edges first last = record { accepted = v; answer = (Ok tt); edges = edges; first = first; last = last }

-- .. of none: the empty graph's
abbrev pub no_links : LinkedRecords
no_links = links_from 0 empty.edges empty.first empty.last

-- .. and where the record after k nodes is refused: "a refused load gives the empty graph"
abbrev pub links_stopped : ℕ → Refusal → LinkedRecords
links_stopped k r = record { accepted = k; answer = Err r; edges = empty.edges; first = empty.first; last = empty.last }

-- what is left where the record after k nodes is taken, or refused
abbrev pub answered : ℕ → Result ⊤ Refusal → Edges → End → End → LinkedRecords
answered k (Ok x) edges first last = links_from (k + 1) edges first last
answered k (Err r) edges first last = links_stopped k r

-- record i, at this end and with these qubits, as the next node: "512 nodes", then "distinct edges would pass 2,048"
unfoldable pub link_record : FarRule → ℕ → Bool → InvolvedQubits → LinkedRecords → LinkedRecords
link_record rule i f qubits x = let y = link_at rule f qubits x.accepted x.first x.last in
    cond (leb 512 x.accepted) (links_stopped x.accepted TooManyNodes)
    (cond (ltb 2048 (x.edges.count + length y.others)) (links_stopped x.accepted (TooManyEdges i))
    (links_from (x.accepted + 1) (with_edges x.edges (map (link f x.accepted) y.others)) (cond f y.near y.far) (cond f y.far y.near)))

-- the file's records with these numbers, one after the other: 2, 1, 8, 3 where the file has no such record, "then per
-- record 4" and so on
unfoldable pub link_records : FarRule → List ℕ → LinkedRecords → List ℕ → LinkedRecords
link_records rule s x [] = x
link_records rule s x (i ∷ l) =
    elim (parse_at s i) [
      | Err c ↦ links_stopped x.accepted c
      | Ok r ↦ let y = link_record rule i r.front r.qubits x in elim y.answer [ Ok _ ↦ link_records rule s y l | Err c ↦ y ]
    ]

-- the clauses on the ends and edges that linking goes by: "every stored node number is below the node count", of the maps, firstAll and lastAll;
-- and "2,048 edges"
abbrev pub links_fit : ℕ → Edges → End → End → Bool
links_fit v edges first last = leb edges.count 2048 && (all_of (if_present (λ u. ltb u v)) (named first) && all_of (if_present (λ u. ltb u v)) (named last))

-- .. and where a single record is refused: "left as it was"
abbrev pub links_kept : NodeIndex → Edges → End → End → Refusal → LinkedRecords
links_kept v edges first last r = record { accepted = v.0; answer = Err r; edges = edges; first = first; last = last }

-- record i as node v on the ends and edges of a graph with v nodes: 11 where they break these clauses, then 5, 6
unfoldable pub link_node : FarRule → ℕ → Bool → InvolvedQubits → NodeIndex → Edges → End → End → LinkedRecords
link_node rule i f qubits v edges first last = let y = link_record rule i f qubits (links_from v.0 edges first last) in
    cond (links_fit v.0 edges first last) (elim y.answer [ Ok _ ↦ y | Err r ↦ links_kept v edges first last r ]) (links_kept v edges first last Unsound)
