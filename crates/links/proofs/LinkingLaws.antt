-- The ends and edges of records, one after the other, and of one record: what the functions of module records leave is the rule's. Assumes nothing.
use Rattle.std.proofs.Common.{◌≡◌, refl, sym, ap, subst, ◌∙◌, Bool, true, false, cond, List, [], ◌∷◌, map, ℕ, ◌+◌, ◌≤◌, ◌<◌, ltb, leb, length, get_or}
use Rattle.std.proofs.Common.{drop, arith, add-one, drop-cons}
use lib.ListN.{drop_of_length-le}
use borrow.Author.Tests.{lt-ltb, le-ltb, lt-leb, le-leb, ltb-true, leb-true, leb-false}
use Rattle.file.specs.Lists.{all_of}
use Rattle.file.specs.Pairs.{pair_place, record_at}
use Rattle.file.specs.Records.{parse_record, parse_at, refusal_from}
use Rattle.file.proofs.RecordLaws
use Rattle.file.proofs.RecordLaws.{taken}
use Rattle.file.specs.declared.InvolvedQubits.{InvolvedQubits}
use Rattle.file.specs.declared.InvolvedQubits.TheVariants.{None, All, Set}
use Rattle.file.specs.declared.Record.{Record}
use Rattle.file.specs.declared.Refusal.{Refusal}
use Rattle.file.specs.declared.Refusal.TheVariants.{TooManyNodes, TooManyEdges, Unsound}
use Rattle.file.proofs.BoolLaws.{and_l, and_r}
use Rattle.graph.specs.declared.NodeIndex.{NodeIndex}
use Rattle.graph.specs.declared.Edges.{Edges}
use Rattle.graph.specs.declared.End.{End}
use Rattle.graph.specs.Dag.{at_qubit, empty, with_edges}
use Rattle.graph.specs.Soundness.{named, if_present}
use Rattle.graph.proofs.SoundnessLaws.{named_all, named-node}
use Rattle.links.specs.declared.LinkedRecords.{LinkedRecords}
use Rattle.links.specs.Links.{Linked, FarRule, link, link_at, edge_bound}
use Rattle.links.specs.Ends.{EndFits, JoinedEnds}
use Rattle.links.specs.Linking.{links_from, no_links, links_stopped, link_record, link_records, links_fit, links_kept, link_node}
use Rattle.links.proofs.LinkLaws.{set_bound}
use Rattle.std.specs.Prelude.{Result, Ok, Err, ⊤}

-- ---- one record as node k: 5, 6, or the ends and edges with it

module _ (rule : FarRule) (i : ℕ) (f : Bool) (q : InvolvedQubits) (k : ℕ) (es : Edges) (first last : End) where
  abbrev x : Linked
  x = link_at rule f q k first last

  pub nodes_full : 512 ≤ k → links_stopped k TooManyNodes ≡ link_record rule i f q (links_from k es first last)
  unfolding link_record
  nodes_full h = rw (le-leb 512 k h) refl

  module _ (small : k < 512) (first' last' : End) (others : List ℕ) (j : JoinedEnds f x first' last' others) where
    -- "their count bounds the edges added"
    pub bounded : length others ≤ 64 → length others ≤ edge_bound q
    bounded few = rw j.others_are (by_qubits q (rw j.others_are at few))
      where
        by_qubits : (q : InvolvedQubits) → length (link_at rule f q k first last).others ≤ 64 → length (link_at rule f q k first last).others ≤ edge_bound q
        by_qubits None h = omega arith
        by_qubits All h = h
        by_qubits (Set m) h = set_bound rule m k (cond f first last) (cond f last first)

    pub edges_full : 2048 < es.count + length others → links_stopped k (TooManyEdges i) ≡ link_record rule i f q (links_from k es first last)
    unfolding link_record
    edges_full h = rw (lt-leb 512 k small, lt-ltb 2048 (es.count + length x.others) (rw j.others_are at h)) refl

    pub grows : es.count + length others ≤ 2048 → (es' : Edges) → es' ≡ with_edges es (map (link f k) others)
        → links_from (k + 1) es' first' last' ≡ link_record rule i f q (links_from k es first last)
    unfolding link_record
    grows h es' e = rw (lt-leb 512 k small, le-ltb 2048 (es.count + length x.others) (rw j.others_are at h), e, j.first_is, j.last_is, j.others_are) refl

-- ---- `link_node`

-- no more edges than a graph may have, and ends that name its nodes
pub record Fits (es : Edges) (first last : End) : Type 0 where
  pub room : es.count ≤ 2048
  pub first_fits : EndFits 512 first
  pub last_fits : EndFits 512 last

-- an end that names only nodes below n
end_fits : (n : ℕ) (e : End) → n < 512 → all_of (if_present (λ u. ltb u n)) (named e) ≡ true → EndFits 512 e
end_fits n e small h = record {
  entries = λ q t. let r = ltb-true (at_qubit e q) n (named-node (λ u. ltb u n) e h q t) in omega (arith, r);
  all = λ t. let r = ltb-true e.all.0 n (named_all (λ u. ltb u n) e h t) in omega (arith, r);
}

-- the ends and edges of a graph with v nodes, which has room for one more
pub fit_told : (v : ℕ) (es : Edges) (first last : End) → v < 512 → links_fit v es first last ≡ true → Fits es first last
fit_told v es first last small h =
    let r = and_r (leb es.count 2048) _ h in
    let p = all_of (if_present (λ u. ltb u v)) (named first) in
    record {
      room = leb-true es.count 2048 (and_l (leb es.count 2048) _ h);
      first_fits = end_fits v first small (and_l p _ r);
      last_fits = end_fits v last small (and_r p _ r);
    }

-- what follows an answer that accepts
pub when_done : (x : LinkedRecords) (g : Refusal → LinkedRecords) (a : Result ⊤ Refusal) → a ≡ Ok tt → elim a [ Ok _ ↦ x | Err r ↦ g r ] ≡ x
when_done x g (Ok _) e = refl
when_done x g (Err r) e = absurd (cc)

module _ (rule : FarRule) (i : ℕ) (f : Bool) (q : InvolvedQubits) (v : NodeIndex) (es : Edges) (first last : End) (n : ℕ) (is : n ≡ v.0) where
  pub unfit_node : links_fit n es first last ≡ false → links_kept v es first last Unsound ≡ link_node rule i f q v es first last
  unfolding link_node
  unfit_node h = rw (rw is at h) refl

  module _ (fit : links_fit n es first last ≡ true) where
    pub node_full : 512 ≤ n → links_kept v es first last TooManyNodes ≡ link_node rule i f q v es first last
    unfolding link_node
    node_full h = rw (rw is at fit, ← nodes_full rule i f q v.0 es first last (rw is at h)) refl

    pub node_taken : (es' : Edges) (first' last' : End) → links_from (n + 1) es' first' last' ≡ link_record rule i f q (links_from n es first last)
        → links_from (n + 1) es' first' last' ≡ link_node rule i f q v es first last
    unfolding link_node
    node_taken es' first' last' e =
        rw (rw is at fit)
        (subst (λ (y : LinkedRecords). links_from (n + 1) es' first' last' ≡ elim y.answer [ Ok _ ↦ y | Err r ↦ links_kept v es first last r ]) (rw is at e) (rw is refl))

    pub node_refused : (c : Refusal) → links_stopped n c ≡ link_record rule i f q (links_from n es first last)
        → links_kept v es first last c ≡ link_node rule i f q v es first last
    unfolding link_node
    node_refused c e = rw (rw is at fit, ← rw is at e) refl

-- ---- `link_records`

-- record i of the file, by what the part that its pair gives is read as
module _ (file part : List ℕ) (i : ℕ) (x : Result Record Refusal) (e : part ≡ record_at file i) (p : x ≡ parse_record part) where
  read : x ≡ parse_record (record_at file i)
  read = p ∙ ap parse_record e

  pub read_taken : (r : Record) → x ≡ Ok r → parse_at file i ≡ Ok r
  read_taken r q = taken file i r (sym read ∙ q)

  pub read_refused : (c : Refusal) → x ≡ Err c → (d : Refusal) → d ≡ refusal_from (pair_place file i) c i → parse_at file i ≡ Err d
  read_refused c q d h = rw h (RecordLaws.not_taken file i c (sym read ∙ q))

-- the records that are left, after one that gives y
abbrev onward : FarRule → List ℕ → List ℕ → LinkedRecords → LinkedRecords
onward rule file l y = elim y.answer [ Ok _ ↦ link_records rule file y l | Err r ↦ y ]

-- before the k-th record of an order
pub record SoFar (rule : FarRule) (file order : List ℕ) (k : ℕ) (es : Edges) (first last : End) : Type 0 where
  pub same : link_records rule file (links_from k es first last) (drop k order) ≡ link_records rule file no_links order

module _ (rule : FarRule) (file order : List ℕ) where
  pub begin : SoFar rule file order 0 empty.edges empty.first empty.last
  begin = record { same = refl }

  module _ (k : ℕ) (es : Edges) (first last : End) (l : SoFar rule file order k es first last) where
    pub finish : k ≡ length order → links_from (length order) es first last ≡ link_records rule file no_links order
    unfolding link_records
    finish h = let z : drop k order ≡ [] = drop_of_length-le order {i = k} (omega arith) in rw (z, h) at l.same

    module _ (h : k < length order) (i : ℕ) (is : i ≡ get_or order k 0) where
      turn : link_records rule file (links_from k es first last) (i ∷ drop (k + 1) order) ≡ link_records rule file no_links order
      turn = let e = drop-cons order k 0 h in rw (is, add-one, ← e) l.same

      pub not_taken : (c : Refusal) → parse_at file i ≡ Err c → links_stopped k c ≡ link_records rule file no_links order
      unfolding link_records
      not_taken c e = rw (e, link_records) at turn

      module _ (r : Record) (e : parse_at file i ≡ Ok r) where
        -- what the record gives goes on
        goes : (y : LinkedRecords) → y ≡ link_record rule i r.front r.qubits (links_from k es first last)
            → onward rule file (drop (k + 1) order) y ≡ link_records rule file no_links order
        unfolding link_records
        goes y z = subst (λ (y : LinkedRecords). onward rule file (drop (k + 1) order) y ≡ link_records rule file no_links order) (sym z) (rw (e, link_records) at turn)

        pub stopped : (c : Refusal) → links_stopped k c ≡ link_record rule i r.front r.qubits (links_from k es first last)
            → links_stopped k c ≡ link_records rule file no_links order
        stopped c y = goes (links_stopped k c) y

        pub again : (es' : Edges) (first' last' : End) → links_from (k + 1) es' first' last' ≡ link_record rule i r.front r.qubits (links_from k es first last)
            → SoFar rule file order (k + 1) es' first' last'
        again es' first' last' y = record { same = goes (links_from (k + 1) es' first' last') y }

-- ---- how many nodes a list of records makes

-- a record adds one node at most, none leaves, and there are at most 512
pub record Between (a b n : ℕ) : Type 0 where
  pub low : a ≤ n
  pub high : n ≤ b
  pub few : a ≤ 512 → n ≤ 512

one_between : (rule : FarRule) (i : ℕ) (f : Bool) (q : InvolvedQubits) (x : LinkedRecords) → Between x.accepted (x.accepted + 1) (link_record rule i f q x).accepted
unfolding link_record
one_between rule i f q x = by_limits (leb 512 x.accepted) (ltb 2048 (x.edges.count + length y.others)) refl
  where
    y : Linked
    y = link_at rule f q x.accepted x.first x.last

    by_limits : (p r : Bool) → leb 512 x.accepted ≡ p → Between x.accepted (x.accepted + 1) (cond p (links_stopped x.accepted TooManyNodes) (cond r (links_stopped x.accepted (TooManyEdges i))
        (links_from (x.accepted + 1) (with_edges x.edges (map (link f x.accepted) y.others)) (cond f y.near y.far) (cond f y.far y.near)))).accepted
    by_limits true r e = record { low = omega arith; high = omega arith; few = λ h. h }
    by_limits false true e = record { low = omega arith; high = omega arith; few = λ h. h }
    by_limits false false e = record { low = omega arith; high = omega arith; few = λ h. omega (arith, leb-false 512 x.accepted e) }

pub links-between : (rule : FarRule) (s : List ℕ) (l : List ℕ) (x : LinkedRecords) → Between x.accepted (x.accepted + length l) (link_records rule s x l).accepted
unfolding link_records
links-between rule s [] x = record { low = omega arith; high = omega arith; few = λ h. h }
links-between rule s (i ∷ l) x = by_parsed (parse_at s i) (λ y. links-between rule s l y)
  where
    by_answer : (y : LinkedRecords) (a : Result ⊤ Refusal) → Between x.accepted (x.accepted + 1) y.accepted → Between y.accepted (y.accepted + length l) (link_records rule s y l).accepted
        → Between x.accepted (x.accepted + length (i ∷ l)) (elim a as (λ z. LinkedRecords) [ Ok _ ↦ link_records rule s y l | Err c ↦ y ]).accepted
    by_answer y (Ok _) n h = record { low = omega (arith, n.low, h.low); high = omega (arith, n.high, h.high); few = λ k. h.few (n.few k) }
    by_answer y (Err c) n h = record { low = n.low; high = omega (arith, n.high); few = n.few }

    by_parsed : (p : Result Record Refusal) → ((y : LinkedRecords) → Between y.accepted (y.accepted + length l) (link_records rule s y l).accepted)
        → Between x.accepted (x.accepted + length (i ∷ l)) (elim p as (λ z. LinkedRecords) [
          | Err c ↦ links_stopped x.accepted c
          | Ok r ↦ let y = link_record rule i r.front r.qubits x in elim y.answer as (λ z. LinkedRecords) [ Ok _ ↦ link_records rule s y l | Err c ↦ y ]
        ]).accepted
    by_parsed (Err c) h = record { low = omega arith; high = omega arith; few = λ k. k }
    by_parsed (Ok r) h = let y = link_record rule i r.front r.qubits x in by_answer y y.answer (one_between rule i r.front r.qubits x) (h y)
