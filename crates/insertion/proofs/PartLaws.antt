-- A list of records part by part: the links, the register maps and the nodes, each made by itself, are those of the graph that the records
-- make together, and the first refusal is the same. Assumes nothing.
use mathlib.Core.Path.{◌≡◌, refl, sym, ◌∙◌, ap}
use mathlib.Core.Bool.{Bool, true, false, cond}
use mathlib.Core.Logic.{⊎_elim}
use mathlib.Core.List.{List, [], ◌∷◌, map}
use Prim.Native.Nat.{ℕ, zero, suc, ◌+◌, ◌-◌, ◌≤◌, ◌<◌}
use native.Mathlib.Omega.{arith}
use lib.Dec.{ltb, leb}
use lib.ListN.{length, take}
use borrow.Author.Tests.{lt-leb, ltb-true}
use Rattle.file.specs.Lists.{all_of}
use Rattle.file.specs.Pairs.{count_of, check_file, record_at}
use Rattle.file.specs.Records.{front, good, cause_of, qubits_of, record_of, parse_at}
use Rattle.file.specs.Refusals.{at_record}
use Rattle.file.proofs.BoolLaws.{clash_bool}
use Rattle.file.proofs.RecordLaws.{checked_at}
use Rattle.file.specs.declared.Refusal.{Refusal}
use Rattle.file.specs.declared.Refusal.TheVariants.{TooManyNodes, TooManyEdges, TooManyRegisters}
use Rattle.graph.specs.declared.CircuitDag.{CircuitDag}
use Rattle.graph.specs.Dag.{size, with_edges}
use Rattle.links.specs.declared.LinkedRecords.{LinkedRecords}
use Rattle.links.specs.Links.{FarRule, link, link_at}
use Rattle.links.specs.Linking.{links_from, links_stopped, link_record, link_records}
use Rattle.links.proofs.LinkingLaws.{links-between}
use Rattle.links.proofs.QubitLaws.{all_first, all_rest}
use Rattle.registers.specs.declared.Registered.{Registered}
use Rattle.registers.specs.Registers.{maps_after, maps_pass, registers_of, stored, maps_stopped, registers_from}
use Rattle.insertion.specs.Insertion.{facing, linked, registered, commutes, grown}
use Rattle.insertion.specs.Limits.{refused, edges_pass, registers_pass, insert_as}
use Rattle.insertion.specs.Load.{not_loaded, insert_records}
use Rattle.insertion.specs.Parts.{node_lists, node_after, nodes_after, assembled}
use Rattle.insertion.proofs.CaseLaws.{Taken, Cause, itself, nodes, edges, entries, taken-or-refused, taken_inserts, cause_refuses}
use Rattle.std.specs.Prelude.{Result, Ok, Err, ⊤}

-- ---- the parts of a graph

-- its ends and edges, ..
abbrev pub links_of : CircuitDag → LinkedRecords
links_of g = links_from (size g) g.edges g.first g.last

-- .. and its register maps
abbrev pub maps_of : CircuitDag → Registered
maps_of g = registers_of (size g) g.first_registers g.last_registers

-- ---- one record

-- the rule seen from the end of the insertion is the rule on first and last
pub linked-at : (rule : FarRule) (f : Bool) (g : CircuitDag) (s : List ℕ) → linked rule (facing f g) s ≡ link_at rule f (qubits_of s) (size g) g.first g.last
linked-at rule false g s = refl
linked-at rule true g s = refl

module _ (g : CircuitDag) (b : List ℕ) where
  registered-at : (f : Bool) → front b ≡ f → registered (facing (front b) g) b ≡ maps_after b (size g) g.first_registers g.last_registers
  registered-at true e = rw e refl
  registered-at false e = rw e refl

  pub maps-pass : registers_pass g b ≡ maps_pass (maps_after b (size g) g.first_registers g.last_registers)
  maps-pass = rw (registered-at (front b) refl) refl

module _ (rule : FarRule) (g : CircuitDag) (b : List ℕ) where
  pub links-at : (f : Bool) → front b ≡ f → (let y = link_at rule (front b) (qubits_of b) (size g) g.first g.last in
      links_from (size g + 1) (with_edges g.edges (map (link (front b) (size g)) y.others)) (cond (front b) y.near y.far) (cond (front b) y.far y.near)) ≡ links_of (grown rule g b)
  unfolding grown
  links-at true e = rw e refl
  links-at false e = rw e refl

  pub registers-at : (f : Bool) → front b ≡ f → stored (front b) (size g + 1) g.first_registers g.last_registers (maps_after b (size g) g.first_registers g.last_registers) ≡ maps_of (grown rule g b)
  unfolding grown
  registers-at true e = rw e refl
  registers-at false e = rw e refl

  pub nodes_at : (f c : Bool) → front b ≡ f → commutes b ≡ c → node_after b (node_lists g) ≡ node_lists (grown rule g b)
  unfolding grown node_after
  nodes_at true true e d = rw (e, d) refl
  nodes_at true false e d = rw (e, d) refl
  nodes_at false true e d = rw (e, d) refl
  nodes_at false false e d = rw (e, d) refl

-- what the links say of the record
module _ (rule : FarRule) (i : ℕ) (g : CircuitDag) (b : List ℕ) where
  pub links_full : leb 512 (size g) ≡ true → link_record rule i (front b) (qubits_of b) (links_of g) ≡ links_stopped (size g) TooManyNodes
  unfolding link_record
  links_full h = rw h refl

  module _ (free : leb 512 (size g) ≡ false) where
    pub links_over : edges_pass rule g b ≡ true → link_record rule i (front b) (qubits_of b) (links_of g) ≡ links_stopped (size g) (TooManyEdges i)
    unfolding link_record
    links_over h = rw (free, ← linked-at rule (front b) g b, h) refl

    pub links-grown : edges_pass rule g b ≡ false → link_record rule i (front b) (qubits_of b) (links_of g) ≡ links_of (grown rule g b)
    unfolding link_record
    links-grown h =
        let z : ltb 2048 (g.edges.count + length (link_at rule (front b) (qubits_of b) (size g) g.first g.last).others) ≡ false
        = rw (← linked-at rule (front b) g b) h in
        rw (free, z) (links-at rule g b (front b) refl)

-- ---- a list of records

-- the links of the records, and the register maps of those that the links accept
abbrev links_in : FarRule → List ℕ → CircuitDag → List ℕ → LinkedRecords
links_in rule s g l = link_records rule s (links_of g) l

abbrev registers_in : FarRule → List ℕ → CircuitDag → List ℕ → Registered
registers_in rule s g l = registers_from s (maps_of g) (take ((links_in rule s g l).accepted - size g) l)

-- what the records make together, by the parts
pub record Together (rule : FarRule) (s : List ℕ) (g : CircuitDag) (l : List ℕ) (x : LinkedRecords) (r : Registered) : Type 0 where
  pub many : (c : Refusal) → r.answer ≡ Err c → insert_records rule s g l ≡ not_loaded c
  pub stops : (c : Refusal) → r.answer ≡ Ok tt → x.answer ≡ Err c → insert_records rule s g l ≡ not_loaded c
  pub whole : r.answer ≡ Ok tt → x.answer ≡ Ok tt → insert_records rule s g l ≡ record { answer = (Ok tt); graph = assembled (nodes_after s (node_lists g) l) x r }

pub not_both : {A : Type 0} (c : Refusal) → ◌≡◌ {A = Result ⊤ Refusal} (Ok tt) (Err c) → A
not_both c e = let z : ◌≡◌ {A = ℕ} 0 1 = cc in absurd (omega arith)

take_none : (n : ℕ) → take {A = ℕ} n [] ≡ []
take_none zero = refl
take_none (suc n) = refl

-- the links of a list by those of its first record
module _ (rule : FarRule) (s : List ℕ) (g : CircuitDag) (i : ℕ) (l : List ℕ) where
  links-not : (c : Refusal) → parse_at s i ≡ Err c → links_in rule s g (i ∷ l) ≡ links_stopped (size g) c
  unfolding link_records
  links-not c e = rw (e, link_records) refl

  links-next : parse_at s i ≡ Ok (record_of (record_at s i)) → (y : LinkedRecords)
      → link_record rule i (front (record_at s i)) (qubits_of (record_at s i)) (links_of g) ≡ y
      → links_in rule s g (i ∷ l) ≡ elim y.answer as (λ z. LinkedRecords) [ Ok _ ↦ link_records rule s y l | Err c ↦ y ]
  unfolding link_records
  links-next e y q = rw (e, link_records)
      (ap (λ (y : LinkedRecords). elim y.answer as (λ z. LinkedRecords) [ Ok _ ↦ link_records rule s y l | Err c ↦ y ]) q)

module _ (rule : FarRule) (s : List ℕ) (g : CircuitDag) where
  none-registered : registers_in rule s g [] ≡ maps_of g
  unfolding registers_from
  none-registered = rw (take_none ((links_in rule s g []).accepted - size g)) refl

  together_none : Together rule s g [] (links_in rule s g []) (registers_in rule s g [])
  unfolding link_records insert_records nodes_after
  together_none = record {
    many = λ c h. not_both c (rw none-registered at h);
    stops = λ c h e. not_both c e;
    whole = λ h e. rw none-registered refl;
  }

  module _ (i : ℕ) (l : List ℕ) where
    abbrev b : List ℕ
    b = record_at s i

    -- a refusal by the links: nothing is left for the register maps
    stopped_here : (c : Refusal) → links_in rule s g (i ∷ l) ≡ links_stopped (size g) c → insert_as rule i g b ≡ refused c g → Together rule s g (i ∷ l) (links_in rule s g (i ∷ l)) (registers_in rule s g (i ∷ l))
    unfolding insert_records registers_from
    stopped_here c e d = record {
      many = λ x h. not_both x (rw none_left at h);
      stops = λ x h q. let z : Err c ≡ Err x = rw e at q in let y : c ≡ x = cc in rw (d, insert_records, y) refl;
      whole = λ h q. not_both c (sym (rw e at q));
    }
      where
        none_left : registers_in rule s g (i ∷ l) ≡ maps_of g
        none_left = let z : (links_in rule s g (i ∷ l)).accepted - size g ≡ 0 = rw e (omega arith) in rw z refl

    module _ (there : parse_at s i ≡ Ok (record_of b)) (keeps : good b ≡ true) (free : leb 512 (size g) ≡ false) (room : edges_pass rule g b ≡ false) where
      abbrev h : CircuitDag
      h = grown rule g b

      grown-size : size h ≡ size g + 1
      grown-size = ap (λ (x : LinkedRecords). x.accepted) (sym (links-at rule g b (front b) refl))

      links-on : links_in rule s g (i ∷ l) ≡ links_in rule s h l
      links-on = links-next rule s g i l there (links_of h) (links-grown rule i g b free room)

      -- the record is left for the register maps
      taken : (k : ℕ) → size g < k → take (k - size g) (i ∷ l) ≡ i ∷ take (k - (size g + 1)) l
      taken k low = let z : k - size g ≡ suc (k - (size g + 1)) = omega arith in rw z refl

      above : size g < (links_in rule s g (i ∷ l)).accepted
      above = let r = (links-between rule s l (links_of h)).low in rw links-on (omega (arith, r, grown-size))

      registers_first : registers_in rule s g (i ∷ l) ≡ registers_from s (maps_of g) (i ∷ take ((links_in rule s g (i ∷ l)).accepted - (size g + 1)) l)
      registers_first = ap (registers_from s (maps_of g)) (taken (links_in rule s g (i ∷ l)).accepted above)

      -- a map passes 256 at this record
      passes_here : registers_pass g b ≡ true → Together rule s g (i ∷ l) (links_in rule s g (i ∷ l)) (registers_in rule s g (i ∷ l))
      unfolding insert_records registers_from
      passes_here p = record {
        many = λ c q. let z : Err (TooManyRegisters i) ≡ Err c = rw stops_here at q in let y : TooManyRegisters i ≡ c = cc in rw (cause_refuses rule g b i (TooManyRegisters 0) (entries keeps free room p refl), insert_records, y) refl;
        stops = λ c q e. not_both (TooManyRegisters i) (sym (rw stops_here at q));
        whole = λ q e. not_both (TooManyRegisters i) (sym (rw stops_here at q));
      }
        where
          stops_here : registers_in rule s g (i ∷ l) ≡ maps_stopped (size g) (TooManyRegisters i)
          stops_here = let z : maps_pass (maps_after b (size g) g.first_registers g.last_registers) ≡ true = sym (maps-pass g b) ∙ p in registers_first ∙ rw z refl

      -- the record is accepted
      module _ (fit : registers_pass g b ≡ false) where
        registers-on : registers_in rule s g (i ∷ l) ≡ registers_in rule s h l
        unfolding registers_from
        registers-on =
            let z : maps_pass (maps_after b (size g) g.first_registers g.last_registers) ≡ false = sym (maps-pass g b) ∙ fit in
            registers_first ∙ rw (z, registers-at rule g b (front b) refl, links-on, grown-size) refl

        inserts_on : insert_records rule s g (i ∷ l) ≡ insert_records rule s h l
        unfolding insert_records
        inserts_on = let e = taken_inserts rule g b i (record { whole = keeps; free = free; room = room; fit = fit }) in rw (e, insert_records) (rw e refl)

        nodes_on : nodes_after s (node_lists g) (i ∷ l) ≡ nodes_after s (node_lists h) l
        unfolding nodes_after
        nodes_on = rw (nodes_at rule g b (front b) (commutes b) refl refl) refl

        together_on : Together rule s h l (links_in rule s h l) (registers_in rule s h l) → Together rule s g (i ∷ l) (links_in rule s g (i ∷ l)) (registers_in rule s g (i ∷ l))
        together_on t = record {
          many = λ c q. inserts_on ∙ t.many c (rw registers-on at q);
          stops = λ c q e. inserts_on ∙ t.stops c (rw registers-on at q) (rw links-on at e);
          whole = λ q e. inserts_on ∙ rw (registers-on, links-on, nodes_on) (t.whole (rw registers-on at q) (rw links-on at e));
        }

pub together : (rule : FarRule) (s : List ℕ) → check_file s ≡ Ok tt → (l : List ℕ) → all_of (λ i. ltb i (count_of s)) l ≡ true → (g : CircuitDag)
    → size g + length l ≤ 512 → Together rule s g l (links_in rule s g l) (registers_in rule s g l)
together rule s sure [] below g h = together_none rule s g
together rule s sure (i ∷ l) below g h = ⊎_elim
    (λ (t : Taken rule g b).
    let e = there t.whole in
    let k : size (grown rule g b) + length l ≤ 512 = omega (arith, h, grown-size rule s g i l e t.whole t.free t.room) in
    together_on rule s g i l e t.whole t.free t.room t.fit
    (together rule s sure l (all_rest (λ j. ltb j (count_of s)) i l below) (grown rule g b) k))
    (λ (c : (r : Refusal) × Cause rule g b r). by_cause c.0 c.1)
    (taken-or-refused rule g b)
  where
    b : List ℕ
    b = record_at s i

    free : leb 512 (size g) ≡ false
    free = lt-leb 512 (size g) (omega (arith, h))

    at : parse_at s i ≡ cond (good b) (Ok (record_of b)) (Err (at_record i (cause_of b)))
    at = checked_at s i sure (ltb-true i (count_of s) (all_first (λ j. ltb j (count_of s)) i l below))

    there : good b ≡ true → parse_at s i ≡ Ok (record_of b)
    there e = at ∙ ap (λ (c : Bool). cond c (Ok (record_of b)) (Err (at_record i (cause_of b)))) e

    not_taken : good b ≡ false → (r : Refusal) → r ≡ cause_of b → parse_at s i ≡ Err (at_record i r)
    not_taken e r q = at ∙ ap (λ (c : Bool). cond c (Ok (record_of b)) (Err (at_record i (cause_of b)))) e
        ∙ ap (λ (x : Refusal). Err (at_record i x)) (sym q)

    by_cause : (r : Refusal) → Cause rule g b r → Together rule s g (i ∷ l) (links_in rule s g (i ∷ l)) (registers_in rule s g (i ∷ l))
    by_cause r (itself a q) =
        stopped_here rule s g i l (at_record i r) (links-not rule s g i l (at_record i r) (not_taken a r q)) (cause_refuses rule g b i r (itself a q))
    by_cause r (nodes a f q) = absurd (clash_bool f free)
    by_cause r (edges a f e q) =
        let stop = links-next rule s g i l (there a) (links_stopped (size g) (TooManyEdges i)) (links_over rule i g b f e) in
        stopped_here rule s g i l (TooManyEdges i) stop (cause_refuses rule g b i (TooManyEdges 0) (edges a f e refl))
    by_cause r (entries a f e m q) = passes_here rule s g i l (there a) a f e m
