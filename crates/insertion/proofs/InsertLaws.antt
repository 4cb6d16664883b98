-- A single insertion: the parts of a sound graph may be handed over, and what comes back is the rule's answer. Assumes nothing.
use mathlib.Core.Path.{◌≡◌, refl, sym, ◌∙◌, ap}
use mathlib.Core.Bool.{Bool, true, false, cond, ◌&&◌}
use mathlib.Core.List.{List, ◌++◌}
use Prim.Native.Nat.{ℕ, zero, suc, ◌+◌, ◌≤◌, ◌<◌}
use native.Mathlib.Omega.{arith}
use lib.Dec.{leb, ltb}
use lib.ListN.{get_or}
use borrow.Author.Tests.{le-leb, leb-false}
use Rattle.file.specs.Lists.{all_of, members}
use Rattle.file.specs.Records.{front, good, qubits_of, record_of}
use Rattle.file.specs.declared.Record.{Record}
use Rattle.file.specs.declared.Refusal.{Refusal}
use Rattle.file.specs.declared.Refusal.TheVariants.{TooManyNodes, TooManyEdges, TooManyRegisters}
use Rattle.graph.specs.declared.NodeIndex.{NodeIndex}
use Rattle.graph.specs.declared.CircuitDag.{CircuitDag}
use Rattle.graph.specs.Dag.{Edge, Entry, node, size, edges_of, commuting_of, entries_of}
use Rattle.graph.specs.Soundness.{sound, named, if_present, register_map_rule}
use Rattle.file.proofs.BoolLaws.{and_l, and_r}
use Rattle.graph.proofs.SizeLaws.{DagSized}
use Rattle.graph.proofs.SoundnessLaws.{Sound, sound_told, sound_clauses, all_left, all_right}
use Rattle.links.specs.declared.LinkedRecords.{LinkedRecords}
use Rattle.links.specs.Links.{FarRule}
use Rattle.links.specs.Linking.{links_fit, links_stopped, link_record, links_kept, link_node}
use Rattle.links.proofs.LinkingLaws.{when_done}
use Rattle.registers.specs.declared.Registered.{Registered}
use Rattle.registers.specs.Registers.{maps_after, maps_pass, stored, maps_kept, register_record}
use Rattle.insertion.specs.declared.Inserted.{Inserted}
use Rattle.insertion.specs.declared.nodes.NodeLists.{NodeLists}
use Rattle.insertion.specs.Insertion.{commutes, grown}
use Rattle.insertion.specs.Limits.{refused, edges_pass, insert_as}
use Rattle.insertion.specs.Parts.{node_lists, node_after, assembled}
use Rattle.insertion.proofs.CaseLaws.{nodes, edges, entries, taken_inserts, cause_refuses}
use Rattle.insertion.proofs.PartLaws.{links_of, maps_of, not_both, links_full, links_over, links-grown, maps-pass}
use Rattle.insertion.proofs.PartLaws.{registers-at, nodes_at}
use Rattle.std.specs.Prelude.{Result, Ok, Err, ⊤}

-- m numbers below n that rise are no more than n
rising : (f : ℕ → ℕ) (m : ℕ) → ((i j : ℕ) → i < j → j < m → f i < f j) → (i : ℕ) → i < m → i ≤ f i
rising f m up zero l = omega arith
rising f m up (suc i) l = let h = rising f m up i (omega arith) in omega (arith, h, up i (suc i) (omega arith) l)

rising_few : (f : ℕ → ℕ) (m n : ℕ) → ((i j : ℕ) → i < j → j < m → f i < f j) → ((i : ℕ) → i < m → f i < n) → m ≤ n
rising_few f zero n up low = omega arith
rising_few f (suc m) n up low = let h = rising f (suc m) up m (omega arith) in omega (arith, h, low m (omega arith))

-- ---- what the parts ask

module _ (g : CircuitDag) (h : sound g ≡ true) where
  abbrev below : ℕ → Bool
  below v = ltb v (size g)

  abbrev of_edges : Bool
  of_edges = all_of (λ (e : Edge). below e.from && below e.to) (edges_of g)

  abbrev of_ends : Bool
  of_ends = all_of (if_present below) (named g.first ++ named g.last)

  abbrev of_lists : Bool
  of_lists = all_of below (members g.first.block ++ members g.last.block ++ commuting_of g)

  abbrev of_maps : Bool
  of_maps = all_of (λ (x : Entry). below x.node) (entries_of g.first_registers ++ entries_of g.last_registers)

  numbers : (of_edges && of_ends && of_lists && of_maps) ≡ true
  numbers = (sound_clauses g h).numbers

  ends_below : of_ends ≡ true
  ends_below = and_r of_edges of_ends (and_l (of_edges && of_ends) of_lists (and_l (of_edges && of_ends && of_lists) of_maps numbers))

  maps-below : of_maps ≡ true
  maps-below = and_r (of_edges && of_ends && of_lists) of_maps numbers

  module _ (z : DagSized g) where
    s : Sound g
    s = sound_told g z.commuting.list h

    pub links_fit_lem : links_fit (size g) g.edges g.first g.last ≡ true
    links_fit_lem = rw (le-leb g.edges.count 2048 s.edge_count, all_left (if_present below) (named g.first) (named g.last) ends_below, all_right (if_present below) (named g.first) (named g.last) ends_below) refl

    pub first_map : register_map_rule (size g) g.first_registers ≡ true
    first_map = rw (le-leb g.first_registers.count 256 s.first_count, (sound_clauses g h).first_keys, all_left (λ (x : Entry). below x.node) (entries_of g.first_registers) (entries_of g.last_registers) maps-below) refl

    pub last_map : register_map_rule (size g) g.last_registers ≡ true
    last_map = rw (le-leb g.last_registers.count 256 s.last_count, (sound_clauses g h).last_keys, all_right (λ (x : Entry). below x.node) (entries_of g.first_registers) (entries_of g.last_registers) maps-below) refl

    pub commuting_few : g.commuting.count ≤ size g
    commuting_few = rising_few (λ i. get_or g.commuting.list i 0) g.commuting.count (size g) s.commuting_ascends_lem s.commuting_below

    pub ends_sum : g.backs + g.fronts ≡ size g
    ends_sum = s.ends

    pub few_nodes : size g ≤ 512
    few_nodes = s.node-count

-- ---- the answer

module _ (rule : FarRule) (i : ℕ) (g : CircuitDag) (b : List ℕ) (keeps : good b ≡ true) where
  abbrev pub once : LinkedRecords
  once = link_record rule i (front b) (qubits_of b) (links_of g)

  -- a refusal by the links
  pub link-refused : (c : Refusal) → once.answer ≡ Err c → refused c g ≡ insert_as rule i g b
  link-refused c e = by_limits (leb 512 (size g)) (edges_pass rule g b) refl refl
    where
      same : (d : Refusal) → once ≡ links_stopped (size g) d → insert_as rule i g b ≡ refused d g → refused c g ≡ insert_as rule i g b
      same d q r = let w : Err d ≡ Err c = rw q at e in let y : d ≡ c = cc in ap (λ (x : Refusal). refused x g) (sym y) ∙ sym r

      by_limits : (p q : Bool) → leb 512 (size g) ≡ p → edges_pass rule g b ≡ q → refused c g ≡ insert_as rule i g b
      by_limits true q l m = same TooManyNodes (links_full rule i g b l) (cause_refuses rule g b i TooManyNodes (nodes keeps l refl))
      by_limits false true l m = same (TooManyEdges i) (links_over rule i g b l m) (cause_refuses rule g b i (TooManyEdges 0) (edges keeps l m refl))
      by_limits false false l m = not_both c (sym (ap (λ (x : LinkedRecords). x.answer) (links-grown rule i g b l m)) ∙ e)

  -- the links accept: there is a free node, and room for the edges
  module _ (done : once.answer ≡ Ok tt) where
    pub free : leb 512 (size g) ≡ false
    free = by_limit (leb 512 (size g)) refl
      where
        by_limit : (p : Bool) → leb 512 (size g) ≡ p → p ≡ false
        by_limit false l = refl
        by_limit true l = not_both TooManyNodes (sym done ∙ ap (λ (x : LinkedRecords). x.answer) (links_full rule i g b l))

    room : edges_pass rule g b ≡ false
    room = by_limit (edges_pass rule g b) refl
      where
        by_limit : (q : Bool) → edges_pass rule g b ≡ q → q ≡ false
        by_limit false m = refl
        by_limit true m = not_both (TooManyEdges i) (sym done ∙ ap (λ (x : LinkedRecords). x.answer) (links_over rule i g b free m))

    pub free-node : size g < 512
    free-node = leb-false 512 (size g) free

    module _ (first : register_map_rule (size g) g.first_registers ≡ true) (last : register_map_rule (size g) g.last_registers ≡ true) (v : NodeIndex) (is : v.0 ≡ size g) where
      abbrev maps : Registered
      maps = register_record i g.first_registers g.last_registers b v

      abbrev passing : Bool
      passing = maps_pass (maps_after b (size g) g.first_registers g.last_registers)

      abbrev after : CircuitDag
      after = grown rule g b

      abbrev new : Registered
      new = stored (front b) (v.0 + 1) g.first_registers g.last_registers (maps_after b (size g) g.first_registers g.last_registers)

      maps_by : (p : Bool) → passing ≡ p → maps ≡ cond p (maps_kept v g.first_registers g.last_registers (TooManyRegisters i)) new
      unfolding register_record
      maps_by p e = rw (is, first, last, keeps, free, e) refl

      pub too_many : (c : Refusal) → maps.answer ≡ Err c → refused c g ≡ insert_as rule i g b
      too_many c z = by_pass passing refl
        where
          by_pass : (p : Bool) → passing ≡ p → refused c g ≡ insert_as rule i g b
          by_pass true e =
              let w : Err (TooManyRegisters i) ≡ Err c = sym (ap (λ (x : Registered). x.answer) (maps_by true e)) ∙ z in
              let y : TooManyRegisters i ≡ c = cc in
              ap (λ (x : Refusal). refused x g) (sym y) ∙ sym (cause_refuses rule g b i (TooManyRegisters 0) (entries keeps free room (maps-pass g b ∙ e) refl))
          by_pass false e = not_both c (sym (ap (λ (x : Registered). x.answer) (maps_by false e)) ∙ z)

      pub inserted : maps.answer ≡ Ok tt → record { answer = Ok v; graph = assembled (node_after b (node_lists g)) once maps } ≡ insert_as rule i g b
      inserted z = by_pass passing refl
        where
          by_pass : (p : Bool) → passing ≡ p → record { answer = Ok v; graph = assembled (node_after b (node_lists g)) once maps } ≡ insert_as rule i g b
          by_pass true e = not_both (TooManyRegisters i) (sym z ∙ ap (λ (x : Registered). x.answer) (maps_by true e))
          by_pass false e =
              let d = taken_inserts rule g b i (record { whole = keeps; free = free; room = room; fit = maps-pass g b ∙ e }) in
              let n = nodes_at rule g b (front b) (commutes b) refl refl in
              let r = maps_by false e in
              let q : new ≡ maps_of after = (λ j. stored (front b) (is j + 1) g.first_registers g.last_registers (maps_after b (size g) g.first_registers g.last_registers)) ∙ registers-at rule g b (front b) refl in
              let w : v ≡ node (size g) = λ j. record { 0 = is j } in
              let x = links-grown rule i g b free room in
              let here : ◌≡◌ {A = Inserted} (record { answer = Ok v; graph = assembled (node_after b (node_lists g)) once maps }) (record { answer = Ok (node (size g)); graph = assembled (node_lists after) (links_of after) new }) = λ j. record { answer = Ok (w j); graph = assembled (n j) (x j) (r j) } in
              let there : ◌≡◌ {A = Inserted} (record { answer = Ok (node (size g)); graph = assembled (node_lists after) (links_of after) new }) (record { answer = Ok (node (size g)); graph = after }) = λ j. record { answer = Ok (node (size g)); graph = assembled (node_lists after) (links_of after) (q j) } in
              here ∙ there ∙ sym d

-- ---- `insert_sound`

module _ (rule : FarRule) (i : ℕ) (g : CircuitDag) (h : sound g ≡ true) (z : DagSized g) (b : List ℕ) (keeps : good b ≡ true) where
  -- the links of the parsed record
  module _ (s : Record) (x : LinkedRecords) (is : s ≡ record_of b) (ex : x ≡ link_node rule i s.front s.qubits (node (size g)) g.edges g.first g.last) where
    by_answer : x ≡ elim (once rule i g b keeps).answer [ Ok _ ↦ once rule i g b keeps | Err r ↦ links_kept (node (size g)) g.edges g.first g.last r ]
    unfolding link_node
    by_answer = ex ∙ ap (λ (r : Record). link_node rule i r.front r.qubits (node (size g)) g.edges g.first g.last) is ∙ rw (links_fit_lem g h z) refl

    answer_is : x.answer ≡ (once rule i g b keeps).answer
    answer_is = ap (λ (y : LinkedRecords). y.answer) by_answer ∙ kept (once rule i g b keeps).answer refl
      where
        kept : (a : Result ⊤ Refusal) → (once rule i g b keeps).answer ≡ a → (let y : LinkedRecords = elim a [ Ok _ ↦ once rule i g b keeps | Err r ↦ links_kept (node (size g)) g.edges g.first g.last r ] in y.answer ≡ a)
        kept (Ok _) e = e
        kept (Err r) e = refl

    pub stays : (c : Refusal) → x.answer ≡ Err c → refused c g ≡ insert_as rule i g b
    stays c e = link-refused rule i g b keeps c (sym answer_is ∙ e)

    module _ (done : x.answer ≡ Ok tt) where
      all : (once rule i g b keeps).answer ≡ Ok tt
      all = sym answer_is ∙ done

      is-once : x ≡ once rule i g b keeps
      is-once = by_answer ∙ when_done (once rule i g b keeps) (links_kept (node (size g)) g.edges g.first g.last) (once rule i g b keeps).answer all

      pub lists_fit : (n : NodeLists) → n ≡ node_lists g → (n.nodes.count < 512) × (n.commuting.count < 512) × (n.backs < 512) × (n.fronts < 512)
      lists_fit n e =
          let f = free-node rule i g b keeps all in
          rw e (f, omega (arith, f, commuting_few g h z), omega (arith, f, ends_sum g h z), omega (arith, f, ends_sum g h z))

      module _ (r : Registered) (er : r ≡ register_record i g.first_registers g.last_registers b (node (size g))) where
        pub passes : (c : Refusal) → r.answer ≡ Err c → refused c g ≡ insert_as rule i g b
        passes c e = too_many rule i g b keeps all (first_map g h z) (last_map g h z) (node (size g)) refl c (sym (ap (λ (y : Registered). y.answer) er) ∙ e)

        pub grown-is : r.answer ≡ Ok tt → (l n : NodeLists) → l ≡ node_lists g → n ≡ node_after b l → (a : CircuitDag) → a ≡ assembled n x r → record { answer = Ok (node (size g)); graph = a } ≡ insert_as rule i g b
        grown-is e l n el en a ea =
            let w = inserted rule i g b keeps all (first_map g h z) (last_map g h z) (node (size g)) refl (sym (ap (λ (q : Registered). q.answer) er) ∙ e) in
            let p : a ≡ assembled (node_after b (node_lists g)) (once rule i g b keeps) (register_record i g.first_registers g.last_registers b (node (size g))) = ea ∙ (λ j. assembled (en j) (is-once j) (er j)) ∙ ap (λ (y : NodeLists). assembled (node_after b y) (once rule i g b keeps) (register_record i g.first_registers g.last_registers b (node (size g)))) el in
            ap (λ (y : CircuitDag). record { answer = Ok (node (size g)); graph = y }) p ∙ w
