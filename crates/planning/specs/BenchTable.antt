-- "Bench table (proved)": "The ten cases above are one theorem about the rules." Assumes nothing.
use Rattle.std.specs.Prelude.{◌≡◌, List, [], ◌∷◌, ◌++◌, map, ℕ, ◌+◌, ◌^◌, negsuc, replicate, Ok}
use Rattle.file.specs.declared.Refusal.TheVariants.{EmptySet}
use Rattle.graph.specs.declared.CircuitDag.{CircuitDag}
use Rattle.graph.specs.Dag.{Node, absent, edge, entry, nodes_of, edges_of, entries_of, at_qubit}
use Rattle.queries.specs.Queries.{new_front_layer}
use Rattle.queries.specs.Conversion.{circuit_of}
use Rattle.insertion.specs.Limits.{refused, insert_of}
use Rattle.insertion.specs.Load.{not_loaded, load}
use Rattle.links.specs.declared.LoadingRule.TheVariants.{FarAll}
use Rattle.insertion.specs.Calls.{final_by, final}
use Rattle.walk.specs.Blocks.{whole_walk, blocks}
use Rattle.guarantee.specs.Guarantee.{Bytes, Condition}

-- "numbers in braces are qubits": their mask
abbrev pub mask_of : List ℕ → ℕ
mask_of [] = 0
mask_of (q ∷ l) = 2 ^ q + mask_of l

-- a record of end e, kind 0, label 0, on qubits below 8
abbrev pub on : ℕ → List ℕ → List ℕ
on e qs = e ∷ 0 ∷ 2 ∷ mask_of qs ∷ 0 ∷ 0 ∷ 0 ∷ 0 ∷ 0 ∷ 0 ∷ 0 ∷ 0 ∷ 0 ∷ 0 ∷ []

-- "B = back"
abbrev pub B : List ℕ → List ℕ
B qs = on 0 qs

-- "F = front"
abbrev pub F : List ℕ → List ℕ
F qs = on 1 qs

-- "B All"
abbrev pub BAll : List ℕ
BAll = 0 ∷ 0 ∷ 1 ∷ 0 ∷ 0 ∷ 0 ∷ 0 ∷ 0 ∷ 0 ∷ 0 ∷ 0 ∷ 0 ∷ 0 ∷ 0 ∷ []

-- "Bit name n length m", with m below 256
abbrev pub Bit : ℕ → ℕ → List ℕ
Bit n m = 0 ∷ 1 ∷ 0 ∷ 0 ∷ 0 ∷ 0 ∷ 0 ∷ 0 ∷ 0 ∷ 0 ∷ 0 ∷ 4 ∷ 0 ∷ 0 ∷ n ∷ m ∷ 0 ∷ []

-- "B None/All name n"
abbrev pub NameAll : ℕ → List ℕ
NameAll n = 0 ∷ 0 ∷ 0 ∷ 0 ∷ 0 ∷ 0 ∷ 0 ∷ 0 ∷ 0 ∷ 0 ∷ 0 ∷ 1 ∷ 0 ∷ 0 ∷ n ∷ []

-- "B None/Set (n,i)", with i below 256
abbrev pub NameSet : ℕ → ℕ → List ℕ
NameSet n i = 0 ∷ 0 ∷ 0 ∷ 0 ∷ 0 ∷ 0 ∷ 0 ∷ 0 ∷ 0 ∷ 0 ∷ 0 ∷ 3 ∷ 0 ∷ 0 ∷ 1 ∷ n ∷ i ∷ 0 ∷ []

-- case 2: "B{0} B{1} B{0,1}"
abbrev pub case2 : CircuitDag
case2 = final (B (0 ∷ []) ∷ B (1 ∷ []) ∷ B (0 ∷ 1 ∷ []) ∷ [])

-- case 4: "B All, B{5}"
abbrev pub case4 : CircuitDag
case4 = final (BAll ∷ B (5 ∷ []) ∷ [])

-- case 5: "B{0} B All B All F{3} B{3}", its records
abbrev pub list5 : List (List ℕ)
list5 = B (0 ∷ []) ∷ BAll ∷ BAll ∷ F (3 ∷ []) ∷ B (3 ∷ []) ∷ []

-- .. and its graph
abbrev pub case5 : CircuitDag
case5 = final list5

-- case 6: "B{} B All", as a file: two records of 14 bytes behind the count and the pairs
abbrev pub file6 : List ℕ
file6 = 2 ∷ 0 ∷ 10 ∷ 0 ∷ 14 ∷ 0 ∷ 24 ∷ 0 ∷ 14 ∷ 0 ∷ (B [] ++ BAll)

-- case 7: "F{0} F{0}"
abbrev pub case7 : CircuitDag
case7 = final (F (0 ∷ []) ∷ F (0 ∷ []) ∷ [])

-- case 10: "Bit name 1 length 2; Bit name 2 length 1; B None/All name 2", and what follows
abbrev pub case10 : List (List ℕ) → CircuitDag
case10 l = final (Bit 1 2 ∷ Bit 2 1 ∷ NameAll 2 ∷ l)

-- "B All, F{0}, F{1}, B{0,1}": both ends, one all-qubit operation
abbrev pub at_both_ends : List (List ℕ)
at_both_ends = BAll ∷ F (0 ∷ []) ∷ F (1 ∷ []) ∷ B (0 ∷ 1 ∷ []) ∷ []

-- "B All, B All, B{3}": one end, two all-qubit operations
abbrev pub one_end : List (List ℕ)
one_end = BAll ∷ BAll ∷ B (3 ∷ []) ∷ []

-- the table, a field a line
pub record BenchTable : Type 0 where
  -- "1. Empty: walk counts 0."
  pub case_1 : (whole_walk (final []) []).answer ≡ Ok 0
  -- "2. B{0} B{1} B{0,1}: edges 0-2, 1-2; blocks {0,1} {2}."
  pub case_2 : (edges_of case2 ≡ edge 0 2 ∷ edge 1 2 ∷ []) × (blocks case2 ≡ (0 ∷ 1 ∷ []) ∷ (2 ∷ []) ∷ [])
  -- "3. B All: qubit 0 to node 0 in both maps."
  pub case_3 : ((final (BAll ∷ [])).first.node ≡ 0 ∷ replicate 63 absent) × ((final (BAll ∷ [])).last.node ≡ 0 ∷ replicate 63 absent)
  -- "4. B All, B{5}: edge 0-1; first[5] = 0, last[5] = 1."
  pub case_4 : (edges_of case4 ≡ edge 0 1 ∷ []) × (at_qubit case4.first 5 ≡ 0) × (at_qubit case4.last 5 ≡ 1)
  -- "5. B{0} B All B All F{3} B{3}: edges 0-1, 1-2, 3-1, 1-4; blocks {0,3} {1} {2,4}. Two all-qubit operations and both ends: outside demand 3."
  pub case_5 : (edges_of case5 ≡ edge 0 1 ∷ edge 1 2 ∷ edge 3 1 ∷ edge 1 4 ∷ [])
      × (blocks case5 ≡ (0 ∷ 3 ∷ []) ∷ (1 ∷ []) ∷ (2 ∷ 4 ∷ []) ∷ []) × (Condition list5 → ⊥)
  -- K6: "Case 5 gives blocks {0,3} {1} {2} {4}", in its way, which asks for bytes alone.
  pub case_5_both_ends : (edges_of (final_by FarAll list5) ≡ edge 0 1 ∷ edge 1 2 ∷ edge 3 1 ∷ edge 2 4 ∷ [])
      × (blocks (final_by FarAll list5) ≡ (0 ∷ 3 ∷ []) ∷ (1 ∷ []) ∷ (2 ∷ []) ∷ (4 ∷ []) ∷ []) × Bytes list5
  -- "6. B{} B All". K2: "Case 6 becomes a refusal", 12 at record 0: the insertion leaves the graph, the load gives the empty one.
  pub case_6 : (insert_of (final []) (B []) ≡ refused (EmptySet 0) (final [])) × (load file6 ≡ not_loaded (EmptySet 0))
  -- "7. F{0} F{0}: places -1, -2; edge 1-0; circuit 1, 0."
  pub case_7 : (map (λ (n : Node). n.place) (nodes_of case7) ≡ negsuc 0 ∷ negsuc 1 ∷ []) × (edges_of case7 ≡ edge 1 0 ∷ []) × (circuit_of case7 ≡ 1 ∷ 0 ∷ [])
  -- "8. On 2, layer 0 1, nothing executed, node 0: layer stays 0 1."
  pub case_8 : new_front_layer case2 [] (0 ∷ 1 ∷ []) 0 (9 ∷ 9 ∷ []) ≡ record { answer = Ok 2; buffer = 0 ∷ 1 ∷ [] }
  -- "9. On 2, layer 0 1, executed 0, node 1: layer 0 2."
  pub case_9 : new_front_layer case2 (0 ∷ []) (0 ∷ 1 ∷ []) 1 (9 ∷ 9 ∷ []) ≡ record { answer = Ok 2; buffer = 0 ∷ 2 ∷ [] }
  -- "10. Bit name 1 length 2; Bit name 2 length 1; B None/All name 2: last is (2,0)→2 alone, first has 3 keys. Then B None/Set (1,0): first(1,0) = 3."
  pub case_10 : (entries_of (case10 []).last_registers ≡ entry 2 0 2 ∷ [])
      × (entries_of (case10 []).first_registers ≡ entry 1 0 0 ∷ entry 1 1 0 ∷ entry 2 0 1 ∷ [])
      × (entries_of (case10 (NameSet 1 0 ∷ [])).first_registers ≡ entry 1 0 3 ∷ entry 1 1 0 ∷ entry 2 0 1 ∷ [])
  -- "where qubit operations are accepted at both ends, at most one of them takes all qubits": demand 3's condition can be met, so that the guarantee is
  -- about lists that there are
  pub condition_met : Condition at_both_ends × Condition one_end
