-- The bench table, proved by computing the rules; the statement is in specs/BenchTable.antt. Assumes nothing.
use mathlib.Core.Path.{◌≡◌, refl}
use mathlib.Core.Bool.{true, false}
use mathlib.Core.List.{[], ◌∷◌}
use Prim.Native.Nat.{ℕ, ◌≤◌}
use native.Mathlib.Omega.{arith}
use Rattle.file.specs.Lists.{any_of, all_of, keep, distinct, count_from, marked_from}
use Rattle.file.specs.Pairs.{number_at, check_pairs, check_file, pair_place}
use Rattle.file.specs.Records.{definition_rule, qubit_rule, entry_before, ascend_from, set_rule, tail_rule, record_rule, good, cause_of, qubits_by, classical_of}
use Rattle.file.specs.declared.Refusal.TheVariants.{Absent}
use Rattle.graph.specs.Dag.{node, at_qubit, no_end, no_registers, empty}
use Rattle.graph.specs.Soundness.{ascends, sound}
use Rattle.queries.specs.Conversion.{place_in, sort_by_place, circuit_of}
use Rattle.queries.specs.Reach.{reached_by, blocking}
use Rattle.queries.specs.Queries.{remove, layer_after, new_front_layer}
use Rattle.accessors.specs.Accessors.{get, last_parallel_block, commuting_operations, first_involving_qubit, last_involving_qubit, node_of_key}
use Rattle.accessors.specs.Accessors.{first_involving_classical, last_involving_classical}
use Rattle.registers.specs.Registers.{put, define, set_keys, registers_after}
use Rattle.links.specs.Links.{qubits_from, link_qubits, link_set, mapped, link_all}
use Rattle.links.specs.declared.LoadingRule.TheVariants.{FarAll}
use Rattle.insertion.specs.Insertion.{grown}
use Rattle.insertion.specs.Limits.{insert_as, insert_by}
use Rattle.insertion.specs.Load.{insert_records, load_by}
use Rattle.insertion.specs.Calls.{graph_after, final_by, final}
use Rattle.insertion.specs.Ways.{differs_from}
use Rattle.walk.specs.Blocks.{marks, start, joined, followers, blocks_from, blocks, number_from, whole_walk}
use Rattle.guarantee.specs.Guarantee.{accepted_from}
use Rattle.planning.specs.Chain.{chain_from, chain_of}
use Rattle.planning.specs.BenchTable.{NameSet, case2, case4, list5, case5, case10, at_both_ends, one_end, BenchTable}
use Rattle.std.specs.Prelude.{Ok, Err, Some, None}

-- a declaration that says `unfolding rules` computes with every rule
unfoldable pub rules : ℕ
unfolding number_at check_pairs check_file pair_place any_of all_of keep distinct count_from marked_from definition_rule qubit_rule entry_before ascend_from set_rule tail_rule record_rule good cause_of qubits_by classical_of no_end no_registers empty ascends sound put define set_keys registers_after qubits_from link_qubits link_set mapped link_all grown insert_as insert_by insert_records load_by graph_after reached_by blocking remove layer_after new_front_layer place_in sort_by_place circuit_of marks start joined followers blocks_from blocks number_from whole_walk accepted_from chain_from chain_of
rules = 0

-- a list without a front operation has no condition on all-qubit operations
no_front : {n : ℕ} → false ≡ true → n ≤ 1
no_front h = let z : ◌≡◌ {A = ℕ} 0 1 = cc in omega arith

-- "The ten cases above are one theorem about the rules."
pub bench_table : BenchTable
unfolding rules
bench_table = record {
  case_1 = refl;
  case_2 = (refl, refl);
  case_3 = (refl, refl);
  case_4 = (refl, refl, refl);
  case_5 = (refl, refl, λ c. omega (arith, c.one_all refl refl));
  case_5_both_ends = (refl, refl, refl);
  case_6 = (refl, refl);
  case_7 = (refl, refl, refl);
  case_8 = refl;
  case_9 = refl;
  case_10 = (refl, refl, refl);
  condition_met = (record { bytes = refl; one_all = λ a b. omega arith }, record { bytes = refl; one_all = λ a b. no_front a });
}

-- "first[q] becomes lastAll": B All, B All, B{3} gives first[3] = 1, where firstAll would give 0. No case of the table tells the two apart.
far_of_new : at_qubit (final one_end).first 3 ≡ 1
unfolding rules
far_of_new = refl

-- K6: "a new qubit added at the back gets first[q] = firstAll": 0 in the same circuit; and so the two ways differ on it
far_of_new_both_ends : (at_qubit (final_by FarAll one_end).first 3 ≡ 0) × (differs_from empty one_end ≡ true)
    × (differs_from empty list5 ≡ true) × (differs_from empty at_both_ends ≡ false)
unfolding rules differs_from
far_of_new_both_ends = (refl, refl, refl, refl)

-- case 4 through the accessors: "first[5] = 0, last[5] = 1"; qubit 64 has none, and node 2 is absent
accessors_of_4 : (first_involving_qubit case4 5 ≡ Ok (Some (node 0))) × (last_involving_qubit case4 5 ≡ Ok (Some (node 1))) × (last_involving_qubit case4 64 ≡ (Ok None))
    × (last_parallel_block case4 (9 ∷ []) ≡ record { answer = Ok 1; buffer = 1 ∷ [] }) × (get case4 2 ≡ Err Absent)
unfolding rules first_involving_qubit last_involving_qubit last_parallel_block get
accessors_of_4 = (refl, refl, refl, refl, refl)

-- case 10 through the accessors: "last is (2,0)→2 alone", "first(1,0) = 3"; the definitions commute
accessors_of_10 : (last_involving_classical (case10 []) (record { name = 2; index = 0 }) ≡ Ok (Some (node 2))) × (last_involving_classical (case10 []) (record { name = 1; index = 0 }) ≡ (Ok None))
    × (first_involving_classical (case10 (NameSet 1 0 ∷ [])) (record { name = 1; index = 0 }) ≡ Ok (Some (node 3)))
    × (commuting_operations (case10 []) (9 ∷ 9 ∷ 9 ∷ []) ≡ record { answer = Ok 2; buffer = 0 ∷ 1 ∷ 9 ∷ [] })
unfolding rules node_of_key first_involving_classical last_involving_classical commuting_operations
accessors_of_10 = (refl, refl, refl, refl)

-- the chains of cases 2 and 5: each goes on to the smallest predecessor, from the smallest node of the last block
chain_of_2 : chain_of case2 ≡ 2 ∷ 0 ∷ []
unfolding rules
chain_of_2 = refl

chain_of_5 : chain_of case5 ≡ 2 ∷ 1 ∷ 0 ∷ []
unfolding rules
chain_of_5 = refl

chain_of_5_both_ends : chain_of (final_by FarAll list5) ≡ 4 ∷ 2 ∷ 1 ∷ 0 ∷ []
unfolding rules
chain_of_5_both_ends = refl
