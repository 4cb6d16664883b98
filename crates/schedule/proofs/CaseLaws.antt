-- The files of specs/Cases.antt, by computing the rules. Assumes nothing.
use mathlib.Core.Path.{◌≡◌, refl}
use mathlib.Core.Bool.{true, false}
use Prim.Native.Nat.{ℕ}
use native.Mathlib.Omega.{arith}
use Rattle.file.specs.Lists.{any_of, all_of, keep, distinct, count_from, marked_from}
use Rattle.file.specs.Pairs.{number_at, check_pairs, check_file, pair_place}
use Rattle.file.specs.Records.{definition_rule, qubit_rule, tail_rule, record_rule, good, cause_of, qubits_by, classical_of}
use Rattle.file.proofs.BoolLaws.{clash_bool}
use Rattle.graph.specs.Dag.{no_end, no_registers, empty}
use Rattle.graph.specs.Soundness.{ascends, sound}
use Rattle.queries.specs.Reach.{reached_by, blocking}
use Rattle.links.specs.Links.{qubits_from, link_qubits, link_set, mapped, link_all}
use Rattle.registers.specs.Registers.{registers_after}
use Rattle.insertion.specs.Insertion.{grown}
use Rattle.insertion.specs.Limits.{insert_as}
use Rattle.insertion.specs.Load.{insert_records, load_by}
use Rattle.walk.specs.Blocks.{marks, start, joined, followers, blocks_from, blocks, number_from, whole_walk}
use Rattle.schedule.specs.Schedule.{schedule_by, placed_from}
use Rattle.schedule.specs.Cases.{Cases}

-- a file without a front pulse has no condition on all-qubit pulses
no_front : {P : Type 0} → false ≡ true → P
no_front h = absurd (clash_bool h refl)

-- a declaration that says `unfolding file_rules graph_rules walk_rules` computes with every rule that a schedule goes by
unfoldable file_rules : ℕ
unfolding number_at check_pairs check_file pair_place definition_rule qubit_rule tail_rule record_rule good cause_of qubits_by classical_of insert_records load_by placed_from
file_rules = 0

unfoldable graph_rules : ℕ
unfolding any_of all_of keep distinct count_from no_end no_registers empty ascends sound qubits_from link_qubits link_set mapped link_all registers_after grown insert_as
graph_rules = 0

unfoldable walk_rules : ℕ
unfolding marked_from reached_by blocking marks start joined followers blocks_from blocks number_from whole_walk schedule_by
walk_rules = 0

pub cases : Cases
unfolding file_rules graph_rules walk_rules
cases = record {
  case_2 = refl;
  case_2_meets = record { one_all = λ a b. no_front a };
  case_2_short = refl;
  both_ends = refl;
  both_ends_meets = record { one_all = λ a b. omega arith };
  case_5 = refl;
  case_5_outside = λ c. omega (arith, c.one_all refl refl);
  case_5_both_ends = refl;
  case_6 = refl;
}
