-- The circuit of every graph that is built has each node once and respects the edges (specs/Circuits.antt): every node
-- has its record's kind, 0 to 5. Assumes nothing.
use mathlib.Core.Bool.{false}
use mathlib.Core.List.{List, [], ◌∷◌}
use Prim.Native.Nat.{ℕ}
use Rattle.file.specs.Lists.{keep, up_to}
use Rattle.file.specs.Pairs.{count_of, check_file, record_at}
use Rattle.graph.specs.declared.CircuitDag.{CircuitDag}
use Rattle.graph.specs.Dag.{empty}
use Rattle.queries.proofs.CircuitTheorems.{circuit_whole, circuit_in_order}
use Rattle.links.specs.Links.{FarRule, near_all, rule_of}
use Rattle.links.specs.declared.LoadingRule.{LoadingRule}
use Rattle.links.specs.declared.LoadingRule.TheVariants.{NearAll}
use Rattle.links.proofs.LinkLaws.{NamesAll, names_all}
use Rattle.insertion.specs.declared.Inserted.{Inserted}
use Rattle.insertion.specs.declared.Loaded.{Loaded}
use Rattle.insertion.specs.Limits.{insert_as}
use Rattle.insertion.specs.Load.{not_loaded, insert_records, load_checked, load_by}
use Rattle.insertion.specs.Conversion.{broken, insertion_order, convert, convert_checked, from_circuit}
use Rattle.insertion.specs.Circuits.{WholeInOrder, CircuitsBuilt}
use Rattle.insertion.proofs.BuiltLaws.{Safe, safe_sound, safe_empty, safe_as, safe_built}
use Rattle.file.specs.declared.Refusal.{Refusal}
use Rattle.graph.specs.declared.NodeIndex.{NodeIndex}
use Rattle.std.specs.Prelude.{Result, Ok, Err, ⊤}

whole_in_order : (g : CircuitDag) → Safe false g → WholeInOrder g
whole_in_order g G = record { whole = circuit_whole g G.nodes.known; in_order = circuit_in_order g (safe_sound g G) }

module _ (s : List ℕ) where
  -- a list of records that is refused leaves the empty graph
  safe_records : (rule : FarRule) → NamesAll rule → (l : List ℕ) (g : CircuitDag) → Safe false g → Safe false (insert_records rule s g l).graph
  unfolding insert_records
  safe_records rule names [] g G = G
  safe_records rule names (i ∷ l) g G = next x.answer (safe_records rule names l x.graph (safe_as rule i g (record_at s i) names G))
    where
      x : Inserted
      x = insert_as rule i g (record_at s i)

      next : (a : Result NodeIndex Refusal) → Safe false (insert_records rule s x.graph l).graph
          → Safe false (elim a as (λ y. Loaded) [ Ok v ↦ insert_records rule s x.graph l | Err r ↦ not_loaded r ]).graph
      next (Ok v) S = S
      next (Err r) S = safe_empty

  safe_load : (rule : LoadingRule) → Safe false (load_by rule s).graph
  unfolding load_by
  safe_load rule = checked (check_file s)
    where
      checked : (c : Result ⊤ Refusal) → Safe false (load_checked (rule_of rule) c s).graph
      checked (Err r) = safe_empty
      checked (Ok _) = safe_records (rule_of rule) (names_all rule) (up_to (count_of s)) empty safe_empty

  safe_conversion : Safe false (from_circuit s).graph
  unfolding from_circuit
  safe_conversion = checked (check_file s)
    where
      listed : (l : List ℕ) → Safe false (convert s l).graph
      listed [] = safe_records near_all (names_all NearAll) (insertion_order s) empty safe_empty
      listed (i ∷ l) = safe_empty

      checked : (c : Result ⊤ Refusal) → Safe false (convert_checked c s).graph
      checked (Err r) = safe_empty
      checked (Ok _) = listed (keep (broken s) (up_to (count_of s)))

pub circuits_built : CircuitsBuilt
circuits_built = record {
  inserted = λ l. whole_in_order _ (safe_built l);
  loaded = λ rule s. whole_in_order _ (safe_load s rule);
  converted = λ s. whole_in_order _ (safe_conversion s);
}
