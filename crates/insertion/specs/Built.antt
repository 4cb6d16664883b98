-- Lists of insertions on the empty graph: for every list of record bytes and rules, with no condition at all, each graph on the way is
-- sound, so that refusal 11 never comes on it. Each graph on the way is `built` of a first part of the list,
-- so one statement on every list covers them. Then a load and a conversion against the list of their file's records. Assumes nothing.
use Rattle.std.specs.Prelude.{◌≡◌, true, List, [], map, ℕ, ◌<◌, length, get_or, take, Ok, Err}
use Rattle.file.specs.Lists.{keep, up_to}
use Rattle.file.specs.Pairs.{count_of, check_file, record_at}
use Rattle.file.specs.declared.Refusal.{Refusal}
use Rattle.file.specs.Refusals.{at_record}
use Rattle.file.specs.declared.Refusal.TheVariants.{Unsound}
use Rattle.graph.specs.Soundness.{sound}
use Rattle.insertion.specs.declared.Inserted.{Inserted}
use Rattle.insertion.specs.declared.Loaded.{Loaded}
use Rattle.links.specs.Links.{rule_of}
use Rattle.links.specs.declared.LoadingRule.{LoadingRule}
use Rattle.links.specs.declared.LoadingRule.TheVariants.{NearAll}
use Rattle.insertion.specs.Limits.{accepts, insert_as, insert_by}
use Rattle.insertion.specs.Load.{not_loaded, load_by}
use Rattle.insertion.specs.Calls.{Call, built, final_by}
use Rattle.insertion.specs.Conversion.{broken, insertion_order, from_circuit}

-- of the graph after the insertions of l: it is sound, an insertion on it goes by the rules from refusal 4 on, and none is
-- refused 11
pub record SoundBuilt (l : List Call) : Type 0 where
  pub sound : sound (built l) ≡ true
  pub never : (rule : LoadingRule) (s : List ℕ) → insert_by rule (built l) s ≡ insert_as (rule_of rule) 0 (built l) s
  pub never_refused : (rule : LoadingRule) (s : List ℕ) → (insert_by rule (built l) s).answer ≡ Err Unsound → ⊥

-- the file's records with these numbers
abbrev pub records_in : List ℕ → List ℕ → List (List ℕ)
records_in s order = map (record_at s) order

-- the insertion of the k-th of them, counted from 0, on the graph that those before it leave
abbrev pub step_in : LoadingRule → List ℕ → List ℕ → ℕ → Inserted
step_in rule s order k = insert_by rule (final_by rule (take k (records_in s order))) (record_at s (get_or order k 0))

-- x is the list of insertions of the records with these numbers: where it is accepted, its graph is the one after inserting them one by one, and
-- each of them is accepted; where one is refused, x is that refusal with that record's number; and where all are accepted, x is
pub record Inserts (rule : LoadingRule) (s order : List ℕ) (x : Loaded) : Type 0 where
  pub done : x.answer ≡ Ok tt → x.graph ≡ final_by rule (records_in s order)
  pub each : x.answer ≡ Ok tt → (k : ℕ) → k < length order → accepts (step_in rule s order k).answer ≡ true
  pub refused : (k : ℕ) (r : Refusal) → k < length order → ((j : ℕ) → j < k → accepts (step_in rule s order j).answer ≡ true)
      → (step_in rule s order k).answer ≡ Err r → x ≡ not_loaded (at_record (get_or order k 0) r)
  pub whole : ((j : ℕ) → j < length order → accepts (step_in rule s order j).answer ≡ true) → x.answer ≡ Ok tt

-- A load is the list of its records' insertions, in file order
pub record LoadInserts (rule : LoadingRule) (s : List ℕ) : Type 0 where
  pub sound : (load_by rule s).answer ≡ Ok tt → check_file s ≡ Ok tt
  pub inserts : check_file s ≡ Ok tt → Inserts rule s (up_to (count_of s)) (load_by rule s)

-- So is a conversion, kinds 1 to 5 first, once no record is broken: "later refusals come in the order of insertion and give the record's index in
-- the file"
pub record ConversionInserts (s : List ℕ) : Type 0 where
  pub sound : (from_circuit s).answer ≡ Ok tt → (check_file s ≡ Ok tt) × (keep (broken s) (up_to (count_of s)) ≡ [])
  pub inserts : check_file s ≡ Ok tt → keep (broken s) (up_to (count_of s)) ≡ [] → Inserts NearAll s (insertion_order s) (from_circuit s)
