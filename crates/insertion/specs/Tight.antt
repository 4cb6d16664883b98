-- K1: "Files accepted until today load to the same graph", and that slack changes no graph. For a load by either rule and for a conversion. Assumes
-- nothing.
use Rattle.std.specs.Prelude.{◌≡◌, List, ℕ, ◌<◌, Ok}
use Rattle.file.specs.Pairs.{count_of, check_file, record_at}
use Rattle.file.specs.Tight.{tight_file}
use Rattle.links.specs.Links.{rule_of}
use Rattle.links.specs.declared.LoadingRule.{LoadingRule}
use Rattle.insertion.specs.declared.Loaded.{Loaded}
use Rattle.insertion.specs.Load.{load_checked, load_by}
use Rattle.insertion.specs.Conversion.{convert_checked, from_circuit}

-- the load by the pairs' rule until K1, without slack; the rule of a record is today's
abbrev pub load_tight : LoadingRule → List ℕ → Loaded
load_tight rule s = load_checked (rule_of rule) (tight_file s) s

-- .. and the conversion
abbrev pub convert_tight : List ℕ → Loaded
convert_tight s = convert_checked (tight_file s) s

-- "Files accepted until today load to the same graph": the answer and the graph are the same; and one that passes the pairs without slack and is
-- refused for a record is refused alike by both
pub record SameLoads : Type 0 where
  pub loads : (rule : LoadingRule) (s : List ℕ) → (load_tight rule s).answer ≡ Ok tt → load_by rule s ≡ load_tight rule s
  pub converts : (s : List ℕ) → (convert_tight s).answer ≡ Ok tt → from_circuit s ≡ convert_tight s
  pub answers : (rule : LoadingRule) (s : List ℕ) → tight_file s ≡ Ok tt → (load_by rule s ≡ load_tight rule s) × (from_circuit s ≡ convert_tight s)

-- two files that pass and have the same records, wherever these stand
pub record SameRecords (s t : List ℕ) : Type 0 where
  pub passes : (check_file s ≡ Ok tt) × (check_file t ≡ Ok tt)
  pub count : count_of s ≡ count_of t
  pub records : (i : ℕ) → i < count_of s → record_at s i ≡ record_at t i

-- .. get the same answer and the same graph: "overwrites a record with a shorter one and doesn't move the others .. Accept it"
pub record SlackUnread : Type 0 where
  pub loads : (rule : LoadingRule) (s t : List ℕ) → SameRecords s t → load_by rule s ≡ load_by rule t
  pub converts : (s t : List ℕ) → SameRecords s t → from_circuit s ≡ from_circuit t
