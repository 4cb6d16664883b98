-- "From a circuit". Assumes nothing.
use Rattle.std.specs.Prelude.{Bool, not, ◌||◌, List, [], ◌∷◌, ℕ, Result, Ok, Err, ⊤}
use Rattle.file.specs.Lists.{keep, up_to}
use Rattle.file.specs.Pairs.{count_of, check_file, record_at}
use Rattle.file.specs.Records.{front, kind, record_rule}
use Rattle.file.specs.declared.Refusal.TheVariants.{BadRecord}
use Rattle.graph.specs.Dag.{empty}
use Rattle.queries.specs.Conversion.{definitions_first}
use Rattle.insertion.specs.declared.Loaded.{Loaded}
use Rattle.links.specs.Links.{near_all}
use Rattle.insertion.specs.Load.{not_loaded, insert_records}
use Rattle.file.specs.declared.Refusal.{Refusal}

-- "a front record is refused 4. Here 4 is checked for all records in file order before the first insertion"; K2's 12 is no 4, and so one of the
-- "later refusals"
abbrev pub broken : List ℕ → ℕ → Bool
broken s i = not (record_rule (record_at s i)) || front (record_at s i)

-- the numbers of the records: "kinds 1 to 5 in file order, then kind 0" in file order
abbrev pub insertion_order : List ℕ → List ℕ
insertion_order s = definitions_first (λ i. kind (record_at s i)) (up_to (count_of s))

-- the records in that order, "all at the back", given the numbers of the broken ones
abbrev pub convert : List ℕ → List ℕ → Loaded
convert s [] = insert_records near_all s empty (insertion_order s)
convert s (i ∷ l) = not_loaded (BadRecord i)

-- the records of a file whose header and pairs keep their rules
abbrev pub convert_checked : Result ⊤ Refusal → List ℕ → Loaded
convert_checked (Err r) s = not_loaded r
convert_checked (Ok _) s = convert s (keep (broken s) (up_to (count_of s)))

-- "From a circuit"; "Order: .. 2 once two bytes are there, 1, 3, then per record 4 to 7", K2's 12 behind 4
unfoldable pub from_circuit : List ℕ → Loaded
from_circuit s = convert_checked (check_file s) s
