-- What private functions promise of a register map: what is left in it by the rules of Registers. Assumes nothing.
use Rattle.std.specs.Prelude.{◌≡◌, Bool, true, false, cond, List, [], ◌∷◌, map, ℕ, ◌<◌, ◌≤◌, eqb, length, get_or, Option, Result, MatchOption, MatchResult}
use Rattle.file.specs.Lists.{count_from, keep}
use Rattle.file.specs.declared.RegisterKey.{RegisterKey}
use Rattle.graph.specs.declared.Registers.{Registers}
use Rattle.graph.specs.Dag.{Entry, entry, entries_of}
use Rattle.graph.specs.Soundness.{keys_distinct}
use Rattle.registers.specs.Registers.{Maps, has_key, put, with_entries, maps_pass}

-- the entry of a key with node v
abbrev pub keyed : RegisterKey → ℕ → Entry
keyed key v = entry key.name key.index v

-- the arrays have 256 elements each
pub record Sized (r : Registers) : Type 0 where
  pub name : length r.name ≡ 256
  pub index : length r.index ≡ 256
  pub node : length r.node ≡ 256

-- a map that a sound graph may have: at most 256 entries, "register keys are distinct within each map"
pub record Fits (r : Registers) : Type 0 where
  pub room : r.count ≤ 256
  pub keys : keys_distinct r ≡ true
  pub sized : Sized r

-- the key stands at position k
abbrev pub StandsAt : Registers → RegisterKey → ℕ → Type 0
StandsAt r key k = (get_or r.name k 0 ≡ key.name) × (get_or r.index k 0 ≡ key.index)

-- p is the key's position, None where it is absent
abbrev pub Found : Registers → RegisterKey → Option ℕ → Type 0
Found r key p = MatchOption p ((k : ℕ) → k < r.count → StandsAt r key k → ⊥) (λ k. (k < r.count) × StandsAt r key k)

-- the map old became new, with the entries l; where there is no room for them (over 256) nothing is said but that
abbrev pub Becomes : {A E : Type 0} → Result A E → Registers → Registers → List Entry → Type 0
Becomes answer old new l = MatchResult answer (λ _. new ≡ with_entries old l) (λ _. 256 < length l)

-- the two maps as lists
abbrev pub maps_of : Registers → Registers → Maps
maps_of near far = record { near = entries_of near; far = entries_of far }

-- the maps near and far became r; where one passes 256 nothing is said but that
abbrev pub BothBecome : {A E : Type 0} → Result A E → Maps → Registers → Registers → Registers → Registers → Type 0
BothBecome answer r near far near' far' = MatchResult answer
    (λ _. (near' ≡ with_entries near r.near) × (far' ≡ with_entries far r.far))
    (λ _. maps_pass r ≡ true)

-- the same of the maps first and last: at the back last is near, at the front first
abbrev pub EndsBecome : {A E : Type 0} → Result A E → Bool → Maps → Registers → Registers → Registers → Registers → Type 0
EndsBecome answer front r first last first' last' =
    BothBecome answer r (cond front first last) (cond front last first) (cond front first' last') (cond front last' first')

-- "a definition of length m sets 0 to m - 1": the k keys of the name n from index j on, all with node v ..
abbrev pub definition : ℕ → ℕ → ℕ → ℕ → List Entry
definition n v k j = map (λ (i : ℕ). entry n i v) (count_from k j)

-- .. each put into one map (rule `define` on both maps is this on each)
unfoldable pub put_all : List Entry → List Entry → List Entry
put_all [] l = l
put_all (x ∷ xs) l = put_all xs (put x l)

-- the map new is old with other entries: what stood behind them in the arrays stays
abbrev pub Kept : Registers → Registers → Type 0
Kept old new = new ≡ with_entries old (entries_of new)

-- the marks tell which keys of a definition stand in the map, each with node v already
pub record Marked (n m v : ℕ) (l : List Entry) (there : List Bool) : Type 0 where
  pub yes : (i : ℕ) → i < m → get_or there i false ≡ true → put (entry n i v) l ≡ l
  pub no : (i : ℕ) → i < m → get_or there i false ≡ false → has_key (entry n i v) l ≡ false

-- the keys of a definition that stood have node v now, and are marked
pub record Standing (n m v : ℕ) (old new : Registers) (there : List Bool) : Type 0 where
  pub kept : Kept old new
  pub same : put_all (definition n v m 0) (entries_of new) ≡ put_all (definition n v m 0) (entries_of old)
  pub marked : Marked n m v (entries_of new) there

-- "only the keys of that name, all now v": what rule `take_name` leaves in the near map
abbrev pub of_name : ℕ → ℕ → List Entry → List Entry
of_name n v l = map (λ (x : Entry). entry n x.index v) (keep (λ x. eqb x.name n) l)
