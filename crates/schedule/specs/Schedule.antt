-- One call from a circuit file to its block numbers: load and whole walk, and the block guarantee in the file's own words, about the file's records and
-- the numbers that the lent buffer then holds. Everything it says is in this file and in the rules it names. Assumes nothing.
use Rattle.std.specs.Prelude.{◌≡◌, true, false, cond, not, ◌⊎◌, List, [], ◌∷◌, map, ℕ, ◌+◌, ◌≤◌, ◌<◌, ltb, eqb, pos, negsuc, length, get_or, Ok, Err}
use Rattle.file.specs.Lists.{any_of, keep, member, up_to}
use Rattle.file.specs.Pairs.{count_of, records_of}
use Rattle.file.specs.Records.{front}
use Rattle.file.specs.declared.Refusal.{Refusal}
use Rattle.file.specs.declared.Refusal.TheVariants.{ShortBuffer}
use Rattle.insertion.specs.declared.Loaded.{Loaded}
use Rattle.links.specs.declared.LoadingRule.{LoadingRule}
use Rattle.links.specs.declared.LoadingRule.TheVariants.{NearAll, FarAll}
use Rattle.insertion.specs.Load.{load_by}
use Rattle.walk.specs.Blocks.{Walked, whole_walk, block_of_step}
use Rattle.guarantee.specs.Guarantee.{Accepted, takes_all, takes_qubits, Each, Orders, different}

-- a refused load's cause, the buffer as it was; else the whole walk of the graph
abbrev pub walk_loaded : Loaded → List ℕ → Walked
walk_loaded x buffer = elim x.answer [ Ok _ ↦ whole_walk x.graph buffer | Err r ↦ record { answer = Err r; buffer = buffer } ]

-- load in either way, then whole walk: refusals 2, 1, 3, per record 4, 12, 6, 7, then 10
unfoldable pub schedule_by : LoadingRule → List ℕ → List ℕ → Walked
schedule_by rule s buffer = walk_loaded (load_by rule s) buffer

-- .. in document 01's way
abbrev pub schedule : List ℕ → List ℕ → Walked
schedule s buffer = schedule_by NearAll s buffer

-- ---- the circuit of a file

-- records with their numbers and places, after b back and f front ones: "The k-th back insertion has place k - 1, the k-th front insertion place
-- -k". In a file that loads no record is refused, so a record's number in the file is its node's.
unfoldable pub placed_from : ℕ → ℕ → List (List ℕ) → List Accepted
placed_from b f [] = []
placed_from b f (r ∷ l) = record { node = b + f; place = cond (front r) (negsuc f) (pos b); bytes = r }
    ∷ placed_from (cond (front r) b (b + 1)) (cond (front r) (f + 1) f) l

-- .. of the file
abbrev pub placed : List ℕ → List Accepted
placed s = placed_from 0 0 (records_of s)

-- the qubit operations among them, the pulses
abbrev pub pulses : List ℕ → List Accepted
pulses s = keep (λ (o : Accepted). takes_qubits o.bytes) (placed s)

-- "where qubit operations are accepted at both ends, at most one of them takes all qubits"; K2: "The block guarantee therefore loses its condition on
-- empty sets"
pub record Condition (s : List ℕ) : Type 0 where
  -- with pulses at the front and at the back, at most one on all qubits
  pub one_all : any_of (λ (o : Accepted). front o.bytes) (pulses s) ≡ true → any_of (λ (o : Accepted). not (front o.bytes)) (pulses s) ≡ true
      → length (keep (λ (o : Accepted). takes_all o.bytes) (pulses s)) ≤ 1

-- what the promise asks of a file: in document 01's way the condition; K6: "holds for every list of insertions, without the condition on all-qubit
-- operations"
abbrev pub Meets : LoadingRule → List ℕ → Type 0
Meets NearAll s = Condition s
Meets FarAll s = Unit {0}

-- ---- the promise

-- the number of record v, as the buffer has it
abbrev pub block_in : List ℕ → ℕ → ℕ
block_in numbers v = get_or numbers v 65535

-- the file s, loaded in a way, has the answer "k blocks", and the buffer holds these numbers
pub record ScheduledBy (rule : LoadingRule) (s : List ℕ) (k : ℕ) (numbers : List ℕ) : Type 0 where
  -- Each pulse is in exactly one of the blocks 0 to k - 1: the one with its number.
  pub within : Each (λ o. block_in numbers o.node < k) (pulses s)
  -- "each accepted qubit operation is in the block of exactly one step, its entry is that step's number, counted from 0"
  pub once : Each (λ o. (t : ℕ) → member o.node (block_of_step (load_by rule s).graph t) ≡ eqb t (block_in numbers o.node)) (pulses s)
  -- "and other nodes get 65535"
  pub others : Each (λ o. takes_qubits o.bytes ≡ false → block_in numbers o.node ≡ 65535) (placed s)
  -- "of two clashing ones the earlier in the circuit into the earlier block": they share a qubit or one takes all, and the earlier has the smaller
  -- place
  pub order : Orders (block_in numbers) (pulses s)
  -- "Every other numbering of blocks from 0 that does the same puts no operation lower": a rival is any function from records to numbers that
  -- keeps all clashing pulses in order
  pub lowest : (rival : ℕ → ℕ) → Orders rival (pulses s) → Each (λ o. block_in numbers o.node ≤ rival o.node) (pulses s)
  -- "and uses at least as many blocks as the walk counted"
  pub fewest : (rival : ℕ → ℕ) → Orders rival (pulses s) → k ≤ different (map rival (map (λ (o : Accepted). o.node) (pulses s))) []
  -- "The count returned is how many different numbers below 65535 were written."
  pub count : k ≡ different (keep (λ n. ltb n 65535) (map (block_in numbers) (up_to (count_of s)))) []

-- .. in document 01's way
abbrev pub Scheduled : List ℕ → ℕ → List ℕ → Type 0
Scheduled s k numbers = ScheduledBy NearAll s k numbers

-- Refused: the buffer is as it was, and either the load is refused for this cause, or the file loads and the buffer has no room for an entry a
-- record. Refusal 11 never comes.
pub record NotScheduledBy (rule : LoadingRule) (s before : List ℕ) (r : Refusal) (after : List ℕ) : Type 0 where
  pub left : after ≡ before
  pub cause : ((load_by rule s).answer ≡ Err r) ⊎ (((load_by rule s).answer ≡ Ok tt) × (r ≡ ShortBuffer) × (length before < count_of s))

-- .. in document 01's way
abbrev pub NotScheduled : List ℕ → List ℕ → Refusal → List ℕ → Type 0
NotScheduled s before r after = NotScheduledBy NearAll s before r after

-- Two schedules of a file that keep the promise, each in either way, have the same numbers: neither may be lower.
abbrev pub SameNumbers : Type 0
SameNumbers = (r t : LoadingRule) (s : List ℕ) (k j : ℕ) (m n : List ℕ) → ScheduledBy r s k m → ScheduledBy t s j n
    → (k ≡ j) × Each (λ o. block_in m o.node ≡ block_in n o.node) (placed s)
