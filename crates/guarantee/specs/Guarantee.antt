-- Demand 3, the statement: "a single claim about the whole list, not one for each call". Everything it says is in this file and in the rules it names.
-- Assumes nothing.
use Rattle.std.specs.Prelude.{◌≡◌, Bool, true, false, cond, not, ◌||◌, List, [], ◌∷◌, ◌++◌, map, ℕ, ◌+◌, ◌≤◌, ◌<◌, ltb, eqb, ℤ, pos, negsuc, length, get_or, Ok, Err}
use Rattle.std.specs.Int.Signed.{lt_z}
use Rattle.file.specs.Lists.{any_of, all_of, keep, member, add}
use Rattle.file.specs.Records.{front, qubit_form, mask, empty_set}
use Rattle.file.specs.declared.Refusal.TheVariants.{ShortBuffer}
use Rattle.graph.specs.declared.NodeIndex.{NodeIndex}
use Rattle.graph.specs.declared.CircuitDag.{CircuitDag}
use Rattle.graph.specs.Dag.{absent, empty, size}
use Rattle.links.specs.Links.{rule_of, qubits}
use Rattle.links.specs.declared.LoadingRule.{LoadingRule}
use Rattle.links.specs.declared.LoadingRule.TheVariants.{NearAll, FarAll}
use Rattle.insertion.specs.Limits.{insert_as, insert_by}
use Rattle.insertion.specs.Calls.{Call, built, all_by, final_by}
use Rattle.walk.specs.Blocks.{block_of_step, whole_walk}

-- an accepted record, its node number, its place
pub record Accepted : Type 0 where
  pub node : ℕ
  pub place : ℤ
  pub bytes : List ℕ

-- "Node numbers run from 0 in order of insertion. The k-th back insertion has place k - 1, the k-th front insertion place -k; a refused one is
-- counted nowhere": the accepted records of a list, after b back and f front insertions
unfoldable pub accepted_from : CircuitDag → ℕ → ℕ → List Call → List Accepted
accepted_from g b f [] = []
accepted_from g b f (c ∷ l) = let s = c.bytes in let x = insert_by c.rule g s in elim x.answer [
  | Ok v ↦ record { node = b + f; place = cond (front s) (negsuc f) (pos b); bytes = s }
      ∷ accepted_from x.graph (cond (front s) b (b + 1)) (cond (front s) (f + 1) f) l
  | Err r ↦ accepted_from x.graph b f l
]

-- .. on the empty graph
abbrev pub accepted : List Call → List Accepted
accepted l = accepted_from empty 0 0 l

-- "What an operation takes is read from its record, never from the graph: only form All takes all qubits"
abbrev pub takes_all : List ℕ → Bool
takes_all s = eqb (qubit_form s) 1

-- a qubit operation: form All or Set
abbrev pub takes_qubits : List ℕ → Bool
takes_qubits s = takes_all s || eqb (qubit_form s) 2

-- the accepted qubit operations
abbrev pub operations : List Call → List Accepted
operations l = keep (λ (o : Accepted). takes_qubits o.bytes) (accepted l)

-- K2: "Refuse such a record": of every list of insertions, by either rule, no accepted record has an empty set
abbrev pub NoEmptySet : Type 0
NoEmptySet = (l : List Call) → any_of (λ (o : Accepted). empty_set o.bytes) (accepted l) ≡ false

-- The records are bytes, numbers below 256. They may be any bytes: a record that breaks its rule is refused and does not count.
abbrev pub Bytes : List (List ℕ) → Type 0
Bytes l = all_of (all_of (λ b. ltb b 256)) l ≡ true

-- "where qubit operations are accepted at both ends, at most one of them takes all qubits". K2: "The block guarantee therefore loses its condition on
-- empty sets": no record with one is accepted.
pub record Condition (l : List (List ℕ)) : Type 0 where
  pub bytes : Bytes l
  -- Where qubit operations came in at both ends, at most one of them takes all qubits. With two, the graph loses an order (case 5).
  -- With operations at one end only there is no such condition.
  pub one_all : let ops = operations (all_by NearAll l) in any_of (λ (o : Accepted). front o.bytes) ops ≡ true
      → any_of (λ (o : Accepted). not (front o.bytes)) ops ≡ true
      → length (keep (λ (o : Accepted). takes_all o.bytes) ops) ≤ 1

-- "Two qubit operations clash if they share a qubit or one takes all."
abbrev pub clash : List ℕ → List ℕ → Bool
clash s t = takes_all s || takes_all t || any_of (λ q. member q (qubits (mask t))) (qubits (mask s))

-- P holds of each one in the list
abbrev pub Each : (Accepted → Type 0) → List Accepted → Type 0
Each P [] = Unit {0}
Each P (o ∷ l) = P o × Each P l

-- "of two clashing ones the earlier in the circuit into the earlier block", by a numbering of the nodes; "'Earlier in the circuit' means a smaller place"
abbrev pub Orders : (ℕ → ℕ) → List Accepted → Type 0
Orders block ops = Each (λ a. Each (λ b. clash a.bytes b.bytes ≡ true → lt_z a.place b.place ≡ true → block a.node < block b.node) ops) ops

-- how many different numbers a list has
unfoldable pub different : List ℕ → List ℕ → ℕ
different [] seen = length seen
different (x ∷ l) seen = different l (add x seen)

-- what the whole walk wrote for node v
abbrev pub entry : List Call → List ℕ → ℕ → ℕ
entry l buffer v = get_or (whole_walk (built l) buffer).buffer v absent

-- "The count returned is how many different numbers below 65535 were written."
abbrev pub filled : List Call → List ℕ → ℕ
filled l buffer = different (keep (λ k. ltb k 65535) (map (entry l buffer) (map (λ (o : Accepted). o.node) (accepted l)))) []

-- after the calls of l, with a buffer that has room for an entry a node
pub record Guarantee (l : List Call) (buffer : List ℕ) : Type 0 where
  -- "Each call is accepted or refused exactly as document 01 says". At every place of the list the insertion goes by the rules from
  -- cause 4 on, on the graph that the calls before it left; cause 11, an unsound graph, never comes.
  pub calls : (before rest : List Call) (c : Call) → l ≡ before ++ (c ∷ rest)
      → insert_by c.rule (built before) c.bytes ≡ insert_as (rule_of c.rule) 0 (built before) c.bytes
  -- "Node numbers run from 0 in order of insertion." A call that accepts its record answers the number by which `accepted`, and so the
  -- walk's entries below, go: how many records were accepted before it.
  pub numbers : (before rest : List Call) (c : Call) (v : NodeIndex) → l ≡ before ++ (c ∷ rest)
      → (insert_by c.rule (built before) c.bytes).answer ≡ Ok v → v.0 ≡ length (accepted before)
  -- The graph has a node for each accepted record and no other, so the entries of the walk are about just these.
  pub nodes : size (built l) ≡ length (accepted l)
  -- "The walk counts exactly the blocks it filled". The whole walk is not refused, and the count that it returns is how many different
  -- block numbers it wrote.
  pub count : (whole_walk (built l) buffer).answer ≡ Ok (filled l buffer)
  -- "each accepted qubit operation is in the block of exactly one step, its entry is that step's number, counted from 0". Of all steps t,
  -- however far one goes on, the operation is in the block of step t exactly if t is its entry: no pulse is lost, none fires twice.
  pub once : Each (λ o. (t : ℕ) → member o.node (block_of_step (built l) t) ≡ eqb t (entry l buffer o.node)) (operations l)
  -- "and other nodes get 65535". What takes no qubit (definitions, register records) fires in no block.
  pub others : Each (λ o. takes_qubits o.bytes ≡ false → entry l buffer o.node ≡ 65535) (accepted l)
  -- "of two clashing ones the earlier in the circuit into the earlier block". Two pulses that share a qubit, or of which one takes all,
  -- are never swapped and never fire together.
  pub order : Orders (entry l buffer) (operations l)
  -- "Every other numbering of blocks from 0 that does the same puts no operation lower". A rival is any function from nodes to numbers that
  -- keeps all clashing operations in order; under it no operation comes earlier than in the walk.
  pub lowest : (rival : ℕ → ℕ) → Orders rival (operations l) → Each (λ o. entry l buffer o.node ≤ rival o.node) (operations l)
  -- "and uses at least as many blocks as the walk counted". A rival uses "as many blocks as it has different numbers": no schedule is
  -- shorter.
  pub fewest : (rival : ℕ → ℕ) → Orders rival (operations l)
      → filled l buffer ≤ different (map rival (map (λ (o : Accepted). o.node) (operations l))) []

-- For every list of records, inserted by one rule, that meets a condition: "On the final graph the whole walk is refused only for a short buffer.
-- Otherwise ..": the guarantee above holds.
pub record Guaranteed (rule : LoadingRule) (Meets : List (List ℕ) → Type 0) : Type 0 where
  pub short : (l : List (List ℕ)) (buffer : List ℕ) → Meets l → length buffer < size (final_by rule l)
      → (whole_walk (final_by rule l) buffer).answer ≡ Err ShortBuffer
  pub whole : (l : List (List ℕ)) (buffer : List ℕ) → Meets l → size (final_by rule l) ≤ length buffer → Guarantee (all_by rule l) buffer

-- Demand 3: document 01's insertions, within the condition
abbrev pub Demand3 : Type 0
Demand3 = Guaranteed NearAll Condition

-- K6: "Under it the whole block guarantee, rival numberings included, holds for every list of insertions, without the condition on all-qubit
-- operations."
abbrev pub BothEnds : Type 0
BothEnds = Guaranteed FarAll Bytes
