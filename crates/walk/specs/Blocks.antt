-- "Blocks and chain": the step of the walk, and the whole walk. Assumes nothing.
use Rattle.std.specs.Prelude.{Bool, true, false, cond, not, ◌&&◌, ◌||◌, List, [], ◌∷◌, map, ℕ, zero, suc, ◌+◌, ltb, length, set, replicate, Result, Option, Ok, Err, Some, None}
use Rattle.file.specs.Lists.{any_of, all_of, keep, is_empty, onto, member, members, up_to}
use Rattle.file.specs.declared.Refusal.{Refusal}
use Rattle.file.specs.declared.Refusal.TheVariants.{Absent, ShortBuffer, Unsound}
use Rattle.graph.specs.declared.CircuitDag.{CircuitDag}
use Rattle.graph.specs.Dag.{absent, size, has_edge}
use Rattle.graph.specs.Soundness.{sound}
use Rattle.queries.specs.Reach.{blocking}
use Rattle.walk.specs.declared.ParallelBlocks.{ParallelBlocks}

-- a set of nodes as its marks
unfoldable pub marks : List ℕ → List Bool
marks [] = replicate 512 false
marks (v ∷ l) = set (marks l) v true

-- "the state is two sets, current and executed"
unfoldable pub start : ParallelBlocks
start = record { current = replicate 512 false; executed = replicate 512 false }

-- "If both are empty"
abbrev pub unstarted : ParallelBlocks → Bool
unstarted w = not (any_of (λ b. b) w.current) && not (any_of (λ b. b) w.executed)

-- "current joins executed"
unfoldable pub joined : List Bool → List Bool → List Bool
joined [] t = t
joined (b ∷ s) [] = b ∷ s
joined (b ∷ s) (c ∷ t) = (b || c) ∷ joined s t

-- "the new current is every successor of the old current that is blocked by none"
unfoldable pub followers : CircuitDag → ParallelBlocks → List ℕ
followers g w = let current = members w.current in let executed = members (joined w.current w.executed) in
    keep (λ v. any_of (λ u. has_edge g u v) current && is_empty (blocking g executed v)) (up_to (size g))

-- "If both are empty, the answer is the first block, which becomes current, even if empty .. Otherwise .. the new current"
abbrev pub next_block : CircuitDag → ParallelBlocks → List ℕ
next_block g w = cond (unstarted w) (members g.first.block) (followers g w)

-- the two sets after a step
abbrev pub next_state : CircuitDag → ParallelBlocks → ParallelBlocks
next_state g w = record { current = marks (next_block g w); executed = joined w.current w.executed }

-- the state after t steps from two empty sets
unfoldable pub state_after : CircuitDag → ℕ → ParallelBlocks
state_after g zero = start
state_after g (suc t) = next_state g (state_after g t)

-- the block of step t, counted from 0
abbrev pub block_of_step : CircuitDag → ℕ → List ℕ
block_of_step g t = next_block g (state_after g t)

-- the answer, the state and the lent buffer afterwards
pub record Stepped : Type 0 where
  pub answer : Result (Option ℕ) Refusal
  pub walk : ParallelBlocks
  pub buffer : List ℕ

-- "left as it was: walk, buffers"
abbrev pub refuses_step : Refusal → ParallelBlocks → List ℕ → Stepped
refuses_step r w buffer = record { answer = Err r; walk = w; buffer = buffer }

-- "Blocks are written ascending."
abbrev pub writes : List ℕ → CircuitDag → ParallelBlocks → List ℕ → Stepped
writes l g w buffer = cond (ltb (length buffer) (length l)) (refuses_step ShortBuffer w buffer)
    (record { answer = Ok (Some (length l)); walk = next_state g w; buffer = onto l buffer })

-- "empty means None", but for the first block
abbrev pub steps : CircuitDag → ParallelBlocks → List ℕ → Stepped
steps g w buffer = cond (not (unstarted w) && is_empty (followers g w)) (record { answer = (Ok None); walk = next_state g w; buffer = buffer })
    (writes (next_block g w) g w buffer)

-- "`ParallelBlocks::next`"; "queries 11, 8, 9, 10"; "node absent, also in a walk's current set"
unfoldable pub next : CircuitDag → ParallelBlocks → List ℕ → Stepped
next g w buffer = cond (not (sound g)) (refuses_step Unsound w buffer)
    (cond (all_of (λ v. ltb v (size g)) (members w.current)) (steps g w buffer) (refuses_step Absent w buffer))

-- "The whole walk steps from two empty sets to None or an empty block": its blocks, at most k steps
unfoldable pub blocks_from : ℕ → CircuitDag → ParallelBlocks → List (List ℕ)
blocks_from zero g w = []
blocks_from (suc k) g w = elim (is_empty (next_block g w)) [ true ↦ [] | false ↦ next_block g w ∷ blocks_from k g (next_state g w) ]

-- each block has a node that no earlier one has, so that there are no more blocks than nodes
unfoldable pub blocks : CircuitDag → List (List ℕ)
blocks g = blocks_from (size g) g start

-- "each node's block number .., 65535 where no block held it": the number of the block, from k on, that holds v
unfoldable pub number_from : ℕ → List (List ℕ) → ℕ → ℕ
number_from k [] v = absent
number_from k (b ∷ l) v = cond (member v b) k (number_from (k + 1) l v)

-- one entry a node
abbrev pub block_numbers : CircuitDag → List ℕ
block_numbers g = map (number_from 0 (blocks g)) (up_to (size g))

-- the answer and the lent buffer afterwards
pub record Walked : Type 0 where
  pub answer : Result ℕ Refusal
  pub buffer : List ℕ

-- "It writes each node's block number as 16 bits, .. and returns the number of non-empty blocks."
unfoldable pub whole_walk : CircuitDag → List ℕ → Walked
whole_walk g buffer = cond (not (sound g)) (record { answer = Err Unsound; buffer = buffer })
    (cond (ltb (length buffer) (size g)) (record { answer = Err ShortBuffer; buffer = buffer })
    (record { answer = Ok (length (blocks g)); buffer = onto (block_numbers g) buffer }))
