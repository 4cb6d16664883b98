-- "Queries", with their refusals and lent buffers: "queries 11, 8, 9, 10". Assumes nothing.
use Rattle.std.specs.Prelude.{cond, not, ◌||◌, List, [], ◌∷◌, ◌++◌, ℕ, ltb, eqb, length, Result, Ok, Err, ⊤}
use Rattle.file.specs.Lists.{keep, member, is_empty, onto}
use Rattle.file.specs.declared.Refusal.{Refusal}
use Rattle.file.specs.declared.Refusal.TheVariants.{Absent, NotInLayer, ShortBuffer, Unsound}
use Rattle.graph.specs.declared.CircuitDag.{CircuitDag}
use Rattle.graph.specs.Dag.{size}
use Rattle.graph.specs.Soundness.{sound}
use Rattle.queries.specs.Reach.{blocking, predecessors_of, successors_of}

-- the answer, and the lent buffer afterwards
pub record Lent : Type 0 where
  pub answer : Result ℕ Refusal
  pub buffer : List ℕ

-- "left as it was: buffers"
abbrev pub refuses : Refusal → List ℕ → Lent
refuses r buffer = record { answer = Err r; buffer = buffer }

-- "buffer shorter than the answer"; "Entries after the answer keep their old contents."
abbrev pub answers : List ℕ → List ℕ → Lent
answers l buffer = cond (ltb (length buffer) (length l)) (refuses ShortBuffer buffer) (record { answer = Ok (length l); buffer = onto l buffer })

-- "queries 11, 8", then the answer
abbrev pub on_node : CircuitDag → ℕ → List ℕ → Lent → Lent
on_node g v buffer x = cond (not (sound g)) (refuses Unsound buffer) (cond (ltb v (size g)) x (refuses Absent buffer))

-- "queries 11, 8"
abbrev pub check_node : CircuitDag → ℕ → Result ⊤ Refusal
check_node g v = cond (sound g) (cond (ltb v (size g)) (Ok tt) (Err Absent)) (Err Unsound)

-- "`execution_blocked`: all nodes other than the given one from which it is reached, minus those in the executed list, ascending."
unfoldable pub execution_blocked : CircuitDag → List ℕ → ℕ → List ℕ → Lent
execution_blocked g executed v buffer = on_node g v buffer (answers (blocking g executed v) buffer)

-- "`blocking_predecessors` and `successors`: direct neighbours, ascending, the former minus the executed list."
unfoldable pub blocking_predecessors : CircuitDag → List ℕ → ℕ → List ℕ → Lent
blocking_predecessors g executed v buffer = on_node g v buffer (answers (keep (λ u. not (member u executed)) (predecessors_of g v)) buffer)

-- "`successors`: direct neighbours, ascending"
unfoldable pub successors : CircuitDag → ℕ → List ℕ → Lent
successors g v buffer = on_node g v buffer (answers (successors_of g v) buffer)

-- "the node's first occurrence is removed"
unfoldable pub remove : ℕ → List ℕ → List ℕ
remove v [] = []
remove v (u ∷ l) = cond (eqb u v) l (u ∷ remove v l)

-- "each successor not blocked, with the node itself counted as executed"
abbrev pub freed : CircuitDag → List ℕ → ℕ → List ℕ
freed g executed v = keep (λ w. is_empty (blocking g (v ∷ executed) w)) (successors_of g v)

-- ".. is appended ascending. If one was appended or there are no successors, the node's first occurrence is removed; otherwise the layer stays."
unfoldable pub layer_after : CircuitDag → List ℕ → List ℕ → ℕ → List ℕ
layer_after g executed layer v =
    cond (not (is_empty (freed g executed v)) || is_empty (successors_of g v)) (remove v layer ++ freed g executed v) layer

-- "`new_front_layer`, on a layer of any numbers"; "node not in the given layer"
unfoldable pub new_front_layer : CircuitDag → List ℕ → List ℕ → ℕ → List ℕ → Lent
new_front_layer g executed layer v buffer =
    on_node g v buffer (cond (member v layer) (answers (layer_after g executed layer v) buffer) (refuses NotInLayer buffer))
