-- A node number past 16 bits is no node's: each query refuses it, 11, then 8. Assumes nothing.
use mathlib.Core.Path.{◌≡◌, refl}
use mathlib.Core.Bool.{true, false, ◌&&◌}
use mathlib.Core.Logic.{⊎_elim}
use mathlib.Core.List.{List}
use Prim.Native.Nat.{ℕ, ◌≤◌, ◌<◌}
use native.Mathlib.Omega.{arith}
use native.Mathlib.Decide.{dec_lt}
use lib.Dec.{leb}
use lib.ListN.{length, get_or-eq_default}
use borrow.Author.Tests.{leb-true, lt-ltb, le-ltb}
use Rattle.accessors.specs.Accessors.{get, operation_of, first_involving_qubit, last_involving_qubit}
use Rattle.file.proofs.BoolLaws.{bool_cases, and_l}
use Rattle.graph.specs.declared.CircuitDag.{CircuitDag}
use Rattle.graph.specs.declared.End.{End}
use Rattle.graph.specs.Dag.{size, absent, at_qubit}
use Rattle.graph.specs.Soundness.{sound, check_sound}
use Rattle.file.specs.declared.Refusal.{Refusal}
use Rattle.queries.proofs.QueryLaws.{not_sound}
use Rattle.graph.proofs.SoundnessLaws.{sound_clauses}
use Rattle.queries.specs.Queries.{Lent, refuses, execution_blocked, blocking_predecessors, successors, new_front_layer}
use Rattle.queries.proofs.QueryLaws.{successors_unsound, successors-absent, blocked_unsound, blocked_absent, predecessors_unsound}
use Rattle.queries.proofs.QueryLaws.{predecessors_absent, layer_unsound, layer_absent}
use Rattle.file.specs.declared.Refusal.TheVariants.{Absent, Unsound}
use Rattle.host.specs.Answers.{HostLent, no_node, lent, of_operation, involving_qubit}
use Rattle.std.specs.Prelude.{Err, None}

few_nodes : (g : CircuitDag) → sound g ≡ true → size g ≤ 512
few_nodes g h =
    let a = leb (size g) 512 in
    let b = leb g.edges.count 2048 in
    let c = leb g.first_registers.count 256 in
    let d = leb g.last_registers.count 256 in
    let e = leb g.commuting.count 512 in
    leb-true (size g) 512 (and_l a b (and_l (a && b) c (and_l (a && b && c) d (and_l (a && b && c && d) e (sound_clauses g h).counts))))

-- an answer that is 11 on an unsound graph and else 8
beyond : (g : CircuitDag) (b : List ℕ) (x : Lent) → (sound g ≡ false → refuses Unsound b ≡ x) → (sound g ≡ true → refuses Absent b ≡ x)
    → ◌≡◌ {A = HostLent} (record { answer = no_node g; buffer = b }) (lent x)
beyond g b x u a = ⊎_elim (λ (e : sound g ≡ true). rw (e, ← a e) refl) (λ (e : sound g ≡ false). rw (e, ← u e) refl) (bool_cases (sound g))

module _ (g : CircuitDag) (v : ℕ) (b : List ℕ) (h : 65535 < v) where
  pub successors-beyond : ◌≡◌ {A = HostLent} (record { answer = no_node g; buffer = b }) (lent (successors g v b))
  successors-beyond = beyond g b (successors g v b) (successors_unsound g v b) (λ e. successors-absent g v b e (omega (arith, few_nodes g e)))

  module _ (executed : List ℕ) where
    pub blocked_beyond : ◌≡◌ {A = HostLent} (record { answer = no_node g; buffer = b }) (lent (execution_blocked g executed v b))
    blocked_beyond = beyond g b (execution_blocked g executed v b) (blocked_unsound g executed v b)
        (λ e. blocked_absent g executed v b e (omega (arith, few_nodes g e)))

    pub predecessors_beyond : ◌≡◌ {A = HostLent} (record { answer = no_node g; buffer = b }) (lent (blocking_predecessors g executed v b))
    predecessors_beyond = beyond g b (blocking_predecessors g executed v b) (predecessors_unsound g executed v b)
        (λ e. predecessors_absent g executed v b e (omega (arith, few_nodes g e)))

    pub layer_beyond : (layer : List ℕ) → ◌≡◌ {A = HostLent} (record { answer = no_node g; buffer = b }) (lent (new_front_layer g executed layer v b))
    layer_beyond layer = beyond g b (new_front_layer g executed layer v b) (layer_unsound g executed v b layer)
        (λ e. layer_absent g executed v b layer e (omega (arith, few_nodes g e)))

-- .. and so does `get`
pub got_unsound : (g : CircuitDag) (v : ℕ) (c : Refusal) → check_sound g ≡ Err c → Err c ≡ get g v
unfolding get
got_unsound g v c e = let p = not_sound g c e in rw (p.0, p.1) refl

pub got_beyond : (g : CircuitDag) (v : ℕ) → 65535 < v → sound g ≡ true → Err Absent ≡ get g v
unfolding get
got_beyond g v h e = rw (e, le-ltb v (size g) (omega (arith, few_nodes g e))) refl

-- a qubit past an end's map names no node
past_map : (e : End) (q : ℕ) → length e.node ≡ 64 → 64 ≤ q → operation_of (at_qubit e q) ≡ None
past_map e q long h = rw (get_or-eq_default e.node absent {n = q} (omega arith)) refl

module _ (g : CircuitDag) (q : ℕ) where
  pub first_of_qubit : length g.first.node ≡ 64 → of_operation (first_involving_qubit g q) ≡ involving_qubit true q g
  unfolding first_involving_qubit last_involving_qubit
  first_of_qubit long = elim (dec_lt q 64) [
    | yes l ↦ rw (lt-ltb q 64 l) refl
    | no n ↦ rw (le-ltb q 64 (omega arith), past_map g.first q long (omega arith)) refl
  ]

  pub last_of_qubit : length g.last.node ≡ 64 → of_operation (last_involving_qubit g q) ≡ involving_qubit false q g
  unfolding first_involving_qubit last_involving_qubit
  last_of_qubit long = elim (dec_lt q 64) [
    | yes l ↦ rw (lt-ltb q 64 l) refl
    | no n ↦ rw (le-ltb q 64 (omega arith), past_map g.last q long (omega arith)) refl
  ]
