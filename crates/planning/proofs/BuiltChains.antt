-- The chain of a built graph: its nodes are accepted qubit operations, and each clashes with the next. With that, the whole statement of
-- specs/Chains.antt. Assumes nothing.
use mathlib.Core.Path.{◌≡◌, refl, sym, ◌∙◌, ap, subst}
use mathlib.Core.Bool.{Bool, true}
use mathlib.Core.List.{List, [], ◌∷◌}
use Prim.Native.Nat.{ℕ, zero, suc, ◌<◌}
use native.Mathlib.Omega.{arith}
use lib.ListN.{length, get_or, get_or-map}
use Rattle.graph.specs.declared.CircuitDag.{CircuitDag}
use Rattle.graph.specs.Dag.{absent, size, empty}
use Rattle.graph.specs.Soundness.{sound}
use Rattle.links.specs.declared.LoadingRule.{LoadingRule}
use Rattle.insertion.specs.Calls.{Call, bytes_of, built, all_by}
use Rattle.insertion.proofs.BuiltLaws.{sound-built}
use Rattle.walk.specs.Blocks.{blocks}
use Rattle.guarantee.specs.Guarantee.{Accepted, accepted, takes_qubits, clash, Bytes}
use Rattle.walk.proofs.Heights.{cur-zero}
use Rattle.walk.proofs.HeightSteps.{block_pred}
use Rattle.walk.proofs.BlockLaws.{rank, upward, first_start}
use Rattle.walk.proofs.NumberLaws.{some_first}
use Rattle.guarantee.proofs.Nets.{Net, is_op, on_op, clashes}
use Rattle.guarantee.proofs.NetRuns.{clash-on}
use Rattle.guarantee.proofs.AcceptedNets.{calls_from, net_of, no_record, at, bytes_by, Built, built as built-net}
use Rattle.guarantee.proofs.RecordTakes.{takes_qubits_lem, clash-is}
use Rattle.planning.specs.Chain.{chain_of}
use Rattle.planning.specs.Chains.{Consecutive, record_of, BuiltChain, Chains}
use Rattle.planning.proofs.ChainLaws.{E, F, blk, chain-whole, whole_in, sound-chain}
use Rattle.planning.proofs.LinkedNets.{Linked, net_linked}

consecutive_map : (p q : ℕ → ℕ → Bool) → ((v u : ℕ) → p v u ≡ true → q v u ≡ true) → (l : List ℕ) → Consecutive p l → Consecutive q l
consecutive_map p q h [] c = tt
consecutive_map p q h (v ∷ []) c = tt
consecutive_map p q h (v ∷ u ∷ l) c = (h v u c.0, consecutive_map p q h (u ∷ l) c.1)

module _ (calls : List Call) (bytes : Bytes (bytes_of calls)) where
  abbrev g : CircuitDag
  g = built calls

  abbrev done : List Accepted
  done = accepted calls

  s : sound g ≡ true
  s = (sound-built calls).sound

  T : Built (net_of calls) g done
  T = built-net calls bytes

  abbrev N : Net
  N = net_of calls

  L : Linked N
  L = net_linked (calls_from empty calls)

  record_is : (u : ℕ) → record_of calls u ≡ (at done u).bytes
  record_is u = get_or-map (λ (o : Accepted). o.bytes) done u no_record

  low : (u : ℕ) → is_op (N.take u) ≡ true → u < length done
  low u o = omega (arith, L.low u o, T.seen.size, T.long)

  -- an operation of the net is one by its record
  takes : (u : ℕ) → is_op (N.take u) ≡ true → takes_qubits (at done u).bytes ≡ true
  takes u o = sym (takes_qubits_lem (at done u).bytes (T.rule u (low u o))) ∙ ap is_op (sym (T.takes u)) ∙ o

  edge-clash : (v u : ℕ) → E g s u v ≡ true → clash (record_of calls u) (record_of calls v) ≡ true
  edge-clash v u e =
      let x = L.edge_on u v (T.seen.edges u v ∙ e) in
      let a = on_op (N.take u) x.0 x.2 in
      let b = on_op (N.take v) x.0 x.3 in
      (λ i. clash (record_is u i) (record_is v i))
      ∙ clash-is (at done u).bytes (at done v).bytes (T.rule u (low u a)) (T.rule v (low v b)) (takes u a) (takes v b)
      ∙ (λ i. clashes (sym (T.takes u) i) (sym (T.takes v) i))
      ∙ clash-on (N.take u) (N.take v) x.0 x.1 x.2 x.3

  -- a node of a block is an operation
  block-op : (t v : ℕ) → blk g s t v ≡ true → is_op (N.take v) ≡ true
  block-op zero v b = L.head_op v (T.seen.heads v ∙ sym (ap (λ (f : ℕ → Bool). f v) (cur-zero (size g) (E g s) (rank g s) (upward g s) (F g s) (first_start g s) (some_first g s 0 v b))) ∙ b)
  block-op (suc t) v b =
      let p = block_pred (size g) (E g s) (rank g s) (upward g s) (F g s) (first_start g s) (some_first g s (suc t) v b) t v b in
      let x = L.edge_on p.0 v (T.seen.edges p.0 v ∙ p.2) in
      on_op (N.take v) x.0 x.3

  built-chain : BuiltChain calls
  built-chain = record {
    taking = λ i h.
        let r = whole_in g s (chain-whole g s (length (blocks g)) refl) i h in
        let v = get_or (chain_of g) i absent in
        ap takes_qubits (record_is v) ∙ takes v (block-op r.0 v r.2);
    clashing = consecutive_map (λ v u. E g s u v) (λ v u. clash (record_of calls u) (record_of calls v)) edge-clash (chain_of g) (sound-chain g s).joined;
  }

by_rule : (rule : LoadingRule) (l : List (List ℕ)) → Bytes l → BuiltChain (all_by rule l)
by_rule rule l h = built-chain (all_by rule l) (subst Bytes (sym (bytes_by rule l)) h)

-- every chain
pub chains : Chains
chains = record { of_sound = sound-chain; of_built = by_rule; of_mixed = built-chain }
