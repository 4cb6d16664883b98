-- What an insertion gives, once for all proofs: accepted with the facts that its tests tell, or refused with a cause and the
-- graph as it was. Assumes nothing.
use mathlib.Core.Path.{◌≡◌, refl, sym, ap, subst, ◌∙◌}
use mathlib.Core.Bool.{true, false}
use mathlib.Core.List.{List}
use mathlib.Core.Logic.{◌⊎◌, inl, inr, ⊎_elim}
use Prim.Native.Nat.{ℕ}
use native.Mathlib.Omega.{arith}
use lib.Dec.{leb}
use Rattle.file.proofs.BoolLaws.{bool_cases}
use Rattle.file.proofs.RecordLaws.{cause_known}
use Rattle.file.specs.Records.{good, cause_of}
use Rattle.file.specs.Refusals.{at_record}
use Rattle.file.specs.declared.Refusal.{Refusal}
use Rattle.file.specs.declared.Refusal.TheVariants.{TooManyNodes, TooManyEdges, TooManyRegisters, Unsound}
use Rattle.graph.specs.declared.CircuitDag.{CircuitDag}
use Rattle.graph.specs.Dag.{node, size}
use Rattle.links.specs.Links.{FarRule}
use Rattle.insertion.specs.declared.Inserted.{Inserted}
use Rattle.insertion.specs.Insertion.{grown}
use Rattle.insertion.specs.Limits.{refused, edges_pass, registers_pass, insert_as}
use Rattle.std.specs.Prelude.{Ok}

-- no test cause_refuses the record s on the graph g
pub record Taken (rule : FarRule) (g : CircuitDag) (s : List ℕ) : Type 0 where
  pub whole : good s ≡ true
  pub free : leb 512 (size g) ≡ false
  pub room : edges_pass rule g s ≡ false
  pub fit : registers_pass g s ≡ false

-- the first test that cause_refuses it, with its cause r
pub data Cause (rule : FarRule) (g : CircuitDag) (s : List ℕ) (r : Refusal) : Type 0 where
  itself : good s ≡ false → r ≡ cause_of s → Cause rule g s r
  nodes : good s ≡ true → leb 512 (size g) ≡ true → r ≡ TooManyNodes → Cause rule g s r
  edges : good s ≡ true → leb 512 (size g) ≡ false → edges_pass rule g s ≡ true → r ≡ TooManyEdges 0 → Cause rule g s r
  entries : good s ≡ true → leb 512 (size g) ≡ false → edges_pass rule g s ≡ false → registers_pass g s ≡ true → r ≡ TooManyRegisters 0
      → Cause rule g s r

module _ (rule : FarRule) (g : CircuitDag) (s : List ℕ) where
  -- the graph after the record, and the node's number
  abbrev pub accepted : Inserted
  accepted = record { answer = Ok (node (size g)); graph = grown rule g s }

  -- one of the two
  pub taken-or-refused : Taken rule g s ⊎ ((r : Refusal) × Cause rule g s r)
  taken-or-refused = ⊎_elim
      (λ (a : good s ≡ true). ⊎_elim
      (λ (b : leb 512 (size g) ≡ true). inr (TooManyNodes, nodes a b refl))
      (λ (b : leb 512 (size g) ≡ false). ⊎_elim
      (λ (c : edges_pass rule g s ≡ true). inr (TooManyEdges 0, edges a b c refl))
      (λ (c : edges_pass rule g s ≡ false). ⊎_elim
      (λ (d : registers_pass g s ≡ true). inr (TooManyRegisters 0, entries a b c d refl))
      (λ (d : registers_pass g s ≡ false). inl (record { whole = a; free = b; room = c; fit = d }))
      (bool_cases (registers_pass g s)))
      (bool_cases (edges_pass rule g s)))
      (bool_cases (leb 512 (size g))))
      (λ (a : good s ≡ false). inr (cause_of s, itself a refl))
      (bool_cases (good s))

  module _ (i : ℕ) where
    pub taken_inserts : Taken rule g s → insert_as rule i g s ≡ accepted
    unfolding insert_as
    taken_inserts t = rw (t.whole, t.free, t.room, t.fit) refl

    -- a refusal has the record's number and leaves the graph
    pub cause_refuses : (r : Refusal) → Cause rule g s r → insert_as rule i g s ≡ refused (at_record i r) g
    unfolding insert_as
    cause_refuses r (itself a q) = rw (a, q) refl
    cause_refuses r (nodes a b q) = rw (a, b, q) refl
    cause_refuses r (edges a b c q) = rw (a, b, c, q) refl
    cause_refuses r (entries a b c d q) = rw (a, b, c, d, q) refl

    -- it is never 11
    pub never_unsound : (r : Refusal) → Cause rule g s r → at_record i r ≡ Unsound → ⊥
    never_unsound r (itself a q) e = cause_known s i (ap (at_record i) (sym q) ∙ e)
    never_unsound r (nodes a b q) e = let z : ◌≡◌ {A = ℕ} 0 1 = cc in omega arith
    never_unsound r (edges a b c q) e = let z : ◌≡◌ {A = ℕ} 0 1 = cc in omega arith
    never_unsound r (entries a b c d q) e = let z : ◌≡◌ {A = ℕ} 0 1 = cc in omega arith

    -- what holds of every refusal with a cause and of the accepted record holds of the insertion
    pub insert_cases : (P : Inserted → Type 0) → ((r : Refusal) → Cause rule g s r → P (refused (at_record i r) g)) → (Taken rule g s → P accepted) → P (insert_as rule i g s)
    insert_cases P stops goes = ⊎_elim
        (λ (t : Taken rule g s). subst P (sym (taken_inserts t)) (goes t))
        (λ (c : (r : Refusal) × Cause rule g s r). subst P (sym (cause_refuses c.0 c.1)) (stops c.0 c.1))
        taken-or-refused
