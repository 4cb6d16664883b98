-- The accessors: the key's entry in a register map. Assumes nothing.
use mathlib.Core.Path.{◌≡◌, refl, sym, ◌∙◌, ap}
use mathlib.Core.Bool.{Bool, true, false, cond, ◌&&◌}
use mathlib.Core.List.{List, map}
use Prim.Native.Nat.{ℕ, zero, suc, ◌+◌, ◌≤◌, ◌<◌}
use native.Mathlib.Omega.{arith}
use native.Mathlib.Decide.{ℕ_discrete}
use lib.Dec.{eqb}
use lib.ListN.{get_or}
use borrow.Author.Tests.{eqb-true, eq-eqb}
use Rattle.file.specs.Lists.{count_from}
use Rattle.file.specs.declared.RegisterKey.{RegisterKey}
use Rattle.file.proofs.BoolLaws.{not-true, and_l, and_r}
use Rattle.graph.specs.declared.Registers.{Registers}
use Rattle.graph.specs.Dag.{Entry, node, entry_at, entries_of}
use Rattle.accessors.specs.Keys.{HasKey}
use Rattle.accessors.specs.Accessors.{node_of_key}
use Rattle.std.specs.Prelude.{Some, None}

module _ (r : Registers) (k : RegisterKey) where
  -- n entries from i on
  abbrev part : ℕ → ℕ → List Entry
  part n i = map (entry_at r) (count_from n i)

  -- whether entry i has the key
  abbrev here : ℕ → Bool
  here i = eqb (get_or r.name i 0) k.name && eqb (get_or r.index i 0) k.index

  turn : (n i : ℕ) (b : Bool) → here i ≡ b → node_of_key k (part (suc n) i) ≡ cond b (Some (node (get_or r.node i 0))) (node_of_key k (part n (i + 1)))
  unfolding node_of_key count_from
  turn n i b e = rw e refl

  other : (i : ℕ) → (HasKey r k i → ⊥) → here i ≡ false
  other i f = not-true (λ t. f (record { name = eqb-true _ _ (and_l _ _ t); index = eqb-true _ _ (and_r _ _ t) }))

  found : (n i p : ℕ) → i ≤ p → p < i + n → HasKey r k p → ((j : ℕ) → i ≤ j → j < p → HasKey r k j → ⊥) → Some (node (get_or r.node p 0)) ≡ node_of_key k (part n i)
  found zero i p a b h f = absurd (omega arith)
  found (suc n) i p a b h f = elim (ℕ_discrete p i) [
    | yes e ↦ ap (λ (x : ℕ). Some (node (get_or r.node x 0))) e ∙ sym (turn n i true (ap here (sym e) ∙ rw (eq-eqb _ _ h.name, eq-eqb _ _ h.index) refl))
    | no e ↦ found n (i + 1) p (omega arith) (omega arith) h (λ j x y. f j (omega arith) y) ∙ sym (turn n i false (other i (f i (omega arith) (omega arith))))
  ]

  missing : (n i : ℕ) → ((j : ℕ) → i ≤ j → j < i + n → HasKey r k j → ⊥) → None ≡ node_of_key k (part n i)
  unfolding node_of_key count_from
  missing zero i f = refl
  missing (suc n) i f = missing n (i + 1) (λ j x y. f j (omega arith) (omega arith)) ∙ sym (turn n i false (other i (f i (omega arith) (omega arith))))

  pub key_at : (p : ℕ) → p < r.count → HasKey r k p → ((j : ℕ) → j < p → HasKey r k j → ⊥) → Some (node (get_or r.node p 0)) ≡ node_of_key k (entries_of r)
  key_at p l h f = found r.count 0 p (omega arith) (omega arith) h (λ j x y. f j y)

  pub key_absent : ((j : ℕ) → j < r.count → HasKey r k j → ⊥) → None ≡ node_of_key k (entries_of r)
  key_absent f = missing r.count 0 (λ j x y. f j (omega arith))
