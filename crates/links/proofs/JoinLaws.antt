-- The two ends through the loop over a Set's qubits and after All. Assumes nothing.
use Rattle.std.proofs.Common.{◌≡◌, refl, sym, Bool, true, false, cond, ◌&&◌, List, [], ◌∷◌, map, ℕ, suc, ◌+◌, ◌≤◌, ◌<◌, length, get_or, set, replicate, eqb, arith}
use borrow.Author.Tests.{ne_eqb}
use Rattle.file.specs.Lists.{any_of, add, is_empty}
use Rattle.graph.specs.declared.NodeIndex.{NodeIndex}
use Rattle.graph.specs.declared.End.{End}
use Rattle.graph.specs.Dag.{absent, present, or_else, node}
use Rattle.links.specs.Links.{FarRule, qubits, near_after, source, no_qubit, mapped, link_qubits, link_set, link_all}
use Rattle.links.specs.Ends.{Joined}
use Rattle.links.proofs.QubitLaws.{few_qubits}
use Rattle.links.proofs.LinkLaws.{Steady, add-length}
use Rattle.links.proofs.OtherLaws.{becomes}

-- ---- the loop over a Set's qubits

-- linking the qubits qs that are left gives what linking all of them gives
pub record Linking (rule : FarRule) (mask v fresh : ℕ) (near₀ far₀ near far : End) (others qs : List ℕ) : Type 0 where
  pub gives : or_else (rule near far) v ≡ fresh
  pub room : length others + length qs ≤ 64
  pub same : link_qubits rule qs v (record { near = near; far = far; others = others })
      ≡ link_qubits rule (qubits mask) v (record { near = near₀; far = far₀; others = [] })

module _ (rule : FarRule) (mask v fresh : ℕ) (near₀ far₀ : End) where
  pub linking_begins : (others : List ℕ) → fresh ≡ or_else (rule near₀ far₀) v → others ≡ [] → Linking rule mask v fresh near₀ far₀ near₀ far₀ others (qubits mask)
  linking_begins others g e = record { gives = sym g; room = rw e (omega (arith, few_qubits 64 0 mask)); same = rw e refl }

  module _ (near far : End) (others qs : List ℕ) (i : Linking rule mask v fresh near₀ far₀ near far others qs) where
    pub linking_room : (q : ℕ) (qs' : List ℕ) → qs ≡ q ∷ qs' → length others < 64
    linking_room q qs' e = let r = rw e at i.room in omega (arith, r)

    pub linking_goes : Steady rule → (q : ℕ) (qs' : List ℕ) → qs ≡ q ∷ qs' → (near' far' : End) (others' : List ℕ)
        → near' ≡ near_after near q v
        → far' ≡ record { node = cond (present (get_or near.node q absent)) far.node (set far.node q fresh); all = far.all; block = far.block }
        → others' ≡ cond (present (source near q)) (add (source near q) others) others
        → Linking rule mask v fresh near₀ far₀ near' far' others' qs'
    unfolding link_qubits
    linking_goes steady q qs' eq near' far' others' en ef eo = record {
      gives = rw (en, ef, ← i.gives) (rw (steady near far v q) refl);
      room =
          let r = rw eq at i.room in
          let a = add-length (source near q) others in
          rw eo (omega (arith, r, a));
      same = let t = rw eq at i.same in rw (en, ef, eo, ← i.gives) t;
    }

    -- "After all qubits, v joins the first block if nothing points to it."
    pub linking_ends : qs ≡ [] → (far' : End) → far' ≡ record { node = far.node; all = far.all; block = cond (eqb (length others) 0) (set far.block v true) far.block }
        → Joined (link_set rule mask v near₀ far₀) near far' others
    unfolding link_set link_qubits
    linking_ends z far' e =
        let t = rw z at i.same in
        record { near_is = rw (← t) refl; far_is = rw (← t, e, empty others) refl; others_are = rw (← t) refl }
      where
        empty : (l : List ℕ) → eqb (length l) 0 ≡ is_empty l
        empty [] = refl
        empty (x ∷ l) = ne_eqb (suc (length l)) 0 (omega arith)

-- ---- All

-- v joined the two ends as All
pub joined_all : (v : NodeIndex) (near far near' far' : End) (others : List ℕ) (b : Bool) → (no_qubit near && no_qubit far) ≡ b
    → near' ≡ record { node = cond b (set near.node 0 v.0) (map (becomes v.0) near.node); all = v; block = set (replicate 512 false) v.0 true }
    → far' ≡ record {
      node = cond b (set far.node 0 v.0) far.node;
      all = node (or_else far.all.0 v.0);
      block = cond (any_of (λ b. b) far.block) far.block (set far.block v.0 true);
    }
    → others ≡ cond b [] (mapped near.node []) → Joined (link_all v.0 near far) near' far' others
unfolding link_all
joined_all v near far near' far' others b e en ef eo = record { near_is = rw e en; far_is = rw e ef; others_are = rw e eo }
