-- The nodes that a record's node is joined with. Assumes nothing.
use Rattle.std.proofs.Common.{◌≡◌, refl, sym, ◌∙◌, true, false, cond, List, [], ◌∷◌, ◌++◌, map, ℕ, suc, ◌+◌, ◌≤◌, ◌<◌, length}
use Rattle.std.proofs.Common.{get_or, set, take, drop, arith, add-one, drop-cons, length-set}
use Rattle.std.proofs.lemmas.List.{map-append, get_or-set_same, get_or-set_other, get_or-take, take-set, take_more_set, length-take-le}
use lib.Seq.{take-suc, take-suc-set, drop-set-lt}
use borrow.Author.Tests.{eq-eqb, ne_eqb}
use lib.Dec.{eqb}
use Rattle.file.specs.Lists.{member, add}
use Rattle.graph.specs.Dag.{absent, present}
use Rattle.graph.proofs.ListLaws.{at-any, at_none}
use Rattle.links.specs.Links.{mapped}
use Rattle.links.proofs.LinkLaws.{add_present, add-length}

-- ---- the number 65535

pub is-present : (x : ℕ) → (x ≡ absent → ⊥) → present x ≡ true
is-present x h = rw (ne_eqb x absent h) refl

pub is-absent : (x : ℕ) → x ≡ absent → present x ≡ false
is-absent x e = rw (eq-eqb x absent e) refl

-- ---- every node in a map

-- an entry after v
abbrev pub becomes : ℕ → ℕ → ℕ
becomes v u = cond (present u) v u

-- the entries below i are v where they named a node, and the others are these nodes
pub record Mapping (v : ℕ) (before now others : List ℕ) (i : ℕ) : Type 0 where
  pub size : length now ≡ length before
  pub done : take i now ≡ map (becomes v) (take i before)
  pub kept : drop i now ≡ drop i before
  pub joined : others ≡ mapped (take i before) []
  pub few : length others ≤ i

mapped_more : (l seen : List ℕ) (x : ℕ) → mapped (l ++ (x ∷ [])) seen ≡ add_present x (mapped l seen)
unfolding mapped
mapped_more [] seen x = refl
mapped_more (y ∷ l) seen x = mapped_more l (add_present y seen) x

module _ (v : ℕ) (before : List ℕ) where
  pub mapping_begins : (others : List ℕ) → others ≡ [] → Mapping v before before others 0
  unfolding mapped
  mapping_begins others e = record { size = refl; done = refl; kept = refl; joined = e; few = rw e (omega arith) }

  module _ (now others : List ℕ) (i : ℕ) (m : Mapping v before now others i) (within : i < length before) where
    r : i < length now
    r = omega (arith, m.size)

    same_entry : get_or now i 0 ≡ get_or before i 0
    same_entry = let a = drop-cons now i 0 r in let b = drop-cons before i 0 within in cc (m.kept)

    same_rest : drop (suc i) now ≡ drop (suc i) before
    same_rest = let a = drop-cons now i 0 r in let b = drop-cons before i 0 within in cc (m.kept)

    pub mapping_goes : (now' others' : List ℕ) → now' ≡ set now i (becomes v (get_or now i 0)) → others' ≡ add_present (get_or now i 0) others
        → Mapping v before now' others' (i + 1)
    mapping_goes now' others' en eo = record {
      size = rw (en, length-set) m.size;
      done = rw (en, add-one, take-suc-set now i (becomes v (get_or now i 0)) r, take-suc before i 0 within, map-append, same_entry, m.done) refl;
      kept = rw (en, add-one, drop-set-lt (suc i) now i (becomes v (get_or now i 0)) (omega arith)) same_rest;
      joined = rw (eo, m.joined, add-one, take-suc before i 0 within, same_entry) (sym (mapped_more (take i before) [] (get_or before i 0)));
      few = rw eo (omega (arith, add-length (get_or now i 0) others, m.few));
    }

-- ---- one of the others, laid behind them before it is looked for

module _ (node : List ℕ) (c s : ℕ) (long : length node ≡ 64) (room : c < 64) where
  abbrev laid : List ℕ
  laid = set node c s

  here : get_or laid c 0 ≡ s
  here = get_or-set_same node c s 0 (omega (arith, long, room))

  stands : (j : ℕ) → j < c → get_or (take c node) j 0 ≡ get_or laid j 0
  stands j h = get_or-take c node j 0 h ∙ sym (get_or-set_other node c j s 0 (λ e. omega arith))

  few : length (take c node) ≡ c
  few = length-take-le c node (omega (arith, long, room))

  -- no search goes past it
  pub laid_ends : (i : ℕ) → ((j : ℕ) → j < i → get_or laid j 0 ≡ s → ⊥) → c < i → ⊥
  laid_ends i before h = before c h here

  pub laid_new : ((j : ℕ) → j < c → get_or laid j 0 ≡ s → ⊥) → take (c + 1) laid ≡ add s (take c node)
  laid_new before =
      let none : member s (take c node) ≡ false = at_none (eqb s) (take c node) 0 (λ j h.
      let k : j < c = omega (arith, few) in
      ne_eqb s (get_or (take c node) j 0) (λ e. before j k (sym (e ∙ stands j k)))) in
      rw none (take_more_set node c s (omega (arith, long, room)))

  pub laid_known : (i : ℕ) → i < c → get_or laid i 0 ≡ s → take c laid ≡ add s (take c node)
  laid_known i h e =
      let some : member s (take c node) ≡ true
      = at-any (eqb s) (take c node) 0 i (omega (arith, few)) (eq-eqb s (get_or (take c node) i 0) (sym (stands i h ∙ e))) in
      rw some (take-set node c s)
