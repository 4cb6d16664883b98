-- New edges behind the old ones. Assumes nothing.
use Rattle.std.proofs.Common.{◌≡◌, refl, sym, ◌∙◌, List, [], ◌∷◌, ◌++◌, map, ℕ, suc, ◌+◌, ◌<◌, ◌≤◌, length, get_or, set, take, drop, arith}
use Rattle.std.proofs.Common.{append_assoc, length-append, drop-cons, length-take-le, take-append-drop, append-nil, add-one}
use Rattle.std.proofs.lemmas.List.{map-append, take_all}
use lib.ListN.{length-map}
use lib.Seq.{set_at, take-suc}
use Rattle.graph.specs.declared.Edges.{Edges}
use Rattle.graph.specs.Dag.{Edge, appended, with_edges}
use Rattle.links.specs.Ends.{with_edge}

-- one entry more behind those written
appended_more : (n j : ℕ) (new old : List ℕ) (x : ℕ) → length new ≡ j → n + j < length old → set (appended n new old) (n + j) x ≡ appended n (new ++ (x ∷ [])) old
appended_more n j new old x e h =
    let t : length (take n old) ≡ n = length-take-le n old (omega arith) in
    let p : length (take n old ++ new) ≡ n + j = rw (length-append (take n old) new, t, e) refl in
    let c = drop-cons old (n + j) 0 h in
    let q : length (take n old ++ (new ++ (x ∷ []))) ≡ suc (n + j) =
    rw (length-append (take n old) (new ++ (x ∷ [])), length-append new (x ∷ []), t, e) (omega arith) in
    rw (p, q, c, set_at (take n old ++ new) (get_or old (n + j) 0) (drop (suc (n + j)) old) x (n + j) p) (simp append_assoc)

appended_none : (n : ℕ) (old : List ℕ) → n ≤ length old → appended n [] old ≡ old
appended_none n old h = rw (append-nil (take n old), length-take-le n old h, take-append-drop) refl

-- the first i of the edges to the others are written, and not counted
pub record Added (es now : Edges) (f : ℕ → Edge) (others : List ℕ) (i : ℕ) : Type 0 where
  pub from_size : length es.from ≡ 2048
  pub to_size : length es.to ≡ 2048
  pub count : now.count ≡ es.count
  pub from : now.from ≡ appended es.count (map (λ (e : Edge). e.from) (map f (take i others))) es.from
  pub to : now.to ≡ appended es.count (map (λ (e : Edge). e.to) (map f (take i others))) es.to

module _ (es : Edges) (f : ℕ → Edge) (others : List ℕ) where
  pub added_none : length es.from ≡ 2048 → length es.to ≡ 2048 → es.count ≤ 2048 → Added es es f others 0
  added_none hf ht h = record {
    from_size = hf;
    to_size = ht;
    count = refl;
    from = sym (appended_none es.count es.from (omega arith));
    to = sym (appended_none es.count es.to (omega arith));
  }

  -- one array: entry count + i is written
  next : (g : Edge → ℕ) (old : List ℕ) (i : ℕ) → i < length others → es.count + i < length old
      → set (appended es.count (map g (map f (take i others))) old) (es.count + i) (g (f (get_or others i 0))) ≡ appended es.count (map g (map f (take (i + 1) others))) old
  next g old i h room =
      let n : length (map g (map f (take i others))) ≡ i = rw (length-map (map f (take i others)) g, length-map (take i others) f) (length-take-le i others (omega arith)) in
      let t : take (i + 1) others ≡ take i others ++ (get_or others i 0 ∷ []) = rw (add-one, take-suc others i 0 h) refl in
      appended_more es.count i (map g (map f (take i others))) old (g (f (get_or others i 0))) n room
      ∙ rw (t, map-append f (take i others) (get_or others i 0 ∷ []), map-append g (map f (take i others)) (f (get_or others i 0) ∷ [])) refl

  pub added_more : (now : Edges) (i : ℕ) → Added es now f others i → i < length others → es.count + length others ≤ 2048
      → (now' : Edges) → now' ≡ with_edge now (es.count + i) (f (get_or others i 0)) → Added es now' f others (i + 1)
  added_more now i a h room now' e = record {
    from_size = a.from_size;
    to_size = a.to_size;
    count = rw e a.count;
    from = rw (e, a.from) (next (λ (e : Edge). e.from) es.from i h (omega (arith, a.from_size)));
    to = rw (e, a.to) (next (λ (e : Edge). e.to) es.to i h (omega (arith, a.to_size)));
  }

  pub added_all : (now : Edges) (i : ℕ) → length others ≤ i → Added es now f others i
      → record { count = es.count + length others; from = now.from; to = now.to } ≡ with_edges es (map f others)
  added_all now i h a = rw (a.from, a.to, take_all i others h, length-map others f) refl
