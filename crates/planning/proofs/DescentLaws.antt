-- The code of the chain: each loop's invariant, what keeps it, and that the descent over the arrays is the chain. Assumes nothing.
use mathlib.Core.Path.{◌≡◌, refl, sym, ◌∙◌, ap}
use mathlib.Core.Bool.{Bool, true, false, cond, ◌&&◌}
use mathlib.Core.Logic.{◌⊎◌, inl, inr, ⊎_elim}
use mathlib.Core.List.{List, [], ◌∷◌, ◌++◌, append-nil}
use Prim.Native.Nat.{ℕ, zero, suc, ◌+◌, ◌-◌, ◌≤◌, ◌<◌, min}
use native.Mathlib.Omega.{arith}
use borrow.Rule.Slice.PartMut.{mid_of, put_mid}
use lib.Seq.{drop-length, take-length, drop-drop, length-take-le, get_or-take}
use native.Mathlib.Decide.{dec_lt}
use lib.Dec.{eqb}
use lib.ListN.{length, get_or, set, take, drop, replicate, length-drop, length-replicate, get_or-append}
use borrow.Author.Tests.{eqb-true, eq-eqb}
use Rattle.file.specs.Lists.{onto, put_at}
use Rattle.file.specs.declared.Refusal.{Refusal}
use Rattle.file.specs.declared.Refusal.TheVariants.{Unsound, ShortBuffer}
use Rattle.graph.specs.declared.CircuitDag.{CircuitDag}
use Rattle.graph.specs.Dag.{absent, size}
use Rattle.graph.specs.Soundness.{sound}
use Rattle.queries.specs.Queries.{Lent}
use Rattle.file.proofs.BoolLaws.{bool_cases, and_l, and_r, and_intro}
use Rattle.file.proofs.PutLaws.{put-none, put-onto}
use Rattle.queries.proofs.BufferLaws.{answers_short, answers-whole}
use Rattle.graph.proofs.ListLaws.{any_default}
use Rattle.walk.specs.Blocks.{Walked, blocks, block_numbers, whole_walk}
use Rattle.walk.specs.Numbering.{at}
use Rattle.queries.specs.Marks.{EndsBelow}
use Rattle.walk.proofs.HeightSteps.{block_pred, chain_from as least_from}
use Rattle.walk.proofs.BlockSteps.{edge-at, at_edge}
use Rattle.walk.proofs.BlockLaws.{W, rank, upward, first_start, block_told, blocks_few}
use Rattle.walk.proofs.NumberLaws.{some_first, block_low}
use Rattle.walk.proofs.WholeLaws.{walk_done}
use Rattle.walk.proofs.WholeLaws.{walk_refused as walk_not_sound}
use Rattle.planning.specs.Chain.{chain_of, chain}
use Rattle.planning.specs.Descents.{InBlock, Before, Smallest, node_before, Descent, bottom, below, Descended}
use Rattle.planning.proofs.ChainLaws.{E, F, blk, numbers_long, in_block_lem, least-is, top, top_in, chain-is, chain_long}
use Rattle.std.specs.Prelude.{Result, Ok, Err, Option, Some, None, unwrap_or}
use Rattle.std.specs.List.{fold, reduce, filter_map, cons_option, range_with_len}
use Rattle.std.proofs.lemmas.List.FromFn.{length-range_with_len, get_or-range_with_len}

-- ---- the smallest node of a block

-- the first n numbers, as a list
pub smallest_first : (number : List ℕ) (n t : ℕ) {r : ℕ} → n ≤ length number → Smallest (InBlock (take n number) (length (take n number)) t) r → Smallest (InBlock number n t) r
smallest_first number n t h S =
    let l : length (take n number) ≡ n = length-take-le n number h in
    let inside : (u : ℕ) → InBlock number n t u → InBlock (take n number) (length (take n number)) t u = λ u p. (omega (arith, p.0), get_or-take n number u 0 p.0 ∙ p.1) in
    record {
      least = λ u p. S.least u (inside u p);
      passes = λ u p. let q = S.passes u (inside u p) in let b : _ < n = omega (arith, q.0) in (b, sym (get_or-take n number _ 0 b) ∙ q.1);
    }

-- ---- the smallest direct predecessor

-- r is at most what f gives of a list's entries, and is one of these, or d
record Least (f : ℕ → Option ℕ) (l : List ℕ) (d r : ℕ) : Type 0 where
  least : (k u : ℕ) → k < length l → f (get_or l k 0) ≡ Some u → r ≤ u
  found : (r ≡ d) ⊎ ((k : ℕ) × (k < length l) × (f (get_or l k 0) ≡ Some r))

same_some : {a b : ℕ} → Some a ≡ Some b → a ≡ b
same_some {a} e = ap (λ (o : Option ℕ). unwrap_or o a) e

not_some : {b : ℕ} → None ≡ Some b → ⊥
not_some e = let z : ◌≡◌ {A = ℕ} 0 1 = ap (λ (o : Option ℕ). elim o [ None ↦ 0 | Some _ ↦ 1 ]) e in absurd (omega arith)

module _ (f : ℕ → Option ℕ) where
  -- an entry in front of which f gives no less than r
  in_front : {x d r : ℕ} {l : List ℕ} → ((u : ℕ) → f x ≡ Some u → r ≤ u) → Least f l d r → Least f (x ∷ l) d r
  in_front {x} {d} {r} {l} h L = record {
    least = reach;
    found = ⊎_elim inl (λ p. inr (suc p.0, omega (arith, p.1), p.2)) L.found;
  }
    where
      reach : (k u : ℕ) → k < length (x ∷ l) → f (get_or (x ∷ l) k 0) ≡ Some u → r ≤ u
      reach zero u b q = h u q
      reach (suc k) u b q = L.least k u (omega arith) q

  -- one of which f gives r
  here : {x r : ℕ} {l : List ℕ} (d : ℕ) → f x ≡ Some r → ((k u : ℕ) → k < length l → f (get_or l k 0) ≡ Some u → r ≤ u) → Least f (x ∷ l) d r
  here {x} {r} {l} d e h = record { least = reach; found = inr (0, omega arith, e) }
    where
      reach : (k u : ℕ) → k < length (x ∷ l) → f (get_or (x ∷ l) k 0) ≡ Some u → r ≤ u
      reach zero u b q = let z : r ≡ u = same_some (sym e ∙ q) in omega arith
      reach (suc k) u b q = h k u (omega arith) q

  -- looked for from a on
  abbrev Found : List ℕ → ℕ → ℕ → Type 0
  Found l a r = (r ≤ a) × Least f l a r

  fold_least : (l : List ℕ) (a : ℕ) → Found l a (fold min a (filter_map f l))
  fold_least [] a = (omega arith, record { least = λ k u h. absurd (omega arith); found = inl refl })
  fold_least (x ∷ l) a = by (fold_least l) (f x) refl
    where
      by : ((b : ℕ) → Found l b (fold min b (filter_map f l))) → (o : Option ℕ) → f x ≡ o → Found (x ∷ l) a (fold min a (cons_option o (filter_map f l)))
      by more None e = let R = more a in (R.0, in_front (λ u q. absurd (not_some (sym e ∙ q))) R.1)
      by more (Some y) e =
          let R = more (min a y) in
          let r = fold min (min a y) (filter_map f l) in (
            omega (arith, R.0),
            ⊎_elim
                (λ (q : r ≡ min a y). elim (dec_lt y a) [
                  | yes b ↦ here a (e ∙ ap Some (omega (arith, q))) R.1.least
                  | no b ↦ in_front (λ u z. omega (arith, R.0, same_some (sym e ∙ z))) (record { least = R.1.least; found = inl (omega (arith, q)) })
                ])
                (λ p. in_front (λ u z. omega (arith, R.0, same_some (sym e ∙ z))) (record { least = R.1.least; found = inr p }))
                R.1.found,
          )

  reduce_least : (l : List ℕ) (d : ℕ) → Least f l d (unwrap_or (reduce min (filter_map f l)) d)
  reduce_least [] d = record { least = λ k u h. absurd (omega arith); found = inl refl }
  reduce_least (x ∷ l) d = by (reduce_least l d) (f x) refl
    where
      by : Least f l d (unwrap_or (reduce min (filter_map f l)) d) → (o : Option ℕ) → f x ≡ o → Least f (x ∷ l) d (unwrap_or (reduce min (cons_option o (filter_map f l))) d)
      by more None e = in_front (λ u q. absurd (not_some (sym e ∙ q))) more
      by more (Some y) e =
          let R = fold_least l y in
          let r = fold min y (filter_map f l) in
          ⊎_elim
          (λ (q : r ≡ y). here d (e ∙ ap Some (sym q)) R.1.least)
          (λ p. in_front (λ u z. omega (arith, R.0, same_some (sym e ∙ z))) (record { least = R.1.least; found = inr p }))
          R.1.found

-- of the arcs below m the least node that one comes from
module _ (number from to : List ℕ) (m v t : ℕ) (J : EndsBelow from to m) where
  before_of : (j u : ℕ) → node_before number from to v t j ≡ Some u → (at to j ≡ v) × (at number (at from j) ≡ t) × (at from j ≡ u)
  before_of j u e = by (eqb (at to j) v && eqb (at number (at from j)) t) refl e
    where
      by : (b : Bool) → (eqb (at to j) v && eqb (at number (at from j)) t) ≡ b → cond b (Some (at from j)) None ≡ Some u → (at to j ≡ v) × (at number (at from j) ≡ t) × (at from j ≡ u)
      by true q z = (eqb-true _ _ (and_l (eqb (at to j) v) (eqb (at number (at from j)) t) q), eqb-true _ _ (and_r (eqb (at to j) v) (eqb (at number (at from j)) t) q), same_some z)
      by false q z = absurd (not_some z)

  pub smallest_before : (r : ℕ) → r ≡ unwrap_or (reduce min (filter_map (node_before number from to v t) (range_with_len 0 m))) 65535 → Smallest (Before number from to m v t) r
  smallest_before r e = rw e (record {
    least = λ u p. lowest u p;
    passes = λ u p. ⊎_elim
        (λ q. absurd (omega (arith, lowest u p, q, p.2, J.near_below p.0 p.1.0)))
        (λ w. let o = listed w.0 (omega (arith, w.1, length-range_with_len 0 m)) in let b = before_of w.0 _ (rw o at w.2) in (w.0, (omega (arith, w.1, length-range_with_len 0 m), b.0, b.1), b.2))
        L.found;
  })
    where
      listed : (k : ℕ) → k < m → get_or (range_with_len 0 m) k 0 ≡ k
      listed k h = get_or-range_with_len 0 m k 0 h ∙ (let z : 0 + k ≡ k = omega arith in z)

      L : Least (node_before number from to v t) (range_with_len 0 m) 65535 (unwrap_or (reduce min (filter_map (node_before number from to v t) (range_with_len 0 m))) 65535)
      L = reduce_least (node_before number from to v t) (range_with_len 0 m) 65535

      lowest : (u : ℕ) → Before number from to m v t u → unwrap_or (reduce min (filter_map (node_before number from to v t) (range_with_len 0 m))) 65535 ≤ u
      lowest u p = L.least p.0 u (omega (arith, p.1.0, length-range_with_len 0 m))
          (rw (listed p.0 p.1.0, eq-eqb _ _ p.1.1, eq-eqb _ _ p.1.2) (ap Some p.2))

-- ---- the descent in the lent buffer

-- a list written at the start of a part that ends where the buffer does
written_tail : (r : ℕ) (l b x : List ℕ) → x ≡ onto l (take (length b - r) (drop r b)) → put_mid r (length b - r) b x ≡ put_at r l b
written_tail r l b x e =
    let d = drop r b in
    let n : length b - r ≡ length d = sym (length-drop r b) in
    let whole : x ≡ onto l d = e ∙ ap (onto l) (ap (λ (m : ℕ). take m d) n ∙ take-length d) in
    rw (n, drop-length d, append-nil x, whole) (ap (λ (k : List ℕ). take r b ++ (l ++ k)) (drop-drop (length l) r b))

put_first : (x : ℕ) (b : List ℕ) → 0 < length b → set b 0 x ≡ onto (x ∷ []) b
put_first x [] h = absurd (omega arith)
put_first x (y ∷ b) h = refl

module _ (number from to : List ℕ) (m v : ℕ) (old : List ℕ) where
  pub descend_last : (t : ℕ) → t ≡ 0 → t < length old → Descended number from to m v t old (set old 0 v)
  descend_last t e h = rw e (record { nodes = v ∷ []; descent = bottom; put = put_first v old (omega arith) })

  -- the call wrote on the rest
  pub descend_more : (t k u : ℕ) (rest : List ℕ) → (t ≡ 0 → ⊥) → k ≡ t - 1 → t < length old → Smallest (Before number from to m v k) u
      → Descended number from to m u k (mid_of 1 (length (set old 0 v) - 1) (set old 0 v)) rest
      → Descended number from to m v t old (put_mid 1 (length (set old 0 v) - 1) (set old 0 v) rest)
  descend_more t k u rest f e h S D =
      let z : t ≡ suc k = omega arith in
      rw z (record {
        nodes = v ∷ D.nodes;
        descent = below S D.descent;
        put = written_tail 1 D.nodes (set old 0 v) rest D.put ∙ first old (omega arith);
      })
    where
      first : (b : List ℕ) → 0 < length b → put_at 1 D.nodes (set b 0 v) ≡ onto (v ∷ D.nodes) b
      first [] l = absurd (omega arith)
      first (y ∷ b) l = let z : 1 + length D.nodes ≡ suc (length D.nodes) = omega arith in rw z refl

-- ---- on a sound graph it is the chain

module _ (g : CircuitDag) (s : sound g ≡ true) (number : List ℕ) (same : (u : ℕ) → u < size g → at number u ≡ get_or (block_numbers g) u absent) where
  abbrev n : ℕ
  n = size g

  abbrev from : List ℕ
  from = g.edges.from

  abbrev to : List ℕ
  to = g.edges.to

  abbrev m : ℕ
  m = g.edges.count

  numbered : (t u : ℕ) → t < 65535 → blk g s t u ≡ true → at number u ≡ t
  numbered t u l b = same u (block_told g s t u b).0 ∙ eqb-true _ _ (in_block_lem g s t u l ∙ b)

  held : (t u : ℕ) → t < 65535 → u < n → at number u ≡ t → blk g s t u ≡ true
  held t u l k e = sym (in_block_lem g s t u l) ∙ eq-eqb _ _ (sym (same u k) ∙ e)

  before-edge : (t u v : ℕ) → t < 65535 → blk g s t u ≡ true → E g s u v ≡ true → Before number from to m v t u
  before-edge t u v l b e = let r = edge-at g u v e in (r.0, (r.1, sym r.3, ap (at number) (sym r.2) ∙ numbered t u l b), sym r.2)

  edge-before : (t u v : ℕ) → t < 65535 → Before number from to m v t u → (blk g s t u && E g s u v) ≡ true
  edge-before t u v l p =
      let e : E g s u v ≡ true = (λ i. E g s (sym p.2 i) (sym p.1.1 i)) ∙ at_edge g p.0 p.1.0 in
      and_intro _ _ (held t u l ((W g s).from u v e) (ap (at number) (sym p.2) ∙ p.1.2)) e

  descent_is : {t v : ℕ} {l : List ℕ} → Descent number from to m t v l → blk g s t v ≡ true → l ≡ least_from n (E g s) (F g s) t v
  unfolding least_from
  descent_is bottom b = refl
  descent_is (below {t} {v} {u} {l} S d) b =
      let low : t < 65535 = omega (arith, block_low g s (suc t) v b, (W g s).cap) in
      let x = block_pred n (E g s) (rank g s) (upward g s) (F g s) (first_start g s) (some_first g s (suc t) v b) t v b in
      let p = edge-before t u v low (S.passes x.0 (before-edge t x.0 v low x.1 x.2)) in
      let q = least-is n (λ w. blk g s t w && E g s w v) u ((W g s).from u v (and_r (blk g s t u) _ p)) p
      (λ w h. S.least w (before-edge t w v low (and_l (blk g s t w) (E g s w v) h) (and_r (blk g s t w) (E g s w v) h))) in
      ap (λ (k : List ℕ). v ∷ k) (descent_is d (and_l (blk g s t u) (E g s u v) p) ∙ ap (least_from n (E g s) (F g s) t) (sym q))

  -- the smallest node of the last block
  top-is : (t r : ℕ) → t < length (blocks g) → Smallest (InBlock number n t) r → r ≡ top g s t
  top-is t r l S =
      let low : t < 65535 = omega (arith, blocks_few g s, (W g s).cap) in
      let b = top_in g s t l in
      let p = S.passes (top g s t) ((block_told g s t (top g s t) b).0, numbered t (top g s t) low b) in
      sym (least-is n (λ w. blk g s t w && true) r p.0 (and_intro _ true (held t r low p.0 p.1) refl)
      (λ w h. let c = and_l (blk g s t w) true h in S.least w ((block_told g s t w c).0, numbered t w low c)))

  -- the whole outcome
  pub chain-done : (k t r : ℕ) (old new : List ℕ) → k ≡ length (blocks g) → k ≤ length old → (k ≡ 0 → ⊥) → t ≡ k - 1 → Smallest (InBlock number n t) r
      → Descended number from to m r t old new → ◌≡◌ {A = Lent} (record { answer = Ok k; buffer = new }) (chain g old)
  unfolding chain
  chain-done k t r old new e room some z S D =
      let l : t < length (blocks g) = omega arith in
      let q = top-is t r l S in
      let c = descent_is D.descent (ap (blk g s t) q ∙ top_in g s t l) ∙ ap (least_from n (E g s) (F g s) t) q ∙ sym (chain-is g s t (omega arith)) in
      rw s (answers-whole (chain_of g) old new k (e ∙ sym (chain_long g s)) room (D.put ∙ sym (put-onto D.nodes old) ∙ ap (λ (x : List ℕ). put_at 0 x old) c))

-- ---- the other ways

put_nothing : (l b : List ℕ) → 0 ≡ length l → b ≡ put_at 0 l b
put_nothing [] b h = sym (put-none 0 b)
put_nothing (x ∷ l) b h = absurd (omega arith)

-- what the whole walk told, on an array that has room for every node
module _ (g : CircuitDag) where
  abbrev old : List ℕ
  old = replicate 512 65535

  long : length old ≡ 512
  long = length-replicate {A = ℕ} 512 65535

  walked : (s : sound g ≡ true) → whole_walk g old ≡ record { answer = Ok (length (blocks g)); buffer = onto (block_numbers g) old }
  walked s = walk_done g s old (omega (arith, long, (W g s).cap))

  pub walk_refused : (a : Result ℕ Refusal) (r : Refusal) (new buffer : List ℕ) → a ≡ Err r → ◌≡◌ {A = Walked} (record { answer = a; buffer = new }) (whole_walk g old)
      → ◌≡◌ {A = Lent} (record { answer = Err r; buffer = buffer }) (chain g buffer)
  unfolding chain
  walk_refused a r new buffer e h = ⊎_elim
      (λ (s : sound g ≡ true). let w : Err r ≡ Ok (length (blocks g)) = sym e ∙ ap (λ (x : Walked). x.answer) (h ∙ walked s) in let z : ◌≡◌ {A = ℕ} 0 1 = cc in absurd (omega arith))
      (λ (s : sound g ≡ false). let w : Err r ≡ Err Unsound = sym e ∙ ap (λ (x : Walked). x.answer) (h ∙ sym (walk_not_sound g old Unsound (rw s refl))) in let z : r ≡ Unsound = cc in rw (s, z) refl)
      (bool_cases (sound g))

  pub record Told (k : ℕ) (new : List ℕ) : Type 0 where
    pub sound : sound g ≡ true
    pub count : k ≡ length (blocks g)
    pub same : (u : ℕ) → u < size g → at new u ≡ get_or (block_numbers g) u absent

  entries : (new : List ℕ) → sound g ≡ true → new ≡ onto (block_numbers g) old → (u : ℕ) → u < size g → at new u ≡ get_or (block_numbers g) u absent
  entries new s e u l =
      let k : u < length (block_numbers g) = omega (arith, numbers_long g s) in
      ap (λ (x : List ℕ). at x u) e ∙ get_or-append (block_numbers g) (drop (length (block_numbers g)) old) 0 u k ∙ any_default (block_numbers g) u 0 absent k

  pub walk_told : (a : Result ℕ Refusal) (k : ℕ) (new : List ℕ) → a ≡ Ok k → ◌≡◌ {A = Walked} (record { answer = a; buffer = new }) (whole_walk g old) → Told k new
  walk_told a k new e h = ⊎_elim
      (λ (s : sound g ≡ true).
      let w : Ok k ≡ Ok (length (blocks g)) = sym e ∙ ap (λ (x : Walked). x.answer) (h ∙ walked s) in
      record { sound = s; count = cc; same = entries new s (ap (λ (x : Walked). x.buffer) (h ∙ walked s)) })
      (λ (s : sound g ≡ false). let w : Ok k ≡ Err Unsound = sym e ∙ ap (λ (x : Walked). x.answer) (h ∙ sym (walk_not_sound g old Unsound (rw s refl))) in let z : ◌≡◌ {A = ℕ} 0 1 = cc in absurd (omega arith))
      (bool_cases (sound g))

module _ (g : CircuitDag) (s : sound g ≡ true) (old : List ℕ) (k : ℕ) (e : k ≡ length (blocks g)) where
  pub chain_short : length old < k → ◌≡◌ {A = Lent} (record { answer = Err ShortBuffer; buffer = old }) (chain g old)
  unfolding chain
  chain_short h = rw s (answers_short (chain_of g) old k (e ∙ sym (chain_long g s)) h)

  pub chain-none : k ≡ 0 → ◌≡◌ {A = Lent} (record { answer = Ok 0; buffer = old }) (chain g old)
  unfolding chain
  chain-none z = rw s (answers-whole (chain_of g) old old 0 (sym z ∙ e ∙ sym (chain_long g s)) (omega arith) (put_nothing (chain_of g) old (sym z ∙ e ∙ sym (chain_long g s))))
