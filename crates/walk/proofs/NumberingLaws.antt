-- The passes over the edge list: each loop's invariant, and what keeps it. Assumes nothing.
use mathlib.Core.Path.{◌≡◌, refl, sym, ◌∙◌, ap}
use mathlib.Core.Bool.{Bool, true, false, cond, not, ◌||◌}
use mathlib.Core.Logic.{◌⊎◌, inl, inr, ⊎_elim, ◌≢◌}
use mathlib.Core.List.{List, [], ◌∷◌, ◌++◌, map}
use Prim.Native.Nat.{ℕ, zero, suc, ◌+◌, ◌≤◌, ◌<◌, max}
use native.Mathlib.Omega.{arith}
use native.Mathlib.Decide.{dec_lt, ℕ_discrete}
use lib.Dec.{ltb, eqb}
use lib.ListN.{length, get_or, set, take, drop, length-set}
use lib.Seq.{length-take-le, get_or-take, get_or-set_same, get_or-set_other, set-get_or, take-suc}
use borrow.Author.Tests.{eqb-true, eq-eqb, lt-ltb}
use Rattle.std.specs.List.{fold, filter}
use Rattle.file.specs.Lists.{onto, up_to}
use Rattle.file.proofs.BoolLaws.{clash_bool, split_lt}
use Rattle.graph.proofs.ListLaws.{length-up_to, up_to-suc}
use Rattle.queries.specs.Marks.{EndsBelow, in_turn}
use Rattle.walk.specs.Numbering.{at, following, Joined, Above, Swept, Rises, Settled, Zeroed, Counted}

-- the arcs along the edges
pub joined_of : {from to : List ℕ} {m : ℕ} → EndsBelow to from m → Joined from to m
joined_of E = record { room = E.count; from_low = E.far_below; to_low = E.near_below }

-- ---- a store

stored : (l : List ℕ) (t x v : ℕ) → t < length l → ((v ≡ t) × (at (set l t x) v ≡ x)) ⊎ (at (set l t x) v ≡ at l v)
stored l t x v h = elim (ℕ_discrete v t) [
  | yes e ↦ inl (e, ap (at (set l t x)) e ∙ get_or-set_same l t x 0 h)
  | no e ↦ inr (get_or-set_other l t v x 0 e)
]

-- ---- one pass

-- the place of edge i in the list
abbrev pub turn : Bool → ℕ → ℕ → ℕ
turn up m i = in_turn i m up

pub turn_low : (up : Bool) (m i : ℕ) → i < m → turn up m i < m
turn_low true m i h = h
turn_low false m i h = omega arith

turn-back : (up : Bool) (m i j : ℕ) → i < m → j < m → turn up m j ≡ i → j ≡ turn up m i
turn-back true m i j h l e = e
turn-back false m i j h l e = omega arith

module _ (from to : List ℕ) (m : ℕ) (up : Bool) (begun : List ℕ) where
  pub record Sweeping (num : List ℕ) (changed : Bool) (i : ℕ) : Type 0 where
    pub joined : Joined from to m
    pub low : i ≤ m
    pub long : length num ≡ 512
    pub grows : (v : ℕ) → at begun v ≤ at num v
    pub covers : (j : ℕ) → j < m → turn up m j < i → following (at begun (at from j)) ≤ at num (at to j)
    pub same : changed ≡ false → num ≡ begun
    pub within : (N : ℕ → ℕ) → ((v : ℕ) → at begun v ≤ N v) → Above from to m N → (v : ℕ) → at num v ≤ N v

  pub sweep_begin : Joined from to m → length begun ≡ 512 → Sweeping begun false 0
  sweep_begin J l = record {
    joined = J;
    low = omega arith;
    long = l;
    grows = λ v. omega arith;
    covers = λ j k h. absurd (omega arith);
    same = λ e. refl;
    within = λ N h a v. h v;
  }

  module _ {num : List ℕ} {changed : Bool} {i : ℕ} (I : Sweeping num changed i) (more : i < m) (j : ℕ) (ej : j ≡ turn up m i) where
    pub edge_low : j < m
    edge_low = rw ej (turn_low up m i more)

    abbrev new : ℕ
    new = max (at num (at to j)) (following (at num (at from j)))

    t_low : at to j < length num
    t_low = omega (arith, I.joined.to_low j edge_low, I.long)

    raises : (v : ℕ) → at num v ≤ at (set num (at to j) new) v
    raises v = ⊎_elim
        (λ (p : (v ≡ at to j) × (at (set num (at to j) new) v ≡ new)). omega (arith, ap (at num) p.0, p.1))
        (λ (p : at (set num (at to j) new) v ≡ at num v). omega arith)
        (stored num (at to j) new v t_low)

    unchanged : (changed || ltb (at num (at to j)) new) ≡ false → set num (at to j) new ≡ begun
    unchanged e = go changed refl e
      where
        go : (b : Bool) → changed ≡ b → (b || ltb (at num (at to j)) new) ≡ false → set num (at to j) new ≡ begun
        go true q e = absurd (clash_bool refl e)
        go false q e =
            let le : new ≤ at num (at to j) = elim (dec_lt (at num (at to j)) new) [ yes l ↦ absurd (clash_bool (lt-ltb _ _ l) e) | no l ↦ omega arith ] in
            let z : new ≡ at num (at to j) = omega arith in
            ap (λ (x : ℕ). set num (at to j) x) z ∙ set-get_or num (at to j) 0 ∙ I.same q

    stepped : Sweeping (set num (at to j) new) (changed || ltb (at num (at to j)) new) (i + 1)
    stepped = record {
      joined = I.joined;
      low = omega arith;
      long = length-set num (at to j) new ∙ I.long;
      grows = λ v. omega (arith, I.grows v, raises v);
      covers = λ k l h. ⊎_elim
          (λ (e : turn up m k ≡ i).
          let q : k ≡ j = turn-back up m i k more l e ∙ sym ej in
          let s = get_or-set_same num (at to j) new 0 t_low in
          omega (arith, ap (λ (x : ℕ). at begun (at from x)) q, ap (λ (x : ℕ). at (set num (at to j) new) (at to x)) q, s, I.grows (at from j)))
          (λ (e : turn up m k < i). omega (arith, I.covers k l e, raises (at to k)))
          (split_lt (turn up m k) i h);
      same = unchanged;
      within = λ N h a v. ⊎_elim
          (λ (p : (v ≡ at to j) × (at (set num (at to j) new) v ≡ new)). omega (arith, p.1, ap N p.0, a j edge_low, I.within N h a (at from j), I.within N h a (at to j)))
          (λ (p : at (set num (at to j) new) v ≡ at num v). omega (arith, p, I.within N h a v))
          (stored num (at to j) new v t_low);
    }

    pub sweep_more : (f t x : ℕ) (b : Bool) → f ≡ at from j → t ≡ at to j → x ≡ max (at num t) (following (at num f)) → b ≡ (changed || ltb (at num t) x)
        → Sweeping (set num t x) b (i + 1)
    sweep_more f t x b ef et ex eb = rw (eb, ex, et, ef) stepped

  pub sweep_done : {num : List ℕ} {changed : Bool} {i : ℕ} → Sweeping num changed i → m ≤ i → Swept from to m begun num changed
  sweep_done {i = i} I le = record {
    long = I.long;
    grows = I.grows;
    covers = λ j l. I.covers j l (omega (arith, turn_low up m j l));
    same = I.same;
    within = I.within;
  }

-- ---- passes until nothing changes

module _ (from to : List ℕ) (m n : ℕ) (begun : List ℕ) where
  pub record Rounds (num : List ℕ) (k : ℕ) : Type 0 where
    pub joined : Joined from to m
    pub long : length num ≡ 512
    pub grows : (v : ℕ) → at begun v ≤ at num v
    pub within : (N : ℕ → ℕ) → ((v : ℕ) → at begun v ≤ N v) → Above from to m N → (v : ℕ) → at num v ≤ N v
    pub found : (N rank : ℕ → ℕ) → Rises from to m n begun N rank → (v : ℕ) → v < n → rank v < k → N v ≤ at num v

  pub rounds_begin : Joined from to m → length begun ≡ 512 → Rounds begun 0
  rounds_begin J l = record { joined = J; long = l; grows = λ v. omega arith; within = λ N h a v. h v; found = λ N rank R v l h. absurd (omega arith) }

  module _ {num : List ℕ} {k : ℕ} (I : Rounds num k) {num' : List ℕ} {b : Bool} (S : Swept from to m num num' b) where
    grown : (v : ℕ) → at begun v ≤ at num' v
    grown v = omega (arith, I.grows v, S.grows v)

    pub rounds_more : Rounds num' (k + 1)
    rounds_more = record {
      joined = I.joined;
      long = S.long;
      grows = grown;
      within = λ N h a v. S.within N (I.within N h a) a v;
      found = λ N rank R v l h. R.round k num num' (I.found N rank R) grown S.covers v l (omega arith);
    }

    -- a pass that changes nothing: any further pass would change nothing
    pub rounds_still : b ≡ false → Settled from to m n begun num'
    rounds_still e = record {
      long = S.long;
      within = λ N h a v. S.within N (I.within N h a) a v;
      reaches = λ N rank R v l. still N rank R n v l (R.top v l);
    }
      where
        closed : (j : ℕ) → j < m → following (at num' (at from j)) ≤ at num' (at to j)
        closed j l = omega (arith, S.covers j l, ap (λ (x : List ℕ). at x (at from j)) (S.same e))

        still : (N rank : ℕ → ℕ) → Rises from to m n begun N rank → (k : ℕ) (v : ℕ) → v < n → rank v < k → N v ≤ at num' v
        still N rank R zero v l h = absurd (omega arith)
        still N rank R (suc k) v l h = R.round k num' num' (still N rank R k) grown closed v l h

  pub rounds_done : {num : List ℕ} {k : ℕ} → Rounds num k → n ≤ k → Settled from to m n begun num
  rounds_done {k = k} I le = record { long = I.long; within = I.within; reaches = λ N rank R v l. I.found N rank R v l (omega (arith, R.top v l)) }

-- ---- the numbers before the passes

module _ (to begun : List ℕ) where
  pub record Zeroing (num : List ℕ) (i : ℕ) : Type 0 where
    pub targets : (j : ℕ) → j < length to → at to j < 512
    pub low : i ≤ length to
    pub long : length num ≡ 512
    pub hit : (j : ℕ) → j < i → at num (at to j) ≡ 0
    pub kept : (v : ℕ) → ((j : ℕ) → j < length to → at to j ≢ v) → at num v ≡ at begun v

  pub zero_begin : ((j : ℕ) → j < length to → at to j < 512) → length begun ≡ 512 → Zeroing begun 0
  zero_begin b l = record { targets = b; low = omega arith; long = l; hit = λ j k. absurd (omega arith); kept = λ v h. refl }

  pub zero_more : {num : List ℕ} {i : ℕ} → Zeroing num i → (t : ℕ) → i < length to → t ≡ at to i → Zeroing (set num t 0) (i + 1)
  zero_more {num} {i} I t h e =
      let l : at to i < length num = omega (arith, I.targets i h, I.long) in
      rw e (record {
        targets = I.targets;
        low = omega arith;
        long = length-set num (at to i) 0 ∙ I.long;
        hit = λ j k. ⊎_elim
            (λ (q : j ≡ i). ap (λ (x : ℕ). at (set num (at to i) 0) (at to x)) q ∙ get_or-set_same num (at to i) 0 0 l)
            (λ (q : j < i). ⊎_elim
            (λ (p : (at to j ≡ at to i) × (at (set num (at to i) 0) (at to j) ≡ 0)). p.1)
            (λ (p : at (set num (at to i) 0) (at to j) ≡ at num (at to j)). p ∙ I.hit j q)
            (stored num (at to i) 0 (at to j) l))
            (split_lt j i k);
        kept = λ v n. ⊎_elim
            (λ (p : (v ≡ at to i) × (at (set num (at to i) 0) v ≡ 0)). absurd (n i h (sym p.0)))
            (λ (p : at (set num (at to i) 0) v ≡ at num v). p ∙ I.kept v n)
            (stored num (at to i) 0 v l);
      })

  pub zero-done : {num : List ℕ} {i : ℕ} → Zeroing num i → length to ≤ i → Zeroed to begun num
  zero-done {i = i} I le = record { long = I.long; hit = λ j l. I.hit j (omega arith); kept = I.kept }

-- the targets of the first m edges, as a list
pub targets_below : (to : List ℕ) (m : ℕ) → m ≤ length to → ((j : ℕ) → j < m → at to j < 512) → (j : ℕ) → j < length (take m to) → at (take m to) j < 512
targets_below to m h b j k =
    let n : length (take m to) ≡ m = length-take-le m to h in
    omega (arith, get_or-take m to j 0 (omega arith), b j (omega arith))

pub zeroed_first : (to : List ℕ) (m : ℕ) {old new : List ℕ} → m ≤ length to → Zeroed (take m to) old new
    → (long : length new ≡ 512) × ((j : ℕ) → j < m → at new (at to j) ≡ 0) × ((v : ℕ) → ((j : ℕ) → j < m → at to j ≢ v) → at new v ≡ at old v)
zeroed_first to m {old} {new} h Z =
    let n : length (take m to) ≡ m = length-take-le m to h in (
      Z.long,
      λ j k. ap (at new) (sym (get_or-take m to j 0 k)) ∙ Z.hit j (omega arith),
      λ v f. Z.kept v (λ j k e. f j (omega arith) (sym (get_or-take m to j 0 (omega arith)) ∙ e)),
    )

-- ---- the count

-- the numbers that name a block
abbrev pub named : List ℕ → List ℕ
named l = filter (λ x. not (eqb x 65535)) l

-- one more than the greatest, from a on
abbrev counted : ℕ → List ℕ → ℕ
counted a l = fold (λ b x. max b (x + 1)) a l

record Counting (num : List ℕ) (a r : ℕ) : Type 0 where
  least : a ≤ r
  above : (v : ℕ) → v < length num → at num v < 65535 → at num v < r
  reached : (k : ℕ) → r ≡ suc k → (a ≡ suc k) ⊎ ((v : ℕ) × (v < length num) × (at num v ≡ k) × (k < 65535))

count_on : (l : List ℕ) (a : ℕ) → ((v : ℕ) → at l v < 65536) → Counting l a (counted a (named l))
count_on [] a h = record { least = omega arith; above = λ v l. absurd (omega arith); reached = λ k e. inl e }
count_on (x ∷ l) a h = go (λ b. count_on l b (λ v. h (suc v))) (eqb x 65535) refl
  where
    later : (k : ℕ) → (v : ℕ) × (v < length l) × (at l v ≡ k) × (k < 65535)
        → (v : ℕ) × (v < length (x ∷ l)) × (at (x ∷ l) v ≡ k) × (k < 65535)
    later k p = (suc p.0, omega (arith, p.1), p.2, p.3)

    all : {r : ℕ} → ((v : ℕ) → v < length l → at l v < 65535 → at l v < r) → (x < 65535 → x < r)
        → (v : ℕ) → v < length (x ∷ l) → at (x ∷ l) v < 65535 → at (x ∷ l) v < r
    all f g zero k b = g b
    all f g (suc v) k b = f v (omega arith) b

    go : ((b : ℕ) → Counting l b (counted b (named l))) → (b : Bool) → eqb x 65535 ≡ b
        → Counting (x ∷ l) a (counted a (cond (not b) (x ∷ named l) (named l)))
    go more true q = let C = more a in let e = eqb-true x 65535 q in record {
      least = C.least;
      above = all C.above (λ b. absurd (omega arith));
      reached = λ k p. ⊎_elim (λ (z : a ≡ suc k). inl z) (λ z. inr (later k z)) (C.reached k p);
    }
    go more false q = let C = more (max a (x + 1)) in let m = C.least in record {
      least = omega (arith, m);
      above = all C.above (λ b. omega (arith, m));
      reached = λ k p. ⊎_elim
          (λ (z : max a (x + 1) ≡ suc k). elim (dec_lt a (x + 1)) [
            | yes l ↦ inr (0, omega arith, omega (arith, z), omega (arith, z, h 0, λ (e : x ≡ 65535). clash_bool (eq-eqb x 65535 e) q))
            | no l ↦ inl (omega (arith, z))
          ])
          (λ z. inr (later k z))
          (C.reached k p);
    }

pub count-is : (num : List ℕ) → ((v : ℕ) → at num v < 65536) → Counted num (length num) (counted 0 (named num))
count-is num h = let C = count_on num 0 h in record {
  above = C.above;
  reached = λ k e. ⊎_elim (λ (z : 0 ≡ suc k). absurd (omega arith)) (λ z. z) (C.reached k e);
}

-- the first n numbers, as a list
pub counted_first : {num : List ℕ} {n r : ℕ} → n ≤ length num → Counted (take n num) (length (take n num)) r → Counted num n r
counted_first {num} {n} h C =
    let l : length (take n num) ≡ n = length-take-le n num h in
    record {
      above = λ v k b. let e = get_or-take n num v 0 k in omega (arith, e, C.above v (omega arith) (omega (arith, e)));
      reached = λ k e. let x = C.reached k e in (x.0, omega (arith, x.1), sym (get_or-take n num x.0 0 (omega (arith, x.1))) ∙ x.2, x.3);
    }

-- ---- the numbers in the lent buffer

pub taken : (num : List ℕ) (n : ℕ) → n ≤ length num → take n num ≡ map (at num) (up_to n)
unfolding Rattle.file.specs.Lists.count_from
taken num zero h = refl
taken num (suc n) h =
    let e : suc n ≡ n + 1 = omega arith in
    take-suc num n 0 (omega arith) ∙ ap (λ (l : List ℕ). l ++ (get_or num n 0 ∷ [])) (taken num n (omega arith)) ∙ sym (up_to-suc (at num) n)
    ∙ ap (λ (k : ℕ). map (at num) (up_to k)) (sym e)

-- the first n numbers over the buffer's first entries
pub written : (num buffer new : List ℕ) (n : ℕ) → n ≤ 512 → length num ≡ 512 → n ≤ length buffer → new ≡ take n num → new ++ drop n buffer ≡ onto (map (at num) (up_to n)) buffer
written num buffer new n a b c e =
    let t = taken num n (omega arith) in
    let l : n ≡ length (map (at num) (up_to n)) = sym (length-up_to (at num) n) in
    rw (e, t) (ap (λ (k : ℕ). map (at num) (up_to n) ++ drop k buffer) l)
