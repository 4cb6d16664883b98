-- A list of insertions: the accepted records in their order, their net, and the graph. Node numbers, places and what each takes are
-- told by the record. Assumes nothing.
use mathlib.Core.Path.{◌≡◌, refl, sym, ◌∙◌, ap, subst}
use mathlib.Core.Bool.{Bool, true, false, cond, ◌&&◌, ◌||◌, or-false}
use mathlib.Core.Logic.{⊎_elim}
use mathlib.Core.List.{List, [], ◌∷◌, ◌++◌, map, append_assoc, append-nil}
use Prim.Native.Nat.{ℕ, ◌+◌, ◌<◌}
use native.Mathlib.Omega.{arith}
use native.Mathlib.Decide.{dec_lt, ℕ_discrete}
use lib.Dec.{eqb, ltb}
use lib.IntN.{ℤ, pos, negsuc}
use lib.Signed.{lt_z}
use lib.ListN.{length, get_or, length-append, get_or-append, get_or-eq_default}
use lib.Seq.{get_or-append-add}
use borrow.Author.Tests.{eq-eqb, ne_eqb, ltb-true, lt-ltb, le-ltb, leb-false}
use Rattle.file.specs.Lists.{any_of, all_of, count_from}
use Rattle.file.specs.Records.{front, record_rule, qubits_by, qubits_of, empty_set, good}
use Rattle.file.specs.declared.Refusal.{Refusal}
use Rattle.file.specs.declared.Refusal.TheVariants.{Unsound}
use Rattle.file.specs.Refusals.{at_record}
use Rattle.file.proofs.RecordLaws.{good_keeps, good_some}
use Rattle.graph.specs.declared.CircuitDag.{CircuitDag}
use Rattle.graph.specs.Dag.{absent, empty, no_end, node, size}
use Rattle.graph.specs.Soundness.{sound}
use Rattle.file.proofs.BoolLaws.{bool_cases, clash_bool, not-true}
use Rattle.graph.proofs.ListLaws.{all_here, all_fails}
use Rattle.insertion.specs.declared.Inserted.{Inserted}
use Rattle.links.specs.Links.{rule_of}
use Rattle.links.specs.declared.LoadingRule.{LoadingRule}
use Rattle.insertion.specs.Insertion.{grown_at, grown}
use Rattle.insertion.specs.Limits.{refused, insert_by}
use Rattle.insertion.specs.Calls.{Call as Insertion, bytes_of, graph_after, built as built_by, all_by}
use Rattle.graph.proofs.ListLaws.{all_same}
use Rattle.insertion.proofs.SafeEdges.{between}
use Rattle.insertion.proofs.CaseLaws.{insert_cases}
use Rattle.insertion.proofs.BuiltLaws.{Safe, safe_empty, safe_insert}
use Rattle.guarantee.specs.Guarantee.{Accepted, accepted_from, accepted, NoEmptySet, Bytes}
use Rattle.guarantee.proofs.LinkViews.{take_by}
use Rattle.guarantee.proofs.GrownViews.{Seen, grown-at, call_at, grown_seen}
use Rattle.guarantee.proofs.Nets.{Net, Take, nothing, every, these, Call, flip, back, insert, run, empty as empty_net}
use Rattle.guarantee.proofs.NetRuns.{Ranked, turn, back-before, ranked_insert, empty_ranked}
use Rattle.std.specs.Prelude.{Ok, Err}

-- ---- a list with one entry more

module _ {A : Type 0} (l : List A) (o d : A) where
  pub snoc_old : (i : ℕ) → i < length l → get_or (l ++ (o ∷ [])) i d ≡ get_or l i d
  snoc_old i h = get_or-append l (o ∷ []) d i h

  pub snoc_new : (i : ℕ) → i ≡ length l → get_or (l ++ (o ∷ [])) i d ≡ o
  snoc_new i e = ap (λ (k : ℕ). get_or (l ++ (o ∷ [])) k d) (e ∙ (let z : length l ≡ length l + 0 = omega arith in z)) ∙ get_or-append-add l (o ∷ []) 0 d

  pub snoc_past : (i : ℕ) → length l < i → get_or (l ++ (o ∷ [])) i d ≡ d
  snoc_past i h = get_or-eq_default (l ++ (o ∷ [])) d {n = i} (rw length-append (omega arith))

  pub snoc_length : length (l ++ (o ∷ [])) ≡ length l + 1
  snoc_length = length-append l (o ∷ [])

-- ---- places

back_above : (x y : ℕ) (p : ℤ) → between x y p ≡ true → (lt_z p (pos x) ≡ true) × (lt_z (pos x) p ≡ false)
back_above x y (pos k) h = (h, le-ltb x k (omega (arith, ltb-true k x h)))
back_above x y (negsuc k) h = (refl, refl)

front_below : (x y : ℕ) (p : ℤ) → between x y p ≡ true → (lt_z (negsuc y) p ≡ true) × (lt_z p (negsuc y) ≡ false)
front_below x y (pos k) h = (refl, refl)
front_below x y (negsuc k) h = (h, le-ltb y k (omega (arith, ltb-true k y h)))

not_self : (p : ℤ) → lt_z p p ≡ false
not_self (pos k) = le-ltb k k (omega arith)
not_self (negsuc k) = le-ltb k k (omega arith)

between-back : (x y : ℕ) (p : ℤ) → between x y p ≡ true → between (x + 1) y p ≡ true
between-back x y (pos k) h = lt-ltb k (x + 1) (omega (arith, ltb-true k x h))
between-back x y (negsuc k) h = h

between-front : (x y : ℕ) (p : ℤ) → between x y p ≡ true → between x (y + 1) p ≡ true
between-front x y (pos k) h = h
between-front x y (negsuc k) h = lt-ltb k (y + 1) (omega (arith, ltb-true k y h))

-- ---- the net of the accepted records

abbrev pub take_of : Accepted → Take
take_of o = take_by (qubits_of o.bytes)

-- by the rule that is given
abbrev pub call_of : LoadingRule → Accepted → Call
call_of far_all o = call_at far_all (front o.bytes) o.bytes

-- the calls of a list that are accepted on g, each by its own rule
unfoldable pub calls_from : CircuitDag → List Insertion → List Call
calls_from g [] = []
calls_from g (c ∷ l) = let s = c.bytes in let x = insert_by c.rule g s in
    elim x.answer [ Ok v ↦ call_at c.rule (front s) s ∷ calls_from x.graph l | Err r ↦ calls_from x.graph l ]

abbrev pub net_of : List Insertion → Net
net_of l = run empty_net (calls_from empty l)

-- one that stands in no list
abbrev pub no_record : Accepted
no_record = record { node = 0; place = pos 0; bytes = [] }

abbrev pub at : List Accepted → ℕ → Accepted
at l u = get_or l u no_record

-- what a list of insertions has led to: the graph g, the net N, and the accepted records l
pub record Built (N : Net) (g : CircuitDag) (l : List Accepted) : Type 0 where
  pub safe : Safe false g
  pub seen : Seen g N
  pub long : length l ≡ size g
  pub rank : ℕ → ℕ
  pub ranked : Ranked N rank
  pub nodes : (u : ℕ) → u < length l → (at l u).node ≡ u
  pub within : (u : ℕ) → u < length l → between g.backs g.fronts (at l u).place ≡ true
  pub order : (u v : ℕ) → u < length l → v < length l → N.before u v ≡ lt_z (at l u).place (at l v).place
  pub takes : (u : ℕ) → N.take u ≡ take_of (at l u)
  pub rule : (u : ℕ) → u < length l → record_rule (at l u).bytes ≡ true
  pub bytes : (u : ℕ) → u < length l → all_of (λ b. ltb b 256) (at l u).bytes ≡ true

insert-take : (N : Net) (c : Call) (u : ℕ) → (insert N c).take u ≡ cond (eqb u N.size) c.takes (N.take u)
insert-take N c u = ⊎_elim (λ (e : c.front ≡ true). rw e (go (flip N) c.takes)) (λ (e : c.front ≡ false). rw e (go N c.takes)) (bool_cases c.front)
  where
    go : (M : Net) (t : Take) → (back c.far M t).take u ≡ cond (eqb u M.size) t (M.take u)
    go M nothing = refl
    go M every = refl
    go M (these m) = refl

insert-before : (N : Net) (c : Call) (u v : ℕ)
    → (insert N c).before u v ≡ (N.before u v || cond c.front (eqb u N.size && ltb v N.size) (eqb v N.size && ltb u N.size))
insert-before N c u v = ⊎_elim
    (λ (e : c.front ≡ true). rw e (back-before c.far (flip N) c.takes v u))
    (λ (e : c.front ≡ false). rw e (back-before c.far N c.takes u v))
    (bool_cases c.front)

-- the place of the next record
abbrev pub next_place : Bool → CircuitDag → ℤ
next_place b g = cond b (negsuc g.fronts) (pos g.backs)

grown-size : (far_all : LoadingRule) (b : Bool) (g : CircuitDag) (s : List ℕ) → size (grown_at (rule_of far_all) b g s) ≡ size g + 1
grown-size far_all true g s = refl
grown-size far_all false g s = refl

module _ (far_all : LoadingRule) (N : Net) (g : CircuitDag) (l : List Accepted) (T : Built N g l) (s : List ℕ) (low : size g < 512) (keeps : record_rule s ≡ true)
    (small : all_of (λ b. ltb b 256) s ≡ true) (o : Accepted) (is-node : o.node ≡ size g) (is-place : o.place ≡ next_place (front s) g) (is-bytes : o.bytes ≡ s) where
  abbrev l' : List Accepted
  l' = l ++ (o ∷ [])

  abbrev n : ℕ
  n = length l

  -- a fact of every entry
  each : (P : ℕ → Accepted → Type 0) → ((u : ℕ) → u < n → P u (at l u)) → P n o → (u : ℕ) → u < length l' → P u (at l' u)
  each P f p u h = elim (ℕ_discrete u n) [
    | yes e ↦ subst (λ (x : Accepted). P u x) (sym (snoc_new l o no_record u e)) (subst (λ (k : ℕ). P k o) (sym e) p)
    | no e ↦ (let k : u < n = omega (arith, h, snoc_length l o no_record, e) in subst (λ (x : Accepted). P u x) (sym (snoc_old l o no_record u k)) (f u k))
  ]

  net_size : N.size ≡ n
  net_size = T.seen.size ∙ sym T.long

  no_before : (u v : ℕ) → (u < n → v < n → ⊥) → N.before u v ≡ false
  no_before u v h = not-true (λ e. let r = T.ranked.up u v e in let z = net_size in h (omega (arith, r.0)) (omega (arith, r.1)))

  new_order : (b : Bool) → front s ≡ b → (u v : ℕ) → u < n + 1 → v < n + 1
      → (N.before u v || cond b (eqb u n && ltb v n) (eqb v n && ltb u n)) ≡ lt_z (at l' u).place (at l' v).place
  new_order b f u v k m = elim (ℕ_discrete u n) [
    | yes e ↦ elim (ℕ_discrete v n) [
      | yes e' ↦ rw (no_before u v (λ a c. omega arith), snoc_new l o no_record u e, snoc_new l o no_record v e', eq-eqb u n e, eq-eqb v n e', le-ltb u n (omega arith), le-ltb v n (omega arith)) (both b ∙ sym (not_self o.place))
      | no e' ↦ (let q : v < n = omega arith in
          rw (no_before u v (λ a c. omega arith), snoc_new l o no_record u e, snoc_old l o no_record v q, eq-eqb u n e, ne_eqb v n e', lt-ltb v n q, is-place, f) (first b v q))
    ]
    | no e ↦ (let p : u < n = omega arith in elim (ℕ_discrete v n) [
      | yes e' ↦ rw (no_before u v (λ a c. omega arith), snoc_new l o no_record v e', snoc_old l o no_record u p, eq-eqb v n e', ne_eqb u n e, lt-ltb u n p, is-place, f) (second b u p)
      | no e' ↦ (let q : v < n = omega arith in
          rw (snoc_old l o no_record u p, snoc_old l o no_record v q, ne_eqb u n e, ne_eqb v n e') (neither b ∙ T.order u v p q))
    ])
  ]
    where
      both : (b : Bool) → cond b false false ≡ false
      both true = refl
      both false = refl

      first : (b : Bool) (v : ℕ) → v < n → cond b true false ≡ lt_z (cond b (negsuc g.fronts) (pos g.backs)) (at l v).place
      first true v q = sym (front_below g.backs g.fronts (at l v).place (T.within v q)).0
      first false v q = sym (back_above g.backs g.fronts (at l v).place (T.within v q)).1

      second : (b : Bool) (u : ℕ) → u < n → cond b false true ≡ lt_z (at l u).place (cond b (negsuc g.fronts) (pos g.backs))
      second true u q = sym (front_below g.backs g.fronts (at l u).place (T.within u q)).1
      second false u q = sym (back_above g.backs g.fronts (at l u).place (T.within u q)).0

      neither : (b : Bool) → (N.before u v || cond b false false) ≡ N.before u v
      neither b = rw (both b) (or-false (N.before u v))

  abbrev g' : CircuitDag
  g' = grown_at (rule_of far_all) (front s) g s

  abbrev c : Call
  c = call_at far_all (front s) s

  abbrev N' : Net
  N' = insert N c

  grown-between : (b : Bool) (p : ℤ) → between g.backs g.fronts p ≡ true
      → between (grown_at (rule_of far_all) b g s).backs (grown_at (rule_of far_all) b g s).fronts p ≡ true
  grown-between true p h = between-front g.backs g.fronts p h
  grown-between false p h = between-back g.backs g.fronts p h

  new-between : (b : Bool) → between (grown_at (rule_of far_all) b g s).backs (grown_at (rule_of far_all) b g s).fronts (next_place b g) ≡ true
  new-between true = lt-ltb g.fronts (g.fronts + 1) (omega arith)
  new-between false = lt-ltb g.backs (g.backs + 1) (omega arith)

  new_takes : (u : ℕ) → cond (eqb u n) (take_by (qubits_of s)) (N.take u) ≡ take_of (at l' u)
  new_takes u = elim (ℕ_discrete u n) [
    | yes e ↦ rw (eq-eqb u n e, snoc_new l o no_record u e, is-bytes) refl
    | no e ↦ rw (ne_eqb u n e) (T.takes u ∙ ap take_of (other e))
  ]
    where
      other : (u ≡ n → ⊥) → at l u ≡ at l' u
      other e = elim (dec_lt u n) [
        | yes k ↦ sym (snoc_old l o no_record u k)
        | no k ↦ get_or-eq_default l no_record {n = u} (omega arith) ∙ sym (snoc_past l o no_record u (omega arith))
      ]

  pub built_more : Safe false g' → Built N' g' l'
  built_more G = record {
    safe = G;
    seen = grown_seen g s T.safe low far_all (front s) N T.seen;
    long = snoc_length l o no_record ∙ ap (λ (k : ℕ). k + 1) T.long ∙ sym (grown-size far_all (front s) g s);
    rank = turn c N.size T.rank;
    ranked = ranked_insert N c T.rank T.ranked;
    nodes = each (λ u x. x.node ≡ u) T.nodes (is-node ∙ sym T.long);
    within = each (λ u x. between g'.backs g'.fronts x.place ≡ true) (λ u k. grown-between (front s) (at l u).place (T.within u k))
        (ap (between g'.backs g'.fronts) is-place ∙ new-between (front s));
    order = λ u v k m. insert-before N c u v
        ∙ ap (λ (k : ℕ). N.before u v || cond (front s) (eqb u k && ltb v k) (eqb v k && ltb u k)) net_size
        ∙ new_order (front s) refl u v (omega (arith, k, snoc_length l o no_record)) (omega (arith, m, snoc_length l o no_record));
    takes = λ u. insert-take N c u
        ∙ ap (λ (k : ℕ). cond (eqb u k) (take_by (qubits_of s)) (N.take u)) net_size ∙ new_takes u;
    rule = each (λ u x. record_rule x.bytes ≡ true) T.rule (ap record_rule is-bytes ∙ keeps);
    bytes = each (λ u x. all_of (λ b. ltb b 256) x.bytes ≡ true) T.bytes (ap (all_of (λ b. ltb b 256)) is-bytes ∙ small);
  }

-- ---- an insertion, and a list of them

module _ (rule : LoadingRule) (g : CircuitDag) (s : List ℕ) where
  insert_told : (P : Inserted → Type 0) → ((r : Refusal) → P (refused r g))
      → (good s ≡ true → size g < 512 → P (record { answer = Ok (node (size g)); graph = grown (rule_of rule) g s })) → P (insert_by rule g s)
  unfolding insert_by
  insert_told P p q = ⊎_elim
      (λ (h : sound g ≡ true). rw h (insert_cases (rule_of rule) g s 0 P (λ r c. p (at_record 0 r)) (λ t. q t.whole (leb-false 512 (size g) t.free))))
      (λ (h : sound g ≡ false). rw h (p Unsound))
      (bool_cases (sound g))

-- the accepted records of s ∷ l, by what the insertion of s gave
abbrev accept_step : ℕ → ℕ → List ℕ → List Insertion → Inserted → List Accepted
accept_step b f s l x = elim x.answer [
  | Ok v ↦ record { node = b + f; place = cond (front s) (negsuc f) (pos b); bytes = s } ∷ accepted_from x.graph (cond (front s) b (b + 1)) (cond (front s) (f + 1) f) l
  | Err r ↦ accepted_from x.graph b f l
]

-- .. and the accepted calls of c ∷ l
abbrev call_step : Insertion → List Insertion → Inserted → List Call
call_step c l x = let s = c.bytes in
    elim x.answer [ Ok v ↦ call_at c.rule (front s) s ∷ calls_from x.graph l | Err r ↦ calls_from x.graph l ]

-- no accepted record has an empty set, in whatever ways they come in
none-empty : (l : List Insertion) (g : CircuitDag) (b f : ℕ) → any_of (λ (o : Accepted). empty_set o.bytes) (accepted_from g b f l) ≡ false
unfolding accepted_from any_of
none-empty [] g b f = refl
none-empty (c ∷ l) g b f = insert_told c.rule g s
    (λ x. any_of (λ (o : Accepted). empty_set o.bytes) (accept_step b f s l x) ≡ false)
    (λ r. none-empty l g b f)
    (λ k low. rw (good_some s k, any_of) (none-empty l (grown (rule_of c.rule) g s) (cond (front s) b (b + 1)) (cond (front s) (f + 1) f)))
  where
    s : List ℕ
    s = c.bytes

pub no_empty_set : NoEmptySet
no_empty_set l = none-empty l empty 0 0

-- a node for each accepted record, in whatever ways they come in
count-from : (l : List Insertion) (g : CircuitDag) (b f : ℕ) → Safe false g → size (graph_after g l) ≡ size g + length (accepted_from g b f l)
unfolding graph_after accepted_from
count-from [] g b f G = omega arith
count-from (c ∷ l) g b f G = insert_told c.rule g s
    (λ x. Safe false x.graph → size (graph_after x.graph l) ≡ size g + length (accept_step b f s l x))
    (λ r G. count-from l g b f G)
    (λ k low H.
    let e = ap size (grown-at c.rule g s) ∙ grown-size c.rule (front s) g s in
    let r = count-from l (grown (rule_of c.rule) g s) (cond (front s) b (b + 1)) (cond (front s) (f + 1) f) H in
    omega (arith, e, r))
    (safe_insert c.rule g s G)
  where
    s : List ℕ
    s = c.bytes

pub built-size : (l : List Insertion) → size (built_by l) ≡ length (accepted l)
unfolding empty
built-size l = omega (arith, count-from l empty 0 0 safe_empty)

built-from : (l : List Insertion) (N : Net) (g : CircuitDag) (b f : ℕ) (d : List Accepted) → Built N g d → b ≡ g.backs → f ≡ g.fronts
    → Bytes (bytes_of l) → Built (run N (calls_from g l)) (graph_after g l) (d ++ accepted_from g b f l)
unfolding graph_after accepted_from calls_from run
built-from [] N g b f d T p q h = subst (λ (x : List Accepted). Built N g x) (sym (append-nil d)) T
built-from (c ∷ l) N g b f d T p q h = insert_told rule g s
    (λ x. Safe false x.graph → Built (run N (call_step c l x)) (graph_after x.graph l) (d ++ accept_step b f s l x))
    (λ r G. built-from l N g b f d T p q rest)
    (λ k low G.
    let e = grown-at rule g s in
    let o : Accepted = record { node = b + f; place = cond (front s) (negsuc f) (pos b); bytes = s } in
    let n : b + f ≡ size g = (λ i. p i + q i) ∙ T.safe.nodes.ends in
    let t = built_more far N g d T s low (good_keeps s k) here o n (λ i. cond (front s) (negsuc (q i)) (pos (p i))) refl
    (subst (λ (x : CircuitDag). Safe false x) e G) in
    let M : Net = insert N (call_at far (front s) s) in
    let h = grown (rule_of rule) g s in
    subst (λ (x : List Accepted). Built (run M (calls_from h l)) (graph_after h l) x) (append_assoc d (o ∷ []) _)
    (built-from l M h (cond (front s) b (b + 1)) (cond (front s) (f + 1) f) (d ++ (o ∷ []))
    (subst (λ (x : CircuitDag). Built M x (d ++ (o ∷ []))) (sym e) t)
    (backs (front s) ∙ sym (ap (λ (x : CircuitDag). x.backs) e)) (fronts (front s) ∙ sym (ap (λ (x : CircuitDag). x.fronts) e)) rest))
    (safe_insert rule g s T.safe)
  where
    rule : LoadingRule
    rule = c.rule

    far : LoadingRule
    far = c.rule

    s : List ℕ
    s = c.bytes

    here : all_of (λ b. ltb b 256) s ≡ true
    here = ⊎_elim
        (λ (t : all_of (λ b. ltb b 256) s ≡ true). t)
        (λ (t : all_of (λ b. ltb b 256) s ≡ false). absurd (clash_bool h (all_fails (all_of (λ b. ltb b 256)) s (bytes_of l) t)))
        (bool_cases (all_of (λ b. ltb b 256) s))

    rest : Bytes (bytes_of l)
    rest = sym (all_here (all_of (λ b. ltb b 256)) s (bytes_of l) here) ∙ h

    backs : (x : Bool) → cond x b (b + 1) ≡ (grown_at (rule_of far) x g s).backs
    backs true = p
    backs false = ap (λ (k : ℕ). k + 1) p

    fronts : (x : Bool) → cond x (f + 1) f ≡ (grown_at (rule_of far) x g s).fronts
    fronts true = ap (λ (k : ℕ). k + 1) q
    fronts false = q

built-empty : Built empty_net empty []
unfolding empty no_end any_of count_from qubits_by
built-empty = record {
  safe = safe_empty;
  seen = record {
    size = refl;
    edges = λ a b. refl;
    lasts = λ q l. rw (all_same 64 q absent) refl;
    firsts = λ q l. rw (all_same 64 q absent) refl;
    last_all_lem = refl;
    first_all_lem = refl;
    tails = λ u. sym (all_same 512 u false);
    heads = λ u. sym (all_same 512 u false);
  };
  long = refl;
  rank = λ u. 0;
  ranked = empty_ranked;
  nodes = λ u k. absurd (omega arith);
  within = λ u k. absurd (omega arith);
  order = λ u v k. absurd (omega arith);
  takes = λ u. refl;
  rule = λ u k. absurd (omega arith);
  bytes = λ u k. absurd (omega arith);
}

-- every list of insertions on the empty graph, each in either way
pub built : (l : List Insertion) → Bytes (bytes_of l) → Built (net_of l) (built_by l) (accepted l)
unfolding empty
built l h = built-from l empty_net empty 0 0 [] built-empty refl refl h

-- ---- insertions all in one way

pub bytes_by : (rule : LoadingRule) (l : List (List ℕ)) → bytes_of (all_by rule l) ≡ l
bytes_by rule [] = refl
bytes_by rule (s ∷ l) = ap (λ (t : List (List ℕ)). s ∷ t) (bytes_by rule l)

calls-from : (rule : LoadingRule) (l : List (List ℕ)) (g : CircuitDag) (b f : ℕ)
    → calls_from g (all_by rule l) ≡ map (call_of rule) (accepted_from g b f (all_by rule l))
unfolding calls_from accepted_from
calls-from rule [] g b f = refl
calls-from rule (s ∷ l) g b f = insert_told rule g s
    (λ x. call_step (record { rule = rule; bytes = s }) (all_by rule l) x ≡ map (call_of rule) (accept_step b f s (all_by rule l) x))
    (λ r. calls-from rule l g b f)
    (λ k low. ap (λ (t : List Call). call_at rule (front s) s ∷ t)
    (calls-from rule l (grown (rule_of rule) g s) (cond (front s) b (b + 1)) (cond (front s) (f + 1) f)))

pub calls_by : (rule : LoadingRule) (l : List (List ℕ)) → calls_from empty (all_by rule l) ≡ map (call_of rule) (accepted (all_by rule l))
calls_by rule l = calls-from rule l empty 0 0
