-- Demand 3, and K6's guarantee without a condition, proved: the statements are in specs/Guarantee.antt. Assumes nothing.
use mathlib.Core.Path.{◌≡◌, refl, sym, ◌∙◌, ap, subst}
use mathlib.Core.Bool.{Bool, true, false, cond, ◌&&◌}
use mathlib.Core.Logic.{⊎_elim}
use mathlib.Core.List.{List, [], ◌∷◌, map}
use Prim.Native.Nat.{ℕ, zero, suc, ◌≤◌, ◌<◌}
use native.Mathlib.Omega.{arith}
use lib.Dec.{eqb, ltb}
use lib.Signed.{lt_z}
use lib.ListN.{length, get_or}
use borrow.Author.Tests.{eqb-true, eq-eqb, lt-ltb, ltb-true}
use Rattle.file.specs.Lists.{any_of, all_of, keep, member}
use Rattle.file.specs.Records.{record_rule}
use Rattle.graph.specs.declared.CircuitDag.{CircuitDag}
use Rattle.graph.specs.Dag.{size, has_edge}
use Rattle.graph.specs.Soundness.{sound}
use Rattle.file.proofs.BoolLaws.{bool_cases, clash_bool, not-true, bool_ext, and_l, and_r, eqb-flip}
use Rattle.graph.proofs.ListLaws.{any_here, any-later, keep-any, member-keep}
use Rattle.insertion.specs.Calls.{Call, bytes_of, built as built_by, all_by, final_by}
use Rattle.insertion.proofs.BuiltLaws.{sound-built}
use Rattle.insertion.proofs.CaseLaws.{insert_cases}
use Rattle.graph.specs.declared.NodeIndex.{NodeIndex}
use Rattle.links.specs.Links.{FarRule, rule_of}
use Rattle.links.specs.declared.LoadingRule.{LoadingRule}
use Rattle.links.specs.declared.LoadingRule.TheVariants.{NearAll, FarAll}
use Rattle.insertion.specs.declared.Inserted.{Inserted}
use Rattle.insertion.specs.Limits.{insert_as}
use Rattle.walk.specs.Blocks.{Walked, state_after, block_of_step, blocks}
use Rattle.guarantee.specs.Guarantee.{Accepted, accepted, takes_qubits, operations, Each, Orders, different}
use Rattle.guarantee.specs.Guarantee.{entry, filled, Bytes, Condition, Guarantee, Guaranteed, Demand3, BothEnds}
use Rattle.walk.proofs.Bounds.{any, any_elim, any_ext, greatest, greatest_le}
use Rattle.walk.proofs.Heights.{Guarantee as Numbered, Keeps, block, steps, number, different as different_in}
use Rattle.guarantee.proofs.Nets.{Net, Call as NetCall, is_op, clashes, Base, NonEmpties, run, empty}
use Rattle.guarantee.proofs.NetRuns.{Kept, kept, net_base, far_base}
use Rattle.walk.proofs.BlockSteps.{Within, sound-within, any_list, block-at, count_at, number_in, number_out}
use Rattle.walk.proofs.WholeLaws.{walk_short, walk_done, walk_entry}
use Rattle.guarantee.proofs.CountLaws.{count_ext, different-count}
use Rattle.guarantee.proofs.AcceptedNets.{call_of, net_of, no_record, at, Built, no_empty_set, built-size, built, bytes_by, calls_by}
use Rattle.guarantee.proofs.RecordTakes.{takes_qubits_lem, clash-is, calls-far, nonempties, one_all}
use Rattle.std.specs.Prelude.{Ok}

-- ---- each of a list

each_all : (P : Accepted → Type 0) (l : List Accepted) → ((i : ℕ) → i < length l → P (at l i)) → Each P l
each_all P [] h = tt
each_all P (o ∷ l) h = (h 0 (omega arith), each_all P l (λ i k. h (suc i) (omega arith)))

module _ (q : Accepted → Bool) (P : Accepted → Type 0) where
  each_kept : (l : List Accepted) → ((i : ℕ) → i < length l → q (at l i) ≡ true → P (at l i)) → Each P (keep q l)
  unfolding keep
  each_kept [] h = tt
  each_kept (o ∷ l) h = let r = each_kept l (λ i k. h (suc i) (omega arith)) in ⊎_elim
      (λ (e : q o ≡ true). rw e (h 0 (omega arith) e, r))
      (λ (e : q o ≡ false). rw e r)
      (bool_cases (q o))

  kept_each : (l : List Accepted) → Each P (keep q l) → (i : ℕ) → i < length l → q (at l i) ≡ true → P (at l i)
  unfolding keep
  kept_each [] h i k e = absurd (omega arith)
  kept_each (o ∷ l) h zero k e = (rw e at h).0
  kept_each (o ∷ l) h (suc i) k e = ⊎_elim
      (λ (f : q o ≡ true). kept_each l (rw f at h).1 i (omega arith) e)
      (λ (f : q o ≡ false). kept_each l (rw f at h) i (omega arith) e)
      (bool_cases (q o))

member-map : (f : Accepted → ℕ) (l : List Accepted) (k : ℕ) → member k (map f l) ≡ any_of (λ o. eqb k (f o)) l
unfolding any_of
member-map f [] k = refl
member-map f (o ∷ l) k = ⊎_elim
    (λ (e : eqb k (f o) ≡ true). any_here (eqb k) (f o) (map f l) e ∙ sym (any_here (λ o. eqb k (f o)) o l e))
    (λ (e : eqb k (f o) ≡ false). any-later (eqb k) (f o) (map f l) e ∙ member-map f l k ∙ sym (any-later (λ o. eqb k (f o)) o l e))
    (bool_cases (eqb k (f o)))

map-map : (f : ℕ → ℕ) (l : List Accepted) → map f (map (λ (o : Accepted). o.node) l) ≡ map (λ (o : Accepted). f o.node) l
map-map f [] = refl
map-map f (o ∷ l) = ap (λ (t : List ℕ). f o.node ∷ t) (map-map f l)

-- the number that an accepted record answers
number_of : (rule : FarRule) (g : CircuitDag) (s : List ℕ) (v : NodeIndex) → (insert_as rule 0 g s).answer ≡ Ok v → size g ≡ v.0
number_of rule g s v = insert_cases rule g s 0 (λ x. x.answer ≡ Ok v → size g ≡ v.0)
    (λ r c e. let z : ◌≡◌ {A = ℕ} 0 1 = cc in absurd (omega arith))
    (λ t e. cc)

-- the guarantee for insertions, each in either way, whose net keeps the invariant
module _ (calls : List Call) (buffer : List ℕ) (bytes : Bytes (bytes_of calls)) (B : Base (net_of calls)) (room : size (built_by calls) ≤ length buffer) where
  abbrev g : CircuitDag
  g = built_by calls

  abbrev done : List Accepted
  done = accepted calls

  T : Built (net_of calls) g done
  T = built calls bytes

  W : Within g
  W = sound-within g (sound-built calls).sound

  abbrev N : Net
  N = net_of calls

  abbrev op : ℕ → Bool
  op u = is_op (N.take u)

  abbrev clashing : ℕ → ℕ → Bool
  clashing u v = clashes (N.take u) (N.take v)

  abbrev earlier : ℕ → ℕ → Bool
  earlier u v = lt_z (at done u).place (at done v).place

  abbrev edge_of : ℕ → ℕ → Bool
  edge_of a b = has_edge g a b

  abbrev first_of : ℕ → Bool
  first_of v = get_or g.first.block v false

  net_size : N.size ≡ length done
  net_size = T.seen.size ∙ sym T.long

  net_kept : Kept N earlier
  net_kept = kept N T.rank earlier (let z = net_size in omega (arith, T.long, T.safe.nodes.count)) B T.ranked
      (λ u v k m. let z = net_size in sym (T.order u v (omega arith) (omega arith)))

  K : Numbered (size g) op clashing earlier edge_of first_of
  K = subst (λ (f : ℕ → Bool). Numbered (size g) op clashing earlier edge_of f) (λ i v. T.seen.heads v i)
      (subst (λ (e : ℕ → ℕ → Bool). Numbered (size g) op clashing earlier e N.head) (λ i a b. T.seen.edges a b i)
      (subst (λ (n : ℕ). Numbered n op clashing earlier N.edge N.head) T.seen.size net_kept))

  low : (u : ℕ) → op u ≡ true → u < length done
  low u h = let z = net_size in omega (arith, B.low u h)

  op-is : (u : ℕ) → u < length done → op u ≡ takes_qubits (at done u).bytes
  op-is u k = ap is_op (T.takes u) ∙ takes_qubits_lem (at done u).bytes (T.rule u k)

  abbrev num : ℕ → ℕ
  num = number (size g) edge_of first_of

  abbrev written : ℕ → ℕ
  written = entry calls buffer

  sound-g : sound g ≡ true
  sound-g = (sound-built calls).sound

  -- the entry is the number of the walk on sets
  entry-is : (v : ℕ) → v < length done → written v ≡ num v
  unfolding blocks state_after steps
  entry-is v k = walk_entry g sound-g buffer room v (let z = T.long in omega arith) ∙ ⊎_elim
      (λ (o : op v ≡ true). number_in g W (size g) 0 (num v) v (K.held v o) (λ i b. K.once i v o b) (omega arith) (K.within v o))
      (λ (o : op v ≡ false). number_out g W (size g) 0 v (λ i. not-true (λ b. clash_bool (K.only i v b) o)) ∙ sym (K.others v o))
      (bool_cases (op v))

  steps-is : length (blocks g) ≡ steps (size g) edge_of first_of
  unfolding blocks state_after steps
  steps-is = let z = count_at g W (size g) 0 in omega arith

  -- "The count returned is how many different numbers below 65535 were written."
  filled_is : filled calls buffer ≡ steps (size g) edge_of first_of
  filled_is =
      different-count 65535 (keep (λ k. ltb k 65535) numbers) (λ x m. ltb-true x 65535 (and_l (ltb x 65535) (member x numbers) (sym (member-keep (λ k. ltb k 65535) x numbers) ∙ m)))
      ∙ count_ext 65535 _ _ (λ k b. member-keep (λ k. ltb k 65535) k numbers ∙ rw (lt-ltb k 65535 b) (among k))
      ∙ sym K.exact
    where
      numbers : List ℕ
      numbers = map written (map (λ (o : Accepted). o.node) done)

      among : (k : ℕ) → member k numbers ≡ any (size g) (λ v. eqb (num v) k)
      among k = ap (member k) (map-map written done) ∙ member-map (λ (o : Accepted). written o.node) done k
          ∙ any_list (λ (o : Accepted). eqb k (written o.node)) done no_record (size g) T.long
          ∙ any_ext (size g) _ _ (λ v b. let c : v < length done = (let z = T.long in omega arith) in
          ap (λ (u : ℕ). eqb k (written u)) (T.nodes v c) ∙ ap (eqb k) (entry-is v c) ∙ eqb-flip k (num v))

  abbrev takes_by : Accepted → Bool
  takes_by o = takes_qubits o.bytes

  -- a numbering that orders the operations, as one of nodes
  keeps_of : (rival : ℕ → ℕ) → Orders rival (operations calls) → Keeps op clashing earlier rival
  keeps_of rival h u v a b c e =
      let ku = low u a in
      let kv = low v b in
      let tu = sym (op-is u ku) ∙ a in
      let tv = sym (op-is v kv) ∙ b in
      let x = kept_each takes_by _ done h u ku tu in
      let y = kept_each takes_by _ done x v kv tv in
      let r = y (clash-is (at done u).bytes (at done v).bytes (T.rule u ku) (T.rule v kv) tu tv ∙ (λ i. clashes (sym (T.takes u) i) (sym (T.takes v) i)) ∙ c) e in
      subst (λ (k : ℕ). rival u < rival k) (T.nodes v kv) (subst (λ (k : ℕ). rival k < rival (at done v).node) (T.nodes u ku) r)

  order_of : Orders written (operations calls)
  order_of = each_kept takes_by _ done (λ u ku tu. each_kept takes_by _ done (λ v kv tv c e.
      let a = op-is u ku ∙ tu in
      let b = op-is v kv ∙ tv in
      let k = K.keeps u v a b ((λ i. clashes (T.takes u i) (T.takes v i)) ∙ sym (clash-is (at done u).bytes (at done v).bytes (T.rule u ku) (T.rule v kv) tu tv) ∙ c) e in
      subst (λ (x : ℕ). x < written (at done v).node) (sym (ap written (T.nodes u ku) ∙ entry-is u ku))
      (subst (λ (x : ℕ). num u < x) (sym (ap written (T.nodes v kv) ∙ entry-is v kv)) k)))

  once_of : Each (λ o. (t : ℕ) → member o.node (block_of_step g t) ≡ eqb t (written o.node)) (operations calls)
  once_of = each_kept takes_by _ done (λ u ku tu t.
      let a = op-is u ku ∙ tu in
      subst (λ (k : ℕ). member k (block_of_step g t) ≡ eqb t (written k)) (sym (T.nodes u ku))
      (block-at g W t u ∙ bool_ext (block (size g) edge_of first_of t u) (eqb t (written u))
      (λ h. eq-eqb t (written u) (K.once t u a h ∙ sym (entry-is u ku)))
      (λ h. let e : t ≡ num u = eqb-true t (written u) h ∙ entry-is u ku in subst (λ (k : ℕ). block (size g) edge_of first_of k u ≡ true) (sym e) (K.held u a))))

  others_of : Each (λ o. takes_qubits o.bytes ≡ false → written o.node ≡ 65535) done
  others_of = each_all _ done (λ u ku h. ap written (T.nodes u ku) ∙ entry-is u ku ∙ K.others u (op-is u ku ∙ h))

  lowest_of : (rival : ℕ → ℕ) → Orders rival (operations calls) → Each (λ o. written o.node ≤ rival o.node) (operations calls)
  lowest_of rival h = each_kept takes_by _ done (λ u ku tu.
      subst (λ (k : ℕ). written k ≤ rival k) (sym (T.nodes u ku))
      (subst (λ (x : ℕ). x ≤ rival u) (sym (entry-is u ku)) (K.least rival (keeps_of rival h) u (op-is u ku ∙ tu))))

  -- how many different numbers a rival has
  rival_is : (rival : ℕ → ℕ) → different (map rival (map (λ (o : Accepted). o.node) (operations calls))) [] ≡ different_in (size g) op rival
  unfolding different_in
  rival_is rival = different-count top numbers below ∙ count_ext top _ _ (λ k b. among k)
    where
      top : ℕ
      top = suc (greatest (size g) (λ v. cond (op v) (rival v) 0))

      numbers : List ℕ
      numbers = map rival (map (λ (o : Accepted). o.node) (operations calls))

      among : (k : ℕ) → member k numbers ≡ any (size g) (λ v. op v && eqb (rival v) k)
      among k = ap (member k) (map-map rival (operations calls)) ∙ member-map (λ (o : Accepted). rival o.node) (operations calls) k
          ∙ keep-any takes_by (λ (o : Accepted). eqb k (rival o.node)) done
          ∙ any_list (λ (o : Accepted). takes_by o && eqb k (rival o.node)) done no_record (size g) T.long
          ∙ any_ext (size g) _ _ (λ v b. let c : v < length done = (let z = T.long in omega arith) in
          (λ i. sym (op-is v c) i && (ap (λ (u : ℕ). eqb k (rival u)) (T.nodes v c) ∙ eqb-flip k (rival v)) i))

      below : (x : ℕ) → member x numbers ≡ true → x < top
      below x m =
          let r = any_elim (size g) (λ v. op v && eqb (rival v) x) (sym (among x) ∙ m) in
          let o = and_l (op r.0) (eqb (rival r.0) x) r.2 in
          let e = eqb-true (rival r.0) x (and_r (op r.0) (eqb (rival r.0) x) r.2) in
          let z = greatest_le (size g) (λ v. cond (op v) (rival v) 0) r.0 r.1 in
          let y : rival r.0 ≤ greatest (size g) (λ v. cond (op v) (rival v) 0) = rw o at z in
          omega arith

  guaranteed : Guarantee calls buffer
  guaranteed = record {
    calls = λ before rest c e. (sound-built before).never c.rule c.bytes;
    numbers = λ before rest c v e a.
        let here = ap (λ (x : Inserted). x.answer) ((sound-built before).never c.rule c.bytes) in
        sym (number_of (rule_of c.rule) (built_by before) c.bytes v (sym here ∙ a)) ∙ built-size before;
    nodes = sym T.long;
    count = ap (λ (x : Walked). x.answer) (walk_done g sound-g buffer room) ∙ ap Ok (steps-is ∙ sym filled_is);
    once = once_of;
    others = others_of;
    order = order_of;
    lowest = lowest_of;
    fewest = λ rival h. let z = filled_is in let y = rival_is rival in omega (arith, K.fewest rival (keeps_of rival h));
  }

-- every list of insertions all in one way that meets a condition by which its net keeps the invariant
guaranteed_by : (rule : LoadingRule) (Meets : List (List ℕ) → Type 0) → ((l : List (List ℕ)) → Meets l → Bytes l)
    → ((l : List (List ℕ)) → Meets l → let cs = map (call_of rule) (accepted (all_by rule l)) in NonEmpties cs
    → ((u : ℕ) → u < length (accepted (all_by rule l)) → record_rule (at (accepted (all_by rule l)) u).bytes ≡ true)
    → ((u : ℕ) → u < length (accepted (all_by rule l)) → all_of (λ b. ltb b 256) (at (accepted (all_by rule l)) u).bytes ≡ true) → Base (run empty cs))
    → Guaranteed rule Meets
guaranteed_by rule Meets bytes base = record {
  short = λ l buffer M h. ap (λ (x : Walked). x.answer) (sym (walk_short (final_by rule l) buffer (sound-built (all_by rule l)).sound h));
  whole = λ l buffer M room.
      let done = accepted (all_by rule l) in
      let B = subst Bytes (sym (bytes_by rule l)) (bytes l M) in
      let T = built (all_by rule l) B in
      let e = nonempties rule done T.rule T.bytes (no_empty_set (all_by rule l)) in
      guaranteed (all_by rule l) buffer B (subst (λ (cs : List NetCall). Base (run empty cs)) (sym (calls_by rule l)) (base l M e T.rule T.bytes)) room;
}

-- demand 3: document 01's way, within the condition
pub demand_3 : Demand3
demand_3 = guaranteed_by NearAll Condition (λ l C. C.bytes)
    (λ l C e r b. net_base (map (call_of NearAll) (accepted (all_by NearAll l))) e (one_all NearAll (accepted (all_by NearAll l)) r b C.one_all))

-- K6's way, with no condition
pub both_ends : BothEnds
both_ends = guaranteed_by FarAll Bytes (λ l h. h)
    (λ l h e r b. far_base (map (call_of FarAll) (accepted (all_by FarAll l))) e (calls-far (accepted (all_by FarAll l))))
