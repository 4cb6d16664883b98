-- From a circuit file that is accepted, and then back to a circuit: the records in the order of insertion. Assumes nothing.
use mathlib.Core.Path.{◌≡◌, refl, sym, ◌∙◌, ap, subst}
use mathlib.Core.Bool.{Bool, true, false, not, ◌||◌}
use mathlib.Core.Logic.{◌⊎◌, inl, inr, ⊎_elim}
use mathlib.Core.List.{List, [], ◌∷◌, ◌++◌, map, append_assoc, append-nil}
use Prim.Native.Nat.{ℕ, zero, suc, ◌+◌, ◌-◌, ◌≤◌, ◌<◌}
use native.Mathlib.Omega.{arith}
use lib.Dec.{eqb, leb}
use lib.IntN.{ℤ, pos}
use lib.Signed.{lt_z}
use lib.ListN.{length, get_or, set, length-append, length-set, length-replicate, get_or-append}
use lib.Seq.{get_or-append_seam, get_or-append-add, get_or-set_same, get_or-set_other, ext_get_or}
use borrow.Author.Tests.{lt-ltb, le-leb, leb-false, not-true as not-flip}
use Rattle.file.specs.Lists.{all_of, keep, count_from, up_to}
use Rattle.file.specs.Pairs.{count_of, check_file, record_at}
use Rattle.file.specs.Records.{front, kind, qubit_form, label, record_rule}
use Rattle.file.specs.declared.Refusal.{Refusal}
use Rattle.file.specs.Refusals.{at_record}
use Rattle.graph.specs.declared.CircuitDag.{CircuitDag}
use Rattle.graph.specs.declared.Nodes.{Nodes}
use Rattle.graph.specs.Dag.{empty, size, append_node, node_at, place_of, node}
use Rattle.queries.specs.Conversion.{one_to_five, definitions_first, place_in, sort_by_place, circuit_of}
use Rattle.file.proofs.BoolLaws.{bool_cases, clash_bool, not-true, not-false, split_lt}
use Rattle.file.proofs.PutLaws.{length-count_from}
use Rattle.graph.proofs.ListLaws.{all_here, all_fails, all_at, length-up_to, up_to-at}
use Rattle.graph.proofs.SoundnessLaws.{all_join}
use Rattle.queries.proofs.BufferLaws.{keep_append}
use Rattle.insertion.specs.declared.Inserted.{Inserted}
use Rattle.insertion.specs.declared.Loaded.{Loaded}
use Rattle.links.specs.Links.{near_all}
use Rattle.insertion.specs.Insertion.{node_of, grown}
use Rattle.insertion.specs.Limits.{insert_as}
use Rattle.insertion.proofs.CaseLaws.{Taken, Cause, accepted, taken-or-refused, taken_inserts, cause_refuses}
use Rattle.insertion.specs.Load.{not_loaded, insert_records}
use Rattle.queries.proofs.PlaceOrder.{place_here}
use Rattle.queries.proofs.CircuitLaws.{kind_other, first_whole}
use Rattle.insertion.specs.Conversion.{insertion_order, broken, convert, convert_checked, from_circuit}
use Rattle.insertion.proofs.SafeNodes.{record_kind}
use Rattle.insertion.specs.Circuits.{record_of_node, CircuitAgain, ReturnsCircuit}
use Rattle.graph.specs.declared.NodeIndex.{NodeIndex}
use Rattle.std.specs.Prelude.{Result, Ok, Err, ⊤}

-- ---- one insertion

-- a value stored behind n others
stored : {A : Type 0} (l : List A) (n : ℕ) (a d : A) (f : ℕ → A) → n < length l → ((v : ℕ) → v < n → get_or l v d ≡ f v) → a ≡ f n → (v : ℕ) → v < n + 1 → get_or (set l n a) v d ≡ f v
stored l n a d f h each e v k = ⊎_elim
    (λ (q : v ≡ n). rw q (get_or-set_same l n a d h ∙ e))
    (λ (q : v < n). get_or-set_other l n v a d (omega arith) ∙ each v q)
    (split_lt v n k)

-- an insertion that is not refused grows the graph
grows_or_stops : (i : ℕ) (g : CircuitDag) (b : List ℕ)
    → ((size g < 512) × (insert_as near_all i g b ≡ accepted near_all g b)) ⊎ ((r : Refusal) × ((insert_as near_all i g b).answer ≡ Err r))
grows_or_stops i g b = ⊎_elim
    (λ (t : Taken near_all g b). inl (leb-false 512 (size g) t.free, taken_inserts near_all g b i t))
    (λ (c : (r : Refusal) × Cause near_all g b r). inr (at_record i c.0, ap (λ (x : Inserted). x.answer) (cause_refuses near_all g b i c.0 c.1)))
    (taken-or-refused near_all g b)

module _ (g : CircuitDag) (b : List ℕ) (e : front b ≡ false) where
  nodes_grown : (grown near_all g b).nodes ≡ append_node g.nodes (node_of b (pos g.backs))
  unfolding grown
  nodes_grown = rw e refl

  backs_grown : (grown near_all g b).backs ≡ g.backs + 1
  unfolding grown
  backs_grown = rw e refl

-- ---- the nodes of the records inserted so far

module _ (s : List ℕ) where
  record NodesFilled (done : List ℕ) (x : Nodes) : Type 0 where
    pub count : x.count ≡ length done
    pub kinds : length x.kind ≡ 512
    pub forms : length x.form ≡ 512
    pub labels : length x.label ≡ 512
    pub places : length x.place ≡ 512
    pub kind_at : (v : ℕ) → v < length done → get_or x.kind v 0 ≡ kind (record_at s (get_or done v 0))
    pub form_at : (v : ℕ) → v < length done → get_or x.form v 0 ≡ qubit_form (record_at s (get_or done v 0))
    pub label_at : (v : ℕ) → v < length done → get_or x.label v 0 ≡ label (record_at s (get_or done v 0))
    pub place_at : (v : ℕ) → v < length done → get_or x.place v (pos 0) ≡ pos v

  record Filled (done : List ℕ) (g : CircuitDag) : Type 0 where
    pub nodes : NodesFilled done g.nodes
    pub backs : g.backs ≡ length done

  filled_none : Filled [] empty
  unfolding empty
  filled_none = record {
    nodes = record {
      count = refl;
      kinds = length-replicate {A = ℕ} 512 0;
      forms = length-replicate {A = ℕ} 512 0;
      labels = length-replicate {A = ℕ} 512 0;
      places = length-replicate {A = ℤ} 512 (pos 0);
      kind_at = λ v h. absurd (omega arith);
      form_at = λ v h. absurd (omega arith);
      label_at = λ v h. absurd (omega arith);
      place_at = λ v h. absurd (omega arith);
    };
    backs = refl;
  }

  module _ (done : List ℕ) (g : CircuitDag) (F : Filled done g) (i : ℕ) (e : front (record_at s i) ≡ false) (h : size g < 512) where
    abbrev b : List ℕ
    b = record_at s i

    abbrev after : List ℕ
    after = done ++ (i ∷ [])

    longer : length after ≡ size g + 1
    longer = length-append done (i ∷ []) ∙ ap (λ (n : ℕ). n + 1) (sym F.nodes.count)

    -- what the old records' nodes keep, and the new one's
    field : {A : Type 0} (f : List ℕ → A) (l : List A) (d : A) → length l ≡ 512 → ((v : ℕ) → v < length done → get_or l v d ≡ f (record_at s (get_or done v 0))) → (v : ℕ) → v < length after → get_or (set l (size g) (f b)) v d ≡ f (record_at s (get_or after v 0))
    field f l d n each v k = stored l (size g) (f b) d (λ u. f (record_at s (get_or after u 0))) (omega arith)
        (λ u q. each u (omega (arith, F.nodes.count)) ∙ ap (λ (x : ℕ). f (record_at s x)) (sym (get_or-append done (i ∷ []) 0 u (omega (arith, F.nodes.count)))))
        (ap (λ (x : ℕ). f (record_at s x)) (sym (ap (λ (n : ℕ). get_or after n 0) F.nodes.count ∙ get_or-append_seam done i [] 0)))
        v (omega (arith, longer))

    nodes_more : NodesFilled after (append_node g.nodes (node_of b (pos g.backs)))
    nodes_more = record {
      count = sym longer;
      kinds = length-set g.nodes.kind (size g) (kind b) ∙ F.nodes.kinds;
      forms = length-set g.nodes.form (size g) (qubit_form b) ∙ F.nodes.forms;
      labels = length-set g.nodes.label (size g) (label b) ∙ F.nodes.labels;
      places = length-set g.nodes.place (size g) (pos g.backs) ∙ F.nodes.places;
      kind_at = field kind g.nodes.kind 0 F.nodes.kinds F.nodes.kind_at;
      form_at = field qubit_form g.nodes.form 0 F.nodes.forms F.nodes.form_at;
      label_at = field label g.nodes.label 0 F.nodes.labels F.nodes.label_at;
      place_at = λ v k. stored g.nodes.place (size g) (pos g.backs) (pos 0) pos (omega (arith, F.nodes.places))
          (λ u q. F.nodes.place_at u (omega (arith, F.nodes.count))) (ap pos (F.backs ∙ sym F.nodes.count)) v (omega (arith, longer));
    }

    filled_more : Filled after (grown near_all g b)
    filled_more = record {
      nodes = subst (λ (x : Nodes). NodesFilled after x) (sym (nodes_grown g b e)) nodes_more;
      backs = backs_grown g b e ∙ ap (λ (n : ℕ). n + 1) F.backs ∙ sym (length-append done (i ∷ []));
    }

  -- ---- a list of insertions

  abbrev step : CircuitDag → List ℕ → Inserted → Loaded
  step g l x = elim x.answer as (λ y. Loaded) [ Ok v ↦ insert_records near_all s x.graph l | Err r ↦ not_loaded r ]

  goes_on : (i : ℕ) (l : List ℕ) (g : CircuitDag) (x : Inserted) → insert_as near_all i g (record_at s i) ≡ x → insert_records near_all s g (i ∷ l) ≡ step g l x
  unfolding insert_records
  goes_on i l g x e = ap (step g l) e

  stops : (i : ℕ) (l : List ℕ) (g : CircuitDag) (r : Refusal) → (insert_as near_all i g (record_at s i)).answer ≡ Err r → insert_records near_all s g (i ∷ l) ≡ not_loaded r
  unfolding insert_records
  stops i l g r e = ap (λ (y : Result NodeIndex Refusal). elim y as (λ z. Loaded) [ Ok v ↦ insert_records near_all s (insert_as near_all i g (record_at s i)).graph l | Err r ↦ not_loaded r ]) e

  abbrev back : ℕ → Bool
  back i = not (front (record_at s i))

  none_left : (g : CircuitDag) → (insert_records near_all s g []).graph ≡ g
  unfolding insert_records
  none_left g = refl

  inserts : (l done : List ℕ) (g : CircuitDag) → Filled done g → all_of back l ≡ true → (insert_records near_all s g l).answer ≡ Ok tt → Filled (done ++ l) (insert_records near_all s g l).graph
  inserts [] done g F a h = subst (λ (x : CircuitDag). Filled (done ++ []) x) (sym (none_left g)) (subst (λ (m : List ℕ). Filled m g) (sym (append-nil done)) F)
  inserts (i ∷ l) done g F a h = ⊎_elim
      (λ (x : (size g < 512) × (insert_as near_all i g (record_at s i) ≡ record { answer = Ok (node (size g)); graph = grown near_all g (record_at s i) })).
      let g' = grown near_all g (record_at s i) in
      let e : insert_records near_all s g (i ∷ l) ≡ insert_records near_all s g' l = goes_on i l g (record { answer = Ok (node (size g)); graph = g' }) x.1 in
      let t : back i ≡ true = not-false (λ q. clash_bool a (all_fails back i l q)) in
      let f : Filled (done ++ (i ∷ [])) g' = filled_more done g F i (not-flip (front (record_at s i)) t) x.0 in
      let r = inserts l (done ++ (i ∷ [])) g' f (sym (all_here back i l t) ∙ a) (sym (ap (λ (y : Loaded). y.answer) e) ∙ h) in
      subst (λ (y : Loaded). Filled (done ++ (i ∷ l)) y.graph) (sym e)
      (subst (λ (m : List ℕ). Filled m (insert_records near_all s g' l).graph) (append_assoc done (i ∷ []) l) r))
      (λ (x : (r : Refusal) × ((insert_as near_all i g (record_at s i)).answer ≡ Err r)).
      let e : Err x.0 ≡ Ok tt = sym (ap (λ (y : Loaded). y.answer) (stops i l g x.0 x.1)) ∙ h in
      let z : ◌≡◌ {A = ℕ} 0 1 = cc in
      absurd (omega arith))
      (grows_or_stops i g (record_at s i))

-- ---- an accepted file

all_kept : (p q : ℕ → Bool) (l : List ℕ) → all_of q l ≡ true → all_of q (keep p l) ≡ true
unfolding keep all_of
all_kept p q [] h = refl
all_kept p q (x ∷ l) h =
    let t : q x ≡ true = not-false (λ e. clash_bool h (all_fails q x l e)) in
    let r = all_kept p q l (sym (all_here q x l t) ∙ h) in
    ⊎_elim
    (λ (e : p x ≡ true). rw e (all_here q x (keep p l) t ∙ r))
    (λ (e : p x ≡ false). rw e r)
    (bool_cases (p x))

-- those that are kept pass
kept-pass : (p : ℕ → Bool) (l : List ℕ) → all_of p (keep p l) ≡ true
unfolding keep all_of
kept-pass p [] = refl
kept-pass p (x ∷ l) = ⊎_elim
    (λ (e : p x ≡ true). rw e (all_here p x (keep p l) e ∙ kept-pass p l))
    (λ (e : p x ≡ false). rw e (kept-pass p l))
    (bool_cases (p x))

none_kept : (p q : ℕ → Bool) → ((x : ℕ) → p x ≡ false → q x ≡ true) → (l : List ℕ) → keep p l ≡ [] → all_of q l ≡ true
unfolding keep all_of
none_kept p q f [] h = refl
none_kept p q f (x ∷ l) h = ⊎_elim
    (λ (e : p x ≡ true). let k : x ∷ keep p l ≡ [] = rw e at h in let z : ◌≡◌ {A = ℕ} 0 1 = cc in absurd (omega arith))
    (λ (e : p x ≡ false). let k : keep p l ≡ [] = rw e at h in all_here q x l (f x e) ∙ none_kept p q f l k)
    (bool_cases (p x))

record Accepted (s : List ℕ) : Type 0 where
  pub same : from_circuit s ≡ insert_records near_all s empty (insertion_order s)
  pub whole : keep (broken s) (up_to (count_of s)) ≡ []

accepted_told : (s : List ℕ) → (from_circuit s).answer ≡ Ok tt → Accepted s
unfolding from_circuit
accepted_told s h = checked (check_file s) refl h
  where
    listed : (l : List ℕ) → keep (broken s) (up_to (count_of s)) ≡ l → check_file s ≡ Ok tt → (convert s l).answer ≡ Ok tt → Accepted s
    listed [] e c h = record { same = ap (λ (f : Result ⊤ Refusal). convert_checked f s) c ∙ ap (convert s) e; whole = e }
    listed (i ∷ l) e c h = let z : ◌≡◌ {A = ℕ} 0 1 = cc in absurd (omega arith)

    checked : (f : Result ⊤ Refusal) → check_file s ≡ f → (convert_checked f s).answer ≡ Ok tt → Accepted s
    checked (Err r) c h = let z : ◌≡◌ {A = ℕ} 0 1 = cc in absurd (omega arith)
    checked (Ok _) c h = listed (keep (broken s) (up_to (count_of s))) refl c h

-- ---- the circuit of nodes whose places are their numbers

module _ (g : CircuitDag) (n : ℕ) (at : (v : ℕ) → v < n → place_of g v ≡ pos v) where
  sort_same : (m j : ℕ) → j + m ≤ n → sort_by_place (place_of g) (count_from m j) ≡ count_from m j
  unfolding sort_by_place count_from place_in
  sort_same zero j h = refl
  sort_same (suc m) j h = ap (place_in (place_of g) j) (sort_same m (j + 1) (omega arith)) ∙ put m h
    where
      put : (m : ℕ) → j + suc m ≤ n → place_in (place_of g) j (count_from m (j + 1)) ≡ j ∷ count_from m (j + 1)
      put zero h = refl
      put (suc m) h = place_here (place_of g) j (j + 1) (count_from m (j + 1 + 1)) ((λ t. lt_z (at j (omega arith) t) (at (j + 1) (omega arith) t)) ∙ lt-ltb j (j + 1) (omega arith))

keep_range : (p : ℕ → Bool) (n j : ℕ) → ((v : ℕ) → j ≤ v → v < j + n → p v ≡ true) → keep p (count_from n j) ≡ count_from n j
unfolding keep count_from
keep_range p zero j f = refl
keep_range p (suc n) j f = let t : p j ≡ true = f j (omega arith) (omega arith) in rw t (ap (λ (l : List ℕ). j ∷ l) (keep_range p n (j + 1) (λ v a b. f v (omega arith) (omega arith))))

drop_range : (p : ℕ → Bool) (n j : ℕ) → ((v : ℕ) → j ≤ v → v < j + n → p v ≡ false) → keep p (count_from n j) ≡ []
unfolding keep count_from
drop_range p zero j f = refl
drop_range p (suc n) j f = let t : p j ≡ false = f j (omega arith) (omega arith) in rw t (drop_range p n (j + 1) (λ v a b. f v (omega arith) (omega arith)))

count_split : (d m j : ℕ) → count_from (d + m) j ≡ count_from d j ++ count_from m (j + d)
unfolding count_from
count_split zero m j = let z : j + 0 ≡ j = omega arith in let y : 0 + m ≡ m = omega arith in rw (z, y) refl
count_split (suc d) m j = let z : suc d + m ≡ suc (d + m) = omega arith in let y : j + 1 + d ≡ j + suc d = omega arith in rw (z, ← y) (ap (λ (l : List ℕ). j ∷ l) (count_split d m (j + 1)))

-- numbers whose first d pass one test and whose others pass the other stay in their order
parts_same : (p q : ℕ → Bool) (d m : ℕ) → ((v : ℕ) → v < d → (p v ≡ true) × (q v ≡ false)) → ((v : ℕ) → d ≤ v → v < d + m → (p v ≡ false) × (q v ≡ true)) → keep p (up_to (d + m)) ++ keep q (up_to (d + m)) ≡ up_to (d + m)
parts_same p q d m f t =
    let y : 0 + d ≡ d = omega arith in
    let u : up_to (d + m) ≡ up_to d ++ count_from m d = count_split d m 0 ∙ ap (λ (k : ℕ). up_to d ++ count_from m k) y in
    let a : keep p (up_to (d + m)) ≡ up_to d = ap (keep p) u ∙ keep_append p (up_to d) (count_from m d)
    ∙ (λ i. keep_range p d 0 (λ v x z. (f v (omega arith)).0) i ++ drop_range p m d (λ v x z. (t v x z).0) i) ∙ append-nil (up_to d) in
    let b : keep q (up_to (d + m)) ≡ count_from m d = ap (keep q) u ∙ keep_append q (up_to d) (count_from m d)
    ∙ (λ i. drop_range q d 0 (λ v x z. (f v (omega arith)).1) i ++ keep_range q m d (λ v x z. (t v x z).1) i) in
    (λ i. a i ++ b i) ∙ sym u

-- ---- the theorem

module _ (s : List ℕ) (h : (from_circuit s).answer ≡ Ok tt) where
  abbrev G : CircuitDag
  G = (from_circuit s).graph

  abbrev ordinary : ℕ → Bool
  ordinary i = eqb (kind (record_at s i)) 0

  abbrev U : List ℕ
  U = up_to (count_of s)

  abbrev defining : ℕ → Bool
  defining i = one_to_five (kind (record_at s i))

  abbrev D : List ℕ
  D = keep defining U

  abbrev O : List ℕ
  O = keep ordinary U

  -- no record is broken
  whole : (i : ℕ) → broken s i ≡ false → (record_rule (record_at s i) ≡ true) × (back s i ≡ true)
  whole i e = both (record_rule (record_at s i)) (front (record_at s i)) e
    where
      both : (a b : Bool) → (not a || b) ≡ false → (a ≡ true) × (not b ≡ true)
      both false b e = absurd (clash_bool refl e)
      both true true e = absurd (clash_bool refl e)
      both true false e = (refl, refl)

  all_back : all_of (back s) U ≡ true
  all_back = none_kept (broken s) (back s) (λ i e. (whole i e).1) U (accepted_told s h).whole

  all_known : all_of (λ i. leb (kind (record_at s i)) 5) U ≡ true
  all_known = none_kept (broken s) (λ i. leb (kind (record_at s i)) 5) (λ i e. le-leb (kind (record_at s i)) 5 (record_kind (record_at s i) (whole i e).0)) U (accepted_told s h).whole

  filled : Filled s (insertion_order s) G
  filled =
      let A = accepted_told s h in
      let b : all_of (back s) (insertion_order s) ≡ true = all_join (back s) D O (all_kept defining (back s) U all_back) (all_kept ordinary (back s) U all_back) in
      subst (λ (y : Loaded). Filled s (insertion_order s) y.graph) (sym A.same) (inserts s (insertion_order s) [] empty (filled_none s) b (sym (ap (λ (y : Loaded). y.answer) A.same) ∙ h))

  order_length : length (insertion_order s) ≡ count_of s
  order_length = first_whole (λ i. kind (record_at s i)) U all_known ∙ length-count_from (count_of s) 0

  many : length D + length O ≡ count_of s
  many = sym (length-append D O) ∙ order_length

  sized : size G ≡ count_of s
  sized = filled.nodes.count ∙ order_length

  abbrev kind_of : ℕ → ℕ
  kind_of v = (node_at G v).kind

  kind_of_lem : (v : ℕ) → v < count_of s → kind_of v ≡ kind (record_at s (get_or (insertion_order s) v 0))
  kind_of_lem v k = filled.nodes.kind_at v (omega (arith, order_length))

  first_defines : (v : ℕ) → v < length D → (one_to_five (kind_of v) ≡ true) × (eqb (kind_of v) 0 ≡ false)
  first_defines v k =
      let t : one_to_five (kind_of v) ≡ true = ap one_to_five (kind_of_lem v (omega (arith, many))) ∙ ap defining (get_or-append D O 0 v k) ∙ all_at defining D 0 (kept-pass defining U) v k in
      (t, not-true (λ e. clash_bool t (kind_other (kind_of v) e)))

  rest-ordinary : (v : ℕ) → length D ≤ v → v < length D + length O → (one_to_five (kind_of v) ≡ false) × (eqb (kind_of v) 0 ≡ true)
  rest-ordinary v a b =
      let z : v ≡ length D + (v - length D) = omega arith in
      let t : eqb (kind_of v) 0 ≡ true = ap (λ (x : ℕ). eqb x 0) (kind_of_lem v (omega (arith, many)))
      ∙ ap ordinary (ap (λ (k : ℕ). get_or (D ++ O) k 0) z ∙ get_or-append-add D O (v - length D) 0) ∙ all_at ordinary O 0 (kept-pass ordinary U) (v - length D) (omega arith) in
      (kind_other (kind_of v) t, t)

  circuit_same : circuit_of G ≡ U
  unfolding circuit_of
  circuit_same =
      let at : (v : ℕ) → v < count_of s → place_of G v ≡ pos v = λ v k. filled.nodes.place_at v (omega (arith, order_length)) in
      let o : sort_by_place (place_of G) (up_to (size G)) ≡ U = ap (λ (n : ℕ). sort_by_place (place_of G) (up_to n)) sized ∙ sort_same G (count_of s) at (count_of s) 0 (omega arith) in
      ap (definitions_first kind_of) (o ∙ ap up_to (sym many))
      ∙ parts_same (λ v. one_to_five (kind_of v)) (λ v. eqb (kind_of v) 0) (length D) (length O) first_defines rest-ordinary ∙ ap up_to many

  again : CircuitAgain s
  again = record {
    nodes = λ v k.
        let l : v < length (insertion_order s) = omega (arith, order_length) in
        λ t. record { kind = filled.nodes.kind_at v l t; form = filled.nodes.form_at v l t; label = filled.nodes.label_at v l t; place = filled.nodes.place_at v l t };
    circuit = circuit_same;
    records = ap (map (record_of_node s)) circuit_same ∙ ext_get_or 0 (map (record_of_node s) U) (insertion_order s) (length-up_to (record_of_node s) (count_of s) ∙ sym order_length)
        (λ v k. up_to-at (record_of_node s) (count_of s) v 0 (omega (arith, length-up_to (record_of_node s) (count_of s))));
  }

pub returns_circuit : (s : List ℕ) → ReturnsCircuit s
returns_circuit s h = again s h
