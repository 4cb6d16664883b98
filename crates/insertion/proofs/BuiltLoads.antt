-- A load and a conversion are lists of insertions of their file's records (specs/Built.antt). A single insertion refuses "record (0 on
-- insertion)" and tests soundness first, these do neither: the number stands in the refusals only, and every graph on the
-- way is sound. Assumes nothing.
use mathlib.Core.Path.{◌≡◌, refl, sym, ◌∙◌, ap}
use mathlib.Core.Bool.{true}
use mathlib.Core.Logic.{⊎_elim}
use mathlib.Core.List.{List, [], ◌∷◌, ◌++◌}
use Prim.Native.Nat.{ℕ, zero, suc, ◌+◌, ◌≤◌, ◌<◌}
use native.Mathlib.Omega.{arith}
use native.Mathlib.Decide.{ℕ_discrete}
use native.Mathlib.Numerals.{add-one}
use lib.ListN.{length, get_or, take, drop, length-map, drop_of_length-le}
use lib.Seq.{take-suc, take_all, drop-cons}
use Rattle.file.specs.Lists.{keep, up_to}
use Rattle.file.specs.Pairs.{count_of, check_file, record_at}
use Rattle.file.specs.Refusals.{at_record}
use Rattle.file.specs.declared.Refusal.{Refusal}
use Rattle.file.proofs.RecordLaws.{at_again}
use Rattle.insertion.proofs.CaseLaws.{Taken, Cause, taken-or-refused, taken_inserts, cause_refuses}
use Rattle.graph.specs.declared.CircuitDag.{CircuitDag}
use Rattle.graph.specs.Dag.{empty}
use Rattle.graph.proofs.ListLaws.{map_at}
use Rattle.insertion.specs.declared.Inserted.{Inserted}
use Rattle.insertion.specs.declared.Loaded.{Loaded}
use Rattle.links.specs.Links.{FarRule, rule_of}
use Rattle.links.specs.declared.LoadingRule.{LoadingRule}
use Rattle.links.specs.declared.LoadingRule.TheVariants.{NearAll}
use Rattle.insertion.specs.Limits.{accepts, insert_as, insert_by, refused}
use Rattle.insertion.specs.Load.{not_loaded, insert_records, load_checked, load_by}
use Rattle.insertion.specs.Calls.{graph_after, all_by, final_by}
use Rattle.insertion.specs.Conversion.{broken, insertion_order, convert, convert_checked, from_circuit}
use Rattle.insertion.specs.Built.{records_in, step_in, Inserts, LoadInserts, ConversionInserts}
use Rattle.insertion.proofs.BuiltLaws.{sound-built}
use Rattle.graph.specs.declared.NodeIndex.{NodeIndex}
use Rattle.std.specs.Prelude.{Result, Ok, Err, ⊤}

-- ---- one record

-- an insertion's answer with the record's number
abbrev numbered : ℕ → Result NodeIndex Refusal → Result NodeIndex Refusal
numbered i (Ok v) = Ok v
numbered i (Err r) = Err (at_record i r)

-- the same graph, with the answer numbered
abbrev as_record : ℕ → Inserted → Inserted
as_record i x = record { answer = numbered i x.answer; graph = x.graph }

-- the number of the record is in the refusals only
insert_as_lem : (rule : FarRule) (i : ℕ) (g : CircuitDag) (b : List ℕ) → insert_as rule i g b ≡ as_record i (insert_as rule 0 g b)
insert_as_lem rule i g b = ⊎_elim
    (λ (t : Taken rule g b). taken_inserts rule g b i t ∙ ap (as_record i) (sym (taken_inserts rule g b 0 t)))
    (λ (c : (r : Refusal) × Cause rule g b r).
    cause_refuses rule g b i c.0 c.1 ∙ ap (λ (r : Refusal). refused r g) (sym (at_again i 0 c.0)) ∙ ap (as_record i) (sym (cause_refuses rule g b 0 c.0 c.1)))
    (taken-or-refused rule g b)

-- ---- one insertion more

pub after_last : (rule : LoadingRule) (l : List (List ℕ)) (g : CircuitDag) (b : List ℕ)
    → graph_after g (all_by rule (l ++ (b ∷ []))) ≡ (insert_by rule (graph_after g (all_by rule l)) b).graph
unfolding graph_after
after_last rule [] g b = refl
after_last rule (x ∷ l) g b = after_last rule l (insert_by rule g x).graph b

-- ---- the load goes on from one record to the next

-- what insert_records makes of an insertion, with the records of l left
abbrev goes_on : FarRule → List ℕ → List ℕ → Inserted → Loaded
goes_on rule s l x = elim x.answer [ Ok v ↦ insert_records rule s x.graph l | Err r ↦ not_loaded r ]

next_record : (rule : FarRule) (s : List ℕ) (g : CircuitDag) (i : ℕ) (l : List ℕ) → insert_records rule s g (i ∷ l) ≡ goes_on rule s l (insert_as rule i g (record_at s i))
unfolding insert_records
next_record rule s g i l = refl

-- the number makes no difference to an accepted record ..
goes_on_lem : (rule : FarRule) (s l : List ℕ) (i : ℕ) (a : Result NodeIndex Refusal) (g : CircuitDag) → accepts a ≡ true → goes_on rule s l (record { answer = numbered i a; graph = g }) ≡ insert_records rule s g l
goes_on_lem rule s l i (Ok v) g h = refl
goes_on_lem rule s l i (Err r) g h = let z : ◌≡◌ {A = ℕ} 0 1 = cc in absurd (omega arith)

-- .. and stands in a refused one's answer
stops : (rule : FarRule) (s l : List ℕ) (i : ℕ) (a : Result NodeIndex Refusal) (g : CircuitDag) (r : Refusal) → a ≡ Err r → goes_on rule s l (record { answer = numbered i a; graph = g }) ≡ not_loaded (at_record i r)
stops rule s l i a g r h = ap (λ (b : Result NodeIndex Refusal). goes_on rule s l (record { answer = numbered i b; graph = g })) h

-- an accepted load with the graph after these insertions
abbrev done : LoadingRule → List (List ℕ) → Loaded
done rule l = record { answer = (Ok tt); graph = final_by rule l }

module _ (rule : LoadingRule) (s order : List ℕ) where
  abbrev records : List (List ℕ)
  records = records_in s order

  -- the number of the k-th record
  abbrev number : ℕ → ℕ
  number k = get_or order k 0

  -- the insertions from the k-th record on, after those of the records before
  abbrev left : ℕ → Loaded
  left k = insert_records (rule_of rule) s (final_by rule (take k records)) (drop k order)

  -- the insertions of the first k records are accepted
  abbrev Accepted : ℕ → Type 0
  Accepted k = (j : ℕ) → j < k → accepts (step_in rule s order j).answer ≡ true

  -- the insertion of the k-th record leaves the graph after k + 1 insertions
  graph_next : (k : ℕ) → k < length order → final_by rule (take (k + 1) records) ≡ (step_in rule s order k).graph
  graph_next k h =
      let c : k < length records = omega (arith, length-map order (record_at s)) in
      let t : take (k + 1) records ≡ take k records ++ (record_at s (number k) ∷ []) = rw (add-one, take-suc records k [] c, map_at (record_at s) order k 0 [] h) refl in
      ap (final_by rule) t ∙ after_last rule (take k records) empty (record_at s (number k))

  -- the k-th record in its turn is that insertion, with its number
  step_as : (k : ℕ) → insert_as (rule_of rule) (number k) (final_by rule (take k records)) (record_at s (number k)) ≡ as_record (number k) (step_in rule s order k)
  step_as k =
      insert_as_lem (rule_of rule) (number k) (final_by rule (take k records)) (record_at s (number k))
      ∙ ap (as_record (number k)) (sym ((sound-built (all_by rule (take k records))).never rule (record_at s (number k))))

  turn : (k : ℕ) → k < length order → left k ≡ goes_on (rule_of rule) s (drop (k + 1) order) (as_record (number k) (step_in rule s order k))
  turn k h =
      let z : suc k ≡ k + 1 = omega arith in
      ap (insert_records (rule_of rule) s (final_by rule (take k records))) (drop-cons order k 0 h ∙ ap (λ (m : ℕ). number k ∷ drop m order) z)
      ∙ next_record (rule_of rule) s (final_by rule (take k records)) (number k) (drop (k + 1) order)
      ∙ ap (goes_on (rule_of rule) s (drop (k + 1) order)) (step_as k)

  accepted-next : (k : ℕ) → k < length order → accepts (step_in rule s order k).answer ≡ true → left k ≡ left (k + 1)
  accepted-next k h e =
      turn k h
      ∙ goes_on_lem (rule_of rule) s (drop (k + 1) order) (number k) (step_in rule s order k).answer (step_in rule s order k).graph e
      ∙ ap (λ (g : CircuitDag). insert_records (rule_of rule) s g (drop (k + 1) order)) (sym (graph_next k h))

  refused_stops : (k : ℕ) (r : Refusal) → k < length order → (step_in rule s order k).answer ≡ Err r → left k ≡ not_loaded (at_record (number k) r)
  refused_stops k r h e = turn k h ∙ stops (rule_of rule) s (drop (k + 1) order) (number k) (step_in rule s order k).answer (step_in rule s order k).graph r e

  -- ---- all of them

  abbrev whole : Loaded
  whole = insert_records (rule_of rule) s empty order

  -- the k-th record has its turn where all before it are accepted ..
  reaches : (k : ℕ) → k ≤ length order → Accepted k → whole ≡ left k
  unfolding graph_after
  reaches zero h a = refl
  reaches (suc k) h a =
      let z : k + 1 ≡ suc k = omega arith in
      reaches k (omega arith) (λ j l. a j (omega arith))
      ∙ accepted-next k (omega arith) (a k (omega arith))
      ∙ ap left z

  -- .. and behind the last all is done
  ends : left (length order) ≡ done rule records
  unfolding insert_records
  ends =
      let t : take (length order) records ≡ records = take_all (length order) records (omega (arith, length-map order (record_at s))) in
      ap (insert_records (rule_of rule) s (final_by rule (take (length order) records))) (drop_of_length-le order {i = length order} (omega arith))
      ∙ ap (done rule) t

  all_done : Accepted (length order) → whole ≡ done rule records
  all_done a = reaches (length order) (omega arith) a ∙ ends

  refuses : (k : ℕ) (r : Refusal) → k < length order → Accepted k → (step_in rule s order k).answer ≡ Err r → whole ≡ not_loaded (at_record (number k) r)
  refuses k r h a q = reaches k (omega arith) a ∙ refused_stops k r h q

  -- where all is accepted, no record is the first one refused ..
  not-refused : whole.answer ≡ Ok tt → (k : ℕ) → k < length order → Accepted k → (x : Result NodeIndex Refusal) → (step_in rule s order k).answer ≡ x → accepts x ≡ true
  not-refused d k h a (Ok v) q = refl
  not-refused d k h a (Err r) q =
      let t = refuses k r h a q in
      let z : ◌≡◌ {A = ℕ} 0 1 = cc in
      absurd (omega arith)

  -- .. so each is accepted
  accepted : whole.answer ≡ Ok tt → (k : ℕ) → k ≤ length order → Accepted k
  accepted d zero h j l = absurd (omega arith)
  accepted d (suc k) h j l =
      let a : Accepted k = accepted d k (omega arith) in
      elim (ℕ_discrete j k) [ yes e ↦ rw e (not-refused d k (omega arith) a (step_in rule s order k).answer refl) | no e ↦ a j (omega arith) ]

  inserts : (x : Loaded) → x ≡ whole → Inserts rule s order x
  inserts x e =
      let answer : x.answer ≡ whole.answer = ap (λ (y : Loaded). y.answer) e in
      record {
        done = λ d. ap (λ (y : Loaded). y.graph) (e ∙ all_done (accepted (sym answer ∙ d) (length order) (omega arith)));
        each = λ d. accepted (sym answer ∙ d) (length order) (omega arith);
        refused = λ k r h a q. e ∙ refuses k r h a q;
        whole = λ a. ap (λ (y : Loaded). y.answer) (e ∙ all_done a);
      }

-- ---- a load and a conversion

pub load_inserts : (rule : LoadingRule) (s : List ℕ) → LoadInserts rule s
unfolding load_by
load_inserts rule s = record {
  sound = checked (check_file s);
  inserts = λ e. inserts rule s (up_to (count_of s)) (load_by rule s) (ap (λ (c : Result ⊤ Refusal). load_checked (rule_of rule) c s) e);
}
  where
    checked : (c : Result ⊤ Refusal) → (load_checked (rule_of rule) c s).answer ≡ Ok tt → c ≡ Ok tt
    checked (Ok _) h = refl
    checked (Err r) h = let z : ◌≡◌ {A = ℕ} 0 1 = cc in absurd (omega arith)

pub conversion_inserts : (s : List ℕ) → ConversionInserts s
unfolding from_circuit
conversion_inserts s = record {
  sound = checked (check_file s);
  inserts = λ e b. inserts NearAll s (insertion_order s) (from_circuit s) (ap (λ (c : Result ⊤ Refusal). convert_checked c s) e ∙ ap (convert s) b);
}
  where
    listed : (l : List ℕ) → (convert s l).answer ≡ Ok tt → l ≡ []
    listed [] h = refl
    listed (i ∷ l) h = let z : ◌≡◌ {A = ℕ} 0 1 = cc in absurd (omega arith)

    checked : (c : Result ⊤ Refusal) → (convert_checked c s).answer ≡ Ok tt → (c ≡ Ok tt) × (keep (broken s) (up_to (count_of s)) ≡ [])
    checked (Ok _) h = (refl, listed (keep (broken s) (up_to (count_of s))) h)
    checked (Err r) h = let z : ◌≡◌ {A = ℕ} 0 1 = cc in absurd (omega arith)
