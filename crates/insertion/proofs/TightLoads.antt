-- Files without slack load as they did, and slack is not read. Assumes nothing.
use mathlib.Core.Path.{◌≡◌, refl, sym, ap, ◌∙◌}
use mathlib.Core.Bool.{not, ◌||◌}
use mathlib.Core.List.{List, [], ◌∷◌}
use Prim.Native.Nat.{ℕ}
use native.Mathlib.Omega.{arith}
use native.Mathlib.Decide.{dec_lt}
use Rattle.file.specs.Lists.{keep, up_to}
use Rattle.file.specs.Records.{front, kind, record_rule}
use Rattle.file.specs.Pairs.{count_of, record_at}
use Rattle.file.specs.Tight.{tight_file}
use Rattle.file.proofs.PairLaws.{no_record}
use Rattle.file.proofs.TightLaws.{tight_file_lem}
use Rattle.graph.specs.declared.CircuitDag.{CircuitDag}
use Rattle.graph.specs.Dag.{empty}
use Rattle.links.specs.Links.{FarRule, near_all, rule_of}
use Rattle.links.specs.declared.LoadingRule.{LoadingRule}
use Rattle.queries.specs.Conversion.{definitions_first}
use Rattle.insertion.specs.Limits.{insert_as}
use Rattle.insertion.specs.Load.{not_loaded, insert_records, load_checked, load_by}
use Rattle.insertion.specs.Conversion.{broken, insertion_order, convert, convert_checked, from_circuit}
use Rattle.insertion.specs.Tight.{load_tight, convert_tight, SameLoads, SameRecords, SlackUnread}
use Rattle.file.specs.declared.Refusal.{Refusal}
use Rattle.std.specs.Prelude.{Result, Ok, Err, ⊤}

load-sound : (rule : FarRule) (c : Result ⊤ Refusal) (s : List ℕ) → (load_checked rule c s).answer ≡ Ok tt → c ≡ Ok tt
load-sound rule (Ok _) s e = refl
load-sound rule (Err r) s e = let z : ◌≡◌ {A = ℕ} 0 1 = cc in absurd (omega arith)

convert-sound : (c : Result ⊤ Refusal) (s : List ℕ) → (convert_checked c s).answer ≡ Ok tt → c ≡ Ok tt
convert-sound (Ok _) s e = refl
convert-sound (Err r) s e = let z : ◌≡◌ {A = ℕ} 0 1 = cc in absurd (omega arith)

same_load : (rule : LoadingRule) (s : List ℕ) → tight_file s ≡ Ok tt → load_by rule s ≡ load_tight rule s
unfolding load_by
same_load rule s t = rw (tight_file_lem.passes s t, t) refl

same_conversion : (s : List ℕ) → tight_file s ≡ Ok tt → from_circuit s ≡ convert_tight s
unfolding from_circuit
same_conversion s t = rw (tight_file_lem.passes s t, t) refl

pub same_loads : SameLoads
same_loads = record {
  loads = λ rule s e. same_load rule s (load-sound (rule_of rule) (tight_file s) s e);
  converts = λ s e. same_conversion s (convert-sound (tight_file s) s e);
  answers = λ rule s t. (same_load rule s t, same_conversion s t);
}

-- ---- Slack is not read

-- the same records, and behind the last none
module _ (s t : List ℕ) (h : SameRecords s t) where
  at_all : (i : ℕ) → record_at s i ≡ record_at t i
  at_all i = elim (dec_lt i (count_of s)) [
    | yes l ↦ h.records i l
    | no m ↦ no_record s i h.passes.0 (omega arith) ∙ sym (no_record t i h.passes.1 (omega (arith, h.count)))
  ]

  inserts : (rule : FarRule) (l : List ℕ) (g : CircuitDag) → insert_records rule s g l ≡ insert_records rule t g l
  unfolding insert_records
  inserts rule [] g = refl
  inserts rule (i ∷ l) g = λ p. let x = insert_as rule i g (at_all i p) in
      elim x.answer [ Ok v ↦ inserts rule l x.graph p | Err r ↦ not_loaded r ]

  in_order : insertion_order s ≡ insertion_order t
  in_order = λ p. definitions_first (λ i. kind (at_all i p)) (up_to (h.count p))

  converted : (l : List ℕ) → convert s l ≡ convert t l
  converted [] = inserts near_all (insertion_order s) empty ∙ ap (insert_records near_all t empty) in_order
  converted (i ∷ l) = refl

  breaks : keep (broken s) (up_to (count_of s)) ≡ keep (broken t) (up_to (count_of t))
  breaks = λ p. keep (λ i. not (record_rule (at_all i p)) || front (at_all i p)) (up_to (h.count p))

pub slack_unread : SlackUnread
unfolding load_by from_circuit
slack_unread = record {
  loads = λ rule s t h. rw (h.passes.0, h.passes.1)
      (inserts s t h (rule_of rule) (up_to (count_of s)) empty ∙ ap (λ (n : ℕ). insert_records (rule_of rule) t empty (up_to n)) h.count);
  converts = λ s t h. rw (h.passes.0, h.passes.1)
      (converted s t h (keep (broken s) (up_to (count_of s))) ∙ ap (convert t) (breaks s t h));
}
