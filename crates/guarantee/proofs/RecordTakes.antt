-- What an accepted record takes, by its bytes, and the condition of demand 3 on the list of calls. Assumes nothing.
use mathlib.Core.Path.{◌≡◌, refl, sym, ◌∙◌, ap}
use mathlib.Core.Bool.{Bool, true, false, not, ◌&&◌, ◌||◌}
use mathlib.Core.Logic.{inl, inr, ⊎_elim}
use mathlib.Core.List.{List, [], ◌∷◌, map}
use Prim.Native.Nat.{ℕ, zero, suc, ◌≤◌, ◌<◌, ◌^◌}
use native.Mathlib.Omega.{arith}
use native.Mathlib.Decide.{dec_lt}
use lib.Dec.{eqb, ltb, leb}
use lib.ListN.{length, get_or, get_or-eq_default}
use borrow.Author.Tests.{eqb-false, ltb-true, leb-true}
use Rattle.file.specs.Lists.{any_of, all_of, keep, member}
use Rattle.file.specs.Pairs.{number_at}
use Rattle.file.specs.Records.{front, kind, qubit_form, register_form, mask, definition_rule, qubit_rule, tail_rule, record_rule, qubits_by, qubits_of, empty_set}
use Rattle.file.proofs.BoolLaws.{bool_cases, clash_bool, not-true, and_l, and_r, and_intro, or_inl, flip-not}
use Rattle.graph.proofs.ListLaws.{all_at, none-at, keep-any}
use Rattle.links.specs.Links.{qubits}
use Rattle.links.specs.declared.LoadingRule.{LoadingRule}
use Rattle.links.specs.declared.LoadingRule.TheVariants.{FarAll}
use Rattle.links.proofs.QubitLaws.{qubits-next}
use Rattle.guarantee.specs.Guarantee.{Accepted, takes_all, takes_qubits, clash}
use Rattle.walk.proofs.Bounds.{any}
use Rattle.guarantee.proofs.LinkViews.{has, has-any, has_some, take_by}
use Rattle.guarantee.proofs.Nets.{is_op, is_all, clashes, NonEmpty, NonEmpties}
use Rattle.guarantee.proofs.NetRuns.{BackOnly, FrontOnly, alls, Condition as NetCondition, AllFar}
use Rattle.guarantee.proofs.AcceptedNets.{call_of, take_of, no_record, at}

-- ---- a record's form

pub form_low : (s : List ℕ) → record_rule s ≡ true → qubit_form s ≤ 2
unfolding record_rule qubit_rule
form_low s h =
    let d = and_r (leb 14 (length s) && leb (get_or s 0 0) 1 && (leb (kind s) 5 && definition_rule (kind s) (qubit_form s) (register_form s))) (qubit_rule (qubit_form s) (mask s))
    (and_l (leb 14 (length s) && leb (get_or s 0 0) 1 && (leb (kind s) 5 && definition_rule (kind s) (qubit_form s) (register_form s)) && qubit_rule (qubit_form s) (mask s)) (tail_rule s) h) in
    leb-true (qubit_form s) 2 (and_l (leb (qubit_form s) 2) (eqb (qubit_form s) 2 || eqb (mask s) 0) d)

all_by_lem : (f m : ℕ) → f ≤ 2 → is_all (take_by (qubits_by f m)) ≡ eqb f 1
unfolding qubits_by
all_by_lem zero m h = refl
all_by_lem (suc zero) m h = refl
all_by_lem (suc (suc zero)) m h = refl
all_by_lem (suc (suc (suc f))) m h = absurd (omega arith)

op_by : (f m : ℕ) → f ≤ 2 → is_op (take_by (qubits_by f m)) ≡ (eqb f 1 || eqb f 2)
unfolding qubits_by
op_by zero m h = refl
op_by (suc zero) m h = refl
op_by (suc (suc zero)) m h = refl
op_by (suc (suc (suc f))) m h = absurd (omega arith)

pub takes_all_lem : (s : List ℕ) → record_rule s ≡ true → is_all (take_by (qubits_of s)) ≡ takes_all s
takes_all_lem s h = all_by_lem (qubit_form s) (mask s) (form_low s h)

pub takes_qubits_lem : (s : List ℕ) → record_rule s ≡ true → is_op (take_by (qubits_of s)) ≡ takes_qubits s
takes_qubits_lem s h = op_by (qubit_form s) (mask s) (form_low s h)

-- "bytes 3-10, 64-bit mask"
mask_low : (s : List ℕ) → all_of (λ b. ltb b 256) s ≡ true → mask s < 2 ^ 64
unfolding number_at
mask_low s h = omega (arith, byte 3, byte 4, byte 5, byte 6, byte 7, byte 8, byte 9, byte 10)
  where
    byte : (i : ℕ) → get_or s i 0 < 256
    byte i = elim (dec_lt i (length s)) [
      | yes l ↦ ltb-true (get_or s i 0) 256 (all_at (λ b. ltb b 256) s 0 h i l)
      | no l ↦ (let e = get_or-eq_default s 0 {n = i} (omega arith) in omega arith)
    ]

mask_some : (m : ℕ) → (m ≡ 0 → ⊥) → m < 2 ^ 64 → any 64 (has m) ≡ true
mask_some m p h = has_some m ∙ rw (qubits-next m (omega arith) h) refl

not_none : (f m : ℕ) → f ≤ 2 → (eqb f 2 && eqb m 0) ≡ false → m < 2 ^ 64 → NonEmpty (take_by (qubits_by f m))
unfolding qubits_by
not_none zero m l h k = tt
not_none (suc zero) m l h k = tt
not_none (suc (suc zero)) m l h k = mask_some m (eqb-false m 0 h) k
not_none (suc (suc (suc f))) m l h k = absurd (omega arith)

-- "Two qubit operations clash if they share a qubit or one takes all."
clash_by : (f m f' m' : ℕ) → f ≤ 2 → f' ≤ 2 → (eqb f 1 || eqb f 2) ≡ true → (eqb f' 1 || eqb f' 2) ≡ true
    → (eqb f 1 || eqb f' 1 || any_of (λ q. member q (qubits m')) (qubits m)) ≡ clashes (take_by (qubits_by f m)) (take_by (qubits_by f' m'))
unfolding qubits_by clashes
clash_by zero m f' m' l l' h h' = absurd (clash_bool h refl)
clash_by (suc zero) m f' m' l l' h h' = refl
clash_by (suc (suc zero)) m zero m' l l' h h' = absurd (clash_bool h' refl)
clash_by (suc (suc zero)) m (suc zero) m' l l' h h' = refl
clash_by (suc (suc zero)) m (suc (suc zero)) m' l l' h h' = has-any m (λ q. member q (qubits m'))
clash_by (suc (suc zero)) m (suc (suc (suc f'))) m' l l' h h' = absurd (omega arith)
clash_by (suc (suc (suc f))) m f' m' l l' h h' = absurd (omega arith)

pub clash-is : (s t : List ℕ) → record_rule s ≡ true → record_rule t ≡ true → takes_qubits s ≡ true → takes_qubits t ≡ true
    → clash s t ≡ clashes (take_by (qubits_of s)) (take_by (qubits_of t))
clash-is s t p q h k = clash_by (qubit_form s) (mask s) (qubit_form t) (mask t) (form_low s p) (form_low t q) h k

-- ---- the calls, by a rule

module _ (far : LoadingRule) where
  calls_nonempty : (l : List Accepted) → ((i : ℕ) → i < length l → NonEmpty (take_of (at l i))) → NonEmpties (map (call_of far) l)
  calls_nonempty [] h = tt
  calls_nonempty (o ∷ l) h = (h 0 (omega arith), calls_nonempty l (λ i k. h (suc i) (omega arith)))

  calls_back : (l : List Accepted) → ((i : ℕ) → i < length l → front (at l i).bytes ≡ true → is_op (take_of (at l i)) ≡ false) → BackOnly (map (call_of far) l)
  calls_back [] h = tt
  calls_back (o ∷ l) h = (h 0 (omega arith), calls_back l (λ i k. h (suc i) (omega arith)))

  calls-front : (l : List Accepted) → ((i : ℕ) → i < length l → front (at l i).bytes ≡ false → is_op (take_of (at l i)) ≡ false) → FrontOnly (map (call_of far) l)
  calls-front [] h = tt
  calls-front (o ∷ l) h = (h 0 (omega arith), calls-front l (λ i k. h (suc i) (omega arith)))

  calls_all : (l : List Accepted) → ((i : ℕ) → i < length l → record_rule (at l i).bytes ≡ true)
      → alls (map (call_of far) l) ≡ length (keep (λ (o : Accepted). takes_all o.bytes) (keep (λ (o : Accepted). takes_qubits o.bytes) l))
  unfolding keep
  calls_all [] h = refl
  calls_all (o ∷ l) h = let rest = calls_all l (λ i k. h (suc i) (omega arith)) in ⊎_elim
      (λ (e : takes_all o.bytes ≡ true).
      rw (takes_all_lem o.bytes (h 0 (omega arith)) ∙ e, or_inl (takes_all o.bytes) (eqb (qubit_form o.bytes) 2) e, e) (ap suc rest))
      (λ (e : takes_all o.bytes ≡ false). rw (takes_all_lem o.bytes (h 0 (omega arith)) ∙ e, e) (⊎_elim
      (λ (f : eqb (qubit_form o.bytes) 2 ≡ true). rw (f, e) rest)
      (λ (f : eqb (qubit_form o.bytes) 2 ≡ false). rw f rest)
      (bool_cases (eqb (qubit_form o.bytes) 2))))
      (bool_cases (takes_all o.bytes))

pub calls-far : (l : List Accepted) → AllFar (map (call_of FarAll) l)
calls-far [] = tt
calls-far (o ∷ l) = (refl, calls-far l)

module _ (far : LoadingRule) (l : List Accepted) (rule : (u : ℕ) → u < length l → record_rule (at l u).bytes ≡ true)
    (bytes : (u : ℕ) → u < length l → all_of (λ b. ltb b 256) (at l u).bytes ≡ true) where
  abbrev ops : List Accepted
  ops = keep (λ (o : Accepted). takes_qubits o.bytes) l

  -- where no operation has p, none of the list that is an operation has it
  no_op : (p : Accepted → Bool) → any_of p ops ≡ false → (u : ℕ) → u < length l → p (at l u) ≡ true → is_op (take_of (at l u)) ≡ false
  no_op p h u k e = not-true (λ t. clash_bool
      (and_intro (takes_qubits (at l u).bytes) (p (at l u)) (sym (takes_qubits_lem (at l u).bytes (rule u k)) ∙ t) e)
      (none-at (λ o. takes_qubits o.bytes && p o) l no_record (sym (keep-any (λ (o : Accepted). takes_qubits o.bytes) p l) ∙ h) u k))

  pub nonempties : any_of (λ (o : Accepted). empty_set o.bytes) l ≡ false → NonEmpties (map (call_of far) l)
  nonempties h = calls_nonempty far l (λ u k. not_none (qubit_form (at l u).bytes) (mask (at l u).bytes) (form_low (at l u).bytes (rule u k))
      (none-at (λ (o : Accepted). empty_set o.bytes) l no_record h u k)
      (mask_low (at l u).bytes (bytes u k)))

  -- "where qubit operations are accepted at both ends, at most one of them takes all qubits"
  pub one_all : (any_of (λ (o : Accepted). front o.bytes) ops ≡ true → any_of (λ (o : Accepted). not (front o.bytes)) ops ≡ true
      → length (keep (λ (o : Accepted). takes_all o.bytes) ops) ≤ 1) → NetCondition (map (call_of far) l)
  one_all h = ⊎_elim
      (λ (f : any_of (λ (o : Accepted). front o.bytes) ops ≡ true). ⊎_elim
      (λ (b : any_of (λ (o : Accepted). not (front o.bytes)) ops ≡ true). inr (inr (let z = calls_all far l rule in omega (arith, h f b))))
      (λ (b : any_of (λ (o : Accepted). not (front o.bytes)) ops ≡ false).
      inr (inl (calls-front far l (λ u k e. no_op (λ (o : Accepted). not (front o.bytes)) b u k (flip-not (front (at l u).bytes) e)))))
      (bool_cases (any_of (λ (o : Accepted). not (front o.bytes)) ops)))
      (λ (f : any_of (λ (o : Accepted). front o.bytes) ops ≡ false). inl (calls_back far l (λ u k e. no_op (λ (o : Accepted). front o.bytes) f u k e)))
      (bool_cases (any_of (λ (o : Accepted). front o.bytes) ops))
