-- A record: what its rule says, its exact length, and the answers of the parser's functions. Assumes nothing.
use mathlib.Core.Path.{◌≡◌, refl, sym, ap}
use mathlib.Core.Bool.{Bool, true, false, cond, not, ◌&&◌}
use mathlib.Core.List.{List, []}
use mathlib.Core.Logic.{⊎_elim}
use Prim.Native.Nat.{ℕ, zero, suc, ◌+◌, ◌*◌, ◌-◌, ◌<◌, ◌≤◌}
use native.Mathlib.Omega.{arith}
use lib.Dec.{leb, eqb}
use lib.ListN.{length, get_or, get_or-eq_default}
use borrow.Author.Tests.{eqb-true, eqb-false, le-leb, lt-leb, leb-true, not-true}
use Rattle.file.proofs.BoolLaws.{bool_cases, clash_bool, both_true}
use Rattle.file.specs.Pairs.{count_of, check_file, offset_of, length_of, part_of, pair_place, record_at}
use Rattle.file.specs.Refusals.{number_of, at_record}
use Rattle.file.specs.Records
use Rattle.file.proofs.PairLaws.{field_past, pair_there}
use Rattle.file.specs.declared.Refusal.{Refusal}
use Rattle.file.specs.declared.Refusal.TheVariants.{FileTooShort, TooManyRecords, BadPair, BadRecord, TooManyNodes, TooManyEdges}
use Rattle.file.specs.declared.Refusal.TheVariants.{TooManyRegisters, Absent, NotInLayer, ShortBuffer, Unsound, EmptySet}
use Rattle.file.specs.declared.Place.{Place}
use Rattle.file.specs.declared.Record.{Record}
use Rattle.file.specs.declared.InvolvedQubits.{InvolvedQubits}
use Rattle.file.specs.declared.InvolvedClassical.{InvolvedClassical}
use Rattle.file.specs.declared.InvolvedClassical.TheVariants.{None, All, AllQubits, Set, Definition}
use Rattle.file.specs.Pairs.{stands_at}
use Rattle.std.specs.Prelude.{Result, Ok, Err, Some, None as NoneThere}
use Rattle.std.specs.Option.{ok_or}
use Rattle.std.specs.List.{list_all, range_with_len}

-- ---- What a record that keeps its rule has

-- the kind, and what it asks of the two forms
abbrev pub kind_rule : List ℕ → Bool
kind_rule s = leb (Records.kind s) 5 && Records.definition_rule (Records.kind s) (Records.qubit_form s) (Records.register_form s)

pub record Rule (s : List ℕ) : Type 0 where
  pub long : 14 ≤ length s
  pub end : get_or s 0 0 ≤ 1
  pub kinds : kind_rule s ≡ true
  pub qubits : Records.qubit_rule (Records.qubit_form s) (Records.mask s) ≡ true
  pub tail : Records.tail_rule s ≡ true

pub rule : (s : List ℕ) → Records.record_rule s ≡ true → Rule s
unfolding Records.record_rule
rule s e =
    let a = both_true _ (Records.tail_rule s) e in
    let b = both_true _ (Records.qubit_rule (Records.qubit_form s) (Records.mask s)) a.0 in
    let d = both_true _ (kind_rule s) b.0 in
    let f = both_true (leb 14 (length s)) (leb (get_or s 0 0) 1) d.0 in
    record { long = leb-true _ _ f.0; end = leb-true _ _ f.1; kinds = d.1; qubits = b.1; tail = a.1 }

pub keeps_rule : (s : List ℕ) → Rule s → Records.record_rule s ≡ true
unfolding Records.record_rule
keeps_rule s r = rw (le-leb 14 (length s) r.long, le-leb (get_or s 0 0) 1 r.end, r.kinds, r.qubits, r.tail) refl

-- "The length is exact: 14, 15, 15, 15 + 3c or 17."
abbrev pub exact_length : InvolvedClassical → ℕ
exact_length None = 14
exact_length (All n) = 15
exact_length (AllQubits n) = 15
exact_length (Set c) = 15 + 3 * c
exact_length (Definition n m) = 17

set_size : (s : List ℕ) → Records.set_rule s ≡ true → length s ≡ 15 + 3 * Records.count s
unfolding Records.set_rule
set_size s e = eqb-true _ _ (both_true _ _ (both_true _ _ e).0).0

pub tail_length : (s : List ℕ) → Records.tail_rule s ≡ true → length s ≡ exact_length (Records.classical_of s)
unfolding Records.tail_rule Records.classical_of
tail_length s e = ⊎_elim
    (λ (a : eqb (Records.register_form s) 0 ≡ true). rw a (eqb-true _ _ (rw a at e)))
    (λ (a : eqb (Records.register_form s) 0 ≡ false). ⊎_elim
    (λ (b : eqb (Records.register_form s) 1 ≡ true). rw (a, b) (eqb-true _ _ (rw (a, b) at e)))
    (λ (b : eqb (Records.register_form s) 1 ≡ false). ⊎_elim
    (λ (d : eqb (Records.register_form s) 2 ≡ true). rw (a, b, d) (eqb-true _ _ (rw (a, b, d) at e)))
    (λ (d : eqb (Records.register_form s) 2 ≡ false). ⊎_elim
    (λ (f : eqb (Records.register_form s) 3 ≡ true). rw (a, b, d, f) (set_size s (rw (a, b, d, f) at e)))
    (λ (f : eqb (Records.register_form s) 3 ≡ false). ⊎_elim
    (λ (g : eqb (Records.register_form s) 4 ≡ true). rw (a, b, d, f) (eqb-true _ _ (rw (a, b, d, f, g) at e)))
    (λ (g : eqb (Records.register_form s) 4 ≡ false). absurd (clash_bool (rw (a, b, d, f, g) at e) refl))
    (bool_cases (eqb (Records.register_form s) 4)))
    (bool_cases (eqb (Records.register_form s) 3)))
    (bool_cases (eqb (Records.register_form s) 2)))
    (bool_cases (eqb (Records.register_form s) 1)))
    (bool_cases (eqb (Records.register_form s) 0))

pub exact_length_lem : (s : List ℕ) → Records.record_rule s ≡ true → length s ≡ exact_length (Records.classical_of s)
exact_length_lem s e = tail_length s (rule s e).tail

-- parsing depends on the record's bytes alone, whichever file they stand in and wherever
pub same_bytes : (s t : List ℕ) (i j : ℕ) → record_at s i ≡ record_at t j → Records.parse_record (record_at s i) ≡ Records.parse_record (record_at t j)
same_bytes s t i j e = ap Records.parse_record e

-- a record that parses is good and says what record_of has; one that does not is not good, and its cause is cause_of
pub parsed_good : (s : List ℕ) (r : Record) → Records.parse_record s ≡ Ok r → (Records.good s ≡ true) × (r ≡ Records.record_of s)
unfolding Records.parse_record
parsed_good s r e = told (Records.good s) e
  where
    told : (b : Bool) → cond b (Ok (Records.record_of s)) (Err (Records.cause_of s)) ≡ Ok r → (b ≡ true) × (r ≡ Records.record_of s)
    told true e = (refl, cc)
    told false e = let z : ◌≡◌ {A = ℕ} 0 1 = cc in absurd (omega arith)

pub not_parsed : (s : List ℕ) (x : Refusal) → Records.parse_record s ≡ Err x → (Records.good s ≡ false) × (x ≡ Records.cause_of s)
unfolding Records.parse_record
not_parsed s x e = told (Records.good s) e
  where
    told : (b : Bool) → cond b (Ok (Records.record_of s)) (Err (Records.cause_of s)) ≡ Err x → (b ≡ false) × (x ≡ Records.cause_of s)
    told true e = let z : ◌≡◌ {A = ℕ} 0 1 = cc in absurd (omega arith)
    told false e = (refl, cc)

-- the last number counts
pub at_again : (i k : ℕ) (r : Refusal) → at_record i (at_record k r) ≡ at_record i r
at_again i k FileTooShort = refl
at_again i k TooManyRecords = refl
at_again i k (BadPair j) = refl
at_again i k (BadRecord j) = refl
at_again i k TooManyNodes = refl
at_again i k (TooManyEdges j) = refl
at_again i k (TooManyRegisters j) = refl
at_again i k Absent = refl
at_again i k NotInLayer = refl
at_again i k ShortBuffer = refl
at_again i k Unsound = refl
at_again i k (EmptySet j) = refl

-- a record's own cause is 4 exactly where it breaks its rule
pub cause_breaks : (s : List ℕ) → eqb (number_of (Records.cause_of s)) 4 ≡ not (Records.record_rule s)
unfolding Records.cause_of
cause_breaks s = told (Records.record_rule s)
  where
    told : (b : Bool) → eqb (number_of (cond b (EmptySet 0) (BadRecord 0))) 4 ≡ not b
    told true = refl
    told false = refl

-- .. and never 11
pub cause_known : (s : List ℕ) (i : ℕ) → at_record i (Records.cause_of s) ≡ Unsound → ⊥
unfolding Records.cause_of
cause_known s i e = told (Records.record_rule s) e
  where
    told : (b : Bool) → at_record i (cond b (EmptySet 0) (BadRecord 0)) ≡ Unsound → ⊥
    told true e = let z : ◌≡◌ {A = ℕ} 0 1 = cc in omega arith
    told false e = let z : ◌≡◌ {A = ℕ} 0 1 = cc in omega arith

-- a good record keeps its rule
pub good_keeps : (s : List ℕ) → Records.good s ≡ true → Records.record_rule s ≡ true
unfolding Records.good
good_keeps s e = (both_true (Records.record_rule s) (not (Records.empty_set s)) e).0

-- .. and has no empty set
pub good_some : (s : List ℕ) → Records.good s ≡ true → Records.empty_set s ≡ false
unfolding Records.good
good_some s e = not-true (Records.empty_set s) (both_true (Records.record_rule s) (not (Records.empty_set s)) e).1

pub parsed : (s : List ℕ) (r : Record) → Records.parse_record s ≡ Ok r → (Records.record_rule s ≡ true) × (r ≡ Records.record_of s)
parsed s r e = let p = parsed_good s r e in (good_keeps s p.0, p.1)

-- nothing is no record
nothing_parses : (r : Record) → Records.parse_record [] ≡ Ok r → ⊥
unfolding Records.parse_record Records.good Records.record_rule
nothing_parses r e = let z : ◌≡◌ {A = ℕ} 0 1 = cc in omega arith

-- record i of a file, by the parser's answer on the part that its pair gives
module _ (s : List ℕ) (i : ℕ) where
  pub taken : (r : Record) → Records.parse_record (record_at s i) ≡ Ok r → Records.parse_at s i ≡ Ok r
  unfolding Records.parse_at
  taken r e = by (pair_place s i) e
    where
      by : (p : Result Place Refusal) → Records.parse_record (part_of p s) ≡ Ok r → Records.parse_from p s i ≡ Ok r
      by (Err x) q = absurd (nothing_parses r q)
      by (Ok p) q = ap (Records.numbered i) q

  pub not_taken : (c : Refusal) → Records.parse_record (record_at s i) ≡ Err c → Records.parse_at s i ≡ Err (Records.refusal_from (pair_place s i) c i)
  unfolding Records.parse_at
  not_taken c e = by (pair_place s i) e
    where
      by : (p : Result Place Refusal) → Records.parse_record (part_of p s) ≡ Err c → Records.parse_from p s i ≡ Err (Records.refusal_from p c i)
      by (Err x) q = refl
      by (Ok p) q = ap (Records.numbered i) q

  -- a record that is taken stands in the file
  pub taken_there : (r : Record) → Records.parse_at s i ≡ Ok r → (x : Refusal) → pair_place s i ≡ Err x → ⊥
  unfolding Records.parse_at
  taken_there r e x h = let z : ◌≡◌ {A = ℕ} 0 1 = cc in omega arith

-- on a file that passed the check, a record below the count is refused for its own bytes alone
pub checked_at : (s : List ℕ) (i : ℕ) → check_file s ≡ Ok tt → i < count_of s
    → Records.parse_at s i ≡ cond (Records.good (record_at s i)) (Ok (Records.record_of (record_at s i))) (Err (at_record i (Records.cause_of (record_at s i))))
unfolding Records.parse_at Records.parse_record
checked_at s i e l = by (pair_place s i) (pair_there s i e l)
  where
    told : (b : Bool) (r : Record) (c : Refusal) → Records.numbered i (cond b (Ok r) (Err c)) ≡ cond b (Ok r) (Err (at_record i c))
    told true r c = refl
    told false r c = refl

    by : (p : Result Place Refusal) → p ≡ stands_at (offset_of s i) (length_of s i)
        → Records.parse_from p s i
        ≡ cond (Records.good (part_of p s)) (Ok (Records.record_of (part_of p s))) (Err (at_record i (Records.cause_of (part_of p s))))
    by (Err x) q = let z : ◌≡◌ {A = ℕ} 0 1 = cc in absurd (omega arith)
    by (Ok p) q = told (Records.good (part_of (Ok p) s)) (Records.record_of (part_of (Ok p) s)) (Records.cause_of (part_of (Ok p) s))

-- the form's number of what a record involves is the record's qubit form
pub form_kept : (s : List ℕ) → Records.record_rule s ≡ true → Records.form_of (Records.qubits_of s) ≡ Records.qubit_form s
unfolding Records.qubits_by Records.qubit_rule
form_kept s e = ⊎_elim
    (λ (a : eqb (Records.qubit_form s) 0 ≡ true). rw a (sym (eqb-true _ _ a)))
    (λ (a : eqb (Records.qubit_form s) 0 ≡ false). ⊎_elim
    (λ (b : eqb (Records.qubit_form s) 1 ≡ true). rw (a, b) (sym (eqb-true _ _ b)))
    (λ (b : eqb (Records.qubit_form s) 1 ≡ false). rw (a, b) (last a b))
    (bool_cases (eqb (Records.qubit_form s) 1)))
    (bool_cases (eqb (Records.qubit_form s) 0))
  where
    low : Records.qubit_form s ≤ 2
    low = leb-true _ _ (both_true (leb (Records.qubit_form s) 2) _ (rule s e).qubits).0

    last : eqb (Records.qubit_form s) 0 ≡ false → eqb (Records.qubit_form s) 1 ≡ false → 2 ≡ Records.qubit_form s
    last a b = let x : Records.qubit_form s ≡ 0 → ⊥ = eqb-false _ _ a in let y : Records.qubit_form s ≡ 1 → ⊥ = eqb-false _ _ b in omega (arith, low)

-- .. and that of the registers it involves the register form
pub register_kept : (s : List ℕ) → Records.record_rule s ≡ true → Records.register_form_of (Records.classical_of s) ≡ Records.register_form s
unfolding Records.classical_of Records.tail_rule
register_kept s e = ⊎_elim
    (λ (a : eqb (Records.register_form s) 0 ≡ true). rw a (sym (eqb-true _ _ a)))
    (λ (a : eqb (Records.register_form s) 0 ≡ false). ⊎_elim
    (λ (b : eqb (Records.register_form s) 1 ≡ true). rw (a, b) (sym (eqb-true _ _ b)))
    (λ (b : eqb (Records.register_form s) 1 ≡ false). ⊎_elim
    (λ (d : eqb (Records.register_form s) 2 ≡ true). rw (a, b, d) (sym (eqb-true _ _ d)))
    (λ (d : eqb (Records.register_form s) 2 ≡ false). ⊎_elim
    (λ (f : eqb (Records.register_form s) 3 ≡ true). rw (a, b, d, f) (sym (eqb-true _ _ f)))
    (λ (f : eqb (Records.register_form s) 3 ≡ false). ⊎_elim
    (λ (g : eqb (Records.register_form s) 4 ≡ true). rw (a, b, d, f) (sym (eqb-true _ _ g)))
    (λ (g : eqb (Records.register_form s) 4 ≡ false). absurd (clash_bool (rw (a, b, d, f, g) at (rule s e).tail) refl))
    (bool_cases (eqb (Records.register_form s) 4)))
    (bool_cases (eqb (Records.register_form s) 3)))
    (bool_cases (eqb (Records.register_form s) 2)))
    (bool_cases (eqb (Records.register_form s) 1)))
    (bool_cases (eqb (Records.register_form s) 0))

-- ---- The answer of `is_ascending`: what `all` answers over the numbers of the later entries

pub all_ascend : (m k : ℕ) (s : List ℕ) → list_all (λ i. Records.entry_before s (i - 1)) (range_with_len (k + 1) m) ≡ Records.ascend_from m k s
unfolding Records.ascend_from
all_ascend zero k s = refl
all_ascend (suc m) k s =
    let z : k + 1 - 1 ≡ k = omega arith in
    rw z (ap (λ b. Records.entry_before s k && b) (all_ascend m (k + 1) s))

-- ---- The answers of `is_set`, `register_key` and `parse_record`

-- which way a test went, by what came of it
module _ (b : Bool) (x : InvolvedQubits) where
  pub form_out : (c e : Refusal) → ok_or (cond b (Some x) NoneThere) c ≡ Err e → (b ≡ false) × (e ≡ c)
  form_out c e h = out b h
    where
      out : (b : Bool) → ok_or (cond b (Some x) NoneThere) c ≡ Err e → (b ≡ false) × (e ≡ c)
      out true h = let z : ◌≡◌ {A = ℕ} 0 1 = cc in absurd (omega arith)
      out false h = (refl, cc)

  pub form_in : (y : InvolvedQubits) → cond b (Some x) NoneThere ≡ Some y → (b ≡ true) × (y ≡ x)
  form_in y h = there b h
    where
      there : (b : Bool) → cond b (Some x) NoneThere ≡ Some y → (b ≡ true) × (y ≡ x)
      there true h = (refl, cc)
      there false h = let z : ◌≡◌ {A = ℕ} 0 1 = cc in absurd (omega arith)

module _ (s : List ℕ) where
  -- an entry that begins past the end
  pub no_entry : (k : ℕ) → length s ≤ 15 + 3 * k → record { name = 0; index = 0 } ≡ Records.key_at s k
  no_entry k l = let h : length s ≤ 16 + 3 * k = omega arith in rw (get_or-eq_default s 0 l, field_past s (16 + 3 * k) h) refl

  pub too_short : length s < 14 → Err (BadRecord 0) ≡ Records.parse_record s
  unfolding Records.parse_record Records.good Records.cause_of Records.record_rule
  too_short l = rw (lt-leb 14 (length s) l) refl

  module _ (long : 14 ≤ length s) where
    pub bad_end : 1 < get_or s 0 0 → Err (BadRecord 0) ≡ Records.parse_record s
    unfolding Records.parse_record Records.good Records.cause_of Records.record_rule
    bad_end l = rw (le-leb 14 (length s) long, lt-leb (get_or s 0 0) 1 l) refl

    module _ (side : get_or s 0 0 ≤ 1) where
      pub bad_kind : kind_rule s ≡ false → Err (BadRecord 0) ≡ Records.parse_record s
      unfolding Records.parse_record Records.good Records.cause_of Records.record_rule
      bad_kind e = rw (le-leb 14 (length s) long, le-leb (get_or s 0 0) 1 side, e) refl

      module _ (m : ℕ) (read : m ≡ Records.mask s) (k : kind_rule s ≡ true) where
        pub bad_qubits : Records.qubit_rule (Records.qubit_form s) m ≡ false → Err (BadRecord 0) ≡ Records.parse_record s
        unfolding Records.parse_record Records.good Records.cause_of Records.record_rule
        bad_qubits e = rw (le-leb 14 (length s) long, le-leb (get_or s 0 0) 1 side, k, ← read, e) refl

        module _ (q : Records.qubit_rule (Records.qubit_form s) m ≡ true) where
          pub bad_tail : Records.tail_rule s ≡ false → Err (BadRecord 0) ≡ Records.parse_record s
          unfolding Records.parse_record Records.good Records.cause_of Records.record_rule
          bad_tail e = rw (le-leb 14 (length s) long, le-leb (get_or s 0 0) 1 side, k, ← read, q, e) refl

  -- a record that keeps its rule: refused 12, or what it says
  module _ (keeps : Records.record_rule s ≡ true) where
    pub empty_set_lem : Records.empty_set s ≡ true → Err (EmptySet 0) ≡ Records.parse_record s
    unfolding Records.parse_record Records.good Records.cause_of
    empty_set_lem z = rw (keeps, z) refl

    pub good : Records.empty_set s ≡ false → (x : InvolvedQubits) (y : InvolvedClassical) (l : ℕ)
        → x ≡ Records.qubits_of s → y ≡ Records.classical_of s → l ≡ Records.label s
        → Ok (record { front = Records.front s; kind = Records.kind s; label = l; qubits = x; classical = y }) ≡ Records.parse_record s
    unfolding Records.parse_record Records.good
    good z x y l e g h = rw (keeps, z, e, g, h) refl
