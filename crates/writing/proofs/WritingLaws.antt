-- A file made of records, read again: it keeps the rules of header and pairs, and has these records. Assumes nothing.
use mathlib.Core.Path.{◌≡◌, refl, sym, ◌∙◌, ap, subst}
use mathlib.Core.Bool.{Bool, true, false, ◌&&◌}
use mathlib.Core.List.{List, [], ◌∷◌, ◌++◌, map, append_assoc}
use Prim.Native.Nat.{ℕ, zero, suc, ◌+◌, ◌*◌, ◌/◌, ◌%◌, ◌^◌, ◌≤◌, ◌<◌}
use native.Mathlib.Numerals.{add-one}
use native.Mathlib.Omega.{arith}
use lib.Dec.{eqb}
use lib.ListN.{length, get_or, take, drop, length-append, length-map}
use lib.Seq.{take-append_seam, drop-append_seam, get_or-append_seam}
use borrow.Author.Tests.{eq-eqb, ne_eqb, le-ltb}
use Rattle.file.specs.Lists.{count_from, up_to}
use Rattle.file.specs.Pairs.{number_at, count_of, offset_of, length_of, part_of, record_at, check_file}
use Rattle.file.specs.Tight.{tight_pairs, tight_file}
use Rattle.file.specs.Records.{mask, label, parse_record, good, cause_of, empty_set, record_of, record_rule}
use Rattle.file.specs.Records.{definition_rule, qubit_rule, tail_rule, qubits_by, classical_of}
use Rattle.file.specs.declared.Refusal.TheVariants.{EmptySet}
use Rattle.file.specs.declared.InvolvedQubits.TheVariants.{Set}
use Rattle.file.specs.declared.InvolvedClassical.TheVariants.{None as NoRegister}
use Rattle.file.specs.declared.Place.{Place}
use Rattle.file.proofs.BoolLaws.{and_intro, flip-not}
use Rattle.file.proofs.PairLaws.{pair_there}
use Rattle.file.proofs.TightLaws.{tight_file_lem}
use Rattle.writing.specs.Writing.{bytes_of, pairs_from, join_records, file_of, end_byte, gate, ReadsAgain, FileReads}
use Rattle.file.specs.declared.Refusal.{Refusal}
use Rattle.std.specs.Prelude.{Result, Ok, Err}

-- ---- a number's bytes

pub bytes_length : (k x : ℕ) → length (bytes_of k x) ≡ k
unfolding bytes_of
bytes_length zero x = refl
bytes_length (suc k) x = ap suc (bytes_length k (x / 256))

-- read again they are the number
pub number-at : (k x : ℕ) (p rest : List ℕ) → x < 256 ^ k → number_at (p ++ (bytes_of k x ++ rest)) (length p) k ≡ x
unfolding number_at bytes_of
number-at zero x p rest h = omega arith
number-at (suc k) x p rest h =
    let z : length p + 1 ≡ length (p ++ (x % 256 ∷ [])) = omega (arith, length-append p (x % 256 ∷ [])) in
    let s : p ++ (x % 256 ∷ (bytes_of k (x / 256) ++ rest)) ≡ p ++ (x % 256 ∷ []) ++ (bytes_of k (x / 256) ++ rest) =
    sym (append_assoc p (x % 256 ∷ []) (bytes_of k (x / 256) ++ rest)) in
    let first : get_or (p ++ (x % 256 ∷ (bytes_of k (x / 256) ++ rest))) (length p) 0 ≡ x % 256 = get_or-append_seam p (x % 256) (bytes_of k (x / 256) ++ rest) 0 in
    let later : number_at (p ++ (x % 256 ∷ (bytes_of k (x / 256) ++ rest))) (length p + 1) k ≡ x / 256 =
    (λ i. number_at (s i) (z i) k) ∙ number-at k (x / 256) (p ++ (x % 256 ∷ [])) rest (omega arith) in
    omega (arith, first, later)

half_at : (p rest : List ℕ) (x : ℕ) → x < 65536 → number_at (p ++ (bytes_of 2 x ++ rest)) (length p) 2 ≡ x
half_at p rest x h = number-at 2 x p rest h

-- ---- where record i starts

unfoldable start_at : ℕ → List (List ℕ) → ℕ → ℕ
start_at a [] i = a
start_at a (b ∷ l) zero = a
start_at a (b ∷ l) (suc i) = start_at (a + length b) l i

start-zero : (a : ℕ) (l : List (List ℕ)) → start_at a l 0 ≡ a
unfolding start_at
start-zero a [] = refl
start-zero a (b ∷ l) = refl

start-suc : (a : ℕ) (b : List ℕ) (l : List (List ℕ)) (i : ℕ) → start_at a (b ∷ l) (suc i) ≡ start_at (a + length b) l i
unfolding start_at
start-suc a b l i = refl

start-next : (a : ℕ) (l : List (List ℕ)) (i : ℕ) → i < length l → start_at a l (suc i) ≡ start_at a l i + length (get_or l i [])
unfolding start_at
start-next a [] i h = absurd (omega arith)
start-next a (b ∷ l) zero h = start-zero (a + length b) l
start-next a (b ∷ l) (suc i) h = start-next (a + length b) l i (omega arith)

join_cons : (b : List ℕ) (l : List (List ℕ)) → length (join_records (b ∷ l)) ≡ length b + length (join_records l)
unfolding join_records
join_cons b l = length-append b (join_records l)

start_end : (a : ℕ) (l : List (List ℕ)) → start_at a l (length l) ≡ a + length (join_records l)
unfolding start_at join_records
start_end a [] = omega arith
start_end a (b ∷ l) = start_end (a + length b) l ∙ omega (arith, join_cons b l)

start_low : (a : ℕ) (l : List (List ℕ)) (i : ℕ) → i < length l → start_at a l i + length (get_or l i []) ≤ a + length (join_records l)
unfolding start_at
start_low a [] i h = absurd (omega arith)
start_low a (b ∷ l) zero h = omega (arith, join_cons b l)
start_low a (b ∷ l) (suc i) h = omega (arith, join_cons b l, start_low (a + length b) l i (omega arith))

-- ---- the pairs

pub pairs_length : (a : ℕ) (l : List (List ℕ)) → length (pairs_from a l) ≡ 4 * length l
unfolding pairs_from bytes_of
pairs_length a [] = refl
pairs_length a (b ∷ l) = omega (arith, pairs_length (a + length b) l)

-- one pair, of offset a and length n
abbrev pair_of : ℕ → ℕ → List ℕ
pair_of a n = bytes_of 2 a ++ bytes_of 2 n

pair_length : (a n : ℕ) → length (pair_of a n) ≡ 4
unfolding bytes_of
pair_length a n = refl

pairs_cons : (p rest : List ℕ) (a : ℕ) (b : List ℕ) (l : List (List ℕ))
    → p ++ (pairs_from a (b ∷ l) ++ rest) ≡ p ++ pair_of a (length b) ++ (pairs_from (a + length b) l ++ rest)
unfolding pairs_from bytes_of
pairs_cons p rest a b l = sym (append_assoc p (pair_of a (length b)) (pairs_from (a + length b) l ++ rest))

-- at a stands the pair of offset o and length n
pub record PairAt (s : List ℕ) (a o n : ℕ) : Type 0 where
  offset : number_at s a 2 ≡ o
  size : number_at s (a + 2) 2 ≡ n

first_pair : (p rest : List ℕ) (a n : ℕ) → a < 65536 → n < 65536 → PairAt (p ++ pair_of a n ++ rest) (length p) a n
first_pair p rest a n h k =
    let whole : p ++ pair_of a n ++ rest ≡ p ++ (bytes_of 2 a ++ (bytes_of 2 n ++ rest)) = simp append_assoc in
    let later : p ++ pair_of a n ++ rest ≡ p ++ bytes_of 2 a ++ (bytes_of 2 n ++ rest) = simp append_assoc in
    let z : length p + 2 ≡ length (p ++ bytes_of 2 a) = omega (arith, length-append p (bytes_of 2 a), bytes_length 2 a) in
    record {
      offset = ap (λ (s : List ℕ). number_at s (length p) 2) whole ∙ half_at p (bytes_of 2 n ++ rest) a h;
      size = (λ i. number_at (later i) (z i) 2) ∙ half_at (p ++ bytes_of 2 a) rest n k;
    }

pair_at : (p rest : List ℕ) (a : ℕ) (l : List (List ℕ)) (i : ℕ) → i < length l → a + length (join_records l) < 65536
    → PairAt (p ++ (pairs_from a l ++ rest)) (length p + 4 * i) (start_at a l i) (length (get_or l i []))
pair_at p rest a [] i h k = absurd (omega arith)
pair_at p rest a (b ∷ l) zero h k =
    let z : length p + 4 * 0 ≡ length p = omega arith in
    let n : length b < 65536 = omega (arith, join_cons b l) in
    rw (pairs_cons p rest a b l, z, start-zero a (b ∷ l)) (first_pair p (pairs_from (a + length b) l ++ rest) a (length b) (omega arith) n)
pair_at p rest a (b ∷ l) (suc i) h k =
    let q = p ++ pair_of a (length b) in
    let z : length p + 4 * suc i ≡ length q + 4 * i = omega (arith, length-append p (pair_of a (length b)), pair_length a (length b)) in
    let low : a + length b + length (join_records l) < 65536 = omega (arith, join_cons b l) in
    rw (pairs_cons p rest a b l, z, start-suc a b l i) (pair_at q rest (a + length b) l i (omega arith) low)

-- ---- the parts

part_at : (q : List ℕ) (l : List (List ℕ)) (i : ℕ) → i < length l
    → take (length (get_or l i [])) (drop (start_at (length q) l i) (q ++ join_records l)) ≡ get_or l i []
unfolding start_at join_records
part_at q [] i h = absurd (omega arith)
part_at q (b ∷ l) zero h = rw (drop-append_seam q (b ++ join_records l)) (take-append_seam b (join_records l))
part_at q (b ∷ l) (suc i) h = rw (← length-append q b, ← append_assoc q b (join_records l)) (part_at (q ++ b) l i (omega arith))

-- a list is its entries, in order
all_from : (m d : List (List ℕ)) (k : ℕ) → length d ≡ k → map (λ (i : ℕ). get_or (d ++ m) i []) (count_from (length m) k) ≡ m
unfolding count_from
all_from [] d k e = refl
all_from (b ∷ m) d k e =
    let f : List (List ℕ) → List (List ℕ) = λ (x : List (List ℕ)). map (λ (i : ℕ). get_or x i []) (count_from (length m) (k + 1)) in
    let here : get_or (d ++ (b ∷ m)) k [] ≡ b = rw (← e) (get_or-append_seam d b m []) in
    let more : f (d ++ (b ∷ []) ++ m) ≡ m = all_from m (d ++ (b ∷ [])) (k + 1) (omega (arith, length-append d (b ∷ []), e)) in
    let same : f (d ++ (b ∷ m)) ≡ m = ap f (sym (append_assoc d (b ∷ []) m)) ∙ more in
    λ i. here i ∷ same i

-- ---- the whole file

-- count, pairs, records
pub file_length : (l : List (List ℕ)) → length (file_of l) ≡ 2 + 4 * length l + length (join_records l)
unfolding file_of bytes_of
file_length l =
    let a = 2 + 4 * length l in
    omega (arith, length-append (pairs_from a l) (join_records l), pairs_length a l)

module _ (l : List (List ℕ)) (few : length l ≤ 512) (fits : length (file_of l) < 65536) where
  abbrev n : ℕ
  n = length l

  abbrev a : ℕ
  a = 2 + 4 * n

  abbrev q : List ℕ
  q = bytes_of 2 n ++ pairs_from a l

  q-length : length q ≡ a
  q-length = omega (arith, length-append (bytes_of 2 n) (pairs_from a l), bytes_length 2 n, pairs_length a l)

  file_is : file_of l ≡ q ++ join_records l
  unfolding file_of
  file_is = sym (append_assoc (bytes_of 2 n) (pairs_from a l) (join_records l))

  low : a + length (join_records l) < 65536
  low = omega (arith, file_length l, fits)

  count-is : count_of (file_of l) ≡ n
  unfolding file_of
  count-is = half_at [] (pairs_from a l ++ join_records l) n (omega arith)

  pair : (i : ℕ) → i < n → PairAt (file_of l) (2 + 4 * i) (start_at a l i) (length (get_or l i []))
  unfolding file_of bytes_of
  pair i h = pair_at (bytes_of 2 n) (join_records l) a l i h low

  offset_is : (i : ℕ) → i < n → offset_of (file_of l) i ≡ start_at a l i
  offset_is i h = (pair i h).offset

  length-is : (i : ℕ) → i < n → length_of (file_of l) i ≡ length (get_or l i [])
  length-is i h =
      let z : 4 + 4 * i ≡ 2 + 4 * i + 2 = omega arith in
      rw z (pair i h).size

  -- the m pairs from pair k on
  pairs_tight : (m k : ℕ) → m + k ≡ n → tight_pairs m k (start_at a l k) (file_of l) ≡ Ok tt
  unfolding tight_pairs
  pairs_tight zero k e =
      let z : k ≡ n = omega arith in
      let end : a + length (join_records l) ≡ length (file_of l) = omega (arith, file_length l) in
      rw (z, start_end a l, eq-eqb (a + length (join_records l)) (length (file_of l)) end) refl
  pairs_tight (suc m) k e =
      let h : k < n = omega arith in
      let next : start_at a l k + length_of (file_of l) k ≡ start_at a l (k + 1) =
      ap (λ (x : ℕ). start_at a l k + x) (length-is k h) ∙ sym (start-next a l k h) ∙ ap (start_at a l) (sym (add-one k)) in
      rw (next, eq-eqb (offset_of (file_of l) k) (start_at a l k) (offset_is k h)) (pairs_tight m (k + 1) (omega arith))

  file_tight : tight_file (file_of l) ≡ Ok tt
  unfolding tight_file
  file_tight =
      let two = le-ltb (length (file_of l)) 2 (omega (arith, file_length l)) in
      let table = le-ltb (length (file_of l)) a (omega (arith, file_length l)) in
      rw (count-is, two, le-ltb 512 n few, table, ← start-zero a l) (pairs_tight n 0 (omega arith))

  check_good : check_file (file_of l) ≡ Ok tt
  check_good = tight_file_lem.passes (file_of l) file_tight

  record_is : (i : ℕ) → i < n → record_at (file_of l) i ≡ get_or l i []
  record_is i h =
      ap (λ (p : Result Place Refusal). part_of p (file_of l)) (pair_there (file_of l) i check_good (omega (arith, count-is)))
      ∙ rw (length-is i h, offset_is i h, file_is)
      (subst (λ (x : ℕ). take (length (get_or l i [])) (drop (start_at x l i) (q ++ join_records l)) ≡ get_or l i []) q-length (part_at q l i h))

  records-from : (m k : ℕ) → m + k ≤ n → map (record_at (file_of l)) (count_from m k) ≡ map (λ (i : ℕ). get_or l i []) (count_from m k)
  unfolding count_from
  records-from zero k h = refl
  records-from (suc m) k h = λ i. record_is k (omega arith) i ∷ records-from m (k + 1) (omega arith) i

  pub reads_again : ReadsAgain l
  reads_again = record {
    tight = file_tight;
    sound = check_good;
    count = count-is;
    each = record_is;
    records = ap (λ (x : ℕ). map (record_at (file_of l)) (up_to x)) count-is ∙ records-from n 0 (omega arith) ∙ all_from l [] 0 refl;
  }

-- every list of at most 512 records whose file ends below 65,536
pub file_reads : FileReads
file_reads = record { whole = λ l f h. reads_again l f h }

-- ---- gates

pub gate-length : (e m : ℕ) → length (gate e m) ≡ 14
unfolding gate bytes_of
gate-length e m = refl

gate-mask : (e m : ℕ) → m < 2 ^ 64 → mask (gate e m) ≡ m
unfolding gate
gate-mask e m h = number-at 8 m (e ∷ 0 ∷ 2 ∷ []) (0 ∷ 0 ∷ 0 ∷ []) h

gate-label : (e m : ℕ) → label (gate e m) ≡ 0
unfolding gate bytes_of number_at
gate-label e m = refl

gate_rule : (front : Bool) (m : ℕ) → record_rule (gate (end_byte front) m) ≡ true
unfolding gate bytes_of record_rule definition_rule qubit_rule tail_rule
gate_rule true m = refl
gate_rule false m = refl

gate_some : (e m : ℕ) → 0 < m → m < 2 ^ 64 → empty_set (gate e m) ≡ false
unfolding gate
gate_some e m p h = ap (λ (x : ℕ). eqb 2 2 && eqb x 0) (gate-mask e m h) ∙ ne_eqb m 0 (omega arith)

gate-good : (front : Bool) (m : ℕ) → 0 < m → m < 2 ^ 64 → good (gate (end_byte front) m) ≡ true
unfolding good
gate-good front m p h = and_intro (record_rule s) _ (gate_rule front m) (flip-not (empty_set s) (gate_some (end_byte front) m p h))
  where
    s : List ℕ
    s = gate (end_byte front) m

gate_says : (front : Bool) (m : ℕ) → m < 2 ^ 64
    → record_of (gate (end_byte front) m) ≡ record { front = front; kind = 0; label = 0; qubits = Set m; classical = NoRegister }
unfolding gate bytes_of qubits_by classical_of
gate_says true m h = λ t. record { front = true; kind = 0; label = gate-label 1 m t; qubits = Set (gate-mask 1 m h t); classical = NoRegister }
gate_says false m h = λ t. record { front = false; kind = 0; label = gate-label 0 m t; qubits = Set (gate-mask 0 m h t); classical = NoRegister }

-- a gate with a qubit parses to just its end and its qubits
pub gate_parses : (front : Bool) (m : ℕ) → 0 < m → m < 2 ^ 64
    → parse_record (gate (end_byte front) m) ≡ Ok (record { front = front; kind = 0; label = 0; qubits = Set m; classical = NoRegister })
unfolding parse_record
gate_parses front m p h = rw (gate-good front m p h, gate_says front m h) refl

-- .. and one without is refused 12 (K2)
pub gate-refused : (front : Bool) → parse_record (gate (end_byte front) 0) ≡ Err (EmptySet 0)
unfolding number_at gate bytes_of parse_record good cause_of record_rule definition_rule qubit_rule tail_rule
gate-refused true = refl
gate-refused false = refl

-- records of 14 bytes
module _ {A : Type 0} (f : A → List ℕ) (h : (x : A) → length (f x) ≡ 14) where
  join-length : (l : List A) → length (join_records (map f l)) ≡ 14 * length l
  unfolding join_records
  join-length [] = refl
  join-length (x ∷ l) = length-append (f x) (join_records (map f l)) ∙ omega (arith, h x, join-length l)

  -- the length of a file of such records
  pub gates_length : (l : List A) → length (file_of (map f l)) ≡ 2 + 18 * length l
  gates_length l = omega (arith, file_length (map f l), length-map l f, join-length l)

  -- at most 512 of them read again
  pub gates_read : (l : List A) → length l ≤ 512 → ReadsAgain (map f l)
  gates_read l few = reads_again (map f l) (omega (arith, length-map l f)) (omega (arith, gates_length l))
