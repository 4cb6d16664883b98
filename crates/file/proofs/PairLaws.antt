-- The header and the pairs: which byte lists are accepted, where each part lies, and the turns of the loop that checks them. Assumes nothing.
use mathlib.Core.Path.{◌≡◌, refl, sym, ◌∙◌, ap}
use mathlib.Core.Bool.{Bool, true, false, cond}
use mathlib.Core.List.{List, [], ◌++◌}
use Prim.Native.Nat.{ℕ, zero, suc, ◌+◌, ◌*◌, ◌-◌, ◌<◌, ◌≤◌}
use native.Mathlib.Omega.{arith}
use native.Mathlib.Numerals.{add-one}
use native.Mathlib.Decide.{ℕ_discrete}
use lib.Dec.{ltb, leb}
use lib.ListN.{length, take, drop, length-take, length-drop, length-append, get_or, get_or-eq_default}
use lib.Seq.{get_or-take, get_or-drop}
use Rattle.std.proofs.lemmas.List.{get_or_append_left, get_or-append-add}
use borrow.Author.Tests.{leb-true, le-leb, lt-leb, ltb-true, ltb-false, lt-ltb, le-ltb}
use Rattle.file.specs.Pairs.{number_at, offset_of, length_of, count_of, check_pairs, header, after_header, check_file, place_from, locate_record, pair_place, record_at}
use Rattle.file.specs.Tight.{OwnParts}
use Rattle.file.specs.declared.Refusal.{Refusal}
use Rattle.file.specs.declared.Refusal.TheVariants.{FileTooShort, TooManyRecords, BadPair, Absent}
use Rattle.file.specs.declared.Place.{Place}
use Rattle.file.specs.Pairs.{stands_at}
use Rattle.std.specs.Prelude.{IfOk, Result, Ok, Err, ⊤}

-- ---- Which byte lists are accepted

-- where what stands before part k ends: the pairs, or part k - 1
unfoldable pub end_before : List ℕ → ℕ → ℕ
end_before s zero = 2 + 4 * count_of s
end_before s (suc k) = offset_of s k + length_of s k

-- "Bytes 0-1: record count n, at most 512. Then n pairs .." K1: "the first offset is at least 2 + 4n, each later one at least the end of the previous
-- part, and the last part ends at or before the file's end"
pub record Accepted (s : List ℕ) : Type 0 where
  pub two : 2 ≤ length s
  pub many : count_of s ≤ 512
  pub pairs : 2 + 4 * count_of s ≤ length s
  pub starts : (k : ℕ) → k < count_of s → end_before s k ≤ offset_of s k
  pub end : end_before s (count_of s) ≤ length s

-- which way a test went, where one way is not the answer
pub was_true : (b : Bool) (x y z : Result ⊤ Refusal) → cond b x y ≡ z → (y ≡ z → ⊥) → (b ≡ true) × (x ≡ z)
was_true true x y z e n = (refl, e)
was_true false x y z e n = absurd (n e)

pub was_false : (b : Bool) (x y z : Result ⊤ Refusal) → cond b x y ≡ z → (x ≡ z → ⊥) → (b ≡ false) × (y ≡ z)
was_false true x y z e n = absurd (n e)
was_false false x y z e n = (refl, e)

pub not-refused : (r : Refusal) → ◌≡◌ {A = Result ⊤ Refusal} (Err r) (Ok tt) → ⊥
not-refused r e = let z : ◌≡◌ {A = ℕ} 0 1 = cc in omega arith

turned : (m k end : ℕ) (s : List ℕ) → check_pairs (suc m) k end s ≡ Ok tt
    → (end ≤ offset_of s k) × (check_pairs m (k + 1) (offset_of s k + length_of s k) s ≡ Ok tt)
unfolding check_pairs
turned m k end s e = let w = was_true (leb end (offset_of s k)) _ _ _ e (not-refused (BadPair k)) in (leb-true _ _ w.0, w.1)

pub end_next : (s : List ℕ) (k : ℕ) → end_before s (k + 1) ≡ offset_of s k + length_of s k
unfolding end_before
end_next s k = rw add-one refl

-- m pairs from pair k on are accepted exactly if each begins no earlier than what stands before it ends, and the last part ends within the file
pairs_start : (m k : ℕ) (s : List ℕ) → check_pairs m k (end_before s k) s ≡ Ok tt → (i : ℕ) → k ≤ i → i < k + m → end_before s i ≤ offset_of s i
pairs_start zero k s e i l h = absurd (omega arith)
pairs_start (suc m) k s e i l h =
    let t = turned m k (end_before s k) s e in
    elim (ℕ_discrete k i) [
      | yes p ↦ rw (← p) t.0
      | no p ↦ pairs_start m (k + 1) s (rw (end_next s k) t.1) i (omega arith) (omega arith)
    ]

pairs_end : (m k n : ℕ) (s : List ℕ) → n ≡ k + m → check_pairs m k (end_before s k) s ≡ Ok tt → end_before s n ≤ length s
unfolding check_pairs
pairs_end zero k n s z e =
    let same : n ≡ k = omega arith in
    rw same (leb-true _ _ (was_true (leb (end_before s k) (length s)) _ _ _ e (not-refused (BadPair (k - 1)))).0)
pairs_end (suc m) k n s z e = pairs_end m (k + 1) n s (omega arith) (rw (end_next s k) (turned m k (end_before s k) s e).1)

pairs_good : (m k n : ℕ) (s : List ℕ) → n ≡ k + m → ((i : ℕ) → i < n → end_before s i ≤ offset_of s i) → end_before s n ≤ length s
    → check_pairs m k (end_before s k) s ≡ Ok tt
unfolding check_pairs
pairs_good zero k n s z f e =
    let same : n ≡ k = omega arith in
    rw (le-leb (end_before s k) (length s) (rw same at e)) refl
pairs_good (suc m) k n s z f e = rw (le-leb (end_before s k) (offset_of s k) (f k (omega arith)), ← end_next s k) (pairs_good m (k + 1) n s (omega arith) f e)

pub accepted : (s : List ℕ) → check_file s ≡ Ok tt → Accepted s
unfolding check_file end_before
accepted s e =
    let a = was_false (ltb (length s) 2) _ _ _ e (not-refused FileTooShort) in
    let b = was_false (ltb 512 (count_of s)) _ _ _ a.1 (not-refused TooManyRecords) in
    let d = was_false (ltb (length s) (2 + 4 * count_of s)) _ _ _ b.1 (not-refused FileTooShort) in
    record {
      two = ltb-false _ _ a.0;
      many = ltb-false _ _ b.0;
      pairs = ltb-false _ _ d.0;
      starts = λ k l. pairs_start (count_of s) 0 s d.1 k (omega arith) (omega arith);
      end = pairs_end (count_of s) 0 (count_of s) s (omega arith) d.1;
    }

pub accepts : (s : List ℕ) → Accepted s → check_file s ≡ Ok tt
unfolding check_file end_before
accepts s a = rw (le-ltb _ _ a.two, le-ltb _ _ a.many, le-ltb _ _ a.pairs) (pairs_good (count_of s) 0 (count_of s) s (omega arith) a.starts a.end)

-- ---- Where a record's part lies

-- no part ends before one that stands before it
ends_rise : (s : List ℕ) → Accepted s → (k m : ℕ) → k + m ≤ count_of s → end_before s k ≤ end_before s (k + m)
ends_rise s a k zero h = let z : k + 0 ≡ k = omega arith in rw z (omega arith)
ends_rise s a k (suc m) h =
    let z : k + suc m ≡ k + m + 1 = omega arith in
    rw (z, end_next s (k + m)) (omega (arith, ends_rise s a k m (omega arith), a.starts (k + m) (omega arith)))

-- record i's part lies within the file
pub inside : (s : List ℕ) (i : ℕ) → check_file s ≡ Ok tt → i < count_of s → offset_of s i + length_of s i ≤ length s
inside s i e l =
    let a = accepted s e in
    let r = ends_rise s a (i + 1) (count_of s - (i + 1)) (omega arith) in
    let z : i + 1 + (count_of s - (i + 1)) ≡ count_of s = omega arith in
    omega (arith, a.end, end_next s i, rw z at r)

-- on a file that passed the check a record's own pair says where it stands
pub pair_located : (s : List ℕ) (i : ℕ) → check_file s ≡ Ok tt → pair_place s i ≡ locate_record s i
unfolding pair_place
pair_located s i e =
    let a = accepted s e in
    rw (e, le-ltb _ _ a.two, le-ltb _ _ a.many, le-ltb _ _ a.pairs) (go (ltb i (count_of s)) refl)
  where
    go : (b : Bool) → ltb i (count_of s) ≡ b
        → cond b (cond (ltb (length s) (offset_of s i + length_of s i)) (Err (BadPair i)) (stands_at (offset_of s i) (length_of s i))) (Err Absent)
        ≡ cond b (stands_at (offset_of s i) (length_of s i)) (Err Absent)
    go true h = rw (le-ltb _ _ (inside s i e (ltb-true _ _ h))) refl
    go false h = refl

-- .. and record i is there
pub pair_there : (s : List ℕ) (i : ℕ) → check_file s ≡ Ok tt → i < count_of s → pair_place s i ≡ stands_at (offset_of s i) (length_of s i)
pair_there s i e l = pair_located s i e ∙ rw (e, lt-ltb _ _ l) refl

-- .. and behind the last there is none
pub no_record : (s : List ℕ) (i : ℕ) → check_file s ≡ Ok tt → count_of s ≤ i → record_at s i ≡ []
no_record s i e l = rw (pair_located s i e, e, le-ltb _ _ l) refl

-- a record has the length that its pair gives
pub part_length : (s : List ℕ) (i : ℕ) → check_file s ≡ Ok tt → i < count_of s → length (record_at s i) ≡ length_of s i
part_length s i e l = rw (pair_there s i e l) (simp (length-take, length-drop) (omega (arith, inside s i e l)))

-- K1: "Reading record i still returns only its own part"
pub own_parts : OwnParts
unfolding end_before
own_parts s e i l =
    let a = accepted s e in
    let at = pair_located s i e in
    record {
      behind = let z : 0 + i ≡ i = omega arith in let r = ends_rise s a 0 i (omega arith) in omega (arith, rw z at r, a.starts i l);
      apart = λ j h k.
          let z : i + 1 + (j - (i + 1)) ≡ j = omega arith in
          let r = ends_rise s a (i + 1) (j - (i + 1)) (omega arith) in
          omega (arith, rw z at r, end_next s i, a.starts j k);
      inside = inside s i e l;
      reads = sym at ∙ pair_there s i e l;
      whole = rw at at (part_length s i e l);
      loads = rw at refl;
    }

-- two places are one only if they have the same offset and length
same_place : (a b o l : ℕ) → stands_at a b ≡ stands_at o l → (a ≡ o) × (b ≡ l)
same_place a b o l e =
    let h : ◌≡◌ {A = Place} (record { offset = a; length = b }) (record { offset = o; length = l }) = cc in
    (ap (λ (p : Place). p.offset) h, ap (λ (p : Place). p.length) h)

-- a record that is located lies within the file
pub located : (s : List ℕ) (i o l : ℕ) → locate_record s i ≡ stands_at o l → o + l ≤ length s
located s i o l = go (check_file s) refl
  where
    sure : (b : Bool) → cond b (stands_at (offset_of s i) (length_of s i)) (Err Absent) ≡ stands_at o l → (b ≡ true) × ((offset_of s i ≡ o) × (length_of s i ≡ l))
    sure true e = (refl, same_place _ _ _ _ e)
    sure false e = let z : ◌≡◌ {A = ℕ} 0 1 = cc in absurd (omega arith)

    go : (f : Result ⊤ Refusal) → check_file s ≡ f → place_from f s i ≡ stands_at o l → o + l ≤ length s
    go (Err r) h e = let z : ◌≡◌ {A = ℕ} 0 1 = cc in absurd (omega arith)
    go (Ok _) h e =
        let t = sure (ltb i (count_of s)) e in
        let g = inside s i h (ltb-true _ _ t.0) in
        omega (arith, t.1.0, t.1.1, g)

-- record i of an accepted file is "offset to offset plus length" of it
pub located_at : (s : List ℕ) (i : ℕ) → check_file s ≡ Ok tt → i < count_of s → record_at s i ≡ take (length_of s i) (drop (offset_of s i) s)
located_at s i e l = rw (pair_there s i e l) refl

-- ---- Fields past the end

-- "a byte past the end counts as 0"
pub field_past : (s : List ℕ) (a : ℕ) → length s ≤ a → number_at s a 2 ≡ 0
unfolding number_at
field_past s a l = rw (get_or-eq_default s 0 l, get_or-eq_default s 0 (le_step l)) refl
  where
    le_step : length s ≤ a → length s ≤ a + 1
    le_step h = omega arith

-- ---- The header, and what comes behind it

-- a header that is there
pub record Header (s : List ℕ) (n : ℕ) : Type 0 where
  pub count : n ≡ count_of s
  pub many : n ≤ 512
  pub fits : 2 + 4 * n ≤ length s

pub no_bytes : (s : List ℕ) → length s < 2 → Err FileTooShort ≡ header s
unfolding header
no_bytes s l = rw (lt-ltb _ _ l) refl

-- what a field that was read is
abbrev pub Field : List ℕ → ℕ → ℕ → Type 0
Field s a r = (r ≡ number_at s a 2) × (r < 65536)

module _ (s : List ℕ) (n : ℕ) (two : 2 ≤ length s) (h : Field s 0 n) where
  pub over : 512 < n → Err TooManyRecords ≡ header s
  unfolding header
  over g = rw (le-ltb _ _ two, ← h.0, lt-ltb _ _ g) refl

  pub short : n ≤ 512 → length s < 2 + 4 * n → Err FileTooShort ≡ header s
  unfolding header
  short l g = rw (le-ltb _ _ two, ← h.0, le-ltb _ _ l, lt-ltb _ _ g) refl

  pub there : n ≤ 512 → 2 + 4 * n ≤ length s → Ok n ≡ header s
  unfolding header
  there l g = rw (le-ltb _ _ two, ← h.0, le-ltb _ _ l, le-ltb _ _ g) refl

-- what stands behind a header is reached exactly where the header is there
pub behind : {A : Type 0} (s : List ℕ) (refuse : Refusal → A) (x : A) → after_header s refuse x ≡ elim (header s) [ Ok _ ↦ x | Err c ↦ refuse c ]
unfolding header
behind s refuse x = go (ltb (length s) 2) (ltb 512 (count_of s)) (ltb (length s) (2 + 4 * count_of s))
  where
    after : {B : Type 0} → (Refusal → B) → B → Bool → Bool → Bool → B
    after f y a b c = cond a (f FileTooShort) (cond b (f TooManyRecords) (cond c (f FileTooShort) y))

    go : (a b c : Bool) → after refuse x a b c ≡ elim (after Err (Ok (count_of s)) a b c) [ Ok _ ↦ x | Err r ↦ refuse r ]
    go true b c = refl
    go false true c = refl
    go false false true = refl
    go false false false = refl

pub header_there : (s : List ℕ) (n : ℕ) → header s ≡ Ok n → Header s n
unfolding header
header_there s n e = go (ltb (length s) 2) (ltb 512 (count_of s)) (ltb (length s) (2 + 4 * count_of s)) refl refl refl e
  where
    go : (a b c : Bool) → ltb (length s) 2 ≡ a → ltb 512 (count_of s) ≡ b → ltb (length s) (2 + 4 * count_of s) ≡ c
        → cond a (Err FileTooShort) (cond b (Err TooManyRecords) (cond c (Err FileTooShort) (Ok (count_of s)))) ≡ Ok n → Header s n
    go true b c x y z e = let z : ◌≡◌ {A = ℕ} 0 1 = cc in absurd (omega arith)
    go false true c x y z e = let z : ◌≡◌ {A = ℕ} 0 1 = cc in absurd (omega arith)
    go false false true x y z e = let z : ◌≡◌ {A = ℕ} 0 1 = cc in absurd (omega arith)
    go false false false x y z e =
        let same : count_of s ≡ n = cc in
        record { count = sym same; many = omega (arith, ltb-false _ _ y); fits = omega (arith, ltb-false _ _ z) }

-- ---- The turns of `check_file`: what is left of the definition, run from the present state, is the whole

pub record Inv (s : List ℕ) (n end k : ℕ) : Type 0 where
  pub fits : 2 + 4 * n ≤ length s
  pub many : n ≤ 512
  pub bound : end ≤ 131070
  pub same : check_pairs (n - k) k end s ≡ check_file s

pub begin : (s : List ℕ) (n : ℕ) → header s ≡ Ok n → Inv s n (2 + 4 * n) 0
unfolding check_file
begin s n e =
    let h = header_there s n e in
    record {
      fits = h.fits;
      many = h.many;
      bound = omega (arith, h.many);
      same = let z : n - 0 ≡ n = omega arith in rw (z, behind s Err (check_pairs (count_of s) 0 (2 + 4 * count_of s) s), e, h.count) refl;
    }

pub no_pairs : (s : List ℕ) (c : Refusal) → header s ≡ Err c → Err c ≡ check_file s
unfolding check_file
no_pairs s c e = rw (behind s Err (check_pairs (count_of s) 0 (2 + 4 * count_of s) s), e) refl

module _ (s : List ℕ) (n end k : ℕ) (i : Inv s n end k) where
  turn : k < n
      → check_pairs (n - k) k end s ≡ cond (leb end (offset_of s k)) (check_pairs (n - (k + 1)) (k + 1) (offset_of s k + length_of s k) s) (Err (BadPair k))
  unfolding check_pairs
  turn l = let z : n - k ≡ suc (n - (k + 1)) = omega arith in rw z refl

  pub bad : (o : ℕ) → k < n → Field s (2 + 4 * k) o → o < end → Err (BadPair k) ≡ check_file s
  bad o l h b = rw (← i.same, turn l, ← h.0, lt-leb _ _ b) refl

  pub next : (o m : ℕ) → k < n → Field s (2 + 4 * k) o → end ≤ o → Field s (4 + 4 * k) m → Inv s n (o + m) (k + 1)
  next o m l h e g = record {
    fits = i.fits;
    many = i.many;
    bound = omega (arith, h.1, g.1);
    same = let t = rw (← h.0, le-leb _ _ e) at (turn l) in rw (← i.same, t, g.0) refl;
  }

module _ (s : List ℕ) (n end k : ℕ) (i : Inv s n end k) (done : n ≤ k) (low : k ≤ n) where
  stop : check_pairs 0 n end s ≡ check_file s
  stop = let z : n - n ≡ 0 = omega arith in let same : k ≡ n = omega arith in rw z at (rw same at i.same)

  pub whole : end ≤ length s → Ok tt ≡ check_file s
  unfolding check_pairs
  whole e = rw (← stop, le-leb _ _ e) refl

  pub wrong : length s < end → Err (BadPair (n - 1)) ≡ check_file s
  unfolding check_pairs
  wrong e = rw (← stop, lt-leb _ _ e) refl

-- the pairs that are left of the table, from pair k on
pub record PairsLeft (s rest : List ℕ) (n k : ℕ) : Type 0 where
  pub low : k ≤ n
  pub long : length rest ≡ 4 * (n - k)
  pub read : (j : ℕ) → j < 4 * (n - k) → get_or rest j 0 ≡ get_or s (2 + 4 * k + j) 0

pub all_left : (s : List ℕ) (n : ℕ) → 2 + 4 * n ≤ length s → PairsLeft s (take (2 + 4 * n - 2) (drop 2 s)) n 0
all_left s n h = record {
  low = omega arith;
  long = simp (length-take, length-drop) (omega arith);
  read = λ j l. get_or-take (2 + 4 * n - 2) (drop 2 s) j 0 (omega arith) ∙ get_or-drop 2 s j 0;
}

pub none_left : (s rest : List ℕ) (n k : ℕ) → PairsLeft s rest n k → length rest < 4 → n ≤ k
none_left s rest n k left h = omega (arith, left.long)

-- .. one of them, and the others
module _ (s rest : List ℕ) (n k : ℕ) (left : PairsLeft s rest n k) (pair others : List ℕ) (parts : rest ≡ pair ++ others) (four : length pair ≡ 4) where
  lengths : length rest ≡ 4 + length others
  lengths = ap length parts ∙ length-append pair others ∙ ap (λ m. m + length others) four

  pub one_left : k < n
  one_left = omega (arith, lengths, left.long)

  byte : (j : ℕ) → j < 4 → get_or pair j 0 ≡ get_or s (2 + 4 * k + j) 0
  byte j l = sym (get_or_append_left pair others 0 j (omega arith)) ∙ ap (λ x. get_or x j 0) (sym parts) ∙ left.read j (omega (arith, one_left))

  pub pair_offset : (o : ℕ) → Field pair 0 o → Field s (2 + 4 * k) o
  unfolding number_at
  pair_offset o f =
      let a : 2 + 4 * k + 0 ≡ 2 + 4 * k = omega arith in
      (f.0 ∙ rw (byte 0 (omega arith), byte 1 (omega arith), a) refl, f.1)

  pub pair_length : (l : ℕ) → Field pair 2 l → Field s (4 + 4 * k) l
  unfolding number_at
  pair_length l f =
      let a : 2 + 4 * k + 2 ≡ 4 + 4 * k = omega arith in
      let b : 2 + 4 * k + 3 ≡ 4 + 4 * k + 1 = omega arith in
      (f.0 ∙ rw (byte 2 (omega arith), byte 3 (omega arith), a, b) refl, f.1)

  pub fewer_left : PairsLeft s others n (k + 1)
  fewer_left = record {
    low = omega (arith, one_left);
    long = omega (arith, lengths, left.long, one_left);
    read = λ j l.
        let z : 4 + j ≡ length pair + j = omega arith in
        let y : 2 + 4 * k + (4 + j) ≡ 2 + 4 * (k + 1) + j = omega arith in
        sym (get_or-append-add pair others j 0) ∙ (λ t. get_or (sym parts t) (sym z t) 0) ∙ left.read (4 + j) (omega (arith, one_left)) ∙ ap (λ i. get_or s i 0) y;
  }

-- ---- The answers of `locate_pair` and `part_at`

-- a pair behind a header that is there
abbrev pub pair_from : List ℕ → ℕ → Result Place Refusal
pair_from s i =
    cond (ltb i (count_of s)) (cond (ltb (length s) (offset_of s i + length_of s i)) (Err (BadPair i)) (stands_at (offset_of s i) (length_of s i)))
    (Err Absent)

pub no_header : (s : List ℕ) (i : ℕ) (c : Refusal) → header s ≡ Err c → Err c ≡ pair_place s i
unfolding pair_place
no_header s i c e = rw (behind s Err (pair_from s i), e) refl

module _ (s : List ℕ) (i n : ℕ) (e : header s ≡ Ok n) where
  pub pair_absent : n ≤ i → Err Absent ≡ pair_place s i
  unfolding pair_place
  pair_absent g = rw (behind s Err (pair_from s i), e, ← (header_there s n e).count, le-ltb _ _ g) refl

  module _ (there : i < n) (o l : ℕ) (f : Field s (2 + 4 * i) o) (g : Field s (4 + 4 * i) l) where
    pub pair_out : length s < o + l → Err (BadPair i) ≡ pair_place s i
    unfolding pair_place
    pair_out t = rw (behind s Err (pair_from s i), e, ← (header_there s n e).count, lt-ltb _ _ there, ← f.0, ← g.0, lt-ltb _ _ t) refl

    pub pair_at : o + l ≤ length s → stands_at o l ≡ pair_place s i
    unfolding pair_place
    pair_at t = rw (behind s Err (pair_from s i), e, ← (header_there s n e).count, lt-ltb _ _ there, ← f.0, ← g.0, le-ltb _ _ t) refl

-- a record that its pair locates lies within the file
pub pair_inside : (s : List ℕ) (i o l : ℕ) → pair_place s i ≡ stands_at o l → o + l ≤ length s
unfolding pair_place
pair_inside s i o l = go (ltb (length s) 2) (ltb 512 (count_of s)) (ltb (length s) (2 + 4 * count_of s)) (ltb i (count_of s)) (ltb (length s) (offset_of s i + length_of s i)) refl
  where
    go : (a b c d e : Bool) → ltb (length s) (offset_of s i + length_of s i) ≡ e
        → cond a (Err FileTooShort) (cond b (Err TooManyRecords) (cond c (Err FileTooShort)
        (cond d (cond e (Err (BadPair i)) (stands_at (offset_of s i) (length_of s i))) (Err Absent)))) ≡ stands_at o l → o + l ≤ length s
    go true b c d e h p = let z : ◌≡◌ {A = ℕ} 0 1 = cc in absurd (omega arith)
    go false true c d e h p = let z : ◌≡◌ {A = ℕ} 0 1 = cc in absurd (omega arith)
    go false false true d e h p = let z : ◌≡◌ {A = ℕ} 0 1 = cc in absurd (omega arith)
    go false false false false e h p = let z : ◌≡◌ {A = ℕ} 0 1 = cc in absurd (omega arith)
    go false false false true true h p = let z : ◌≡◌ {A = ℕ} 0 1 = cc in absurd (omega arith)
    go false false false true false h p =
        let x = same_place (offset_of s i) (length_of s i) o l p in
        omega (arith, x.0, x.1, ltb-false (length s) (offset_of s i + length_of s i) h)

-- what is located lies within the file
pub pair_fits : (s : List ℕ) (i : ℕ) (r : Result Place Refusal) → r ≡ pair_place s i → IfOk r (λ p. p.offset + p.length ≤ length s)
pair_fits s i (Ok p) e = pair_inside s i p.offset p.length (sym e)
pair_fits s i (Err c) e = tt

pub record_fits : (s : List ℕ) (i : ℕ) (r : Result Place Refusal) → r ≡ locate_record s i → IfOk r (λ p. p.offset + p.length ≤ length s)
record_fits s i (Ok p) e = located s i p.offset p.length (sym e)
record_fits s i (Err c) e = tt

-- the file's check comes before the pair's
pub not_checked : (s : List ℕ) (i : ℕ) (c : Refusal) → check_file s ≡ Err c → Err c ≡ locate_record s i
not_checked s i c e = rw e refl

pub checked : (s : List ℕ) (i : ℕ) (u : ⊤) → check_file s ≡ Ok u → pair_place s i ≡ locate_record s i
checked s i u e = pair_located s i e
