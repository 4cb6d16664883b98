-- The writers: a part at a position of a lent buffer, and the loops of a file of gates. Assumes nothing.
use mathlib.Core.Path.{◌≡◌, refl, sym, ◌∙◌, ap}
use mathlib.Core.Bool.{Bool, true, false}
use mir.Val.{bool_byte}
use Rattle.writing.specs.declared.Gate.{Gate}
use mathlib.Core.List.{List, [], ◌∷◌, ◌++◌, map}
use Prim.Native.Nat.{ℕ, zero, suc, ◌+◌, ◌*◌, ◌-◌, ◌≤◌, ◌<◌}
use native.Mathlib.Omega.{arith}
use Rattle.std.proofs.Math.Nat.{div-div-eq-div-mul}
use lib.ListN.{length, get_or, take, drop, drop_of_length-le, length-map}
use lib.Seq.{drop-drop, drop-cons}
use native.Mathlib.Numerals.{add-one}
use borrow.Rule.Slice.PartMut.{put_mid}
use Rattle.std.specs.Int.{w16, w64, to_le_bytes}
use borrow.Author.Tests.{le-leb, lt-leb, le-ltb, lt-ltb}
use Rattle.file.specs.Lists.{onto, put_at}
use Rattle.file.specs.declared.Refusal.TheVariants.{TooManyRecords, ShortBuffer}
use Rattle.file.proofs.PutLaws.{put-none, put-put, put-onto, length-put}
use Rattle.writing.specs.Writing.{bytes_of, end_byte, gate, gate_of, pairs_from, join_records, file_of, put_if_fits, gate_pairs, Wrote, refuses, write_file}
use Rattle.writing.proofs.WritingLaws.{bytes_length, gates_length}
use Rattle.std.specs.Prelude.{Ok}

-- ---- a part at a position

pub put_fits : (i : ℕ) (l b : List ℕ) → i + length l ≤ length b → put_if_fits i l b ≡ put_at i l b
unfolding put_if_fits
put_fits i l b h = rw (le-leb _ _ h) refl

pub put_over : (i : ℕ) (l b : List ℕ) → length b < i + length l → put_if_fits i l b ≡ b
unfolding put_if_fits
put_over i l b h = rw (lt-leb _ _ h) refl

-- the bytes behind a part's place that a write of the part left
pub put_part_fits : (i n : ℕ) (l r b : List ℕ) → n ≡ length l → n ≤ length b → i ≤ length b - n → r ≡ l → put_mid i (i + n - i) b r ≡ put_if_fits i l b
put_part_fits i n l r b e h k s =
    let z : i + n - i ≡ n = omega arith in
    let w : i + n ≡ i + length l = omega arith in
    rw (z, s) (ap (λ (y : List ℕ). take i b ++ (l ++ y)) (drop-drop n i b ∙ ap (λ (x : ℕ). drop x b) w) ∙ sym (put_fits i l b (omega arith)))

-- the same bytes
pub put_same : (i : ℕ) (l k b b' : List ℕ) → l ≡ k → b' ≡ put_if_fits i l b → b' ≡ put_if_fits i k b
put_same i l k b b' e h = h ∙ ap (λ (x : List ℕ). put_if_fits i x b) e

-- ---- a number's and a mask's bytes

pub half_bytes : (x : ℕ) → x < 65536 → to_le_bytes w16 x ≡ bytes_of 2 x
unfolding bytes_of
half_bytes x h = refl

pub mask_bytes : (x : ℕ) → to_le_bytes w64 x ≡ bytes_of 8 x
unfolding bytes_of
mask_bytes x = simp div-div-eq-div-mul

-- a gate's bytes: its end, a set, the mask, zeros
pub gate_bytes : (g : Gate) (end : ℕ) (mask : List ℕ) → end ≡ bool_byte g.front → mask ≡ bytes_of 8 g.mask
    → end ∷ 0 ∷ 2 ∷ (mask ++ (0 ∷ 0 ∷ 0 ∷ [])) ≡ gate_of g
unfolding gate
gate_bytes g end mask e f = λ t. (e ∙ front_byte g.front) t ∷ 0 ∷ 2 ∷ (f t ++ (0 ∷ 0 ∷ 0 ∷ []))
  where
    front_byte : (b : Bool) → bool_byte b ≡ end_byte b
    front_byte true = refl
    front_byte false = refl

-- ---- a list behind a list

module _ (i : ℕ) (l r b b' : List ℕ) (h : i + length l ≤ length b) (e : b' ≡ put_if_fits i l b) where
  pub put_then : (j : ℕ) → j ≡ i + length l → put_at j r b' ≡ put_at i (l ++ r) b
  put_then j z = (λ t. put_at (z t) r ((e ∙ put_fits i l b h) t)) ∙ put-put i l r b (omega arith)

  pub put_long : length b' ≡ length b
  put_long = ap length (e ∙ put_fits i l b h) ∙ length-put i l b h

-- ---- the pairs

-- the pairs of records of 14 bytes
module _ {A : Type 0} (f : A → List ℕ) (s : (x : A) → length (f x) ≡ 14) where
  pub pairs_gates : (l : List A) (a : ℕ) → pairs_from a (map f l) ≡ gate_pairs (length l) a
  unfolding pairs_from gate_pairs
  pairs_gates [] a = refl
  pairs_gates (x ∷ l) a =
      let more : pairs_from (a + length (f x)) (map f l) ≡ gate_pairs (length l) (a + 14) =
      ap (λ (m : ℕ). pairs_from (a + m) (map f l)) (s x) ∙ pairs_gates l (a + 14) in
      λ t. bytes_of 2 a ++ (bytes_of 2 (s x t) ++ more t)

pairs_count : (n a : ℕ) → length (gate_pairs n a) ≡ 4 * n
unfolding gate_pairs bytes_of
pairs_count zero a = refl
pairs_count (suc n) a = omega (arith, pairs_count n (a + 14))

-- the loop of put_pairs: the pairs from pair k on are left to write
module _ (n : ℕ) (b₀ : List ℕ) where
  pub record Pairing (b : List ℕ) (k : ℕ) : Type 0 where
    pub few : n ≤ 512
    pub low : k ≤ n
    pub room : 2 + 4 * n ≤ length b₀
    pub long : length b ≡ length b₀
    pub put : put_at (2 + 4 * k) (gate_pairs (n - k) (2 + 4 * n + 14 * k)) b ≡ put_at 2 (gate_pairs n (2 + 4 * n)) b₀

  module _ (b : List ℕ) (k : ℕ) (P : Pairing b k) where
    pub pairs_one : k < n → (b1 b2 : List ℕ) → b1 ≡ put_if_fits (2 + 4 * k) (bytes_of 2 (2 + 4 * n + 14 * k)) b → b2 ≡ put_if_fits (4 + 4 * k) (bytes_of 2 14) b1
        → Pairing b2 (k + 1)
    unfolding gate_pairs
    pairs_one h b1 b2 e f =
        let o = 2 + 4 * n + 14 * k in
        let m = n - (k + 1) in
        let fits1 : 2 + 4 * k + length (bytes_of 2 o) ≤ length b = omega (arith, bytes_length 2 o, P.long, P.room) in
        let same1 : length b1 ≡ length b = put_long (2 + 4 * k) (bytes_of 2 o) [] b b1 fits1 e in
        let fits2 : 4 + 4 * k + length (bytes_of 2 14) ≤ length b1 = omega (arith, bytes_length 2 14, same1, P.long, P.room) in
        let same2 : length b2 ≡ length b1 = put_long (4 + 4 * k) (bytes_of 2 14) [] b1 b2 fits2 f in
        let next : 2 + 4 * n + 14 * (k + 1) ≡ o + 14 = omega arith in
        let left : suc m ≡ n - k = omega arith in
        record {
          few = P.few;
          low = omega arith;
          room = P.room;
          long = same2 ∙ same1 ∙ P.long;
          put = ap (λ (x : ℕ). put_at (2 + 4 * (k + 1)) (gate_pairs m x) b2) next
              ∙ put_then (4 + 4 * k) (bytes_of 2 14) (gate_pairs m (o + 14)) b1 b2 fits2 f (2 + 4 * (k + 1)) (omega (arith, bytes_length 2 14))
              ∙ put_then (2 + 4 * k) (bytes_of 2 o) (bytes_of 2 14 ++ gate_pairs m (o + 14)) b b1 fits1 e (4 + 4 * k) (omega (arith, bytes_length 2 o))
              ∙ ap (λ (x : ℕ). put_at (2 + 4 * k) (gate_pairs x o) b) left
              ∙ P.put;
        }

    pub pairs_all : n ≤ k → b ≡ put_at 2 (gate_pairs n (2 + 4 * n)) b₀
    unfolding gate_pairs
    pairs_all h =
        let z : 0 ≡ n - k = omega arith in
        sym (put-none (2 + 4 * k) b) ∙ ap (λ (x : ℕ). put_at (2 + 4 * k) (gate_pairs x (2 + 4 * n + 14 * k)) b) z ∙ P.put

-- ---- the records

-- the loop of put_gates: the records from record k on are left to write
module _ {A : Type 0} (f : A → List ℕ) (l : List A) (b₀ : List ℕ) where
  pub record Gating (b : List ℕ) (k : ℕ) : Type 0 where
    pub few : length l ≤ 512
    pub room : 2 + 18 * length l ≤ length b₀
    pub long : length b ≡ length b₀
    pub put : put_at (2 + 4 * length l + 14 * k) (join_records (map f (drop k l))) b ≡ put_at (2 + 4 * length l) (join_records (map f l)) b₀

  module _ (b : List ℕ) (k : ℕ) (G : Gating b k) where
    pub gates_one : (d : A) → length (f (get_or l k d)) ≡ 14 → k < length l → (b1 : List ℕ)
        → b1 ≡ put_if_fits (2 + 4 * length l + 14 * k) (f (get_or l k d)) b → Gating b1 (k + 1)
    unfolding join_records
    gates_one d s h b1 e =
        let x = get_or l k d in
        let first : drop k l ≡ x ∷ drop (k + 1) l = rw (add-one k, drop-cons l k d) refl in
        let a = 2 + 4 * length l + 14 * k in
        let rest = join_records (map f (drop (k + 1) l)) in
        let fits : a + length (f x) ≤ length b = omega (arith, s, G.long, G.room) in
        record {
          few = G.few;
          room = G.room;
          long = put_long a (f x) [] b b1 fits e ∙ G.long;
          put = put_then a (f x) rest b b1 fits e (2 + 4 * length l + 14 * (k + 1)) (omega (arith, s))
              ∙ ap (λ (y : List A). put_at a (join_records (map f y)) b) (sym first)
              ∙ G.put;
        }

    pub gates_all : k ≡ length l → b ≡ put_at (2 + 4 * length l) (join_records (map f l)) b₀
    unfolding join_records
    gates_all h =
        let a = 2 + 4 * length l + 14 * k in
        let z : [] ≡ drop k l = sym (drop_of_length-le l (omega arith)) in
        sym (put-none a b) ∙ ap (λ (y : List A). put_at a (join_records (map f y)) b) z ∙ G.put

-- ---- the whole file

module _ {A : Type 0} (f : A → List ℕ) (s : (x : A) → length (f x) ≡ 14) (l : List A) (b : List ℕ) where
  abbrev n : ℕ
  n = length l

  pub gates_many : 512 < n → refuses TooManyRecords b ≡ write_file (map f l) b
  unfolding write_file
  gates_many h = rw (length-map l f, lt-ltb 512 n h) refl

  pub gates_short : n ≤ 512 → length b < 2 + 18 * n → refuses ShortBuffer b ≡ write_file (map f l) b
  unfolding write_file
  gates_short d h = rw (length-map l f, le-ltb 512 n d, gates_length f s l, lt-ltb _ _ h) refl

  -- count, pairs and records, one after the other
  gates_file : 2 + 18 * n ≤ length b → (b1 b2 b3 : List ℕ) → b1 ≡ put_if_fits 0 (bytes_of 2 n) b → b2 ≡ put_at 2 (gate_pairs n (2 + 4 * n)) b1
      → b3 ≡ put_at (2 + 4 * n) (join_records (map f l)) b2 → b3 ≡ onto (file_of (map f l)) b
  unfolding file_of
  gates_file r b1 b2 b3 e1 e2 e3 =
      let m = map f l in
      let p = gate_pairs n (2 + 4 * n) in
      let fits : 0 + length (bytes_of 2 n) ≤ length b = omega (arith, bytes_length 2 n) in
      let long : length b1 ≡ length b = put_long 0 (bytes_of 2 n) [] b b1 fits e1 in
      let z : 2 + 4 * n ≡ 2 + length p = omega (arith, pairs_count n (2 + 4 * n)) in
      let two : 2 ≡ 0 + length (bytes_of 2 n) = omega (arith, bytes_length 2 n) in
      let pairs : pairs_from (2 + 4 * length m) m ≡ p = ap (λ (i : ℕ). pairs_from (2 + 4 * i) m) (length-map l f) ∙ pairs_gates f s l (2 + 4 * n) in
      e3
      ∙ (λ t. put_at (z t) (join_records m) (e2 t))
      ∙ put-put 2 p (join_records m) b1 (omega arith)
      ∙ put_then 0 (bytes_of 2 n) (p ++ join_records m) b b1 fits e1 2 two
      ∙ (λ t. put_at 0 (bytes_of 2 (sym (length-map l f) t) ++ (sym pairs t ++ join_records m)) b)
      ∙ put-onto (file_of m) b

  pub gates_written : n ≤ 512 → 2 + 18 * n ≤ length b → (b1 b2 b3 : List ℕ) → b1 ≡ put_if_fits 0 (bytes_of 2 n) b → b2 ≡ put_at 2 (gate_pairs n (2 + 4 * n)) b1
      → b3 ≡ put_at (2 + 4 * n) (join_records (map f l)) b2
      → ◌≡◌ {A = Wrote} (record { answer = Ok (2 + 18 * n); buffer = b3 }) (write_file (map f l) b)
  unfolding write_file
  gates_written d r b1 b2 b3 e1 e2 e3 =
      let size = gates_length f s l in
      rw (length-map l f, le-ltb 512 n d, le-ltb (length b) (length (file_of (map f l))) (omega (arith, size)))
      (λ t. record { answer = Ok (sym size t); buffer = gates_file r b1 b2 b3 e1 e2 e3 t })
