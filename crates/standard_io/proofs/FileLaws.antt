-- An input of several files: its first file and the rest. Assumes nothing.
use Rattle.std.proofs.Common.{◌≡◌, ℕ, zero, suc, ◌+◌, ◌-◌, ◌*◌, ◌≤◌, ◌<◌, List, [], ◌∷◌, length, get_or, take, drop, refl, sym, ◌∙◌, ap, arith, length-drop}
use Rattle.std.specs.Prelude.{cond, leb}
use borrow.Author.Tests.{le-leb, lt-leb}
use lib.Seq.{take-length}
use Rattle.standard_io.specs.Files.{files_from, files_of}

none : (k : ℕ) → files_from k [] ≡ []
unfolding files_from
none zero = refl
none (suc k) = refl

one : (k x : ℕ) → files_from k (x ∷ []) ≡ []
unfolding files_from
one zero x = refl
one (suc k) x = refl

-- any number that is large enough gives the same files
enough : (k j : ℕ) (s : List ℕ) → length s ≤ k → length s ≤ j → files_from k s ≡ files_from j s
unfolding files_from
enough k j [] h i = none k ∙ sym (none j)
enough k j (x ∷ []) h i = one k x ∙ sym (one j x)
enough zero j (x ∷ y ∷ s) h i = absurd (omega arith)
enough (suc k) zero (x ∷ y ∷ s) h i = absurd (omega arith)
enough (suc k) (suc j) (x ∷ y ∷ s) h i =
    let n = x + 256 * y in
    ap (λ (l : List (List ℕ)). cond (leb n (length s)) (take n s ∷ l) [])
    (enough k j (drop n s) (omega (arith, length-drop n s)) (omega (arith, length-drop n s)))

-- too short for a length
pub files_short : (s : List ℕ) → length s < 2 → files_of s ≡ []
files_short [] h = none 0
files_short (x ∷ []) h = one 1 x
files_short (x ∷ y ∷ s) h = absurd (omega arith)

-- a first file that isn't whole
cut : (s : List ℕ) (n : ℕ) → 2 ≤ length s → n ≡ get_or s 0 0 + 256 * get_or s 1 0 → length (drop 2 s) < n → files_of s ≡ []
unfolding files_from
cut [] n h e k = none 0
cut (x ∷ []) n h e k = one 1 x
cut (x ∷ y ∷ s) n h e k = rw (← e, lt-leb n (length s) k) refl

-- a first file, and the files behind it
whole : (s : List ℕ) (n : ℕ) → 2 ≤ length s → n ≡ get_or s 0 0 + 256 * get_or s 1 0 → n ≤ length (drop 2 s)
    → files_of s ≡ take n (drop 2 s) ∷ files_of (drop n (drop 2 s))
unfolding files_from
whole [] n h e k = absurd (omega arith)
whole (x ∷ []) n h e k = absurd (omega arith)
whole (x ∷ y ∷ s) n h e k =
    rw (← e, le-leb n (length s) k)
    (ap (λ (l : List (List ℕ)). take n s ∷ l)
    (enough (suc (length s)) (length (drop n s)) (drop n s) (omega (arith, length-drop n s)) (omega arith)))

-- both, with what stands behind the length as the code's pattern has it
module _ (s : List ℕ) (n : ℕ) (h : 2 ≤ length s) (e : n ≡ get_or s 0 0 + get_or s 1 0 * 256) where
  behind : take (length s - 2) (drop 2 s) ≡ drop 2 s
  behind = ap (λ (k : ℕ). take k (drop 2 s)) (sym (length-drop 2 s)) ∙ take-length (drop 2 s)

  pub files_cut : length (take (length s - 2) (drop 2 s)) < n → files_of s ≡ []
  files_cut k = cut s n h (omega arith) (rw behind at k)

  pub files_whole : n ≤ length (take (length s - 2) (drop 2 s))
      → files_of s ≡ take n (take (length s - 2) (drop 2 s)) ∷ files_of (drop n (take (length s - 2) (drop 2 s)))
  files_whole k = rw behind (whole s n h (omega arith) (rw behind at k))
