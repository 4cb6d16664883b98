-- K1's last two sentences: what was accepted until then, by document 01's rule of the pairs, and what a file that passes says of its parts. Assumes
-- nothing.
use Rattle.std.specs.Prelude.{◌≡◌, cond, List, [], ◌∷◌, ℕ, zero, suc, ◌+◌, ◌*◌, ◌-◌, ◌≤◌, ◌<◌, eqb, length, Result, Ok, Err, ⊤}
use Rattle.file.specs.Lists.{count_from}
use Rattle.file.specs.declared.Refusal.TheVariants.{TooManyRecords, BadPair}
use Rattle.file.specs.Pairs.{count_of, offset_of, length_of, after_header, check_file, place_from, locate_record, part_of, record_at}
use Rattle.file.specs.Pairs.{stands_at}
use Rattle.file.specs.declared.Refusal.{Refusal}

-- document 01: "each later one is the previous offset plus its length, and the last part ends at the file's end": m pairs from pair k on, the first
-- due at `due`. "3 | number, first such pair (0 if n = 0; last pair if the end is wrong)"
unfoldable pub tight_pairs : ℕ → ℕ → ℕ → List ℕ → Result ⊤ Refusal
tight_pairs zero k due s = cond (eqb due (length s)) (Ok tt) (Err (BadPair (k - 1)))
tight_pairs (suc m) k due s = cond (eqb (offset_of s k) due) (tight_pairs m (k + 1) (due + length_of s k) s) (Err (BadPair k))

-- document 01: "The first offset is 2 + 4n"
unfoldable pub tight_file : List ℕ → Result ⊤ Refusal
tight_file s = after_header s Err (tight_pairs (count_of s) 0 (2 + 4 * count_of s) s)

-- K1: "Files accepted until today ..": each passes, and every record of it is read from where it was
pub record TightPasses : Type 0 where
  pub passes : (s : List ℕ) → tight_file s ≡ Ok tt → check_file s ≡ Ok tt
  pub reads : (s : List ℕ) (i : ℕ) → tight_file s ≡ Ok tt → locate_record s i ≡ place_from (tight_file s) s i

-- K1: "Reading record i still returns only its own part": part i lies behind the table, before every later part and within the file; the reader
-- returns it, from its pair's offset on and with its pair's length; and this is what a load hands to the insertion
pub record OwnPart (s : List ℕ) (i : ℕ) : Type 0 where
  pub behind : 2 + 4 * count_of s ≤ offset_of s i
  pub apart : (j : ℕ) → i < j → j < count_of s → offset_of s i + length_of s i ≤ offset_of s j
  pub inside : offset_of s i + length_of s i ≤ length s
  pub reads : locate_record s i ≡ stands_at (offset_of s i) (length_of s i)
  pub whole : length (part_of (locate_record s i) s) ≡ length_of s i
  pub loads : record_at s i ≡ part_of (locate_record s i) s

-- .. of every file that passes
abbrev pub OwnParts : Type 0
OwnParts = (s : List ℕ) → check_file s ≡ Ok tt → (i : ℕ) → i < count_of s → OwnPart s i

-- ---- Both rules on files by their bytes

-- a file of two parts (o, l) and (p, m), with n bytes behind the pairs, each its own offset in the file
abbrev pub two_parts : ℕ → ℕ → ℕ → ℕ → ℕ → List ℕ
two_parts o l p m n = 2 ∷ 0 ∷ o ∷ 0 ∷ l ∷ 0 ∷ p ∷ 0 ∷ m ∷ 0 ∷ count_from n 10

-- what today's rule says of a file, and what document 01's said
abbrev pub Says : List ℕ → Result ⊤ Refusal → Result ⊤ Refusal → Type 0
Says s today before = (check_file s ≡ today) × (tight_file s ≡ before)

-- K1's sentences on single files: where both rules agree, and what is accepted that was refused
pub record SlackCases : Type 0 where
  pub none : Says (two_parts 10 3 13 2 5) (Ok tt) (Ok tt)
  pub before_parts : Says (two_parts 11 3 14 2 6) (Ok tt) (Err (BadPair 0))
  pub between : Says (two_parts 10 3 15 2 7) (Ok tt) (Err (BadPair 1))
  pub behind_parts : Says (two_parts 10 3 13 2 6) (Ok tt) (Err (BadPair 1))
  -- .. and the two parts of the file with slack between them
  pub first_read : part_of (locate_record (two_parts 10 3 15 2 7) 0) (two_parts 10 3 15 2 7) ≡ 10 ∷ 11 ∷ 12 ∷ []
  pub second_read : part_of (locate_record (two_parts 10 3 15 2 7) 1) (two_parts 10 3 15 2 7) ≡ 15 ∷ 16 ∷ []
  pub in_table : Says (two_parts 9 3 13 2 5) (Err (BadPair 0)) (Err (BadPair 0))
  pub in_first : Says (two_parts 10 3 12 2 5) (Err (BadPair 1)) (Err (BadPair 1))
  pub past_end : Says (two_parts 10 3 13 3 5) (Err (BadPair 1)) (Err (BadPair 1))
  pub first_past_end : Says (two_parts 10 9 13 2 5) (Err (BadPair 1)) (Err (BadPair 1))
  pub one_offset : Says (two_parts 10 0 10 5 5) (Ok tt) (Ok tt)
  pub no_records : Says (0 ∷ 0 ∷ []) (Ok tt) (Ok tt)
  pub bytes_behind : Says (0 ∷ 0 ∷ 7 ∷ []) (Ok tt) (Err (BadPair 0))
  pub header : Says (1 ∷ 2 ∷ []) (Err TooManyRecords) (Err TooManyRecords)
