-- A circuit file made of records, without slack, and what the writers leave in a lent buffer. Assumes nothing.
use Rattle.std.specs.Prelude.{◌≡◌, Bool, cond, List, [], ◌∷◌, ◌++◌, map, ℕ, zero, suc, ◌+◌, ◌*◌, ◌/◌, ◌%◌, ◌≤◌, ◌<◌, ltb, leb, length, get_or, Result, Ok, Err}
use Rattle.file.specs.Lists.{onto, put_at}
use Rattle.file.specs.Pairs.{count_of, check_file, record_at, records_of}
use Rattle.file.specs.Tight.{tight_file}
use Rattle.file.specs.declared.Refusal.{Refusal}
use Rattle.file.specs.declared.Refusal.TheVariants.{TooManyRecords, ShortBuffer}
use Rattle.writing.specs.declared.Gate.{Gate}

-- "All fields are unsigned, little-endian": a number as k bytes
unfoldable pub bytes_of : ℕ → ℕ → List ℕ
bytes_of zero x = []
bytes_of (suc k) x = x % 256 ∷ bytes_of k (x / 256)

-- "Then n pairs (offset, length), 2 bytes each": of these records, the first at offset a, "each later one is the
-- previous offset plus its length"
unfoldable pub pairs_from : ℕ → List (List ℕ) → List ℕ
pairs_from a [] = []
pairs_from a (b ∷ l) = bytes_of 2 a ++ (bytes_of 2 (length b) ++ pairs_from (a + length b) l)

-- the records' bytes, one after the other
unfoldable pub join_records : List (List ℕ) → List ℕ
join_records [] = []
join_records (b ∷ l) = b ++ join_records l

-- a file without slack: "The first offset is 2 + 4n, .. and the last part ends at the file's end."
unfoldable pub file_of : List (List ℕ) → List ℕ
file_of l = bytes_of 2 (length l) ++ (pairs_from (2 + 4 * length l) l ++ join_records l)

-- "byte 0, end: 0 back, 1 front"
abbrev pub end_byte : Bool → ℕ
end_byte front = cond front 1 0

-- an ordinary record on a set of qubits, by its end and its mask: kind 0, qubit form 2, register form and label 0
unfoldable pub gate : ℕ → ℕ → List ℕ
gate e m = e ∷ 0 ∷ 2 ∷ (bytes_of 8 m ++ (0 ∷ 0 ∷ 0 ∷ []))

-- .. by its end and its mask as a gate has them
abbrev pub gate_of : Gate → List ℕ
gate_of g = gate (end_byte g.front) g.mask

-- .. of each gate of a list
abbrev pub gates_of : List Gate → List (List ℕ)
gates_of l = map gate_of l

-- ---- read again

-- the file has no slack, passes the check, and has these records and no others
pub record ReadsAgain (l : List (List ℕ)) : Type 0 where
  pub tight : tight_file (file_of l) ≡ Ok tt
  pub sound : check_file (file_of l) ≡ Ok tt
  pub count : count_of (file_of l) ≡ length l
  pub each : (i : ℕ) → i < length l → record_at (file_of l) i ≡ get_or l i []
  pub records : records_of (file_of l) ≡ l

-- .. of at most 512 records, whose offsets are below 65,536
pub record FileReads : Type 0 where
  pub whole : (l : List (List ℕ)) → length l ≤ 512 → length (file_of l) < 65536 → ReadsAgain l

-- ---- written

-- a list put over a buffer's entries from index i on where there is room for all of it; else the buffer stays
unfoldable pub put_if_fits : ℕ → List ℕ → List ℕ → List ℕ
put_if_fits i l buffer = cond (leb (i + length l) (length buffer)) (put_at i l buffer) buffer

-- a writer's answer, and the buffer afterwards
pub record Wrote : Type 0 where
  pub answer : Result ℕ Refusal
  pub buffer : List ℕ

-- "left as it was: buffers"
abbrev pub refuses : Refusal → List ℕ → Wrote
refuses r buffer = record { answer = Err r; buffer = buffer }

-- the file of these records at the buffer's start: "n over 512" 2, then "buffer shorter than the answer" 10; "Entries after the answer keep their
-- old contents."
unfoldable pub write_file : List (List ℕ) → List ℕ → Wrote
write_file l buffer =
    cond (ltb 512 (length l)) (refuses TooManyRecords buffer)
    (cond (ltb (length buffer) (length (file_of l))) (refuses ShortBuffer buffer)
    (record { answer = Ok (length (file_of l)); buffer = onto (file_of l) buffer }))

-- ---- what a private function promises

-- the pairs of n gates, the first at offset a: 14 bytes each
unfoldable pub gate_pairs : ℕ → ℕ → List ℕ
gate_pairs zero a = []
gate_pairs (suc n) a = bytes_of 2 a ++ (bytes_of 2 14 ++ gate_pairs n (a + 14))
