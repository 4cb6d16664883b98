-- Files by their bytes, so that the promise is seen to be about something: the condition is met, also with pulses at both ends of which one takes all
-- qubits, case 5 of the bench table stands outside it and is scheduled in K6's way, and case 6 is refused. Assumes nothing.
use Rattle.std.specs.Prelude.{◌≡◌, List, [], ◌∷◌, ◌++◌, ℕ, Ok, Err}
use Rattle.file.specs.declared.Refusal.TheVariants.{ShortBuffer, EmptySet}
use Rattle.links.specs.declared.LoadingRule.TheVariants.{FarAll}
use Rattle.schedule.specs.Schedule.{schedule_by, schedule, Condition}
use Rattle.file.specs.Pairs.{stands_at}

-- an ordinary record without registers, label 0: end, qubit form, and a mask below 256
abbrev pub pulse : ℕ → ℕ → ℕ → List ℕ
pulse end form mask = end ∷ 0 ∷ form ∷ mask ∷ 0 ∷ 0 ∷ 0 ∷ 0 ∷ 0 ∷ 0 ∷ 0 ∷ 0 ∷ 0 ∷ 0 ∷ []

-- "case 2 (56 bytes, all ordinary, labels 0, pairs (14,14) (28,14) (42,14))": B{0} B{1} B{0,1}
abbrev pub case2 : List ℕ
case2 = 3 ∷ 0 ∷ 14 ∷ 0 ∷ 14 ∷ 0 ∷ 28 ∷ 0 ∷ 14 ∷ 0 ∷ 42 ∷ 0 ∷ 14 ∷ 0 ∷ (pulse 0 2 1 ++ pulse 0 2 2 ++ pulse 0 2 3)

-- B All, F{0}, F{1}, B{0,1}
abbrev pub at_both_ends : List ℕ
at_both_ends = 4 ∷ 0 ∷ 18 ∷ 0 ∷ 14 ∷ 0 ∷ 32 ∷ 0 ∷ 14 ∷ 0 ∷ 46 ∷ 0 ∷ 14 ∷ 0 ∷ 60 ∷ 0 ∷ 14 ∷ 0 ∷ (pulse 0 1 0 ++ pulse 1 2 1 ++ pulse 1 2 2 ++ pulse 0 2 3)

-- case 5: B{0} B All B All F{3} B{3}
abbrev pub case5 : List ℕ
case5 = 5 ∷ 0 ∷ 22 ∷ 0 ∷ 14 ∷ 0 ∷ 36 ∷ 0 ∷ 14 ∷ 0 ∷ 50 ∷ 0 ∷ 14 ∷ 0 ∷ 64 ∷ 0 ∷ 14 ∷ 0 ∷ 78 ∷ 0 ∷ 14 ∷ 0
    ∷ (pulse 0 2 1 ++ pulse 0 1 0 ++ pulse 0 1 0 ++ pulse 1 2 8 ++ pulse 0 2 8)

-- case 6: B{} B All
abbrev pub case6 : List ℕ
case6 = 2 ∷ 0 ∷ 10 ∷ 0 ∷ 14 ∷ 0 ∷ 24 ∷ 0 ∷ 14 ∷ 0 ∷ (pulse 0 2 0 ++ pulse 0 1 0)

-- what `schedule` answers on these files, and of which of them it promises demand 3; and `schedule_both_ends` on case 5
pub record Cases : Type 0 where
  -- "blocks {0,1} {2}"; an entry after the answer keeps its old contents
  pub case_2 : schedule case2 (9 ∷ 9 ∷ 9 ∷ 9 ∷ []) ≡ record { answer = Ok 2; buffer = 0 ∷ 0 ∷ 1 ∷ 9 ∷ [] }
  pub case_2_meets : Condition case2
  pub case_2_short : schedule case2 (9 ∷ 9 ∷ []) ≡ record { answer = Err ShortBuffer; buffer = 9 ∷ 9 ∷ [] }
  -- the two pulses at the front fire before the all-qubit pulse that stands before them in the file
  pub both_ends : schedule at_both_ends (9 ∷ 9 ∷ 9 ∷ 9 ∷ []) ≡ record { answer = Ok 3; buffer = 1 ∷ 0 ∷ 0 ∷ 2 ∷ [] }
  pub both_ends_meets : Condition at_both_ends
  -- "Two all-qubit operations and both ends: outside demand 3."
  pub case_5 : schedule case5 (9 ∷ 9 ∷ 9 ∷ 9 ∷ 9 ∷ []) ≡ record { answer = Ok 3; buffer = 0 ∷ 1 ∷ 2 ∷ 0 ∷ 2 ∷ [] }
  pub case_5_outside : Condition case5 → ⊥
  -- K6: "Case 5 gives blocks {0,3} {1} {2} {4}."
  pub case_5_both_ends : schedule_by FarAll case5 (9 ∷ 9 ∷ 9 ∷ 9 ∷ 9 ∷ []) ≡ record { answer = Ok 4; buffer = 0 ∷ 1 ∷ 2 ∷ 0 ∷ 3 ∷ [] }
  -- K2: "Case 6 becomes a refusal", 12 at record 0; the buffer is left
  pub case_6 : schedule case6 (9 ∷ 9 ∷ []) ≡ record { answer = Err (EmptySet 0); buffer = 9 ∷ 9 ∷ [] }
