-- How the programs that print answers show a lent buffer. Assumes nothing.
use Rattle.std.specs.Prelude.{List, ◌∷◌, ◌++◌, ℕ, take, decimal, Result, Ok, Err}
use Rattle.std.specs.List.{flat_map}
use Rattle.file.specs.declared.Refusal.{Refusal}
use Rattle.file.specs.Refusals.{refusal_text}

-- a space (32) and a bar (124), then the first nine entries, a space before each
abbrev pub entries_text : List ℕ → List ℕ
entries_text l = 32 ∷ 124 ∷ flat_map (λ v. 32 ∷ decimal v) (take 9 l)

-- a space, the count that was answered or the refusal, and the buffer
abbrev pub answer_text : Result ℕ Refusal → List ℕ → List ℕ
answer_text (Ok k) l = 32 ∷ (decimal k ++ entries_text l)
answer_text (Err r) l = 32 ∷ (refusal_text r ++ entries_text l)
