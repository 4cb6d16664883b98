-- The lines by the walk's numbers, as the private functions write them; proofs/LineLaws.antt says that they are the blocks'. Assumes nothing.
use Rattle.std.specs.Prelude.{List, [], ◌++◌, ℕ, zero, suc, ◌+◌, eqb, get_or}
use Rattle.file.specs.Lists.{keep, up_to}
use Rattle.graph.specs.Dag.{absent}
use Rattle.report.specs.Text.{line_text, count_text}

-- the nodes below n whose number is t
abbrev pub in_block : List ℕ → ℕ → ℕ → List ℕ
in_block numbers n t = keep (λ v. eqb (get_or numbers v absent) t) (up_to n)

-- the lines of k blocks, from block t on
unfoldable pub lines_by : List ℕ → ℕ → ℕ → ℕ → List ℕ
lines_by numbers n zero t = []
lines_by numbers n (suc k) t = line_text t (in_block numbers n t) ++ lines_by numbers n k (t + 1)

-- the count and the lines
abbrev pub numbers_text : List ℕ → ℕ → ℕ → List ℕ
numbers_text numbers n count = count_text count ++ lines_by numbers n count 0
