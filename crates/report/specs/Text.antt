-- The programs `blocks` and `blocks_both_ends`: the bytes that they print for a file. Assumes nothing.
use Rattle.std.specs.Prelude.{cond, List, [], ◌∷◌, ◌++◌, ℕ, zero, suc, ◌+◌, ◌/◌, ◌%◌, ltb, length, take, replicate, Option, Ok, Err, Some, None}
use Rattle.file.specs.Lists.{onto}
use Rattle.file.specs.declared.Refusal.{Refusal}
use Rattle.file.specs.Refusals.{number_of, value_of}
use Rattle.graph.specs.declared.CircuitDag.{CircuitDag}
use Rattle.insertion.specs.declared.Loaded.{Loaded}
use Rattle.links.specs.declared.LoadingRule.{LoadingRule}
use Rattle.links.specs.declared.LoadingRule.TheVariants.{NearAll}
use Rattle.insertion.specs.Load.{load_by}
use Rattle.walk.specs.Blocks.{blocks}
use Rattle.report.specs.declared.Text.{Text}

-- the last k decimal digits of n, without zeros in front; 48 is the character 0
unfoldable pub digits : ℕ → ℕ → List ℕ
digits zero n = []
digits (suc k) n = cond (ltb n 10) ((48 + n) ∷ []) (digits k (n / 10) ++ ((48 + n % 10) ∷ []))

-- a number; those of 64 bits have at most 20 digits
abbrev pub decimal : ℕ → List ℕ
decimal n = digits 20 n

-- ".. then its nodes": a space (32) before each
unfoldable pub nodes_text : List ℕ → List ℕ
nodes_text [] = []
nodes_text (v ∷ l) = 32 ∷ (decimal v ++ nodes_text l)

-- "`0: 0 1`": the block number, a colon (58), the nodes; a newline (10) ends every line
abbrev pub line_text : ℕ → List ℕ → List ℕ
line_text k b = decimal k ++ (58 ∷ (nodes_text b ++ (10 ∷ [])))

-- "`0: 0 1`, `1: 2`: block number, then its nodes": a line for each block, from number k on
unfoldable pub lines_text : ℕ → List (List ℕ) → List ℕ
lines_text k [] = []
lines_text k (b ∷ l) = line_text k b ++ lines_text (k + 1) l

-- "`blocks 2`"
unfoldable pub count_text : ℕ → List ℕ
count_text n = 98 ∷ 108 ∷ 111 ∷ 99 ∷ 107 ∷ 115 ∷ 32 ∷ (decimal n ++ (10 ∷ []))

-- "it prints `blocks 2`, `0: 0 1`, `1: 2`"
abbrev pub blocks_text : CircuitDag → List ℕ
blocks_text g = count_text (length (blocks g)) ++ lines_text 0 (blocks g)

-- "with ` at I` where the table has a record or pair"
abbrev pub at_text : Option ℕ → List ℕ
at_text None = []
at_text (Some i) = 32 ∷ 97 ∷ 116 ∷ 32 ∷ decimal i

-- "A refusal prints `refused N`, with ` at I` where the table has a record or pair."
unfoldable pub refused_text : Refusal → List ℕ
refused_text r = 114 ∷ 101 ∷ 102 ∷ 117 ∷ 115 ∷ 101 ∷ 100 ∷ 32 ∷ (decimal (number_of r) ++ (at_text (value_of r) ++ (10 ∷ [])))

-- what a load's outcome prints
abbrev pub loaded_text : Loaded → List ℕ
loaded_text x = elim x.answer [ Ok _ ↦ blocks_text x.graph | Err r ↦ refused_text r ]

-- what a program that loads a file in either way prints for the bytes s
abbrev pub file_text_by : LoadingRule → List ℕ → List ℕ
file_text_by rule s = loaded_text (load_by rule s)

-- "The program `blocks` loads a file", in document 01's way
abbrev pub file_text : List ℕ → List ℕ
file_text s = file_text_by NearAll s

-- a text at the start of an array of 5,120 bytes, zeros behind it
abbrev pub text_of : List ℕ → Text
text_of t = record { length = length t; bytes = onto t (replicate 5120 0) }

-- the bytes that a program prints of it
abbrev pub printed : Text → List ℕ
printed x = take x.length x.bytes
