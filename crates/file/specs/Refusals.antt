-- "Causes of refusal": the paper's number and value of each. Assumes nothing.
use Rattle.std.specs.Prelude.{List, [], ◌∷◌, ◌++◌, ℕ, Option, Some, None, decimal}
use Rattle.file.specs.declared.Refusal.{Refusal}
use Rattle.file.specs.declared.Refusal.TheVariants.{FileTooShort, TooManyRecords, BadPair, BadRecord, TooManyNodes, TooManyEdges}
use Rattle.file.specs.declared.Refusal.TheVariants.{TooManyRegisters, Absent, NotInLayer, ShortBuffer, Unsound, EmptySet}

-- "| cause | number |"
abbrev pub number_of : Refusal → ℕ
number_of FileTooShort = 1  -- "file under 2 bytes or under 2 + 4n"
number_of TooManyRecords = 2  -- "n over 512"
number_of (BadPair i) = 3  -- "a pair breaks its rule"
number_of (BadRecord i) = 4  -- "a record breaks its rule"
number_of TooManyNodes = 5  -- "a 513th node"
number_of (TooManyEdges i) = 6  -- "distinct edges would pass 2,048"
number_of (TooManyRegisters i) = 7  -- "a register map would pass 256"
number_of Absent = 8  -- "node absent, also in a walk's current set; record to be read absent"
number_of NotInLayer = 9  -- "node not in the given layer"
number_of ShortBuffer = 10  -- "buffer shorter than the answer"
number_of Unsound = 11  -- "graph isn't sound"
number_of (EmptySet i) = 12  -- K2: "a Set with mask zero"

-- "| returned |": "number, first such pair", "number, record", "number, 0", or the number alone
abbrev pub value_of : Refusal → Option ℕ
value_of FileTooShort = None
value_of TooManyRecords = None
value_of (BadPair i) = Some i
value_of (BadRecord i) = Some i
value_of TooManyNodes = Some 0
value_of (TooManyEdges i) = Some i
value_of (TooManyRegisters i) = Some i
value_of Absent = None
value_of NotInLayer = None
value_of ShortBuffer = None
value_of Unsound = None
value_of (EmptySet i) = Some i  -- K2: "it returns and leaves what 4 does"

-- a refusal that a record gets by itself, "record (0 on insertion)", with the record's number in its file
abbrev pub at_record : ℕ → Refusal → Refusal
at_record i FileTooShort = FileTooShort
at_record i TooManyRecords = TooManyRecords
at_record i (BadPair k) = BadPair k
at_record i (BadRecord k) = BadRecord i
at_record i TooManyNodes = TooManyNodes
at_record i (TooManyEdges k) = TooManyEdges i
at_record i (TooManyRegisters k) = TooManyRegisters i
at_record i Absent = Absent
at_record i NotInLayer = NotInLayer
at_record i ShortBuffer = ShortBuffer
at_record i Unsound = Unsound
at_record i (EmptySet k) = EmptySet i

-- "with ` at I` where the table has a record or pair"
abbrev pub value_text : Option ℕ → List ℕ
value_text None = []
value_text (Some i) = 32 ∷ 97 ∷ 116 ∷ 32 ∷ decimal i

-- "A refusal prints `refused N`, with ` at I` where the table has a record or pair."
abbrev pub refusal_text : Refusal → List ℕ
refusal_text r = 114 ∷ 101 ∷ 102 ∷ 117 ∷ 115 ∷ 101 ∷ 100 ∷ 32 ∷ (decimal (number_of r) ++ value_text (value_of r))
