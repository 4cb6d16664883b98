-- "A record", by the sentences of document 01, K2 and K3 on its bytes. Assumes nothing.
use Rattle.std.specs.Prelude.{Bool, true, false, cond, not, ◌&&◌, ◌||◌, List, ℕ, zero, suc, ◌+◌, ◌*◌, ◌-◌, ltb, leb, eqb, length, get_or, Result, Ok, Err}
use Rattle.file.specs.Pairs.{number_at, pair_place, part_of}
use Rattle.file.specs.Refusals.{at_record}
use Rattle.file.specs.declared.Refusal.{Refusal}
use Rattle.file.specs.declared.Refusal.TheVariants.{BadRecord, EmptySet}
use Rattle.file.specs.declared.Place.{Place}
use Rattle.file.specs.declared.RegisterKey.{RegisterKey}
use Rattle.file.specs.declared.Record.{Record}
use Rattle.file.specs.declared.InvolvedQubits.{InvolvedQubits}
use Rattle.file.specs.declared.InvolvedQubits.TheVariants.{None, All, Set}
use Rattle.file.specs.declared.InvolvedClassical.{InvolvedClassical}
use Rattle.file.specs.declared.InvolvedClassical.TheVariants.{None as NoRegister, All as AllOf, AllQubits, Set as SetOf, Definition}

-- "byte 0, end: 0 back, 1 front"; "Byte 0 alone makes an insertion a back or a front one"
abbrev pub front : List ℕ → Bool
front s = eqb (get_or s 0 0) 1

-- "byte 1, kind: 0 ordinary; kinds 1 to 4 are the definitions Bit, Float, Usize, Complex; 5 is InputSymbolic or GateDefinition"
abbrev pub kind : List ℕ → ℕ
kind s = get_or s 1 0

-- "byte 2, qubit form: 0 None, 1 All, 2 Set"
abbrev pub qubit_form : List ℕ → ℕ
qubit_form s = get_or s 2 0

-- "bytes 3-10, 64-bit mask, bit q for qubit q (0 to 63)"
abbrev pub mask : List ℕ → ℕ
mask s = number_at s 3 8

-- "byte 11, register form: 0 None, 1 All, 2 AllQubits, 3 Set, 4 definition"
abbrev pub register_form : List ℕ → ℕ
register_form s = get_or s 11 0

-- "bytes 12-13, label, any value, kept for the host"
abbrev pub label : List ℕ → ℕ
label s = number_at s 12 2

-- "tail: .. 1 and 2 one byte, the register name's number"
abbrev pub name : List ℕ → ℕ
name s = get_or s 14 0

-- "3 a count byte c"
abbrev pub count : List ℕ → ℕ
count s = get_or s 14 0

-- "4 name 1 byte, length 2 bytes"
abbrev pub size : List ℕ → ℕ
size s = number_at s 15 2

-- "c entries (name 1 byte, index 2 bytes)": entry k's name
abbrev pub entry_name : List ℕ → ℕ → ℕ
entry_name s k = get_or s (15 + 3 * k) 0

-- .. its index
abbrev pub entry_index : List ℕ → ℕ → ℕ
entry_index s k = number_at s (16 + 3 * k) 2

-- "kinds 1 to 4 are the definitions"
abbrev pub defines : ℕ → Bool
defines k = leb 1 k && leb k 4

-- "4 exactly for kinds 1 to 4, whose qubit form is 0"
unfoldable pub definition_rule : ℕ → ℕ → ℕ → Bool
definition_rule k q r = cond (defines k) (eqb r 4 && eqb q 0) (not (eqb r 4))

-- "64-bit mask .. zero unless Set; a Set may be zero": such a Set breaks no rule, and is refused 12 (`empty_set` below)
unfoldable pub qubit_rule : ℕ → ℕ → Bool
qubit_rule q m = leb q 2 && (eqb q 2 || eqb m 0)

-- "strictly ascending by name, then index": entry k comes before the next one
unfoldable pub entry_before : List ℕ → ℕ → Bool
entry_before s k =
    ltb (entry_name s k) (entry_name s (k + 1))
    || (eqb (entry_name s k) (entry_name s (k + 1)) && ltb (entry_index s k) (entry_index s (k + 1)))

-- the m + 1 entries from entry k on ascend
unfoldable pub ascend_from : ℕ → ℕ → List ℕ → Bool
ascend_from zero k s = true
ascend_from (suc m) k s = entry_before s k && ascend_from m (k + 1) s

-- "a count byte c, 0 to 16", K3: "Raise c from 16 to 24": the longest register list
abbrev pub most_entries : ℕ
most_entries = 24

-- "3 a count byte c, .. then c entries .., strictly ascending by name, then index"; "The length is exact: .. 15 + 3c"; K3: "stays 15 + 3c"
unfoldable pub set_rule : List ℕ → Bool
set_rule s = eqb (length s) (15 + 3 * count s) && leb (count s) most_entries && ascend_from (count s - 1) 0 s

-- "The length is exact: 14, 15, 15, 15 + 3c or 17."
unfoldable pub tail_rule : List ℕ → Bool
tail_rule s =
    cond (eqb (register_form s) 0) (eqb (length s) 14)
    (cond (eqb (register_form s) 1) (eqb (length s) 15)
    (cond (eqb (register_form s) 2) (eqb (length s) 15)
    (cond (eqb (register_form s) 3) (set_rule s)
    (cond (eqb (register_form s) 4) (eqb (length s) 17)
    false))))

-- a record's rule: what breaks it is refused 4
unfoldable pub record_rule : List ℕ → Bool
record_rule s =
    leb 14 (length s)
    && leb (get_or s 0 0) 1
    && (leb (kind s) 5 && definition_rule (kind s) (qubit_form s) (register_form s))
    && qubit_rule (qubit_form s) (mask s)
    && tail_rule s

-- what a record involves (`InvolvedQubits` of the source), by its form and mask
unfoldable pub qubits_by : ℕ → ℕ → InvolvedQubits
qubits_by q m = cond (eqb q 0) None (cond (eqb q 1) All (Set m))

-- .. of the record s
abbrev pub qubits_of : List ℕ → InvolvedQubits
qubits_of s = qubits_by (qubit_form s) (mask s)

-- "0 None, 1 All, 2 Set": the form's number
abbrev pub form_of : InvolvedQubits → ℕ
form_of None = 0
form_of All = 1
form_of (Set m) = 2

-- which registers a record involves (`InvolvedClassical` of the source)
unfoldable pub classical_of : List ℕ → InvolvedClassical
classical_of s =
    cond (eqb (register_form s) 0) NoRegister
    (cond (eqb (register_form s) 1) (AllOf (name s))
    (cond (eqb (register_form s) 2) (AllQubits (name s))
    (cond (eqb (register_form s) 3) (SetOf (count s))
    (Definition (name s) (size s)))))

-- "0 None, 1 All, 2 AllQubits, 3 Set, 4 definition": the form's number
abbrev pub register_form_of : InvolvedClassical → ℕ
register_form_of NoRegister = 0
register_form_of (AllOf n) = 1
register_form_of (AllQubits n) = 2
register_form_of (SetOf c) = 3
register_form_of (Definition n m) = 4

-- "c entries (name 1 byte, index 2 bytes)": the key of entry k
abbrev pub key_at : List ℕ → ℕ → RegisterKey
key_at s k = record { name = entry_name s k; index = entry_index s k }

-- all that a record says
abbrev pub record_of : List ℕ → Record
record_of s = record { front = front s; kind = kind s; label = label s; qubits = qubits_of s; classical = classical_of s }

-- "only a Set with mask zero is an empty set"
abbrev pub empty_set : List ℕ → Bool
empty_set s = eqb (qubit_form s) 2 && eqb (mask s) 0

-- a record that is taken as far as it alone decides: it keeps its rule, and (K2) has no empty set
unfoldable pub good : List ℕ → Bool
good s = record_rule s && not (empty_set s)

-- why one that is not good is refused: "a record breaks its rule | 4 | number, record (0 on insertion)"; K2: "12, a Set with mask zero, checked after
-- 4 and before 5; it returns and leaves what 4 does"
unfoldable pub cause_of : List ℕ → Refusal
cause_of s = cond (record_rule s) (EmptySet 0) (BadRecord 0)

-- what a record's bytes say, or why they are refused
unfoldable pub parse_record : List ℕ → Result Record Refusal
parse_record s = cond (good s) (Ok (record_of s)) (Err (cause_of s))

-- why record i of the file is not taken, by where it stands: 2, 1, 8, 3, else c, its bytes' own cause, with its number
abbrev pub refusal_from : Result Place Refusal → Refusal → ℕ → Refusal
refusal_from (Err r) c i = r
refusal_from (Ok p) c i = at_record i c

-- what parsing found, a refusal with the record's number
abbrev pub numbered : ℕ → Result Record Refusal → Result Record Refusal
numbered i (Ok r) = Ok r
numbered i (Err c) = Err (at_record i c)

-- record i of the file by its own pair: refused by where it stands, else by its bytes
abbrev pub parse_from : Result Place Refusal → List ℕ → ℕ → Result Record Refusal
parse_from (Err r) s i = Err r
parse_from (Ok p) s i = numbered i (parse_record (part_of (Ok p) s))

-- .. where its pair says that it stands
unfoldable pub parse_at : List ℕ → ℕ → Result Record Refusal
parse_at s i = parse_from (pair_place s i) s i
