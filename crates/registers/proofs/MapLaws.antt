-- The register maps of one record, and of the records that are left of a list, from what `enter_record` promises. Assumes nothing.
use mathlib.Core.Path.{◌≡◌, refl, sym, ◌∙◌, ap}
use mathlib.Core.Bool.{Bool, true, false, cond, ◌&&◌}
use mathlib.Core.List.{List, [], ◌∷◌}
use Prim.Native.Nat.{ℕ, ◌+◌, ◌≤◌, ◌<◌}
use native.Mathlib.Omega.{arith}
use native.Mathlib.Numerals.{add-one}
use lib.Dec.{ltb, leb}
use lib.ListN.{length, get_or, take, drop, drop_of_length-le}
use lib.Seq.{drop-cons}
use borrow.Author.Tests.{lt-leb, le-ltb, leb-true}
use Rattle.file.specs.Lists.{all_of}
use Rattle.file.specs.Pairs.{record_at}
use Rattle.file.specs.Records.{front, classical_of, good}
use Rattle.file.specs.declared.Refusal.TheVariants.{TooManyRegisters}
use Rattle.file.specs.declared.InvolvedClassical.TheVariants.{None}
use Rattle.graph.specs.declared.NodeIndex.{NodeIndex}
use Rattle.graph.specs.declared.Registers.{Registers}
use Rattle.graph.specs.Dag.{Entry, entries_of}
use Rattle.graph.specs.Soundness.{keys_distinct, register_map_rule}
use Rattle.file.proofs.BoolLaws.{and_l, and_r}
use Rattle.graph.proofs.SizeLaws.{RegistersSized}
use Rattle.links.specs.declared.LinkedRecords.{LinkedRecords}
use Rattle.links.specs.Links.{FarRule}
use Rattle.links.specs.Linking.{no_links, link_records}
use Rattle.links.proofs.LinkingLaws.{links-between}
use Rattle.registers.specs.declared.Registered.{Registered}
use Rattle.registers.specs.Registers.{Maps, with_entries, registers_after, maps_facing, maps_after, maps_pass, registers_of, stored, maps_stopped, maps_kept}
use Rattle.registers.specs.Registers.{registers_from, enter_records, register_records, register_record}
use Rattle.registers.specs.RegisterMaps.{Fits}
use Rattle.registers.proofs.RegisterArrays.{kept_own}

module _ (first last first' last' : Registers) where
  -- the maps became r, near and far by the end
  abbrev pub Became : Bool → Maps → Type 0
  Became f r = (cond f first' last' ≡ with_entries (cond f first last) r.near) × (cond f last' first' ≡ with_entries (cond f last first) r.far)

  pub is-stored : (f : Bool) (r : Maps) → Became f r → (k : ℕ) → registers_of k first' last' ≡ stored f k first last r
  is-stored true r e k = λ t. registers_of k (e.0 t) (e.1 t)
  is-stored false r e k = λ t. registers_of k (e.1 t) (e.0 t)

  -- maps that fit did not pass 256
  pub has_room : Fits first' → Fits last' → (f : Bool) (r : Maps) → Became f r → maps_pass r ≡ false
  has_room a b true r e = rw (← ap (λ (m : Registers). m.count) e.0, ← ap (λ (m : Registers). m.count) e.1, le-ltb _ _ a.room, le-ltb _ _ b.room) refl
  has_room a b false r e = rw (← ap (λ (m : Registers). m.count) e.0, ← ap (λ (m : Registers). m.count) e.1, le-ltb _ _ a.room, le-ltb _ _ b.room) refl

-- a record without registers leaves both maps
pub nothing : (s : List ℕ) (v : ℕ) (first last : Registers) → None ≡ classical_of s → Fits first → Fits last
    → Became first last first last (front s) (maps_after s v first last)
unfolding registers_after
nothing s v first last e a b = rw (← e) (by_end (front s))
  where
    by_end : (f : Bool) → Became first last first last f (maps_facing f first last)
    by_end true = (kept_own first a, kept_own last b)
    by_end false = (kept_own last b, kept_own first a)

-- ---- A list of records: before the k-th, what is left gives what the whole list gives

module _ (file order : List ℕ) (k : ℕ) (first last : Registers) (before : registers_from file (registers_of k first last) (drop k order) ≡ enter_records file order) where
  pub finish : k ≡ length order → registers_of (length order) first last ≡ enter_records file order
  unfolding registers_from
  finish h = let z : drop k order ≡ [] = drop_of_length-le order {i = k} (omega arith) in ap (λ (n : ℕ). registers_of n first last) (sym h) ∙ rw z at before

  module _ (more : k < length order) (s : List ℕ) (part : s ≡ record_at file (get_or order k 0)) where
    turn : registers_from file (registers_of k first last) (get_or order k 0 ∷ drop (k + 1) order) ≡ enter_records file order
    turn = rw (add-one, ← drop-cons order k 0 more) before

    pub refused : maps_pass (maps_after s k first last) ≡ true → maps_stopped k (TooManyRegisters (get_or order k 0)) ≡ enter_records file order
    unfolding registers_from
    refused h = rw (← part, h, registers_from) at turn

    pub again : (first' last' : Registers) → Fits first' → Fits last' → Became first last first' last' (front s) (maps_after s k first last)
        → registers_from file (registers_of (k + 1) first' last') (drop (k + 1) order) ≡ enter_records file order
    unfolding registers_from
    again first' last' a b e = rw (is-stored first last first' last' (front s) (maps_after s k first last) e (k + 1))
        (rw (← part, has_room first last first' last' a b (front s) (maps_after s k first last) e, registers_from) at turn)

-- ---- The links and the maps together

module _ (rule : FarRule) (file order : List ℕ) (x : LinkedRecords) (made : x ≡ link_records rule file no_links order) where
  -- the records that the links accept
  pub accepted_few : (x.accepted ≤ length order) × (x.accepted ≤ 512)
  accepted_few = let b = links-between rule file order no_links in rw made (omega (arith, b.high), b.few (omega arith))

  pub joined : (r : Registered) → r ≡ enter_records file (take x.accepted order) → record { linked = x; registered = r } ≡ register_records rule file order
  unfolding register_records
  joined r entered = rw (entered, made) refl

-- ---- One record on maps that are handed in

-- the clauses on one map
pub may_be_lent : (v : ℕ) (r : Registers) → RegistersSized r → register_map_rule v r ≡ true → Fits r
may_be_lent v r z h =
    let below : Bool = all_of (λ (x : Entry). ltb x.node v) (entries_of r) in
    record {
      room = leb-true r.count 256 (and_l (leb r.count 256) (keys_distinct r && below) h);
      keys = and_l (keys_distinct r) below (and_r (leb r.count 256) (keys_distinct r && below) h);
      sized = record { name = z.name; index = z.index; node = z.node };
    }

pub both_lent : (v : ℕ) (first last : Registers) → RegistersSized first → RegistersSized last
    → (register_map_rule v first && register_map_rule v last) ≡ true → Fits first × Fits last
both_lent v first last z y h = (
  may_be_lent v first z (and_l (register_map_rule v first) (register_map_rule v last) h),
  may_be_lent v last y (and_r (register_map_rule v first) (register_map_rule v last) h),
)

module _ (i : ℕ) (first last : Registers) (s : List ℕ) (v : NodeIndex) (sound : (register_map_rule v.0 first && register_map_rule v.0 last) ≡ true)
    (keeps : good s ≡ true) (free : v.0 < 512) where
  pub too_many : maps_pass (maps_after s v.0 first last) ≡ true → maps_kept v first last (TooManyRegisters i) ≡ register_record i first last s v
  unfolding register_record
  too_many h = rw (sound, keeps, lt-leb 512 v.0 free, h) refl

  pub entered : (first' last' : Registers) → Fits first' → Fits last' → Became first last first' last' (front s) (maps_after s v.0 first last)
      → registers_of (v.0 + 1) first' last' ≡ register_record i first last s v
  unfolding register_record
  entered first' last' a b e = rw (sound, keeps, lt-leb 512 v.0 free, has_room first last first' last' a b (front s) (maps_after s v.0 first last) e)
      (is-stored first last first' last' (front s) (maps_after s v.0 first last) e (v.0 + 1))
