-- The loop over a Set's keys. Assumes nothing.
use mathlib.Core.Path.{◌≡◌, sym, ◌∙◌, ap, refl}
use mathlib.Core.Bool.{Bool, true, false, cond, or-true}
use mathlib.Core.Logic.{⊎_elim}
use mathlib.Core.List.{List, [], ◌∷◌, map}
use Prim.Native.Nat.{ℕ, suc, ◌+◌, ◌-◌, ◌<◌, ◌≤◌}
use native.Mathlib.Omega.{arith}
use lib.Dec.{ltb}
use lib.ListN.{length}
use borrow.Author.Tests.{lt-ltb}
use Rattle.file.specs.Lists.{count_from}
use Rattle.file.specs.Records.{entry_name, entry_index, key_at}
use Rattle.file.specs.declared.RegisterKey.{RegisterKey}
use Rattle.graph.specs.declared.Registers.{Registers}
use Rattle.graph.specs.Dag.{Entry, entry, entries_of}
use Rattle.file.proofs.BoolLaws.{bool_cases}
use Rattle.registers.specs.Registers.{Maps, has_key, put, set_keys, with_entries, maps_pass}
use Rattle.registers.specs.RegisterMaps.{keyed, maps_of, Fits, Kept}
use Rattle.registers.proofs.RegisterLists.{put_grows}
use Rattle.registers.proofs.RegisterArrays.{entries_by, kept_own, kept_put}

-- ---- a Set

-- the n entries of the record s from entry k on
abbrev pub entries_from : List ℕ → ℕ → ℕ → ℕ → List Entry
entries_from s v n k = map (λ (k : ℕ). entry (entry_name s k) (entry_index s k) v) (count_from n k)

pub set_step-has : (x : Entry) (xs : List Entry) (r : Maps) → has_key x r.near ≡ true
    → set_keys (x ∷ xs) r ≡ set_keys xs (record { near = put x r.near; far = r.far })
unfolding set_keys
set_step-has x xs r h = ap (λ (b : Bool). set_keys xs (record { near = put x r.near; far = cond b r.far (put x r.far) })) h

pub set_step-new : (x : Entry) (xs : List Entry) (r : Maps) → has_key x r.near ≡ false
    → set_keys (x ∷ xs) r ≡ set_keys xs (record { near = put x r.near; far = put x r.far })
unfolding set_keys
set_step-new x xs r h = ap (λ (b : Bool). set_keys xs (record { near = put x r.near; far = cond b r.far (put x r.far) })) h

pub set_none : (r : Maps) → set_keys [] r ≡ r
unfolding set_keys
set_none r = refl

set_grows : (xs : List Entry) (r : Maps) → (length r.near ≤ length (set_keys xs r).near) × (length r.far ≤ length (set_keys xs r).far)
set_grows [] r = rw (set_none r) (omega arith, omega arith)
set_grows (x ∷ xs) r = ⊎_elim
    (λ (t : has_key x r.near ≡ true).
    let g = set_grows xs (record { near = put x r.near; far = r.far }) in
    rw (set_step-has x xs r t) (omega (arith, put_grows x r.near, g.0), g.1))
    (λ (t : has_key x r.near ≡ false).
    let g = set_grows xs (record { near = put x r.near; far = put x r.far }) in
    rw (set_step-new x xs r t) (omega (arith, put_grows x r.near, g.0), omega (arith, put_grows x r.far, g.1)))
    (bool_cases (has_key x r.near))

set_puts : (x : Entry) (xs : List Entry) (r : Maps) → length (put x r.near) ≤ length (set_keys (x ∷ xs) r).near
set_puts x xs r = ⊎_elim
    (λ (t : has_key x r.near ≡ true). rw (set_step-has x xs r t) (set_grows xs (record { near = put x r.near; far = r.far })).0)
    (λ (t : has_key x r.near ≡ false). rw (set_step-new x xs r t) (set_grows xs (record { near = put x r.near; far = put x r.far })).0)
    (bool_cases (has_key x r.near))

-- a map that passes 256
pub near_passes : (r : Maps) → 256 < length r.near → maps_pass r ≡ true
near_passes r h = rw (lt-ltb 256 (length r.near) h) refl

pub far_passes : (r : Maps) → 256 < length r.far → maps_pass r ≡ true
far_passes r h = rw (lt-ltb 256 (length r.far) h) (or-true (ltb 256 (length r.near)))

module _ (s : List ℕ) (v c : ℕ) (near₀ far₀ : Registers) where
  -- the maps that the whole Set makes
  abbrev pub all_set : Maps
  all_set = set_keys (entries_from s v c 0) (maps_of near₀ far₀)

  -- the entries from k on are left
  pub record Setting (near far : Registers) (k : ℕ) : Type 0 where
    pub near_kept : Kept near₀ near
    pub far_kept : Kept far₀ far
    pub same : set_keys (entries_from s v (c - k) k) (maps_of near far) ≡ all_set

  pub set_begin : Fits near₀ → Fits far₀ → Setting near₀ far₀ 0
  set_begin a b = record { near_kept = kept_own near₀ a; far_kept = kept_own far₀ b; same = let z : c - 0 ≡ c = omega arith in rw z refl }

  module _ {near far : Registers} {k : ℕ} (i : Setting near far k) where
    pub set_done : c ≤ k → (near ≡ with_entries near₀ all_set.near) × (far ≡ with_entries far₀ all_set.far)
    unfolding count_from
    set_done h =
        let z : c - k ≡ 0 = omega arith in
        let e : maps_of near far ≡ all_set = sym (set_none (maps_of near far)) ∙ rw z at i.same in (
          i.near_kept ∙ ap (λ (r : Maps). with_entries near₀ r.near) e,
          i.far_kept ∙ ap (λ (r : Maps). with_entries far₀ r.far) e,
        )

    module _ {key : RegisterKey} (is : key ≡ key_at s k) (h : k < c) where
      -- the entries after this one
      abbrev rest : List Entry
      rest = entries_from s v (c - (k + 1)) (k + 1)

      turn : set_keys (keyed key v ∷ rest) (maps_of near far) ≡ all_set
      unfolding count_from
      turn = let z : c - k ≡ suc (c - (k + 1)) = omega arith in ap (λ (key : RegisterKey). set_keys (keyed key v ∷ rest) (maps_of near far)) is ∙ rw z at i.same

      pub set_near_over : 256 < length (put (keyed key v) (entries_of near)) → maps_pass all_set ≡ true
      set_near_over o = near_passes all_set (rw (← turn) (omega (arith, set_puts (keyed key v) rest (maps_of near far))))

      module _ (near' : Registers) (e : near' ≡ with_entries near (put (keyed key v) (entries_of near))) where
        near_next : Kept near₀ near'
        near_next = kept_put near₀ near near' (keyed key v) i.near_kept e

        pub set_known : has_key (keyed key v) (entries_of near) ≡ true → Setting near' far (k + 1)
        set_known t = record {
          near_kept = near_next;
          far_kept = i.far_kept;
          same = ap (λ (l : List Entry). set_keys rest (record { near = l; far = entries_of far })) (entries_by near _ e)
              ∙ sym (set_step-has (keyed key v) rest (maps_of near far) t)
              ∙ turn;
        }

        module _ (t : has_key (keyed key v) (entries_of near) ≡ false) where
          both : set_keys rest (record { near = put (keyed key v) (entries_of near); far = put (keyed key v) (entries_of far) }) ≡ all_set
          both = sym (set_step-new (keyed key v) rest (maps_of near far) t) ∙ turn

          pub set_far_over : 256 < length (put (keyed key v) (entries_of far)) → maps_pass all_set ≡ true
          set_far_over o = far_passes all_set (rw (← both)
              (omega (arith, (set_grows rest (record { near = put (keyed key v) (entries_of near); far = put (keyed key v) (entries_of far) })).1)))

          pub set_new : (far' : Registers) → far' ≡ with_entries far (put (keyed key v) (entries_of far)) → Setting near' far' (k + 1)
          set_new far' d = record {
            near_kept = near_next;
            far_kept = kept_put far₀ far far' (keyed key v) i.far_kept d;
            same = (λ t. set_keys rest (record { near = entries_by near _ e t; far = entries_by far _ d t })) ∙ both;
          }
