-- What passed the rule of the pairs without slack passes the one with it; and both on files by their bytes. Assumes nothing.
use mathlib.Core.Path.{◌≡◌, refl}
use mathlib.Core.List.{List}
use Prim.Native.Nat.{ℕ, zero, suc, ◌+◌, ◌*◌, ◌-◌}
use native.Mathlib.Omega.{arith}
use lib.Dec.{eqb, ltb}
use lib.ListN.{length}
use borrow.Author.Tests.{le-leb, eqb-true}
use Rattle.file.specs.declared.Refusal.TheVariants.{FileTooShort, TooManyRecords, BadPair}
use Rattle.file.specs.Lists.{count_from}
use Rattle.file.specs.Pairs.{number_at, count_of, offset_of, length_of, check_pairs, check_file}
use Rattle.file.specs.Tight.{tight_pairs, tight_file, TightPasses, SlackCases}
use Rattle.file.proofs.PairLaws.{was_true, was_false, not-refused}
use Rattle.std.specs.Prelude.{Ok}

-- pair by pair
tight_pairs_lem : (m k due : ℕ) (s : List ℕ) → tight_pairs m k due s ≡ Ok tt → check_pairs m k due s ≡ Ok tt
unfolding tight_pairs check_pairs
tight_pairs_lem zero k due s e =
    let at : due ≡ length s = eqb-true _ _ (was_true (eqb due (length s)) _ _ _ e (not-refused (BadPair (k - 1)))).0 in
    rw (le-leb due (length s) (omega arith)) refl
tight_pairs_lem (suc m) k due s e =
    let w = was_true (eqb (offset_of s k) due) _ _ _ e (not-refused (BadPair k)) in
    let at : offset_of s k ≡ due = eqb-true _ _ w.0 in
    rw (le-leb due (offset_of s k) (omega arith), at) (tight_pairs_lem m (k + 1) (due + length_of s k) s w.1)

-- the tests of the header are the same
tight_passes : (s : List ℕ) → tight_file s ≡ Ok tt → check_file s ≡ Ok tt
unfolding tight_file check_file
tight_passes s e =
    let a = was_false (ltb (length s) 2) _ _ _ e (not-refused FileTooShort) in
    let b = was_false (ltb 512 (count_of s)) _ _ _ a.1 (not-refused TooManyRecords) in
    let c = was_false (ltb (length s) (2 + 4 * count_of s)) _ _ _ b.1 (not-refused FileTooShort) in
    rw (a.0, b.0, c.0) (tight_pairs_lem (count_of s) 0 (2 + 4 * count_of s) s c.1)

pub tight_file_lem : TightPasses
tight_file_lem = record { passes = tight_passes; reads = λ s i e. rw (tight_passes s e, e) refl }

-- by computing the rules
pub slack_cases : SlackCases
unfolding number_at check_pairs check_file tight_pairs tight_file count_from
slack_cases = record {
  none = (refl, refl);
  before_parts = (refl, refl);
  between = (refl, refl);
  behind_parts = (refl, refl);
  first_read = refl;
  second_read = refl;
  in_table = (refl, refl);
  in_first = (refl, refl);
  past_end = (refl, refl);
  first_past_end = (refl, refl);
  one_offset = (refl, refl);
  no_records = (refl, refl);
  bytes_behind = (refl, refl);
  header = (refl, refl);
}
