-- Marks kept as the bits of 64-bit words: mark c is bit c % 64 of word c / 64. A mark that is clear is set by a sum. Assumes nothing.
use mathlib.Core.Path.{◌≡◌, refl, sym, ◌∙◌, ap}
use mathlib.Core.Bool.{Bool, true, false}
use mathlib.Core.List.{List}
use Prim.Native.Nat.{ℕ, zero, suc, ◌+◌, ◌*◌, ◌/◌, ◌%◌, ◌^◌, ◌<◌}
use native.Mathlib.Nat.{pow-suc, pow-succ', div-div-eq-div-mul}
use native.Mathlib.Omega.{arith}
use native.Mathlib.Decide.{ℕ_discrete}
use lib.Dec.{eqb}
use lib.ListN.{length, get_or, set, replicate}
use lib.Seq.{get_or-set_same, get_or-set_other}
use borrow.Author.Tests.{eqb-true, eq-eqb}
use Rattle.file.proofs.BoolLaws.{clash_bool, split_lt}
use mathlib.Core.Logic.{⊎_elim}

unfoldable bit : ℕ → ℕ → ℕ
bit zero x = x % 2
bit (suc j) x = bit j (x / 2)

bit_shift : (j x : ℕ) → bit j x ≡ x / 2 ^ j % 2
unfolding bit
bit_shift zero x = let z : x % 2 ≡ x / 1 % 2 = omega arith in z
bit_shift (suc j) x = rw (bit_shift j (x / 2), div-div-eq-div-mul x 2 (2 ^ j), ← pow-succ' 2 j) refl

set_same : (b x : ℕ) → bit b x ≡ 0 → bit b (x + 2 ^ b) ≡ 1
unfolding bit
set_same zero x h = let z : (x + 1) % 2 ≡ 1 = omega arith in z
set_same (suc b) x h = let z : (x + 2 ^ b * 2) / 2 ≡ x / 2 + 2 ^ b = omega arith in rw (pow-suc, z) (set_same b (x / 2) h)

set_other : (b j x : ℕ) → bit b x ≡ 0 → (j ≡ b → ⊥) → bit j (x + 2 ^ b) ≡ bit j x
unfolding bit
set_other zero zero x h n = absurd (n refl)
set_other zero (suc j) x h n = let z : (x + 1) / 2 ≡ x / 2 = omega arith in ap (bit j) z
set_other (suc b) zero x h n = rw pow-suc (omega arith)
set_other (suc b) (suc j) x h n =
    let z : (x + 2 ^ b * 2) / 2 ≡ x / 2 + 2 ^ b = omega arith in
    rw (pow-suc, z) (set_other b j (x / 2) h (λ e. n (ap suc e)))

set_fits : (k b x : ℕ) → x < 2 ^ k → b < k → bit b x ≡ 0 → x + 2 ^ b < 2 ^ k
unfolding bit
set_fits zero b x h l e = absurd (omega arith)
set_fits (suc k) zero x h l e = let z : x < 2 ^ k * 2 = rw pow-suc at h in rw (pow-suc 2 k) (omega arith)
set_fits (suc k) (suc b) x h l e =
    let z : x < 2 ^ k * 2 = rw pow-suc at h in
    let i = set_fits k b (x / 2) (omega arith) (omega arith) e in
    rw (pow-suc 2 k, pow-suc 2 b) (omega (arith, i))

zero_bit : (j : ℕ) → bit j 0 ≡ 0
unfolding bit
zero_bit zero = refl
zero_bit (suc j) = zero_bit j

-- a word with a bit that was clear
pub word_fits : (x b : ℕ) → x < 2 ^ 64 → b < 64 → x / 2 ^ b % 2 ≡ 0 → x + 2 ^ b < 2 ^ 64
word_fits x b h l e = set_fits 64 b x h l (bit_shift b x ∙ e)

-- the code's `1 << b`
low_power : (p : ℕ) → p < 2 ^ 64 → (1 * p) % 2 ^ 64 ≡ p
low_power p h = omega arith

pub one_shifted : (b : ℕ) → b < 64 → (1 * 2 ^ b) % 2 ^ 64 ≡ 2 ^ b
one_shifted b h = low_power (2 ^ b) (omega (arith, set_fits 64 b 0 (omega arith) h (zero_bit b)))

-- ---- marks

abbrev pub mark_at : List ℕ → ℕ → Bool
mark_at words c = eqb (get_or words (c / 64) 0 / 2 ^ (c % 64) % 2) 1

pub unset : (n : ℕ) → eqb (n % 2) 1 ≡ false → n % 2 ≡ 0
unset n h = elim (ℕ_discrete (n % 2) 1) [ yes e ↦ absurd (clash_bool (eq-eqb (n % 2) 1 e) h) | no e ↦ (let z : n % 2 ≡ 0 = omega arith in z) ]

pub record MarkedBits (f : ℕ → ℕ) (i : ℕ) (words : List ℕ) : Type 0 where
  pub done : (j : ℕ) → j < i → mark_at words (f j) ≡ true
  pub only : (s : ℕ) → mark_at words s ≡ true → (j : ℕ) × (j < i) × (f j ≡ s)

module _ (words : List ℕ) (c : ℕ) (low : c / 64 < length words) (clear : mark_at words c ≡ false) where
  abbrev x : ℕ
  x = get_or words (c / 64) 0

  clear_bit : bit (c % 64) x ≡ 0
  clear_bit = bit_shift (c % 64) x ∙ unset (x / 2 ^ (c % 64)) clear

  mark_same : mark_at (set words (c / 64) (x + 2 ^ (c % 64))) c ≡ true
  mark_same = rw (get_or-set_same words (c / 64) (x + 2 ^ (c % 64)) 0 low) (eq-eqb _ 1 (sym (bit_shift (c % 64) (x + 2 ^ (c % 64))) ∙ set_same (c % 64) x clear_bit))

  mark_other : (s : ℕ) → (s ≡ c → ⊥) → mark_at (set words (c / 64) (x + 2 ^ (c % 64))) s ≡ mark_at words s
  mark_other s n = elim (ℕ_discrete (s / 64) (c / 64)) [
    | yes e ↦
        let d : s % 64 ≡ c % 64 → ⊥ = λ q. n (omega arith) in
        let w = get_or-set_same words (c / 64) (x + 2 ^ (c % 64)) 0 low in
        let v : (x + 2 ^ (c % 64)) / 2 ^ (s % 64) % 2 ≡ x / 2 ^ (s % 64) % 2
        = sym (bit_shift (s % 64) (x + 2 ^ (c % 64))) ∙ set_other (c % 64) (s % 64) x clear_bit d ∙ bit_shift (s % 64) x in
        rw (e, w, v) refl
    | no e ↦ rw (get_or-set_other words (c / 64) (s / 64) (x + 2 ^ (c % 64)) 0 e) refl
  ]

pub bits_more : (f : ℕ → ℕ) (i : ℕ) (words : List ℕ) → f i / 64 < length words → mark_at words (f i) ≡ false → MarkedBits f i words
    → MarkedBits f (i + 1) (set words (f i / 64) (get_or words (f i / 64) 0 + 2 ^ (f i % 64)))
bits_more f i words low clear m = record {
  done = λ j k. elim (ℕ_discrete (f j) (f i)) [
    | yes e ↦ rw e (mark_same words (f i) low clear)
    | no e ↦ ⊎_elim
        (λ (q : j ≡ i). absurd (e (ap f q)))
        (λ (q : j < i). mark_other words (f i) low clear (f j) e ∙ m.done j q)
        (split_lt j i k)
  ];
  only = λ s h. elim (ℕ_discrete s (f i)) [
    | yes e ↦ (i, omega arith, sym e)
    | no e ↦ let r = m.only s (sym (mark_other words (f i) low clear s e) ∙ h) in (r.0, omega (arith, r.1), r.2)
  ];
}

no_words : (n c : ℕ) → ◌≡◌ {A = ℕ} (get_or (replicate n 0) c 0) 0
no_words zero c = refl
no_words (suc n) zero = refl
no_words (suc n) (suc c) = no_words n c

pub no_bits : (f : ℕ → ℕ) (n : ℕ) → MarkedBits f 0 (replicate n 0)
no_bits f n = record {
  done = λ j k. absurd (omega arith);
  only = λ s e.
      let z : get_or (replicate n 0) (s / 64) 0 / 2 ^ (s % 64) % 2 ≡ 0 = rw (no_words n (s / 64)) (sym (bit_shift (s % 64) 0) ∙ zero_bit (s % 64)) in
      let o = eqb-true (get_or (replicate n 0) (s / 64) 0 / 2 ^ (s % 64) % 2) 1 e in
      absurd (omega (arith, z, o));
}
