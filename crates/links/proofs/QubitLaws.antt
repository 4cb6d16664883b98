-- The qubits of a mask, taken from the lowest up: the next one is the count of trailing zeros, and `m & (m - 1)` is the mask
-- without it; they ascend and are as many as the mask has ones. Assumes nothing.
use mathlib.Core.Path.{◌≡◌, refl, sym, ap, ◌∙◌}
use mathlib.Core.Bool.{Bool, true, false}
use mathlib.Core.List.{List, [], ◌∷◌}
use mathlib.Core.Logic.{◌⊎◌, inl, inr, ⊎_elim}
use Prim.Native.Nat.{ℕ, zero, suc, ◌+◌, ◌-◌, ◌*◌, ◌/◌, ◌%◌, ◌^◌, ◌≤◌, ◌<◌}
use native.Mathlib.Nat.{pow-suc, zero-add}
use native.Mathlib.Numerals.{one-add}
use native.Mathlib.Omega.{arith}
use lib.Dec.{ltb}
use lib.ListN.{length}
use lib.Bits.{bit_and, and_step, and_self}
use lib.Count.{count_trailing_zeros, ones, ones_step}
use borrow.Author.Tests.{lt-ltb}
use Rattle.file.specs.Lists.{all_of}
use Rattle.graph.specs.Soundness.{ascends}
use Rattle.links.specs.Links.{qubits_from, qubits}

-- the lowest digit is 0 or 1
parity : (m : ℕ) → (m % 2 ≡ 0) ⊎ (m % 2 ≡ 1)
parity m = go (m % 2) (omega arith)
  where
    go : (r : ℕ) → r < 2 → (r ≡ 0) ⊎ (r ≡ 1)
    go zero h = inl refl
    go (suc zero) h = inr refl
    go (suc (suc r)) h = absurd (omega arith)

-- one digit more
from_even : (k q m : ℕ) → m % 2 ≡ 0 → qubits_from (suc k) q m ≡ qubits_from k (q + 1) (m / 2)
unfolding qubits_from
from_even k q m o = rw o refl

from_odd : (k q m : ℕ) → m % 2 ≡ 1 → qubits_from (suc k) q m ≡ q ∷ qubits_from k (q + 1) (m / 2)
unfolding qubits_from
from_odd k q m o = rw o refl

clear_odd : (m : ℕ) → m % 2 ≡ 1 → bit_and m (m - 1) ≡ m / 2 * 2
clear_odd m o =
    let h : (m - 1) / 2 ≡ m / 2 = omega arith in
    let l : (m - 1) % 2 ≡ 0 = omega arith in
    rw (and_step m (m - 1), h, l, o, and_self (m / 2)) (omega arith)

clear_even : (m : ℕ) → 0 < m → m % 2 ≡ 0 → bit_and m (m - 1) ≡ bit_and (m / 2) (m / 2 - 1) * 2
clear_even m p o =
    let h : (m - 1) / 2 ≡ m / 2 - 1 = omega arith in
    let l : (m - 1) % 2 ≡ 1 = omega arith in
    rw (and_step m (m - 1), h, l, o) (omega arith)

-- the digits of 2 n are n's, one place up
doubled : (k q n : ℕ) → qubits_from (suc k) q (n * 2) ≡ qubits_from k (q + 1) n
doubled k q n =
    let h : n * 2 / 2 ≡ n = omega arith in
    let l : n * 2 % 2 ≡ 0 = omega arith in
    from_even k q (n * 2) l ∙ rw h refl

next_qubit : (k q m : ℕ) → 0 < m → m < 2 ^ k → qubits_from k q m ≡ (q + count_trailing_zeros k m) ∷ qubits_from k q (bit_and m (m - 1))
unfolding count_trailing_zeros
next_qubit zero q m p h = absurd (omega arith)
next_qubit (suc k) q m p h =
    let bound : m < 2 ^ k * 2 = rw pow-suc at h in
    ⊎_elim
    (λ (o : m % 2 ≡ 0).
    let e : q + suc (count_trailing_zeros k (m / 2)) ≡ q + 1 + count_trailing_zeros k (m / 2) = omega arith in
    let half_pos : 0 < m / 2 = omega arith in
    let half_lt : m / 2 < 2 ^ k = omega arith in
    rw (clear_even m p o, doubled k q, from_even k q m o, o, e) (next_qubit k (q + 1) (m / 2) half_pos half_lt))
    (λ (o : m % 2 ≡ 1).
    let e : q + 0 ≡ q = omega arith in
    rw (clear_odd m o, doubled k q (m / 2), from_odd k q m o, o, e) refl)
    (parity m)

-- "Qubits are taken from the lowest up": the next qubit of a mask, then the others
pub qubits-next : (m : ℕ) → 0 < m → m < 2 ^ 64 → qubits m ≡ count_trailing_zeros 64 m ∷ qubits (bit_and m (m - 1))
qubits-next m p h = rw zero-add at (next_qubit 64 0 m p h)

-- no qubit is left
pub qubits-none : (k q : ℕ) → qubits_from k q 0 ≡ []
unfolding qubits_from
qubits-none zero q = refl
qubits-none (suc k) q = qubits-none k (q + 1)

-- "their count bounds the edges added": there are as many qubits as `count_ones` says
pub count-qubits : (k q m : ℕ) → m < 2 ^ k → length (qubits_from k q m) ≡ ones m
unfolding qubits_from ones
count-qubits zero q m h = let z : m ≡ 0 = omega arith in rw z refl
count-qubits (suc k) q m h =
    let bound : m < 2 ^ k * 2 = rw pow-suc at h in
    let half_lt : m / 2 < 2 ^ k = omega arith in
    let rest : length (qubits_from k (q + 1) (m / 2)) ≡ ones (m / 2) = count-qubits k (q + 1) (m / 2) half_lt in
    ⊎_elim
    (λ (o : m % 2 ≡ 0). rw (ones_step m, o) (rest ∙ sym (zero-add (ones (m / 2)))))
    (λ (o : m % 2 ≡ 1). rw (ones_step m, o) (ap suc rest ∙ sym (one-add (ones (m / 2)))))
    (parity m)

-- at most k qubits
pub few_qubits : (k q m : ℕ) → length (qubits_from k q m) ≤ k
unfolding qubits_from
few_qubits zero q m = omega arith
few_qubits (suc k) q m =
    let rest = few_qubits k (q + 1) (m / 2) in
    ⊎_elim
    (λ (o : m % 2 ≡ 0). rw (from_even k q m o) (omega arith))
    (λ (o : m % 2 ≡ 1). rw (from_odd k q m o) (omega arith))
    (parity m)

-- ---- every entry passes

module _ {A : Type 0} (p : A → Bool) (x : A) (l : List A) where
  pub all_more : p x ≡ true → all_of p l ≡ true → all_of p (x ∷ l) ≡ true
  unfolding all_of
  all_more e r = rw (all_of, e) r

  pub all_first : all_of p (x ∷ l) ≡ true → p x ≡ true
  unfolding all_of
  all_first h = go (p x) refl
    where
      go : (b : Bool) → p x ≡ b → p x ≡ true
      go true e = e
      go false e = absurd (let t = rw (all_of, e) at h in let z : ◌≡◌ {A = ℕ} 0 1 = cc in omega arith)

  pub all_rest : all_of p (x ∷ l) ≡ true → all_of p l ≡ true
  unfolding all_of
  all_rest h = let e = all_first h in rw (all_of, e) at h

-- ---- "Qubits are taken from the lowest up": they ascend

above : (k q m u : ℕ) → u < q → all_of (ltb u) (qubits_from k q m) ≡ true
unfolding qubits_from all_of
above zero q m u h = refl
above (suc k) q m u h =
    let rest = above k (q + 1) (m / 2) u (omega arith) in
    ⊎_elim
    (λ (o : m % 2 ≡ 0). rw (from_even k q m o) rest)
    (λ (o : m % 2 ≡ 1). rw (from_odd k q m o) (all_more (ltb u) q (qubits_from k (q + 1) (m / 2)) (lt-ltb u q h) rest))
    (parity m)

pub qubits_ascend : (k q m : ℕ) → ascends (qubits_from k q m) ≡ true
unfolding qubits_from ascends
qubits_ascend zero q m = refl
qubits_ascend (suc k) q m =
    let rest = qubits_ascend k (q + 1) (m / 2) in
    ⊎_elim
    (λ (o : m % 2 ≡ 0). rw (from_even k q m o) rest)
    (λ (o : m % 2 ≡ 1). rw (from_odd k q m o, above k (q + 1) (m / 2) q (omega arith)) rest)
    (parity m)
