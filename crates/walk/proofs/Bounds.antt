-- What is asked of all numbers below a bound: some pass, the greatest value, how many pass. Assumes nothing.
use mathlib.Core.Path.{◌≡◌, refl, sym, ◌∙◌}
use mathlib.Core.Bool.{Bool, true, false, ◌&&◌, ◌||◌, cond}
use mathlib.Core.Logic.{◌⊎◌, inl, inr, ⊎_elim}
use Prim.Native.Nat.{ℕ, zero, suc, ◌≤◌, ◌<◌, max}
use native.Mathlib.Omega.{arith}
use native.Mathlib.Decide.{dec_lt, ℕ_discrete}
use Rattle.file.proofs.BoolLaws.{bool_cases, clash_bool, not-true, bool_ext, and_l, and_r, and_intro, or_cases, or_inl, or_inr}

-- ---- numbers below a bound

pub split_lt : (i n : ℕ) → i < suc n → (i ≡ n) ⊎ (i < n)
split_lt i n h = elim (dec_lt i n) [ yes l ↦ inr l | no m ↦ inl (omega arith) ]

-- p holds of some number below n
unfoldable pub any : ℕ → (ℕ → Bool) → Bool
any zero p = false
any (suc n) p = p n || any n p

pub any_intro : (n : ℕ) (p : ℕ → Bool) (i : ℕ) → i < n → p i ≡ true → any n p ≡ true
unfolding any
any_intro zero p i h e = absurd (omega arith)
any_intro (suc n) p i h e = ⊎_elim
    (λ (q : i ≡ n). or_inl (p n) (any n p) (rw (← q) e))
    (λ l. or_inr (p n) (any n p) (any_intro n p i l e))
    (split_lt i n h)

pub any_elim : (n : ℕ) (p : ℕ → Bool) → any n p ≡ true → (i : ℕ) × (i < n) × (p i ≡ true)
unfolding any
any_elim zero p h = absurd (clash_bool h refl)
any_elim (suc n) p h = ⊎_elim
    (λ e. (n, omega arith, e))
    (λ e. let r = any_elim n p e in (r.0, omega (arith, r.1), r.2))
    (or_cases (p n) (any n p) h)

pub any-and : (n : ℕ) (p q : ℕ → Bool) → any n (λ i. p i && q i) ≡ true → (i : ℕ) × (i < n) × (p i ≡ true) × (q i ≡ true)
any-and n p q h =
    let r = any_elim n (λ i. p i && q i) h in
    (r.0, r.1, and_l (p r.0) (q r.0) r.2, and_r (p r.0) (q r.0) r.2)

pub and-any : (n : ℕ) (p q : ℕ → Bool) (i : ℕ) → i < n → p i ≡ true → q i ≡ true → any n (λ j. p j && q j) ≡ true
and-any n p q i l a b = any_intro n (λ j. p j && q j) i l (and_intro (p i) (q i) a b)

pub any_none : (n : ℕ) (p : ℕ → Bool) → any n p ≡ false → (i : ℕ) → i < n → p i ≡ false
any_none n p h i l = not-true λ e. clash_bool (any_intro n p i l e) h

pub none_any : (n : ℕ) (p : ℕ → Bool) → ((i : ℕ) → i < n → p i ≡ true → ⊥) → any n p ≡ false
none_any n p h = not-true λ e. let r = any_elim n p e in h r.0 r.1 r.2

pub any_ext : (n : ℕ) (p q : ℕ → Bool) → ((i : ℕ) → i < n → p i ≡ q i) → any n p ≡ any n q
any_ext n p q h = bool_ext (any n p) (any n q)
    (λ e. let r = any_elim n p e in any_intro n q r.0 r.1 (sym (h r.0 r.1) ∙ r.2))
    (λ e. let r = any_elim n q e in any_intro n p r.0 r.1 (h r.0 r.1 ∙ r.2))

-- the greatest f i with i below n; 0 where there is none
unfoldable pub greatest : ℕ → (ℕ → ℕ) → ℕ
greatest zero f = 0
greatest (suc n) f = max (f n) (greatest n f)

pub greatest_le : (n : ℕ) (f : ℕ → ℕ) (i : ℕ) → i < n → f i ≤ greatest n f
unfolding greatest
greatest_le zero f i h = omega arith
greatest_le (suc n) f i h = ⊎_elim
    (λ (q : i ≡ n). rw q (omega arith))
    (λ l. omega (arith, greatest_le n f i l))
    (split_lt i n h)

pub greatest-at : (n : ℕ) (f : ℕ → ℕ) (k : ℕ) → greatest n f ≡ suc k → (i : ℕ) × (i < n) × (f i ≡ suc k)
unfolding greatest
greatest-at zero f k h = absurd (omega arith)
greatest-at (suc n) f k h = elim (ℕ_discrete (f n) (suc k)) [
  | yes e ↦ (n, omega arith, e)
  | no m ↦ let r = greatest-at n f k (omega arith) in (r.0, omega (arith, r.1), r.2)
]

pub greatest_ext : (n : ℕ) (f g : ℕ → ℕ) → ((i : ℕ) → i < n → f i ≡ g i) → greatest n f ≡ greatest n g
unfolding greatest
greatest_ext zero f g h = refl
greatest_ext (suc n) f g h = rw (h n (omega arith), greatest_ext n f g (λ i l. h i (omega arith)))

pub greatest_bound : (n : ℕ) (f : ℕ → ℕ) (b : ℕ) → ((i : ℕ) → i < n → f i ≤ b) → greatest n f ≤ b
unfolding greatest
greatest_bound zero f b h = omega arith
greatest_bound (suc n) f b h = omega (arith, h n (omega arith), greatest_bound n f b (λ i l. h i (omega arith)))

-- how many numbers below n have p
unfoldable pub count : ℕ → (ℕ → Bool) → ℕ
count zero p = 0
count (suc n) p = cond (p n) (suc (count n p)) (count n p)

pub count-suc_le : (n : ℕ) (p : ℕ → Bool) → count n p ≤ count (suc n) p
unfolding count
count-suc_le n p = ⊎_elim (λ e. rw e (omega arith)) (λ e. rw e (omega arith)) (bool_cases (p n))

pub count_mono : (m n : ℕ) (p : ℕ → Bool) → m ≤ n → count m p ≤ count n p
count_mono m zero p h = let e : m ≡ 0 = omega arith in rw e (omega arith)
count_mono m (suc n) p h = ⊎_elim
    (λ (e : m ≡ suc n). rw e (omega arith))
    (λ l. omega (arith, count_mono m n p (omega arith), count-suc_le n p))
    (split_lt m (suc n) (omega arith))

-- a number with p is one more
pub count-hit : (n : ℕ) (p : ℕ → Bool) → p n ≡ true → count (suc n) p ≡ suc (count n p)
unfolding count
count-hit n p h = rw h

pub count_miss : (n : ℕ) (p : ℕ → Bool) → p n ≡ false → count (suc n) p ≡ count n p
unfolding count
count_miss n p h = rw h

-- all below L have p, none from L on
pub count_all : (n L : ℕ) (p : ℕ → Bool) → L ≤ n → ((k : ℕ) → k < L → p k ≡ true) → ((k : ℕ) → L ≤ k → k < n → p k ≡ false) → count n p ≡ L
unfolding count
count_all zero L p h t f = omega arith
count_all (suc n) L p h t f = ⊎_elim
    (λ (e : L ≡ suc n). rw (t n (omega arith)) (omega (arith, count_all n n p (omega arith) (λ k l. t k (omega arith)) (λ k l m. absurd (omega arith)))))
    (λ l. rw (f n (omega arith) (omega arith)) (count_all n L p (omega arith) t (λ k a b. f k a (omega arith))))
    (split_lt L (suc n) (omega arith))

pub none-count : (n : ℕ) → count n (λ k. false) ≡ 0
unfolding count
none-count zero = refl
none-count (suc n) = none-count n
