-- Digits, and texts in parts. Assumes nothing.
use mathlib.Core.Path.{◌≡◌, refl, sym, ◌∙◌, ap}
use mathlib.Core.List.{List, [], ◌∷◌, ◌++◌, append_assoc}
use Prim.Native.Nat.{ℕ, zero, suc, ◌+◌, ◌*◌, ◌-◌, ◌/◌, ◌%◌, ◌≤◌, ◌<◌}
use native.Mathlib.Omega.{arith}
use native.Mathlib.Decide.{dec_lt}
use lib.ListN.{length, length-append, take, drop}
use lib.Seq.{length-take-le}
use borrow.Author.Tests.{lt-ltb, le-ltb}
use borrow.Rule.Slice.PartMut.{put_mid}
use Rattle.std.proofs.lemmas.List.{append-nil, take-append-drop}
use Rattle.std.proofs.lemmas.Slice.{take-put_mid, drop-put_mid, drop-append-drop}
use Rattle.file.specs.Lists.{onto}
use Rattle.report.specs.Text.{digits}

pub digits-none : (k x : ℕ) → k ≡ 0 → digits k x ≡ []
unfolding digits
digits-none zero x e = refl
digits-none (suc k) x e = absurd (omega arith)

pub digits_one : (k x : ℕ) → 0 < k → x < 10 → digits k x ≡ (48 + x) ∷ []
unfolding digits
digits_one zero x h l = absurd (omega arith)
digits_one (suc k) x h l = rw (lt-ltb x 10 l) refl

pub digits_more : (k x : ℕ) → 0 < k → 10 ≤ x → digits k x ≡ digits (k - 1) (x / 10) ++ ((48 + x % 10) ∷ [])
unfolding digits
digits_more zero x h l = absurd (omega arith)
digits_more (suc k) x h l = let z : suc k - 1 ≡ k = omega arith in rw (le-ltb x 10 l, z) refl

longer : (l : List ℕ) (x m : ℕ) → length l ≤ m → length (l ++ (x ∷ [])) ≤ m + 1
longer l x m h = omega (arith, length-append l (x ∷ []))

-- a number of 64 bits has at most 20 digits, since no more are written
pub digits_few : (k x : ℕ) → length (digits k x) ≤ k
digits_few zero x = omega (arith, ap length (digits-none 0 x refl))
digits_few (suc k) x = let z : suc k - 1 ≡ k = omega arith in elim (dec_lt x 10) [
  | yes l ↦ omega (arith, ap length (digits_one (suc k) x (omega arith) l))
  | no l ↦ omega (arith, ap length (digits_more (suc k) x (omega arith) (omega arith)), longer (digits (suc k - 1) (x / 10)) (48 + x % 10) k (rw z (digits_few k (x / 10))))
]

digits_1 : (k x : ℕ) → x < 10 → length (digits k x) ≤ 1
digits_1 zero x h = omega (arith, ap length (digits-none 0 x refl))
digits_1 (suc k) x h = omega (arith, ap length (digits_one (suc k) x (omega arith) h))

-- one digit more than a tenth of the number has
tenth : (m d : ℕ) → ((j y : ℕ) → y < m → length (digits j y) ≤ d) → (k x : ℕ) → x < 10 * m → length (digits k x) ≤ d + 1
tenth m d f zero x h = omega (arith, ap length (digits-none 0 x refl))
tenth m d f (suc k) x h = elim (dec_lt x 10) [
  | yes l ↦ omega (arith, ap length (digits_one (suc k) x (omega arith) l))
  | no l ↦ omega (arith, ap length (digits_more (suc k) x (omega arith) (omega arith)), longer (digits (suc k - 1) (x / 10)) (48 + x % 10) d (f (suc k - 1) (x / 10) (omega arith)))
]

pub digits_3 : (k x : ℕ) → x < 1000 → length (digits k x) ≤ 3
digits_3 = tenth 100 2 (tenth 10 1 digits_1)

-- ---- write_digits

pub spelt_none : (k x : ℕ) (old : List ℕ) → k ≡ 0 → old ≡ old ++ digits k x
spelt_none k x old e = sym (append-nil old) ∙ ap (λ (l : List ℕ). old ++ l) (sym (digits-none k x e))

pub spelt_one : (k x d : ℕ) (old new : List ℕ) → (k ≡ 0 → ⊥) → x < 10 → d ≡ 48 + x → new ≡ old ++ (d ∷ []) → new ≡ old ++ digits k x
spelt_one k x d old new h l e f = f ∙ ap (λ (y : ℕ). old ++ (y ∷ [])) e ∙ ap (λ (l : List ℕ). old ++ l) (sym (digits_one k x (omega arith) l))

pub spelt_more : (k x d : ℕ) (old mid new : List ℕ) → (k ≡ 0 → ⊥) → 10 ≤ x → mid ≡ old ++ digits (k - 1) (x / 10) → d ≡ 48 + x % 10
    → new ≡ mid ++ (d ∷ []) → new ≡ old ++ digits k x
spelt_more k x d old mid new h l m e f =
    f ∙ (λ i. m i ++ (e i ∷ []))
    ∙ append_assoc old (digits (k - 1) (x / 10)) ((48 + x % 10) ∷ [])
    ∙ ap (λ (l : List ℕ). old ++ l) (sym (digits_more k x (omega arith) l))

pub room_one : (k x m : ℕ) (old : List ℕ) → (k ≡ 0 → ⊥) → x < 10 → length old + length (digits k x) ≤ m → length old < m
room_one k x m old h l e = omega (arith, ap length (digits_one k x (omega arith) l))

pub room_more : (k x m : ℕ) (old : List ℕ) → (k ≡ 0 → ⊥) → 10 ≤ x → length old + length (digits k x) ≤ m → length old + length (digits (k - 1) (x / 10)) < m
room_more k x m old h l e = omega (arith, ap length (digits_more k x (omega arith) l), length-append (digits (k - 1) (x / 10)) ((48 + x % 10) ∷ []))

-- ---- a text in parts, where there is room for all of it

-- the first part has room
pub fits_front : (s a b : List ℕ) (m : ℕ) → length s + length (a ++ b) ≤ m → length s + length a ≤ m
fits_front s a b m h = omega (arith, length-append a b)

-- .. and behind it the rest has
pub fits_rest : (s a b next : List ℕ) (m : ℕ) → next ≡ s ++ a → length s + length (a ++ b) ≤ m → length next + length b ≤ m
fits_rest s a b next m e h = omega (arith, ap length e, length-append s a, length-append a b)

-- ---- a text s written behind the first k bytes of b

module _ (k : ℕ) (b s x : List ℕ) (room : k + length s ≤ length b) (e : x ≡ s) where
  abbrev after : List ℕ
  after = put_mid k (k + length s - k) b x

  pub text_behind : take (k + length s) after ≡ take k b ++ s
  text_behind =
      take-put_mid k (k + length s - k) b x (k + length s) (ap (λ (l : List ℕ). k + length l) (sym e)) (omega arith)
      ∙ ap (λ (l : List ℕ). take k b ++ l) e

  -- what z holds behind the text is still there
  pub rest_behind : (z : List ℕ) → b ≡ onto (take k b) z → after ≡ onto (take (k + length s) after) z
  rest_behind z h =
      let t : length (take k b) ≡ k = length-take-le k b (omega arith) in
      let m : length (take (k + length s) after) ≡ k + length s = omega (arith, ap length text_behind, length-append (take k b) s, t) in
      sym (take-append-drop (k + length s) after)
      ∙ ap (λ (l : List ℕ). take (k + length s) after ++ l)
      (drop-put_mid k (k + length s - k) b x (k + length s) (omega arith) (omega arith) (omega (arith, ap length e))
      ∙ ap (drop (k + length s)) (h ∙ ap (λ (n : ℕ). take k b ++ drop n z) t)
      ∙ drop-append-drop k z (take k b) (k + length s) (omega arith) t
      ∙ ap (λ (n : ℕ). drop n z) (sym m))
