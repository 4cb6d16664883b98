-- How many different numbers a list has, as a count of the numbers that stand in it. Assumes nothing.
use mathlib.Core.Path.{◌≡◌, refl, sym, ◌∙◌, ap}
use mathlib.Core.Bool.{Bool, true, false, cond, ◌||◌, or-false, or_assoc}
use mathlib.Core.Logic.{⊎_elim}
use mathlib.Core.List.{List, [], ◌∷◌, ◌++◌}
use Prim.Native.Nat.{ℕ, zero, suc, ◌<◌}
use native.Mathlib.Omega.{arith}
use native.Mathlib.Decide.{ℕ_discrete}
use lib.Dec.{eqb}
use lib.ListN.{length, length-append}
use borrow.Author.Tests.{ne_eqb}
use Rattle.file.specs.Lists.{any_of, member}
use Rattle.file.proofs.BoolLaws.{bool_cases, or_inl, or_inr, eqb_same}
use Rattle.graph.proofs.ListLaws.{any_here, any-later, any_snoc}
use Rattle.guarantee.specs.Guarantee.{different}
use Rattle.walk.proofs.Bounds.{count, split_lt, none-count}

pub count_ext : (n : ℕ) (p q : ℕ → Bool) → ((k : ℕ) → k < n → p k ≡ q k) → count n p ≡ count n q
unfolding count
count_ext zero p q h = refl
count_ext (suc n) p q h = rw (h n (omega arith), count_ext n p q (λ k l. h k (omega arith)))

-- one number more
count_add : (n x : ℕ) (p q : ℕ → Bool) → x < n → p x ≡ false → q x ≡ true → ((k : ℕ) → (k ≡ x → ⊥) → q k ≡ p k) → count n q ≡ suc (count n p)
unfolding count
count_add zero x p q l a b h = absurd (omega arith)
count_add (suc n) x p q l a b h = ⊎_elim
    (λ (e : x ≡ n).
    let a' : p n ≡ false = rw e at a in
    let b' : q n ≡ true = rw e at b in
    rw (a', b') (ap suc (count_ext n q p (λ k m. h k (omega arith)))))
    (λ (m : x < n). rw (h n (omega arith), count_add n x p q m a b h) (go (p n)))
    (split_lt x n l)
  where
    go : (b : Bool) → cond b (suc (suc (count n p))) (suc (count n p)) ≡ suc (cond b (suc (count n p)) (count n p))
    go true = refl
    go false = refl

member_cons : (k x : ℕ) (l : List ℕ) → member k (x ∷ l) ≡ (eqb k x || member k l)
member_cons k x l = ⊎_elim
    (λ (e : eqb k x ≡ true). any_here (eqb k) x l e ∙ sym (or_inl (eqb k x) (member k l) e))
    (λ (e : eqb k x ≡ false). any-later (eqb k) x l e ∙ rw e refl)
    (bool_cases (eqb k x))

module _ (n : ℕ) where
  different-from : (l seen : List ℕ) → ((x : ℕ) → member x l ≡ true → x < n) → length seen ≡ count n (λ k. member k seen)
      → different l seen ≡ count n (λ k. member k seen || member k l)
  unfolding different any_of
  different-from [] seen h e = e ∙ count_ext n (λ k. member k seen) (λ k. member k seen || false) (λ k b. sym (or-false (member k seen)))
  different-from (x ∷ l) seen h e = ⊎_elim
      (λ (m : member x seen ≡ true). rw m (different-from l seen rest e ∙ count_ext n _ _ (λ k b. stood m k)))
      (λ (m : member x seen ≡ false). rw m (different-from l (seen ++ (x ∷ [])) rest (more m) ∙ count_ext n _ _ (λ k b. came k)))
      (bool_cases (member x seen))
    where
      rest : (y : ℕ) → member y l ≡ true → y < n
      rest y m = h y (member_cons y x l ∙ or_inr (eqb y x) (member y l) m)

      stood : member x seen ≡ true → (k : ℕ) → (member k seen || member k l) ≡ (member k seen || member k (x ∷ l))
      stood m k = elim (ℕ_discrete k x) [
        | yes q ↦ (let t : member k seen ≡ true = rw q m in rw t refl)
        | no q ↦ rw (any-later (eqb k) x l (ne_eqb k x q)) refl
      ]

      came : (k : ℕ) → (member k (seen ++ (x ∷ [])) || member k l) ≡ (member k seen || member k (x ∷ l))
      came k = rw (any_snoc (eqb k) seen x, member_cons k x l) (or_assoc (member k seen) (eqb k x) (member k l))

      more : member x seen ≡ false → length (seen ++ (x ∷ [])) ≡ count n (λ k. member k (seen ++ (x ∷ [])))
      more m =
          let c = count_add n x (λ k. member k seen) (λ k. member k (seen ++ (x ∷ []))) (h x (any_here (eqb x) x l (eqb_same x))) m
          (any_snoc (eqb x) seen x ∙ or_inr (member x seen) (eqb x x) (eqb_same x))
          (λ k q. any_snoc (eqb k) seen x ∙ rw (ne_eqb k x q) (or-false (member k seen))) in
          rw (length-append seen (x ∷ [])) (omega arith)

  pub different-count : (l : List ℕ) → ((x : ℕ) → member x l ≡ true → x < n) → different l [] ≡ count n (λ k. member k l)
  unfolding any_of
  different-count l h = different-from l [] h (nothing n)
    where
      nothing : (m : ℕ) → 0 ≡ count m (λ k. member k [])
      nothing m = sym (none-count m)
