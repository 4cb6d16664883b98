-- What `map_err` was given, from what it gives. Assumes nothing.
use mathlib.Core.Path.{◌≡◌, refl, sym, ◌∙◌, ap, subst}
use Rattle.std.specs.Prelude.{Result, Ok, Err, IfErr, MatchResult}
use Rattle.std.specs.Result.{IsErrAnd}

module _ {T E D : Type 0} {r : Result T E} {out : Result T D} (P : E → D → Type 0) where
  pub mapped_ok : MatchResult r (λ x. out ≡ Ok x) (λ e. IsErrAnd out (P e)) → {x : T} → out ≡ Ok x → r ≡ Ok x
  mapped_ok m {x} e = told r m
    where
      told : (r : Result T E) → MatchResult r (λ x. out ≡ Ok x) (λ e. IsErrAnd out (P e)) → r ≡ Ok x
      told (Ok y) h = ap (λ (o : Result T D). elim o [ Ok z ↦ Ok z | Err _ ↦ Ok y ]) (sym h ∙ e)
      told (Err y) h = absurd (subst (λ o. IsErrAnd o (P y)) e h)

  pub mapped_err : MatchResult r (λ x. out ≡ Ok x) (λ e. IsErrAnd out (P e)) → {d : D} → out ≡ Err d → (e : E) × (r ≡ Err e) × P e d
  mapped_err m {d} e = told r m
    where
      told : (r : Result T E) → MatchResult r (λ x. out ≡ Ok x) (λ e. IsErrAnd out (P e)) → (e : E) × (r ≡ Err e) × P e d
      told (Ok y) h = absurd (subst (λ o. IfErr o (λ _. ⊥)) (sym h ∙ e) tt)
      told (Err y) h = (y, refl, subst (λ o. IsErrAnd o (P y)) e h)
