use Rattle.std.proofs.Common.{◌≡◌, List, Result, Err, ap, ◌∙◌}
use Rattle.std.proofs.lemmas.Result.{err_from_is_err_and}
use Prim.Native.Nat.{ℕ, ◌<◌}
use native.Mathlib.Omega.{arith}
use lib.ListN.{get_or}
use Rattle.file.specs.declared.Refusal.{Refusal}
use Rattle.walk.specs.Blocks.{Walked}
use Rattle.schedule.proofs.ScheduleLaws.{walks, refuses, promised}
use Rattle.schedule.proofs.schedule_by.Goals as goal

same : (r q : Result ℕ Refusal) (b : List ℕ) → r ≡ q → ◌≡◌ {A = Walked} (record { answer = r; buffer = b }) (record { answer = q; buffer = b })
same r q b e = λ t. record { answer = e t; buffer = b }

pub returns-in_err-loaded : goal.returns-in_err-loaded
returns-in_err-loaded c =
    let file = c.args.file.now in
    let bytes : ((i : ℕ) → get_or file i 0 < 256) = λ i. omega (arith, c.type_inv.file i) in
    let e = err_from_is_err_and c.from_residual.result c.from_residual.ensures.1 in
    let p = promised _ file bytes _ _ _ (same _ _ _ (e.1 ∙ ap Err e.2) ∙ refuses _ _ _ _ c.load_by-loaded.ensures _ c.in_err-loaded.was) in
    record { buffer_after = p.0; promise = p.1.0; not_scheduled = p.1.1 }

pub returns : goal.returns
returns c =
    let file = c.args.file.now in
    let bytes : ((i : ℕ) → get_or file i 0 < 256) = λ i. omega (arith, c.type_inv.file i) in
    let p = promised _ file bytes _ _ _ (c.whole_walk.ensures ∙ walks _ _ _ _ c.load_by-loaded.ensures c.in_ok-loaded.was) in
    record { buffer_after = p.0; promise = p.1.0; not_scheduled = p.1.1 }
