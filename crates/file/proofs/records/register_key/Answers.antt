use Rattle.file.proofs.RecordLaws.{no_entry}
use mathlib.Core.Path.{refl}
use native.Mathlib.Omega.{arith}
use Rattle.file.proofs.records.register_key.Goals.{then-size-lt16-via-then-size-lt16, then-size-lt16-via-else-size-lt16+then-size-k}
use Rattle.file.proofs.records.register_key.Goals as goal

pub returns-then-size-lt16 : goal.returns-then-size-lt16
returns-then-size-lt16 c =
    no_entry _ _ (elim c.then-size-lt16.branch [
      | then-size-lt16-via-then-size-lt16 w ↦ omega (arith, w.if-size-lt16.true)
      | then-size-lt16-via-else-size-lt16+then-size-k w ↦ omega (arith, w.if-size-lt16.false, w.if-size-k.true)
    ])

pub returns : goal.returns
returns c = rw c.field_at.ensures refl
