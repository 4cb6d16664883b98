use native.Mathlib.Omega.{arith}
use mathlib.Core.Path.{refl, sym}
use Rattle.writing.proofs.WriterLaws.{put_part_fits, put_over}
use Rattle.writing.proofs.fields.put_part.Goals as goal
use Rattle.writing.proofs.fields.put_part.Goals.{else-n-out-via-then-n-out+else-at-out, else-n-out-via-else-n-out}

pub returns-then-at-out : goal.returns-then-at-out
returns-then-at-out c =
    put_part_fits _ _ _ _ _ refl c.if-n-out.true c.if-at-out.true c.copy_from_slice.ensures.after

pub returns-else-n-out : goal.returns-else-n-out
returns-else-n-out c =
    let a = c.args in
    sym (put_over a.at a.part.now a.out.now (elim c.else-n-out.branch [
      | else-n-out-via-then-n-out+else-at-out w ↦ omega arith
      | else-n-out-via-else-n-out w ↦ omega arith
    ]))
