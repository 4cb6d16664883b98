use Rattle.std.proofs.Common.{arith, length-set}
use Rattle.links.proofs.EndLaws.{known_more}
use Rattle.links.proofs.ends.WorkingEnd.replace.Goals.{in-Some, in_default}
use Rattle.links.proofs.ends.WorkingEnd.replace.Goals as goal

pub invariant_of-self : goal.invariant_of-self
invariant_of-self c =
    let k = c.self.invariant in
    let v = c.args.v.number.0 in
    elim c.match-source.branch [
      | in-Some w ↦ rw (w.self-inside-is, c.index-2.ensures) (known_more _ _ _ k _ k.fits.all _ v (simp length-set (omega arith)))
      | in_default w ↦ rw (w.self-inside-is, c.index-2.ensures) (known_more _ _ _ k _ k.fits.all _ v (omega arith))
    ]
