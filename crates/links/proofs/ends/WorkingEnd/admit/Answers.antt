use Rattle.std.proofs.Common.{arith}
use Rattle.links.proofs.EndLaws.{known_more}
use Rattle.links.proofs.ends.WorkingEnd.admit.Goals.{then-is_none, else-is_none}
use Rattle.links.proofs.ends.WorkingEnd.admit.Goals as goal

pub invariant_of-self : goal.invariant_of-self
invariant_of-self c =
    let k = c.self.invariant in
    let v = c.args.v in
    elim c.if-is_none.branch [
      | then-is_none w ↦ rw (w.self-inside-is, c.index.ensures) (known_more _ _ _ k _ (λ p. v.low) c.self.inside.end.block v.number.0 (omega arith))
      | else-is_none w ↦ rw (w.self-inside-is, c.index.ensures) (known_more _ _ _ k _ k.fits.all c.self.inside.end.block v.number.0 (omega arith))
    ]
