use Rattle.walk.proofs.StepLaws.{followers-found}
use Rattle.walk.proofs.whole.free_block.Goals as goal

pub returns : goal.returns
returns c =
    let r = c.requires in
    followers-found c.args.g r.0 _ _ _ c.first_numbers-num.ensures (rw (r.2, r.1, r.3) at c.settle.ensures)
    _ _ _ (rw (r.2, r.1, r.3) at c.reached-found.ensures) (rw (r.2, r.1, r.3) at c.take_waiting.ensures)
