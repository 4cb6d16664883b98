use Rattle.file.proofs.PairLaws.{pair_fits}
use Rattle.file.proofs.pairs.part_of.Goals as goal

pub part_at-requires : goal.part_at-requires
part_at-requires c = pair_fits _ _ _ c.locate_pair.ensures
