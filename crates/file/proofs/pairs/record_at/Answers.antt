use Rattle.file.proofs.PairLaws.{record_fits}
use Rattle.file.proofs.pairs.record_at.Goals as goal

pub part_at-requires : goal.part_at-requires
part_at-requires c = record_fits _ _ _ c.locate_record.ensures
