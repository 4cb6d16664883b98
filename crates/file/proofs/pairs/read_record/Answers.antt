use Rattle.file.proofs.PairLaws.{record_fits}
use Rattle.file.proofs.pairs.read_record.Goals as goal

pub part_at-requires : goal.part_at-requires
part_at-requires c = record_fits _ _ _ c.locate_record-place.ensures
