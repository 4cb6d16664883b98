use Rattle.writing.proofs.WriterLaws.{put_same}
use Rattle.writing.proofs.fields.put_gate.Goals as goal

pub returns : goal.returns
returns c = put_same _ _ _ _ _ c.gate_record.ensures c.put_part.ensures
