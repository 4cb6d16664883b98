use mathlib.Core.Path.{◌∙◌}
use Rattle.writing.proofs.WriterLaws.{gate_bytes, mask_bytes}
use Rattle.writing.proofs.fields.gate_record.Goals as goal

pub returns : goal.returns
returns c =
    gate_bytes c.args.gate _ _ c.from.ensures (c.copy_from_slice.ensures.after ∙ c.to_le_bytes.ensures ∙ mask_bytes _)
