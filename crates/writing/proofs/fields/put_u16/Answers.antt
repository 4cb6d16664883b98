use mathlib.Core.Path.{◌∙◌}
use native.Mathlib.Omega.{arith}
use Rattle.writing.proofs.WriterLaws.{put_same, half_bytes}
use Rattle.writing.proofs.fields.put_u16.Goals as goal

pub returns : goal.returns
returns c =
    put_same _ _ _ _ _ (c.to_le_bytes.ensures ∙ half_bytes c.args.x (omega arith)) c.put_part.ensures
