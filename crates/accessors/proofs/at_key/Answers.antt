use Rattle.std.proofs.Common.{◌∙◌}
use Rattle.accessors.proofs.AccessorLaws.{key_at, key_absent}
use Rattle.accessors.proofs.at_key.Goals as goal

pub returns-in_err-i : goal.returns-in_err-i
returns-in_err-i c = c.from_residual.ensures ∙ key_absent _ _ c.in_err-i.ensures

pub returns : goal.returns
returns c = let f = c.in_ok-i.ensures in key_at _ _ _ f.0 f.1 f.2
