use Rattle.std.proofs.Common.{Bool, false, cond, rules, tests}
use Rattle.host.specs.Marks.{bytes_of}
use Rattle.host.proofs.MarkLaws.{made_of, byte_mark}
use Rattle.host.proofs.marks.bytes_of.Goals as goal

pub returns : goal.returns
unfolding bytes_of
returns c = made_of _ _ (λ (b : Bool). cond b 1 0) c.args.marks.now false (λ i y q k. search (rules, tests, byte_mark)) _ 512 c.told-marks c.from_fn.ensures.items
