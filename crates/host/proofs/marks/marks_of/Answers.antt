use Rattle.std.proofs.Common.{ℕ, eqb, rules, tests}
use Rattle.host.specs.Marks.{marks_of}
use Rattle.host.proofs.MarkLaws.{made_of}
use Rattle.host.proofs.marks.marks_of.Goals as goal

pub returns : goal.returns
unfolding marks_of
returns c = made_of _ _ (λ (b : ℕ). eqb b 1) c.args.bytes.now 0 (λ i y q k. search (rules, tests)) _ 512 c.told-bytes c.from_fn.ensures.items
