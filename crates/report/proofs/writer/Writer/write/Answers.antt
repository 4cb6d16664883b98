use Rattle.std.proofs.Common.{ℕ, List, ◌+◌, ◌≤◌, ◌++◌, length, ap, ◌∙◌, arith}
use lib.Seq.{length-take-le}
use Rattle.report.proofs.TextLaws.{text_behind, rest_behind}
use Rattle.report.proofs.writer.Writer.write.Goals as goal

room : (c : goal.After-self-1) → c.self.inside.length + length c.args.s.now ≤ length c.self.inside.bytes
room c =
    let long = length-take-le c.self.inside.length c.self.inside.bytes (omega (arith, c.self.invariant.0, c.self.told)) in
    omega (arith, c.requires, c.self.told, long, ap length c.self.view_is)

pub invariant_of-self : goal.invariant_of-self
invariant_of-self c = (
  omega (arith, room c, c.self.told),
  rest_behind c.self.inside.length c.self.inside.bytes c.args.s.now _ (room c) c.copy_from_slice.ensures.after _ c.self.invariant.1,
)

pub returns : goal.returns
returns c =
    text_behind c.self.inside.length c.self.inside.bytes c.args.s.now _ (room c) c.copy_from_slice.ensures.after
    ∙ ap (λ (l : List ℕ). l ++ c.args.s.now) c.self.view_is
