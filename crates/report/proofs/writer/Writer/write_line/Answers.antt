use Rattle.std.proofs.Common.{ℕ, List, [], ◌∷◌, length, arith}
use Rattle.report.specs.Text.{decimal, nodes_text, line_text}
use Rattle.report.specs.Lines.{in_block}
use Rattle.report.proofs.LineLaws.{in_parts, first_fits, second_fits, third_fits, fourth_fits, Parts, line_parts}
use Rattle.report.proofs.writer.Writer.write_line.Goals as goal

line_of : (numbers : List ℕ) (t : ℕ)
    → Parts (line_text t (in_block numbers (length numbers) t)) (decimal t) (58 ∷ []) (nodes_text (in_block numbers (length numbers) t)) (10 ∷ [])
line_of numbers t = line_parts t (in_block numbers (length numbers) t)

pub write_number-requires : goal.write_number-requires
write_number-requires c = first_fits (line_of c.args.numbers.now c.args.t) c.args.self.now c.requires

pub push-requires : goal.push-requires
push-requires c =
    let colon = second_fits (line_of c.args.numbers.now c.args.t) c.args.self.now c.requires _ c.write_number.ensures in
    omega (arith, colon)

pub write_nodes-requires : goal.write_nodes-requires
write_nodes-requires c = third_fits (line_of c.args.numbers.now c.args.t) c.args.self.now c.requires _ c.write_number.ensures _ c.push.ensures

pub push-requires-2 : goal.push-requires-2
push-requires-2 c =
    let end = fourth_fits (line_of c.args.numbers.now c.args.t) c.args.self.now c.requires _ c.write_number.ensures _ c.push.ensures _ c.write_nodes.ensures in
    omega (arith, end)

pub returns : goal.returns
returns c =
    in_parts (line_of c.args.numbers.now c.args.t) _ _ _ _ _
    c.write_number.ensures c.push.ensures c.write_nodes.ensures c.push-2.ensures
