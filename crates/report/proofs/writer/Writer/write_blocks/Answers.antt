use Rattle.std.proofs.Common.{arith}
use Rattle.report.proofs.LineLaws.{in_parts, numbers_parts, first_fits, second_fits, third_fits, fourth_fits}
use Rattle.report.proofs.LineLaws.{lines_begin, lines_room, lines_more, lines_end}
use Rattle.report.proofs.writer.Writer.write_blocks.Goals as goal

pub write-requires : goal.write-requires
write-requires c = first_fits (numbers_parts c.args.numbers.now _ c.args.count) c.args.self.now c.requires

pub write_number-requires : goal.write_number-requires
write_number-requires c = second_fits (numbers_parts c.args.numbers.now _ c.args.count) c.args.self.now c.requires _ c.write.ensures

pub push-requires : goal.push-requires
push-requires c =
    let end = third_fits (numbers_parts c.args.numbers.now _ c.args.count) c.args.self.now c.requires _ c.write.ensures _ c.write_number.ensures in
    omega (arith, end)

pub loop-t-init : goal.loop-t-init
loop-t-init c =
    lines_begin _ _ _
    (fourth_fits (numbers_parts c.args.numbers.now _ c.args.count) c.args.self.now c.requires _ c.write.ensures _ c.write_number.ensures _ c.push.ensures)

pub write_line-requires : goal.write_line-requires
write_line-requires c = lines_room _ _ _ _ _ c.loop-t.invariant c.loop-t-test.true

pub loop-t-preserved : goal.loop-t-preserved
loop-t-preserved c = lines_more _ _ _ _ _ c.loop-t.invariant c.loop-t-test.true _ c.write_line.ensures

pub returns : goal.returns
returns c =
    in_parts (numbers_parts c.args.numbers.now _ c.args.count) _ _ _ _ _ c.write.ensures c.write_number.ensures c.push.ensures
    (lines_end _ _ _ _ _ c.loop-t.invariant c.loop-t-test.false)
