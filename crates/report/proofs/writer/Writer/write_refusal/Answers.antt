use Rattle.std.proofs.Common.{◌∙◌, arith}
use Rattle.report.proofs.LineLaws.{refused_parts, in_parts, first_fits, second_fits, third_fits, fourth_fits}
use Rattle.report.proofs.writer.Writer.write_refusal.Goals as goal
use Rattle.std.proofs.Common.{refl}

pub write-requires : goal.write-requires
write-requires c = first_fits (refused_parts c.args.r _ _ refl refl) c.args.self.now c.requires

pub write_number-requires : goal.write_number-requires
write_number-requires c =
    let parts = refused_parts c.args.r _ _ (c.from.ensures ∙ c.refusal_number.ensures) refl in
    second_fits parts c.args.self.now c.requires _ c.write.ensures

pub write_value-requires : goal.write_value-requires
write_value-requires c =
    let parts = refused_parts c.args.r _ _ (c.from.ensures ∙ c.refusal_number.ensures) c.refusal_value.ensures in
    third_fits parts c.args.self.now c.requires _ c.write.ensures _ c.write_number.ensures

pub push-requires : goal.push-requires
push-requires c =
    let parts = refused_parts c.args.r _ _ (c.from.ensures ∙ c.refusal_number.ensures) c.refusal_value.ensures in
    let end = fourth_fits parts c.args.self.now c.requires _ c.write.ensures _ c.write_number.ensures _ c.write_value.ensures in
    omega (arith, end)

pub returns : goal.returns
returns c =
    in_parts (refused_parts c.args.r _ _ (c.from.ensures ∙ c.refusal_number.ensures) c.refusal_value.ensures) _ _ _ _ _
    c.write.ensures c.write_number.ensures c.write_value.ensures c.push.ensures
