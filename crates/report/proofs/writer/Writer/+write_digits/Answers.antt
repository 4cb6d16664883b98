use Rattle.std.proofs.Common.{ℕ, ap, length, length-append}
use native.Mathlib.Omega.{arith}
use Rattle.report.proofs.TextLaws.{spelt_none, spelt_one, spelt_more, room_one, room_more}
use Rattle.report.proofs.writer.Writer.+write_digits.Goals as goal

pub returns-then-k-eq0 : goal.returns-then-k-eq0
returns-then-k-eq0 t c = spelt_none _ _ _ c.if-k-eq0.true

pub push-requires : goal.push-requires
push-requires t c = room_one _ _ _ _ c.if-k-eq0.false c.if-x-lt10.true c.requires

pub returns-then-x-lt10 : goal.returns-then-x-lt10
returns-then-x-lt10 t c = spelt_one _ _ _ _ _ c.if-k-eq0.false c.if-x-lt10.true c.digit.ensures c.push.ensures

pub write_digits-requires : goal.write_digits-requires
write_digits-requires t c =
    let room = room_more _ _ _ _ c.if-k-eq0.false c.if-x-lt10.false c.requires in
    (omega (arith, c.if-k-eq0.false), omega (arith, room))

pub push-requires-2 : goal.push-requires-2
push-requires-2 t c =
    let room = room_more _ _ _ _ c.if-k-eq0.false c.if-x-lt10.false c.requires in
    omega (arith, room, ap length c.write_digits.ensures, length-append {A = ℕ})

pub returns : goal.returns
returns t c = spelt_more _ _ _ _ _ _ c.if-k-eq0.false c.if-x-lt10.false c.write_digits.ensures c.digit-2.ensures c.push-2.ensures
