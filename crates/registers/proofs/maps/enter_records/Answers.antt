use Rattle.std.proofs.Common.{refl, ap, ◌∙◌, arith}
use Rattle.file.specs.Pairs.{record_at}
use Rattle.registers.proofs.MapLaws.{nothing, refused, again, finish}
use Rattle.registers.proofs.maps.enter_records.Goals as goal

pub loop-k-init : goal.loop-k-init
loop-k-init c = rw (c.new-first.ensures, c.new-last.ensures) refl

pub loop-k-preserved-in-None : goal.loop-k-preserved-in-None
loop-k-preserved-in-None c =
    let part = c.part_of-part.ensures.bytes ∙ ap (record_at c.args.file.now) c.from-i.ensures in
    again _ _ _ _ _ c.loop-k.invariant c.loop-k-test.true _ part _ _ c.loop-k.first.fits c.loop-k.last.fits (nothing _ _ _ _ c.in-None.ensures c.loop-k.first.fits c.loop-k.last.fits)

pub returns-in-Err : goal.returns-in-Err
returns-in-Err c =
    let part = c.part_of-part.ensures.bytes ∙ ap (record_at c.args.file.now) c.from-i.ensures in
    rw c.from-i.ensures at c.maps_stopped.ensures ∙ refused _ _ _ _ _ c.loop-k.invariant c.loop-k-test.true _ part c.in-Err.ensures

pub loop-k-preserved : goal.loop-k-preserved
loop-k-preserved c =
    let part = c.part_of-part.ensures.bytes ∙ ap (record_at c.args.file.now) c.from-i.ensures in
    again _ _ _ _ _ c.loop-k.invariant c.loop-k-test.true _ part _ _ c.enter_record.new.first.fits c.enter_record.new.last.fits c.in_default-enter_record.ensures

pub returns : goal.returns
returns c = c.maps_held.ensures ∙ finish _ _ _ _ _ c.loop-k.invariant (omega arith)
