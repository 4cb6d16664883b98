use Rattle.std.proofs.Common.{arith}
use lib.Seq.{length-take-le}
use Rattle.registers.proofs.MapLaws.{accepted_few, joined}
use Rattle.registers.proofs.maps.register_records.Goals as goal

pub slice_bounds-enter_records-end : goal.slice_bounds-enter_records-end
slice_bounds-enter_records-end c = let a = accepted_few _ _ _ _ c.link_records-linked.ensures in omega (arith, length-take-le _ c.args.order.now a.0)

pub enter_records-registered-requires : goal.enter_records-registered-requires
enter_records-registered-requires c = let a = accepted_few _ _ _ _ c.link_records-linked.ensures in omega (arith, a.1, length-take-le _ c.args.order.now a.0)

pub returns : goal.returns
returns c = joined _ _ _ _ c.link_records-linked.ensures _ c.enter_records-registered.ensures
