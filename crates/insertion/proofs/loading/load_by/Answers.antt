use Rattle.std.proofs.Common.{sym, ◌∙◌, length-take-le}
use Rattle.insertion.proofs.LoadLaws.{bad_file, within, few_numbers, numbers-below, whole}
use Rattle.insertion.proofs.loading.load_by.Goals as goal

pub returns-in-Err : goal.returns-in-Err
returns-in-Err c = c.from.ensures ∙ bad_file _ _ _ (sym c.check_file.ensures ∙ c.in-Err.is)

pub slice_bounds-order-end : goal.slice_bounds-order-end
slice_bounds-order-end c = within _ _ _ c.in_file_order-order.ensures c.record_count.ensures (sym c.check_file.ensures ∙ c.in_default.is)

pub slice_bounds-insert_in_order-end : goal.slice_bounds-insert_in_order-end
slice_bounds-insert_in_order-end c =
    sym (length-take-le _ _ (within _ _ _ c.in_file_order-order.ensures c.record_count.ensures (sym c.check_file.ensures ∙ c.in_default.is)))

pub insert_in_order-requires : goal.insert_in_order-requires
insert_in_order-requires c =
    let good = sym c.check_file.ensures ∙ c.in_default.is in
    let o = c.in_file_order-order.ensures in
    let n = c.record_count.ensures in
    (good, numbers-below _ _ _ o n good, few_numbers _ _ _ o n good)

pub returns : goal.returns
returns c = c.insert_in_order.ensures ∙ whole _ _ _ c.in_file_order-order.ensures c.record_count.ensures (sym c.check_file.ensures ∙ c.in_default.is) _
