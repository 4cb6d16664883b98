use Rattle.std.proofs.Common.{sym, ◌∙◌}
use Rattle.std.proofs.lemmas.Result.{err_from_is_err_and}
use Rattle.file.proofs.PairLaws.{not_checked, checked}
use Rattle.file.proofs.pairs.locate_record.Goals as goal

pub returns-in_err-check_file : goal.returns-in_err-check_file
returns-in_err-check_file c =
    let p = err_from_is_err_and c.from_residual.result c.from_residual.ensures.1 in
    rw (p.1, p.2) (not_checked _ _ _ (sym c.check_file.ensures ∙ c.in_err-check_file.was))

pub returns : goal.returns
returns c = c.locate_pair.ensures ∙ checked _ _ _ (sym c.check_file.ensures ∙ c.in_ok-check_file.was)
