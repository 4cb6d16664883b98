use Rattle.std.proofs.Common.{ap, length, rules, ◌∙◌}
use Rattle.standard_io.proofs.FileLaws.{files_short, files_cut, files_whole}
use Rattle.standard_io.proofs.files.FilesIterator.next.Goals as goal

pub returns-in_default-clause-steps : goal.returns-in_default-clause-steps
returns-in_default-clause-steps c = let e = files_short _ c.in_default.len_below in (e, e)

pub returns-in_err-file-clause-steps : goal.returns-in_err-file-clause-steps
returns-in_err-file-clause-steps c =
    let e = files_cut _ _ c.in-len2-up.len_at_least (c.from.ensures ∙ c.from_le_bytes-size.ensures) c.in_err-file.ensures.cases in
    rw c.from_residual.ensures (e, e)

pub returns-clause-steps : goal.returns-clause-steps
returns-clause-steps c =
    let cut = c.in_ok-file.ensures.cases in
    files_whole _ _ c.in-len2-up.len_at_least (c.from.ensures ∙ c.from_le_bytes-size.ensures) cut.0 ∙ cc

pub returns-clause-goes : goal.returns-clause-goes
returns-clause-goes c =
    let fewer = returns-clause-steps c in search (rules, ap length fewer)
