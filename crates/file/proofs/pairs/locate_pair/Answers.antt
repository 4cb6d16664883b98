use Rattle.std.proofs.Common.{sym, ◌∙◌}
use Rattle.std.proofs.lemmas.Result.{err_from_is_err_and}
use Rattle.file.proofs.PairLaws.{no_header, pair_absent, pair_out, pair_at}
use Rattle.file.proofs.pairs.locate_pair.Goals as goal

pub returns-in_err-n : goal.returns-in_err-n
returns-in_err-n c =
    let p = err_from_is_err_and c.from_residual.result c.from_residual.ensures.1 in
    rw (p.1, p.2) (no_header _ _ _ (sym c.check_header.ensures.value ∙ c.in_err-n.was))

pub returns-then-n-i : goal.returns-then-n-i
returns-then-n-i c = pair_absent _ _ _ (sym c.check_header.ensures.value ∙ c.in_ok-n.was) c.if-n-i.true

pub returns-then-file-offset : goal.returns-then-file-offset
returns-then-file-offset c =
    pair_out _ _ _ (sym c.check_header.ensures.value ∙ c.in_ok-n.was) c.if-n-i.false _ _ c.read_u16-offset.ensures c.read_u16-length.ensures c.if-file-offset.true

pub returns : goal.returns
returns c =
    pair_at _ _ _ (sym c.check_header.ensures.value ∙ c.in_ok-n.was) c.if-n-i.false _ _ c.read_u16-offset.ensures c.read_u16-length.ensures c.if-file-offset.false
